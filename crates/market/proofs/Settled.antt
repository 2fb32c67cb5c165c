-- A settled state is one that output 7 was put out for, with the round that it says and the sheet that the table holds of it.
-- Assumes nothing.
use Prim.Native.Nat.{ℕ}
use mathlib.Core.Path.{◌≡◌, refl, sym, ap, subst, ◌∙◌}
use mathlib.Core.Logic.{◌⊎◌, inl, inr, ⊎_elim}
use mathlib.Core.List.{List, [], ◌∷◌, ◌++◌}
use mathlib.Core.Bool.{true, false, ◌&&◌, not, true≢false, false≢true}
use lib.Dec.{eqb}
use Rattle.words.specs.Members.{In}
use Rattle.words.proofs.Choice.{by_test}
use Rattle.words.proofs.Members.{InRight}
use Rattle.roll.specs.declared.Roll.{Roll}
use Rattle.roll.specs.Weighing.{proposer}
use Rattle.rules.specs.declared.Input.{Input}
use Rattle.rules.specs.declared.Output.{Output}
use Rattle.rules.specs.declared.Phase.{Phase}
use Rattle.rules.specs.declared.Phase.TheVariants.{Fresh, Running, Settled}
use Rattle.rules.specs.State.{is_running, is_settled, settled_round, with_phase}
use Rattle.rules.specs.Log.{Desk, with_state, proposed, the_log}
use Rattle.rules.specs.Doing.{own, output, sheet_to_propose, start_round, the_doing}
use Rattle.rules.specs.Rules.{fire_49}
use Rattle.rules.specs.Work.{worked}
use Rattle.rules.proofs.ByRule.{Runs}
use Rattle.rules.proofs.Deeds.{sole, Closes, Deed, prevotes, precommits_nil, locks, holds, asks_prevote, asks_precommit, settles, enters}
use Rattle.kiosk.proofs.Accepted.{Passes, accepted_passes}
use Rattle.kiosk.proofs.Taken.{Taken, starts, hears_proposal, hears_vote, timer, call_keeps}
use Rattle.history.specs.Histories.{Call, Past, does, after, takes, History, sent_in}
use Rattle.agreement.specs.Moves.{Out, settled}
use Rattle.market.specs.Seat.{act, acts}
use Rattle.market.specs.Demand3.{settled_sheet}
use Rattle.market.proofs.Honest.{history_told, at}

-- ## In a call

-- output 7, as a settled desk says it
abbrev closing : Desk → Output
closing d = let r = settled_round d.state.progress.phase in output 7 r 0 (proposed d r)

abbrev Ends : Desk → Type 0
Ends d = (is_settled d.state.progress.phase ≡ false) ⊎ In (closing d) d.sent

runs_on : (p : Phase) → is_running p ≡ true → is_settled p ≡ false
runs_on Fresh e = refl
runs_on Running e = refl
runs_on (Settled r) e = absurd (false≢true e)

-- what a kiosk does but settling, and what it hears, changes no phase
start_phase : (offer r : ℕ) (d : Desk) → (start_round offer r d).state.progress.phase ≡ d.state.progress.phase
unfolding the_doing the_log
start_phase offer r d =
    by_test (λ (u : Desk). u.state.progress.phase ≡ d.state.progress.phase) (eqb (proposer d.state.roll r) (own d) && not (eqb (sheet_to_propose offer d) 0)) (λ e. refl) (λ e. refl)

closes : (r name : ℕ) (d : Desk) → Closes d r name → In (closing (fire_49 r name d)) (fire_49 r name d).sent
unfolding fire_49
closes r name d c =
    let o = output 7 r 0 name in
    subst (λ (w : ℕ). In (output 7 r 0 w) (d.sent ++ (o ∷ []))) (sole d r name c.sheet) (InRight o d.sent (o ∷ []) (inl refl))

same_phase : (d u : Desk) → Runs d → u.state.progress.phase ≡ d.state.progress.phase → Ends u
same_phase d u run e = inl (rw e (runs_on d.state.progress.phase run))

deed_ends : (offer : ℕ) (d u : Desk) → Runs d → Deed offer d u → Ends u
unfolding the_doing the_log
deed_ends offer d u run (prevotes name s f e) = same_phase d u run (rw e)
deed_ends offer d u run (precommits_nil s e) = same_phase d u run (rw e)
deed_ends offer d u run (locks name s f e) = same_phase d u run (rw e)
deed_ends offer d u run (holds name p s f e) = same_phase d u run (rw e)
deed_ends offer d u run (asks_prevote s a l e) = same_phase d u run (rw e)
deed_ends offer d u run (asks_precommit a l e) = same_phase d u run (rw e)
deed_ends offer d u run (settles r name f e) = subst Ends (sym e) (inr (closes r name d f))
deed_ends offer d u run (enters r more there e) = same_phase d u run (rw e (start_phase offer r d))

taken_ends : (d : Desk) (i : Input) (u : Desk) → Taken d i u → Ends u
unfolding the_log
taken_ends d i u (starts fresh k e) = inl (rw (e, start_phase i.offer 0 (with_state (with_phase Running d.state) d)))
taken_ends d i u (hears_proposal m k turn some low n e) = same_phase d u m.runs (rw e)
taken_ends d i u (hears_vote v m k n e) = same_phase d u m.runs (rw e)
taken_ends d i u (timer run late did) = deed_ends i.offer d u run did

call_ends : (d : Desk) (i : Input) → Passes d i → Ends (worked i d)
call_ends d i p = call_keeps d i p Ends (taken_ends d i) (λ e u run did h. deed_ends i.offer e u run did)

-- ## After a history

abbrev pub settling : Past → Out
settling p = settled (settled_round p.kiosk.state.progress.phase) (settled_sheet p)

-- among the outputs, those of the calls
pub acts_in : (o : Output) (os : List Output) → In o os → In (act o) (acts os)
acts_in o [] h = absurd h
acts_in o (x ∷ os) (inl e) = inl (ap act e)
acts_in o (x ∷ os) (inr h) = inr (acts_in o os h)

abbrev Shut : List Out → Past → Type 0
Shut os p = is_settled p.kiosk.state.progress.phase ≡ true → In (settling p) os

shut_after : (os : List Out) (p : Past) (i : Input) → takes p i ≡ true → Shut (os ++ acts (does p i).sent) (after p i)
shut_after os p i t e =
    let u = does p i in
    ⊎_elim
    (λ on. absurd (true≢false (sym e ∙ on)))
    (λ h. InRight (settling (after p i)) os (acts u.sent) (acts_in (closing u) u.sent h))
    (call_ends (at p) i (accepted_passes p.kiosk.used p.kiosk p.table i t))

pub settled_so : {roll : Roll} {cs : List Call} {p : Past} → History roll cs p → is_settled p.kiosk.state.progress.phase ≡ true → In (settling p) (acts (sent_in cs))
settled_so h = history_told h Shut (λ e. absurd (false≢true e)) (λ few own_seat os p i t new s. shut_after os p i t)

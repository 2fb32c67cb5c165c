-- What an accepted input does is a move too; so a call, and a history of calls, is made of moves, and its outputs are an honest kiosk's.
-- Assumes nothing.
use Prim.Native.Nat.{ℕ, ◌≤◌, ◌<◌}
use mathlib.Core.Path.{◌≡◌, refl, sym, ap, subst, ◌∙◌}
use mathlib.Core.Logic.{inl, inr}
use mathlib.Core.List.{List, [], ◌++◌, append-nil}
use mathlib.Core.Bool.{true, false≢true}
use native.Mathlib.Omega.{arith}
use lib.ListN.{length-replicate}
use lib.Dec.{eqb}
use borrow.Author.Tests.{ltb-true}
use Rattle.words.specs.Marks.{marked}
use Rattle.words.specs.Members.{In}
use Rattle.words.proofs.MarkLaws.{marked_zero}
use Rattle.words.proofs.Places.{zeros_at}
use Rattle.roll.specs.declared.Roll.{Roll}
use Rattle.roll.proofs.Weighing.{fits_count}
use Rattle.rules.specs.declared.Votes.{Votes}
use Rattle.rules.specs.declared.Votes.TheVariants.{Prevotes, Precommits}
use Rattle.rules.specs.declared.Input.{Input}
use Rattle.rules.specs.declared.Phase.TheVariants.{Running}
use Rattle.rules.specs.Kinds.{vote_in}
use Rattle.rules.specs.State.{most_rounds, log_length, marks_at, marks_of, empty_log, is_fresh, with_phase}
use Rattle.rules.specs.Log.{Desk, desk, told, table_length, with_state, hear_proposal, hear_vote}
use Rattle.rules.specs.Doing.{current, step}
use Rattle.rules.specs.Work.{worked}
use Rattle.rules.proofs.Telling.{marks_is}
use Rattle.kiosk.proofs.Accepted.{Passes, accepted_fits, accepted_passes}
use Rattle.kiosk.proofs.Taken.{Message, Taken, starts, hears_proposal, hears_vote, timer, call_keeps}
use Rattle.kiosk.proofs.Kept.{worked_sound}
use Rattle.history.specs.Histories.{Call, Past, does, after, takes, Told, told_none, told_more, beginning, History, sent_in}
use Rattle.agreement.specs.Moves.{Out, waits}
use Rattle.agreement.specs.Weigh.{scale_of}
use Rattle.agreement.specs.Honest.{said, Arrived, Honest}
use Rattle.market.specs.Seat.{acts, brings, step_number, view}
use Rattle.market.proofs.Votes.{kind_of}
use Rattle.market.proofs.Good.{acts_more, Good, logs_same, vote_logs, proposal_logs}
use Rattle.market.proofs.Moving.{Next, start_next, deed_next}

-- ## What an input does before the rules

-- a vote that is put brings itself
brought : (v : Votes) (i : Input) → i.kind ≡ vote_in v → brings i i.sender (said (kind_of v) i.round.0 i.name)
brought Prevotes i e = (rw e, refl, rw e)
brought Precommits i e = (rw e, refl, rw e)

-- before start a kiosk is at the beginning of round 0
abbrev Begun : Desk → Type 0
Begun d = is_fresh d.state.progress.phase ≡ true → (current d ≡ 0) × (step_number (step d) ≡ 0)

module _ (roll : Roll) (A : Arrived) (few : roll.kiosks ≤ 32) (own_seat : roll.own < roll.kiosks) (before : List Out) where
  abbrev Goes : Desk → Type 0
  Goes d = Next roll A few own_seat before d

  heard_vote : (v : Votes) (d : Desk) (r i name : ℕ) → Goes d → r < most_rounds → i < 32 → A i (said (kind_of v) r name) → Goes (hear_vote v d r i name)
  unfolding hear_vote
  heard_vote v d r i name g hr hi a = record { logs = vote_logs roll A few (before ++ acts d.sent) d g.logs v r i name hr hi (inr a); kept = g.kept }

  module _ (d : Desk) (i : Input) (g : Goes d) (new : (j : ℕ) (o : Out) → brings i j o → A j o) where
    heard_message : (v : Votes) → Message d i → i.kind ≡ vote_in v → Goes (hear_vote v d i.round.0 i.sender i.name)
    heard_message v m e =
        let seat : i.sender < roll.kiosks = rw g.logs.roll_is at m.seat in
        heard_vote v d i.round.0 i.sender i.name g (omega (arith, m.round, g.logs.rounds_are)) (omega (arith, few, seat)) (new i.sender _ (brought v i e))

    heard_proposal : Goes (hear_proposal d i.round.0 (eqb i.verdict 1) i.valid.0 i.name)
    unfolding hear_proposal
    heard_proposal =
        record { logs = proposal_logs roll A few (before ++ acts d.sent) d g.logs i.round.0 (eqb i.verdict 1) i.valid.0 i.name; kept = g.kept }

    taken_next : (u : Desk) → Begun d → Taken d i u → Goes u
    taken_next u begun (starts fresh k e) =
        let f = begun fresh in
        let r = with_state (with_phase Running d.state) d in
        subst Goes (sym e)
        (start_next roll A few own_seat before i.offer 0 r
        (record { logs = logs_same roll A (before ++ acts d.sent) d r g.logs refl refl g.logs.round refl refl; kept = g.kept })
        (omega arith)
        (λ os o q. waits q (sym f.0) (sym f.1) (record { lr = refl; lv = refl })))
    taken_next u begun (hears_proposal m k turn some low n e) = subst Goes (sym e) heard_proposal
    taken_next u begun (hears_vote v m k n e) = subst Goes (sym e) (heard_message v m k)
    taken_next u begun (timer run late did) = deed_next roll A few own_seat before i.offer d u did g

    called : Passes d i → Begun d → Goes (worked i d)
    called p begun =
        call_keeps d i p Goes (λ u t. taken_next u begun t) (λ e u run did h. deed_next roll A few own_seat before i.offer e u did h)

-- ## Calls, one after the other

-- What holds of the outputs so far and of the past, and is kept by each call of which Such holds, is kept by all of them
told_keeps : (P : List Out → Past → Type 0) (Such : Input → Type 0)
    → ((os : List Out) (p : Past) (i : Input) → takes p i ≡ true → Such i → P os p → P (os ++ acts (does p i).sent) (after p i))
    → {p q : Past} {cs : List Call} → Told p cs q → ((c : Call) → In c cs → Such c.input) → (os : List Out) → P os p → P (os ++ acts (sent_in cs)) q
unfolding sent_in
told_keeps P Such keeps (told_none {p}) such os h = subst (λ (x : List Out). P x p) (sym (append-nil os)) h
told_keeps P Such keeps (told_more {p} {q} {c} {cs} t w e later) such os h =
    subst (λ (x : List Out). P x q) (sym (acts_more os c.sent (sent_in cs)))
    (told_keeps P Such keeps later (λ x m. such x (inr m)) (os ++ acts c.sent) (rw e (keeps os p c.input t (such c (inl refl)) h)))

-- what the calls of a history brought
abbrev pub arrivals : List Call → Arrived
arrivals cs j o = (c : Call) × In c cs × brings c.input j o

-- what holds at the beginning, and is kept by each call with what it brings, holds after the history
pub history_told : {roll : Roll} {cs : List Call} {p : Past} → History roll cs p → (P : List Out → Past → Type 0) → P [] (beginning roll)
    → (roll.kiosks ≤ 32 → roll.own < roll.kiosks → (os : List Out) (q : Past) (i : Input) → takes q i ≡ true → ((j : ℕ) (o : Out) → brings i j o → arrivals cs j o)
    → P os q → P (os ++ acts (does q i).sent) (after q i))
    → P (acts (sent_in cs)) p
history_told {roll} {cs} h P begins keeps =
    told_keeps P (λ i. (j : ℕ) (o : Out) → brings i j o → arrivals cs j o)
    (keeps (fits_count roll h.created.fits).1 (ltb-true roll.own roll.kiosks h.created.own))
    h.told (λ c m j o b. (c, m, b)) [] begins

abbrev pub at : Past → Desk
at p = desk p.kiosk.state p.table

-- nothing is marked at the beginning
none_marked : (v : Votes) (r j : ℕ) → marked (marks_of v (told empty_log r)) j ≡ true → ⊥
none_marked v r j t = false≢true (sym (ap (λ (m : ℕ). marked m j) (marks_is v empty_log r ∙ zeros_at log_length (marks_at v r)) ∙ marked_zero j) ∙ t)

module _ (roll : Roll) (A : Arrived) where
  -- between calls
  record Rest (os : List Out) (p : Past) : Type 0 where
    good : Good roll A os (at p)
    begun : Begun (at p)

  rest_begins : Rest [] (beginning roll)
  rest_begins = record {
    good = record {
      logs = record {
        roll_is = refl;
        rounds_are = refl;
        round = omega arith;
        places = length-replicate {A = ℕ} table_length 0;
        votes = λ v r j hj t. absurd (none_marked v r j t);
      };
      kept = record {
        step_ok = omega arith;
        lock_past = omega arith;
        lock_backed = λ l e. absurd (omega (arith, e));
        prevote_past = λ r w h. absurd h;
        precommit_past = λ r w h. absurd h;
        precommit_lock = λ r w hw h. absurd h;
        one_prevote = λ r v w h g. absurd h;
        one_precommit = λ r v w h g. absurd h;
        precommit_backed = λ r w hw h. absurd h;
        lock_kept = λ r₀ r v w hv hw hr h g. absurd h;
        settled_backed = λ r w h. absurd h;
      };
    };
    begun = λ e. (refl, refl);
  }

  module _ (few : roll.kiosks ≤ 32) (own_seat : roll.own < roll.kiosks) where
    rest_after : (os : List Out) (p : Past) (i : Input) → takes p i ≡ true → ((j : ℕ) (o : Out) → brings i j o → A j o) → Rest os p → Rest (os ++ acts (does p i).sent) (after p i)
    rest_after os p i t new q =
        let d = at p in
        let u = does p i in
        let pass = accepted_passes p.kiosk.used p.kiosk p.table i t in
        let start : Good roll A (os ++ []) d = subst (λ (x : List Out). Good roll A x d) (sym (append-nil os)) q.good in
        let g : Good roll A (os ++ acts u.sent) u = called roll A few own_seat os d i start new pass q.begun in
        let s = worked_sound d i (accepted_fits p.kiosk.used p.kiosk p.table i t) pass refl in
        record {
          good = record {
            logs = logs_same roll A (os ++ acts u.sent) u (at (after p i)) g.logs (sym g.logs.rounds_are) refl g.logs.round refl refl;
            kept = g.kept;
          };
          begun = λ e. absurd (false≢true (sym s.started ∙ e));
        }

-- so what `Good` says holds after every history
pub history_good : {roll : Roll} {cs : List Call} {p : Past} → History roll cs p → Good roll (arrivals cs) (acts (sent_in cs)) (at p)
history_good {roll} {cs} h = (history_told h (Rest roll (arrivals cs)) (rest_begins roll (arrivals cs)) (rest_after roll (arrivals cs))).good

-- and its outputs are an honest kiosk's
pub honest : {roll : Roll} {cs : List Call} {p : Past} → History roll cs p → Honest (scale_of roll) roll.own (arrivals cs) (acts (sent_in cs))
honest {p = p} h = record { view = view (at p); kept = (history_good h).kept }

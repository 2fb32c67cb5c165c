-- Each deed of a kiosk is a move of agreement's, and so what `Good` says is kept by it. Assumes nothing.
use Prim.Native.Nat.{ℕ, ◌≤◌, ◌<◌}
use mathlib.Core.Path.{◌≡◌, refl, sym, ap, subst, ◌∙◌}
use mathlib.Core.Logic.{⊎_elim}
use mathlib.Core.List.{List, [], ◌∷◌, ◌++◌}
use mathlib.Core.Bool.{true, ◌&&◌, not}
use native.Mathlib.Omega.{arith}
use lib.Dec.{eqb}
use Rattle.words.proofs.Choice.{by_test}
use Rattle.roll.specs.declared.Roll.{Roll}
use Rattle.roll.specs.Weighing.{proposer}
use Rattle.rules.specs.declared.Step.TheVariants.{Propose, Prevote, Precommit}
use Rattle.rules.specs.declared.Votes.{Votes}
use Rattle.rules.specs.declared.Votes.TheVariants.{Prevotes, Precommits}
use Rattle.rules.specs.declared.Output.{Output}
use Rattle.rules.specs.State.{most_rounds, held, entered, with_stand, with_locked}
use Rattle.rules.specs.Log.{Desk, with_state, message, hear_proposal, hear_vote, power_for}
use Rattle.rules.specs.Doing.{current, step, own, step_of, output, sheet_to_propose, propose, vote, ask, start_round}
use Rattle.rules.specs.Rules.{is_large, fire_49}
use Rattle.rules.proofs.Deeds.{WhyPrevote, nil, afresh, again, Closes, holding, Deed, prevotes, precommits_nil, locks, holds, asks_prevote, asks_precommit, settles, enters}
use Rattle.agreement.specs.Moves.{Out, settled, proposal, other, View, SameLock, NoVote, Move, waits, enter, prevote_nil, prevote_new, prevote_old, precommit_nil, precommit_sheet, settle}
use Rattle.agreement.specs.Honest.{pv, pc, said, Arrived}
use Rattle.market.specs.Seat.{act, acts, step_number, view}
use Rattle.market.proofs.Votes.{kind_of}
use Rattle.market.proofs.Steps.{at_propose, at_prevote}
use Rattle.market.proofs.Good.{acts_more, Hears, Logs, Good, heard_more, logs_more, logs_same, advance, own_vote, vote_logs, proposal_logs, votes_heard}

-- a timer, and a proposal, is no vote and no settling
no_vote_other : NoVote (other ∷ [])
no_vote_other r w = (⊎_elim (λ e. cc) (λ h. h), ⊎_elim (λ e. cc) (λ h. h), ⊎_elim (λ e. cc) (λ h. h))

no_vote_proposal : (l : List ℕ) → NoVote (proposal l ∷ [])
no_vote_proposal l r w = (⊎_elim (λ e. cc) (λ h. h), ⊎_elim (λ e. cc) (λ h. h), ⊎_elim (λ e. cc) (λ h. h))

-- where a kiosk stands once it is at this step of this round, with the lock that it has
abbrev standing : ℕ → ℕ → Desk → View
standing r n d = record { round = r; step = n; lr = (view d).lr; lv = (view d).lv }

same_lock : (d : Desk) (r n : ℕ) → SameLock (view d) (standing r n d)
same_lock d r n = record { lr = refl; lv = refl }

-- ## Deeds, before is what the kiosk put out before the call

module _ (roll : Roll) (A : Arrived) (few : roll.kiosks ≤ 32) (own_seat : roll.own < roll.kiosks) (before : List Out) where
  abbrev pub all_out : Desk → List Out
  all_out d = before ++ acts d.sent

  abbrev pub Next : Desk → Type 0
  Next d = Good roll A (all_out d) d

  abbrev Moves : List Out → View → List Out → View → Type 0
  Moves os = Move (Hears roll A os pv) (Hears roll A os pc)

  -- one output more
  out_next : (d u : Desk) (o : Output) → Next d → u.sent ≡ d.sent ++ (o ∷ []) → Logs roll A (all_out d ++ (act o ∷ [])) u
      → Moves (all_out d ++ (act o ∷ [])) (view d) (act o ∷ []) (view u) → Next u
  out_next d u o g es l m =
      let all : all_out u ≡ all_out d ++ (act o ∷ []) = ap (λ (x : List Output). before ++ acts x) es ∙ acts_more before d.sent (o ∷ []) in
      subst (λ (x : List Out). Good roll A x u) (sym all) (advance roll A (all_out d) (act o ∷ []) d u g l m)

  -- an output that goes in no log
  told_next : (d u : Desk) (o : Output) → Next d → u.sent ≡ d.sent ++ (o ∷ []) → Logs roll A (all_out d) u
      → Moves (all_out d ++ (act o ∷ [])) (view d) (act o ∷ []) (view u) → Next u
  told_next d u o g es l m = out_next d u o g es (logs_more roll A (all_out d) (act o ∷ []) u l) m

  -- a vote, from where it is said: c has the log of d
  said_next : (v : Votes) (name : ℕ) (d c u : Desk) (o : Output) → Next d → Logs roll A (all_out d) c → act o ≡ said (kind_of v) (current c) name
      → u.sent ≡ d.sent ++ (o ∷ []) → u.rounds ≡ c.rounds → u.state.roll ≡ c.state.roll → current u ≡ current c
      → u.state.log ≡ (hear_vote v c (current c) (own c) name).state.log → u.table ≡ (hear_vote v c (current c) (own c) name).table
      → Moves (all_out d ++ (act o ∷ [])) (view d) (act o ∷ []) (view u) → Next u
  said_next v name d c u o g lc eo es en er ec el et m =
      let os : List Out = all_out d in
      let h = hear_vote v c (current c) (own c) name in
      let all : List Out = os ++ (act o ∷ []) in
      let lh : Logs roll A all h
      = vote_logs roll A few all c (logs_more roll A os (act o ∷ []) c lc) v (current c) (own c) name lc.round
      (rw lc.roll_is (omega (arith, few, own_seat)))
      (rw (lc.roll_is, eo) (own_vote roll A os (kind_of v) (current c) name)) in
      out_next d u o g es (logs_same roll A all h u lh (en ∙ sym (lh.rounds_are ∙ sym lc.rounds_are)) (er ∙ lc.roll_is ∙ sym lh.roll_is) (rw ec lc.round) el et) m

  vote_next : (v : Votes) (name : ℕ) (d c : Desk) → Next d → Logs roll A (all_out d) c → c.sent ≡ d.sent →
      (let o : List Out = said (kind_of v) (current c) name ∷ [] in Moves (all_out d ++ o) (view d) o (standing (current c) (step_number (step_of v)) c)) → Next (vote v name c)
  unfolding vote message hear_vote
  vote_next Prevotes name d c g lc es m =
      let o = output 2 (current c) 0 name in
      said_next Prevotes name d c (vote Prevotes name c) o g lc refl (ap (λ (x : List Output). x ++ (o ∷ [])) es) refl refl refl refl refl m
  vote_next Precommits name d c g lc es m =
      let o = output 3 (current c) 0 name in
      said_next Precommits name d c (vote Precommits name c) o g lc refl (ap (λ (x : List Output). x ++ (o ∷ [])) es) refl refl refl refl refl m

  -- a round entered, with a proposal or a timer
  pub start_next : (offer r : ℕ) (d : Desk) → Next d → r < most_rounds →
      ((os o : List Out) → NoVote o → Moves os (view d) o (standing r 0 d)) → Next (start_round offer r d)
  unfolding start_round propose ask message hear_proposal
  start_next offer r d g hr m =
      let e = with_state (with_stand (entered r) d.state) d in
      let sheet = sheet_to_propose offer d in
      let valid = d.state.progress.valid.next.0 in
      let p = propose valid sheet e in
      let h = hear_proposal e r true valid sheet in
      let os = all_out d in
      let l = logs_same roll A os d e g.logs refl refl hr refl refl in
      by_test Next (eqb (proposer d.state.roll r) (own d) && not (eqb sheet 0))
      (λ t.
      told_next d p (output 1 r valid sheet) g refl (logs_same roll A os h p (proposal_logs roll A few os e l r true valid sheet) refl refl hr refl refl)
      (m _ _ (no_vote_proposal (r ∷ valid ∷ sheet ∷ []))))
      (λ t. told_next d (ask Propose e) (output 4 r 0 0) g refl (logs_same roll A os e (ask Propose e) l refl refl hr refl refl) (m _ _ no_vote_other))

  -- ## Each deed

  module _ (d : Desk) (g : Next d) where
    -- what the log shows, the kiosk has heard, whatever it puts out next
    shown : (v : Votes) (r name : ℕ) (o : List Out) → is_large d (power_for v d r name) ≡ true → Hears roll A (all_out d ++ o) (kind_of v) r name
    shown v r name o big = heard_more roll A (all_out d) o (kind_of v) r name (votes_heard roll A few (all_out d) d g.logs v r name big)

    stays : SameLock (view d) (view d)
    stays = same_lock d (current d) (step_number (step d))

    same_log : (u : Desk) → u.rounds ≡ d.rounds → u.state.roll ≡ d.state.roll → current u ≡ current d → u.state.log ≡ d.state.log
        → u.table ≡ d.table → Logs roll A (all_out d) u
    same_log u en er ec el et = logs_same roll A (all_out d) d u g.logs en er (rw ec g.logs.round) el et

    next_prevote : (name : ℕ) → step_number (step d) ≡ 0 → WhyPrevote d name → Next (vote Prevotes name d)
    next_prevote name s (nil e) = rw e (vote_next Prevotes 0 d d g g.logs refl (prevote_nil refl s refl refl (same_lock d (current d) 1)))
    next_prevote name s (afresh ok e v free) = vote_next Prevotes name d d g g.logs refl (prevote_new name refl s refl refl (same_lock d (current d) 1) free)
    next_prevote name s (again vr ok e v less big free) =
        vote_next Prevotes name d d g g.logs refl
        (prevote_old name vr refl s refl refl (same_lock d (current d) 1) less
        (shown Prevotes vr name (said pv (current d) name ∷ []) big) free)

    next_asked : Next (ask Prevote d) × Next (ask Precommit d)
    unfolding ask
    next_asked = (
      told_next d (ask Prevote d) (output 5 (current d) 0 0) g refl (same_log (ask Prevote d) refl refl refl refl refl) (waits no_vote_other refl refl stays),
      told_next d (ask Precommit d) (output 6 (current d) 0 0) g refl (same_log (ask Precommit d) refl refl refl refl refl) (waits no_vote_other refl refl stays),
    )

    next_settled : (r name : ℕ) → Closes d r name → Next (fire_49 r name d)
    unfolding fire_49
    next_settled r name c =
        told_next d (fire_49 r name d) (output 7 r 0 name) g refl (same_log (fire_49 r name d) refl refl refl refl refl)
        (settle r name refl c.some (shown Precommits r name (settled r name ∷ []) c.large) refl refl stays)

  pub deed_next : (offer : ℕ) (d u : Desk) → Deed offer d u → Next d → Next u
  deed_next offer d u (prevotes name s f e) g = subst Next (sym e) (next_prevote d g name (at_propose (step d) s) f)
  deed_next offer d u (precommits_nil s e) g =
      subst Next (sym e) (vote_next Precommits 0 d d g g.logs refl (precommit_nil refl (at_prevote (step d) s) refl refl (same_lock d (current d) 2)))
  deed_next offer d u (locks name s f e) g =
      let c = with_state (with_locked (held (current d) name) (holding name d)) d in
      subst Next (sym e)
      (vote_next Precommits name d c g (same_log d g c refl refl refl refl refl) refl
      (precommit_sheet name refl (at_prevote (step d) s) refl refl refl refl
      (shown d g Prevotes (current d) name (said pc (current d) name ∷ []) f.large)))
  deed_next offer d u (holds name p s f e) g =
      subst Next (sym e) (record { logs = same_log d g (with_state (holding name d) d) refl refl refl refl refl; kept = g.kept })
  deed_next offer d u (asks_prevote s a l e) g = subst Next (sym e) (next_asked d g).0
  deed_next offer d u (asks_precommit a l e) g = subst Next (sym e) (next_asked d g).1
  deed_next offer d u (settles r name f e) g = subst Next (sym e) (next_settled d g r name f)
  deed_next offer d u (enters r more there e) g =
      subst Next (sym e) (start_next offer r d g (omega (arith, g.logs.rounds_are)) (λ os o q. enter q more refl (same_lock d r 0)))

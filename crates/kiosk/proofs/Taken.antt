-- What an accepted input does before the rules, by its kind: start, a message of another seat that is not heard yet, or a timer that is
-- due, which does a deed. So what these and each deed keep, a call keeps. Assumes nothing.
use Rattle.std.specs.Bool.{if◌then◌else◌}
use Prim.Native.Nat.{ℕ, suc, ◌≤◌, ◌<◌}
use mathlib.Core.Path.{◌≡◌, refl, sym, ◌∙◌}
use mathlib.Core.Bool.{Bool, true, false, ◌&&◌, ◌||◌, not, true≢false}
use native.Mathlib.Omega.{arith}
use lib.Dec.{eqb, leb}
use borrow.Author.Tests.{eqb-true, eqb-false, leb-true, le-leb, not-true, not-false}
use Rattle.words.specs.Marks.{marked}
use Rattle.words.proofs.Choice.{by_test, and_left, and_right}
use Rattle.roll.specs.Weighing.{proposer}
use Rattle.rules.specs.declared.Votes.{Votes}
use Rattle.rules.specs.declared.Votes.TheVariants.{Prevotes, Precommits}
use Rattle.rules.specs.declared.Input.{Input}
use Rattle.rules.specs.declared.Phase.{Phase}
use Rattle.rules.specs.declared.Phase.TheVariants.{Fresh, Running, Settled}
use Rattle.rules.specs.Kinds.{vote_in}
use Rattle.rules.specs.State.{is_fresh, is_running, is_settled, is_propose, is_prevote, marks_of, spoken, with_phase}
use Rattle.rules.specs.Log.{Desk, with_state, heard, hear_proposal, hear_vote}
use Rattle.rules.specs.Doing.{current, step, own, start_round}
use Rattle.rules.specs.Work.{take_in, most_firings, worked}
use Rattle.rules.proofs.ByRule.{Runs}
use Rattle.rules.proofs.Deeds.{nil, Deed, prevotes, precommits_nil, enters, firing_keeps}
use Rattle.refusals.specs.Refusals.{is_start, is_proposal, is_vote, proposal_fits, kind_fits, timer_due, place_heard}
use Rattle.kiosk.proofs.Accepted.{Passes, Fields, fields_of, next_there}

-- a message of another seat, to a kiosk that runs
pub record Message (d : Desk) (i : Input) : Type 0 where
  pub runs : Runs d
  pub seat : i.sender < d.state.roll.kiosks
  pub other : i.sender ≡ own d → ⊥
  pub round : i.round.0 < d.rounds

pub data Taken (d : Desk) (i : Input) (u : Desk) : Type 0 where
  -- line 10
  starts :
      is_fresh d.state.progress.phase ≡ true →
      i.kind ≡ 1 →
      u ≡ start_round i.offer 0 (with_state (with_phase Running d.state) d) →
      Taken d i u
  hears_proposal :
      Message d i →
      i.kind ≡ 2 →
      i.sender ≡ proposer d.state.roll i.round.0 →
      (i.name ≡ 0 → ⊥) →
      i.valid.0 ≤ i.round.0 →
      spoken (heard d i.round.0) ≡ false →
      u ≡ hear_proposal d i.round.0 (eqb i.verdict 1) i.valid.0 i.name →
      Taken d i u
  hears_vote :
      (v : Votes) →
      Message d i →
      i.kind ≡ vote_in v →
      marked (marks_of v (heard d i.round.0)) i.sender ≡ false →
      u ≡ hear_vote v d i.round.0 i.sender i.name →
      Taken d i u
  -- "A timer input does lines 57 to 67"
  timer : Runs d → 5 ≤ i.kind → Deed i.offer d u → Taken d i u

-- a kiosk that has started and not settled runs
pub running : (p : Phase) → is_fresh p ≡ false → is_settled p ≡ false → is_running p ≡ true
running Fresh f s = absurd (true≢false f)
running Running f s = refl
running (Settled r) f s = absurd (true≢false s)

-- start is the input of a kiosk that has not started, and of no other
starts_fresh : (fresh start : Bool) → (if fresh then not start else start) ≡ false → start ≡ fresh
starts_fresh true true e = refl
starts_fresh true false e = absurd (true≢false e)
starts_fresh false start e = e

module _ (d : Desk) (i : Input) (p : Passes d i) where
  fields : Fields d.state.roll.kiosks d.rounds i
  fields = fields_of d.state.roll.kiosks d.rounds i p.fields

  start_is : is_start i ≡ is_fresh d.state.progress.phase
  start_is = starts_fresh (is_fresh d.state.progress.phase) (is_start i) p.in_order

  runs : is_start i ≡ false → Runs d
  runs e = running d.state.progress.phase (sym start_is ∙ e) p.unsettled

  message : is_start i ≡ false → (is_proposal i || is_vote i) ≡ true → Message d i
  message e m = record {
    runs = runs e;
    seat = fields.sender;
    other = eqb-false i.sender (own d) (rw m at p.not_own);
    round = fields.round;
  }

  proposal_fields : is_proposal i ≡ true → (i.name ≡ 0 → ⊥) × (i.valid.0 ≤ i.round.0)
  unfolding kind_fits proposal_fits
  proposal_fields e =
      let a = not (eqb i.name 0) in
      let b = leb i.valid.0 i.round.0 in
      let k : (a && b && leb i.verdict 1) ≡ true = rw e at fields.of_kind in
      let ab = and_left (a && b) (leb i.verdict 1) k in
      (eqb-false i.name 0 (not-true (eqb i.name 0) (and_left a b ab)), leb-true i.valid.0 i.round.0 (and_right a b ab))

  turn : is_proposal i ≡ true → i.sender ≡ proposer d.state.roll i.round.0
  turn e =
      let t = eqb i.sender (proposer d.state.roll i.round.0) in
      eqb-true i.sender (proposer d.state.roll i.round.0) (not-false t (rw e at p.turn))

  unheard_proposal : is_proposal i ≡ true → spoken (heard d i.round.0) ≡ false
  unfolding place_heard
  unheard_proposal e = rw e at p.unheard

  unheard_vote : (v : Votes) → i.kind ≡ vote_in v → marked (marks_of v (heard d i.round.0)) i.sender ≡ false
  unfolding place_heard
  unheard_vote Prevotes e = rw e at p.unheard
  unheard_vote Precommits e = rw e at p.unheard

  -- a timer that is accepted is due
  due : 5 ≤ i.kind → timer_due d i ≡ true
  due l = not-false (timer_due d i) (rw (le-leb 5 i.kind l, le-leb i.kind 7 fields.kind_high) at p.due)

  pub timer_current : 5 ≤ i.kind → i.round.0 ≡ current d
  unfolding timer_due
  timer_current l = eqb-true i.round.0 (current d) (and_left (eqb i.round.0 (current d)) _ (due l))

  pub timer_propose : eqb i.kind 5 ≡ true → is_propose (step d) ≡ true
  unfolding timer_due
  timer_propose e =
      let t = and_right (eqb i.round.0 (current d)) _ (due (omega (arith, eqb-true i.kind 5 e))) in
      and_left (is_propose (step d)) d.state.progress.stand.asked.propose (rw e at t)

  pub timer_prevote : eqb i.kind 5 ≡ false → eqb i.kind 6 ≡ true → is_prevote (step d) ≡ true
  unfolding timer_due
  timer_prevote n e =
      let t = and_right (eqb i.round.0 (current d)) _ (due (omega (arith, eqb-true i.kind 6 e))) in
      and_left (is_prevote (step d)) d.state.progress.stand.asked.prevote (rw (n, e) at t)

  pub timer_next : 7 ≤ i.kind → suc i.round.0 < d.rounds
  timer_next = next_there i fields p.next_round

  pub taken : Taken d i (take_in i d)
  unfolding take_in
  taken =
      let k = i.kind in
      by_test (Taken d i) (eqb k 1) (λ e. starts (sym start_is ∙ e) (eqb-true k 1 e) refl) (λ e1.
      by_test (Taken d i) (eqb k 2) (λ e. hears_proposal (message e1 (rw e)) (eqb-true k 2 e) (turn e) (proposal_fields e).0 (proposal_fields e).1 (unheard_proposal e) refl) (λ e2.
      by_test (Taken d i) (eqb k 3) (λ e. hears_vote Prevotes (message e1 (rw (e2, e))) (eqb-true k 3 e) (unheard_vote Prevotes (eqb-true k 3 e)) refl) (λ e3.
      by_test (Taken d i) (eqb k 4) (λ e. hears_vote Precommits (message e1 (rw (e2, e3, e))) (eqb-true k 4 e) (unheard_vote Precommits (eqb-true k 4 e)) refl) (λ e4.
      by_test (Taken d i) (eqb k 5) (λ e. timer (runs e1) (omega (arith, eqb-true k 5 e)) (prevotes 0 (timer_propose e) (nil refl) refl)) (λ e5.
      by_test (Taken d i) (eqb k 6) (λ e. timer (runs e1) (omega (arith, eqb-true k 6 e)) (precommits_nil (timer_prevote e5 e) refl)) (λ e6.
      let not_one : (n : ℕ) → eqb k n ≡ false → k ≡ n → ⊥ = eqb-false k in
      let late : 7 ≤ k = omega (arith, fields.kind_low, not_one 1 e1, not_one 2 e2, not_one 3 e3, not_one 4 e4, not_one 5 e5, not_one 6 e6) in
      let five : 5 ≤ k = omega arith in
      timer (runs e1) five (enters (suc i.round.0) (omega (arith, timer_current five)) (timer_next late) refl)))))))

  -- what the input and each deed keep, the call keeps
  pub call_keeps : (P : Desk → Type 0) → ((u : Desk) → Taken d i u → P u) → ((e u : Desk) → Runs e → Deed i.offer e u → P e → P u) → P (worked i d)
  unfolding worked
  call_keeps P takes keeps = firing_keeps P i.offer keeps (most_firings d.rounds) (take_in i d) (takes (take_in i d) taken)

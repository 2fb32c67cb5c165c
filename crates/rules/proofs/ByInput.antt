-- The kinds of input, case by case: a statement about what an input does before the rules is proved for start, for a message put
-- in the log, and for each timer. Assumes nothing.
use Prim.Native.Nat.{ℕ, suc, ◌*◌, ◌≤◌}
use mathlib.Core.Path.{◌≡◌}
use mathlib.Core.Bool.{true, false}
use native.Mathlib.Omega.{arith}
use lib.Dec.{eqb}
use borrow.Author.Tests.{eqb-false}
use Rattle.words.proofs.Choice.{by_test}
use Rattle.rules.specs.declared.Votes.TheVariants.{Prevotes, Precommits}
use Rattle.rules.specs.declared.Heard.{Heard}
use Rattle.rules.specs.declared.Input.{Input}
use Rattle.rules.specs.declared.Phase.TheVariants.{Running}
use Rattle.rules.specs.State.{with_phase}
use Rattle.rules.specs.Log.{Desk, with_state, per_round, logged, message, hear_proposal, hear_vote}
use Rattle.rules.specs.Doing.{vote, start_round}
use Rattle.rules.specs.Work.{take_in}

-- a message is put in its round's place of the log, and in the table at a place of that round or past it; every kind but 1 to 6
-- does what kind 7 does
pub by_input : (P : Desk → Type 0) (i : Input) (d : Desk) →
    (eqb i.kind 1 ≡ true → P (start_round i.offer 0 (with_state (with_phase Running d.state) d))) →
    ((h : Heard) (place : ℕ) → per_round * i.round.0 ≤ place → P (logged d i.round.0 h place i.name)) →
    (eqb i.kind 5 ≡ true → P (vote Prevotes 0 d)) →
    (eqb i.kind 6 ≡ true → P (vote Precommits 0 d)) →
    ((1 ≤ i.kind → 7 ≤ i.kind) → P (start_round i.offer (suc i.round.0) d)) →
    P (take_in i d)
unfolding take_in hear_proposal hear_vote
by_input P i d start message propose_timer prevote_timer precommit_timer =
    by_test P (eqb i.kind 1) start (λ e1.
    by_test P (eqb i.kind 2) (λ e. message _ _ (omega arith)) (λ e2.
    by_test P (eqb i.kind 3) (λ e. message _ _ (omega arith)) (λ e3.
    by_test P (eqb i.kind 4) (λ e. message _ _ (omega arith)) (λ e4.
    by_test P (eqb i.kind 5) propose_timer (λ e5.
    by_test P (eqb i.kind 6) prevote_timer (λ e6.
    let not_one : (n : ℕ) → eqb i.kind n ≡ false → i.kind ≡ n → ⊥ = eqb-false i.kind in
    precommit_timer (omega (arith, not_one 1 e1, not_one 2 e2, not_one 3 e3, not_one 4 e4, not_one 5 e5, not_one 6 e6))))))))

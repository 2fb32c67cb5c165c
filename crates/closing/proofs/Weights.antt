-- What rule-breakers weigh: a set of them is never some, let alone large; all rule-keeping seats together are large. And what a round's
-- closing sheet and votes weigh where nothing of the round changed. Assumes nothing.
use Rattle.std.specs.Bool.{if◌then◌else◌}
use Prim.Native.Nat.{ℕ, zero, suc, ◌+◌, ◌*◌, ◌<◌, ◌≤◌}
use mathlib.Core.Path.{◌≡◌, refl, ap, ◌∙◌}
use mathlib.Core.List.{[], ◌∷◌}
use mathlib.Core.Bool.{Bool, true, false, ◌&&◌, not}
use native.Mathlib.Omega.{arith}
use lib.ListN.{get_or}
use lib.Dec.{eqb}
use borrow.Author.Tests.{le-ltb, lt-ltb}
use Rattle.words.specs.Choice.{first_of}
use Rattle.words.specs.Marks.{marked}
use Rattle.roll.specs.declared.Roll.{Roll}
use Rattle.roll.specs.Weighing.{large, some, power_below, power_of, total_of}
use Rattle.roll.proofs.Weighing.{power_ext, power_mono}
use Rattle.rules.specs.declared.Votes.{Votes}
use Rattle.rules.specs.declared.Votes.TheVariants.{Precommits}
use Rattle.rules.specs.State.{marks_of}
use Rattle.rules.specs.Log.{Desk, heard, proposed, voted, good_sheets, power_for}
use Rattle.rules.specs.Rules.{closing_sheet}
use Rattle.agreement.specs.Weigh.{Seats}

module _ (roll : Roll) (keeps : Seats) (few : 3 * power_of roll (λ i. not (keeps i)) < total_of roll) where
  module _ (f : ℕ → Bool) (breaks : (j : ℕ) → j < roll.kiosks → f j ≡ true → keeps j ≡ false) where
    lighter : power_of roll f ≤ power_of roll (λ i. not (keeps i))
    lighter = power_mono roll.powers f (λ i. not (keeps i)) roll.kiosks (λ j h t. rw (breaks j h t))

    small : 3 * power_of roll f < total_of roll
    small = omega (arith, few, lighter)

    pub not_some : some (total_of roll) (power_of roll f) ≡ false
    not_some = le-ltb (total_of roll) (3 * power_of roll f) (omega (arith, few, lighter))

    pub not_large : large (total_of roll) (power_of roll f) ≡ false
    not_large = le-ltb (2 * total_of roll) (3 * power_of roll f) (omega (arith, few, lighter))

  -- the two parts of a roll
  seat_parts : (b : Bool) (p : ℕ) → (if true then p else 0) ≡ (if b then p else 0) + (if not b then p else 0)
  seat_parts true p = omega arith
  seat_parts false p = omega arith

  parts : (n : ℕ) → power_below roll.powers (λ i. true) n ≡ power_below roll.powers keeps n + power_below roll.powers (λ i. not (keeps i)) n
  unfolding power_below
  parts zero = refl
  parts (suc n) = omega (arith, parts n, seat_parts (keeps n) (get_or roll.powers n 0))

  -- "rule-keeping kiosks are large together" says no more than that rule-breakers hold less than a third
  pub keeping_large : large (total_of roll) (power_of roll keeps) ≡ true
  keeping_large = lt-ltb (2 * total_of roll) (3 * power_of roll keeps) (omega (arith, few, parts roll.kiosks))

  -- and so is every set that holds them
  pub holding_large : (f : ℕ → Bool) → ((j : ℕ) → j < roll.kiosks → keeps j ≡ true → f j ≡ true) → large (total_of roll) (power_of roll f) ≡ true
  holding_large f all = lt-ltb (2 * total_of roll) (3 * power_of roll f) (omega (arith, few, parts roll.kiosks, power_mono roll.powers keeps f roll.kiosks all))

-- the one sheet of a round's proposals, where it is good and passes the test
pub sole_found : (b : Bool) (x : ℕ) (test : ℕ → Bool) → b ≡ true → test x ≡ true → first_of (if b then x ∷ [] else []) test ≡ x
unfolding first_of
sole_found b x test e t = rw (e, t)

-- a round of which nothing changed
module _ (d u : Desk) (q : ℕ) (er : u.state.roll ≡ d.state.roll) (eh : heard u q ≡ heard d q) where
  pub votes_same : (v : Votes) (name : ℕ) → ((j : ℕ) → j < d.state.roll.kiosks → voted v u q j ≡ voted v d q j) → power_for v u q name ≡ power_for v d q name
  unfolding power_for
  votes_same v name same =
      ap (λ (r : Roll). power_of r (λ i. marked (marks_of v (heard u q)) i && eqb (voted v u q i) name)) er
      ∙ power_ext d.state.roll.powers
      (λ i. marked (marks_of v (heard u q)) i && eqb (voted v u q i) name)
      (λ i. marked (marks_of v (heard d q)) i && eqb (voted v d q i) name)
      d.state.roll.kiosks
      (λ i seat. rw (eh, same i seat))

  pub closing_same : proposed u q ≡ proposed d q → ((j : ℕ) → j < d.state.roll.kiosks → voted Precommits u q j ≡ voted Precommits d q j) → closing_sheet u q ≡ closing_sheet d q
  unfolding closing_sheet good_sheets
  closing_same es same =
      let all : (name : ℕ) → power_for Precommits u q name ≡ power_for Precommits d q name = λ name. votes_same Precommits name same in
      simp all (rw (eh, es, er))

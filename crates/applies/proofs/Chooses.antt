-- The rounds that rules 49 and 55 look for: which of them close, and which call. Assumes nothing.
use Rattle.std.specs.Prelude.{Option, Some, None, MatchOption, IsSomeAnd}
use Prim.Native.Nat.{ℕ, suc, ◌+◌, ◌≤◌, ◌<◌}
use mathlib.Core.Path.{◌≡◌, sym, ◌∙◌}
use mathlib.Core.Bool.{true, false, not, ◌&&◌}
use native.Mathlib.Omega.{arith}
use borrow.Author.Tests.{lt-ltb, le-ltb, le-leb, eqb-true}
use lib.Dec.{eqb, ltb}
use Rattle.words.specs.Choice.{past_highest_below}
use Rattle.std.proofs.lemmas.Option.{none-some, same_Some}
use Rattle.words.proofs.Choice.{by_cases, highest_none, and_left, and_right, and_false}
use Rattle.words.proofs.MarkLaws.{marked_zero}
use Rattle.roll.specs.declared.Round.{Round}
use Rattle.roll.specs.Weighing.{some, total_of}
use Rattle.roll.proofs.Weighing.{power_none}
use Rattle.rules.specs.declared.Rule.{Rule}
use Rattle.rules.specs.declared.Rule.TheVariants.{Line49, Line55}
use Rattle.rules.specs.State.{unheard}
use Rattle.rules.specs.Log.{Desk, heard, message_power}
use Rattle.rules.specs.Doing.{current}
use Rattle.rules.specs.Rules.{applies_49, calls, applies_55, from_49}
use Rattle.applies.specs.InContracts.Found.{named, is_lowest_closing, is_highest_calling}

-- a round that none of its messages is heard of does not call
pub unheard_calls_not : (d : Desk) (r : ℕ) → unheard (heard d r) ≡ true → calls d r ≡ false
unfolding calls message_power
unheard_calls_not d r none =
    let h = heard d r in
    let a = eqb h.proposal 0 in
    let b = eqb h.prevotes 0 in
    let c = eqb h.precommits 0 in
    let ab = and_left (a && b) c none in
    let p : h.proposal ≡ 0 = eqb-true h.proposal 0 (and_left a b ab) in
    let v : h.prevotes ≡ 0 = eqb-true h.prevotes 0 (and_right a b ab) in
    let w : h.precommits ≡ 0 = eqb-true h.precommits 0 (and_right (a && b) c none) in
    let weightless : message_power d r ≡ 0 = power_none d.state.roll.powers _ d.state.roll.kiosks (λ i l. rw (p, v, w, marked_zero i)) in
    and_false (ltb (current d) r) (some (total_of d.state.roll) (message_power d r)) (λ l. rw weightless (le-ltb (total_of d.state.roll) 0 (omega arith)))

-- another round ahead calls where its messages have some power
pub calls_so : (d : Desk) (r : ℕ) → current d < r → calls d r ≡ some (total_of d.state.roll) (message_power d r)
unfolding calls
calls_so d r ahead = rw (lt-ltb (current d) r ahead)

-- and no other does
pub none_calls : (d : Desk) (n : ℕ) → n ≤ current d + 1 → past_highest_below n (λ r. calls d r) ≡ 0
unfolding calls
none_calls d n h = highest_none n (λ r. calls d r) (λ r l. rw (le-ltb (current d) r (omega arith)))

-- a name that is found, and one that is not
pub named_some : (n : ℕ) {x : ℕ} → named n ≡ Some x → (not (eqb n 0) ≡ true) × (n ≡ x)
named_some n {x} e = by_cases (eqb n 0) (λ y. absurd (none-some x (rw y at e))) (λ f. (rw f, same_Some n x (rw f at e)))

pub named_none : (n : ℕ) → named n ≡ None → not (eqb n 0) ≡ false
named_none n e = by_cases (eqb n 0) (λ y. rw y) (λ f. absurd (none-some n (sym (rw f at e))))

-- the rules of the whole log, by the rounds found
module _ (d : Desk) where
  pub far_49 : {r : Round} {name : ℕ} → is_lowest_closing d (Some (r, name)) → from_49 d ≡ Some (Line49 r name)
  unfolding from_49 applies_49
  far_49 {r} {name} (found, low, sheet) = rw (found, lt-ltb r.0 d.rounds low, sheet)

  pub far_55 : {r : Round} → is_lowest_closing d None → is_highest_calling d (Some r) → from_49 d ≡ Some (Line55 r)
  unfolding from_49 applies_49 applies_55
  far_55 {r} none found = rw (none, le-ltb d.rounds d.rounds (omega arith), found, le-leb 1 (suc r.0) (omega arith))

  pub far_none : is_lowest_closing d None → is_highest_calling d None → from_49 d ≡ None
  unfolding from_49 applies_49 applies_55
  far_none none nor = rw (none, le-ltb d.rounds d.rounds (omega arith), nor)

  pub far_rest : (found : Option Round) (r : Option Rule) → is_lowest_closing d None → is_highest_calling d found
      → MatchOption found (r ≡ None) (λ x. IsSomeAnd r (λ y. y ≡ Line55 x)) → r ≡ from_49 d
  far_rest None r none nor e = e ∙ sym (far_none none nor)
  far_rest (Some x) None none found e = elim e [ ]
  far_rest (Some x) (Some y) none found e = rw (far_55 none found, e)

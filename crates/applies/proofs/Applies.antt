-- The rules from 34 to 44, by what is asked in turn, and the sheet that a round's votes are for. Assumes nothing.
use Rattle.std.specs.Bool.{if◌then◌else◌}
use Rattle.std.specs.Prelude.{Some, None}
use Rattle.std.proofs.lemmas.Option.{none-some}
use Prim.Native.Nat.{ℕ}
use mathlib.Core.Path.{◌≡◌, refl, sym, ◌∙◌}
use mathlib.Core.Bool.{Bool, true, false, not, ◌&&◌, ◌||◌, false≢true}
use mathlib.Core.List.{List, [], ◌∷◌}
use lib.Dec.{eqb}
use Rattle.words.specs.Choice.{first_of}
use Rattle.words.proofs.Choice.{by_cases, and_false}
use Rattle.rules.specs.declared.Votes.{Votes}
use Rattle.rules.specs.declared.Votes.TheVariants.{Prevotes}
use Rattle.rules.specs.declared.Rule.TheVariants.{Line34, Line36, Line44}
use Rattle.rules.specs.State.{is_propose, is_prevote, good}
use Rattle.rules.specs.Log.{Desk, heard, proposed, good_sheets, power, power_for}
use Rattle.rules.specs.Doing.{current, step}
use Rattle.rules.specs.Rules.{applies_34, applies_36, applies_44, backed_sheet, from_47, from_34, is_large}
use Rattle.applies.specs.InContracts.Found.{sheet_for, named}
use Rattle.applies.proofs.Weighs.{few_for}

-- none of some numbers passes a test that always fails
first_none : (xs : List ℕ) (test : ℕ → Bool) → ((x : ℕ) → test x ≡ false) → first_of xs test ≡ 0
unfolding first_of
first_none [] test fails = refl
first_none (x ∷ xs) test fails = rw (fails x) (first_none xs test fails)

-- the sheet that a round's votes are for: none where its proposal is not good, or the votes for its name are not large
module _ (v : Votes) (d : Desk) (r : ℕ) where
  pub sheet_bad : good (heard d r) ≡ false → sheet_for v d r ≡ 0
  unfolding good_sheets first_of
  sheet_bad e = rw e

  pub sheet_few : is_large d (power_for v d r (proposed d r)) ≡ false → sheet_for v d r ≡ 0
  unfolding good_sheets first_of
  sheet_few e = by_cases (good (heard d r)) (λ g. rw (g, e)) (λ g. rw g)

  pub sheet_so : good (heard d r) ≡ true → is_large d (power_for v d r (proposed d r)) ≡ true → sheet_for v d r ≡ proposed d r
  unfolding good_sheets first_of
  sheet_so g e = rw (g, e)

  -- where the votes under any name are not large
  pub sheet_none : is_large d (power v d r) ≡ false → sheet_for v d r ≡ 0
  sheet_none few = first_none (good_sheets d r) _ (λ name. few_for v d r name _ few)

  pub sheet_unnamed : proposed d r ≡ 0 → sheet_for v d r ≡ 0
  sheet_unnamed e =
      by_cases (good (heard d r))
      (λ g. by_cases (is_large d (power_for v d r (proposed d r))) (λ l. sheet_so g l ∙ e) (λ l. sheet_few l))
      (λ g. sheet_bad g)

named_so : (n : ℕ) (b : Bool) → b ≡ not (eqb n 0) → named n ≡ (if b then Some n else None)
named_so n b e = by_cases (eqb n 0) (λ y. rw (e, y)) (λ f. rw (e, f))

-- the first of the rules from 34 on
module _ (d : Desk) where
  pub first_34 : applies_34 d ≡ true → from_34 d ≡ Some Line34
  unfolding from_34
  first_34 e = rw e

  pub first_36 : applies_34 d ≡ false → applies_36 d ≡ true → from_34 d ≡ Some (Line36 (backed_sheet d))
  unfolding from_34
  first_36 e f = rw (e, f)

  pub first_44 : applies_34 d ≡ false → applies_36 d ≡ false → applies_44 d ≡ true → from_34 d ≡ Some Line44
  unfolding from_34
  first_44 e f g = rw (e, f, g)

  pub first_rest : applies_34 d ≡ false → applies_36 d ≡ false → applies_44 d ≡ false → from_34 d ≡ from_47 d
  unfolding from_34
  first_rest e f g = rw (e, f, g)

  -- where the prevotes of the round are not large
  few_backed : is_large d (power Prevotes d (current d)) ≡ false → backed_sheet d ≡ 0
  unfolding backed_sheet
  few_backed few = sheet_none Prevotes d (current d) few

  few_not_36 : is_large d (power Prevotes d (current d)) ≡ false → applies_36 d ≡ false
  unfolding applies_36
  few_not_36 few =
      and_false (not (is_propose (step d)) && not d.state.progress.stand.backed) (not (eqb (backed_sheet d) 0)) (λ l. rw (few_backed few))

  pub few_rest : is_large d (power Prevotes d (current d)) ≡ false → from_34 d ≡ from_47 d
  unfolding applies_34 applies_44
  few_rest few =
      first_rest
      (and_false (is_prevote (step d) && not d.state.progress.stand.asked.prevote) (is_large d (power Prevotes d (current d))) (λ l. few))
      (few_not_36 few)
      (and_false (is_prevote (step d)) (is_large d (power_for Prevotes d (current d) 0)) (λ l. few_for Prevotes d (current d) 0 _ few))

  -- where the round's prevotes are not heeded
  or_none : (a b : Bool) → (a || b) ≡ false → (a ≡ false) × (b ≡ false)
  or_none true b e = absurd (false≢true (sym e))
  or_none false b e = (refl, e)

  pub heedless_rest : (is_prevote (step d) || (not (is_propose (step d)) && not d.state.progress.stand.backed && good (heard d (current d)))) ≡ false
      → from_34 d ≡ from_47 d
  unfolding applies_34 applies_36 applies_44 backed_sheet
  heedless_rest fails =
      let none = or_none (is_prevote (step d)) _ fails in
      let free = not (is_propose (step d)) && not d.state.progress.stand.backed in
      let g = good (heard d (current d)) in
      let not_36 : (free && not (eqb (backed_sheet d) 0)) ≡ false =
      by_cases g
      (λ y. by_cases free (λ f. absurd (false≢true (sym none.1 ∙ rw (f, y)))) (λ f. rw f))
      (λ n. and_false free (not (eqb (backed_sheet d) 0)) (λ l. rw (sheet_bad Prevotes d (current d) n)))
      in
      first_rest (rw none.0) not_36 (rw none.0)

  -- and where they are large
  module _ (many : is_large d (power Prevotes d (current d)) ≡ true) where
    pub awaits_is : (is_prevote (step d) && not d.state.progress.stand.asked.prevote) ≡ applies_34 d
    unfolding applies_34
    awaits_is = by_cases (is_prevote (step d) && not d.state.progress.stand.asked.prevote) (λ y. rw (y, many)) (λ n. rw n)

  -- line 36 where it can apply
  pub backed_so : is_propose (step d) ≡ false → d.state.progress.stand.backed ≡ false
      → named (backed_sheet d) ≡ (if applies_36 d then Some (backed_sheet d) else None)
  unfolding applies_36
  backed_so past free = named_so (backed_sheet d) (applies_36 d) (rw (past, free))

-- a value that a test lets through, and one that it does not
pub let_none : (b : Bool) (x : ℕ) → (if b then Some x else None) ≡ None → b ≡ false
let_none true x e = absurd (none-some x (sym e))
let_none false x e = refl

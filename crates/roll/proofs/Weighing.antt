-- Laws of weighing, over any test of the seats. Assumes nothing.
use Rattle.std.specs.Bool.{if◌then◌else◌}
use Rattle.std.specs.Prelude.{fold}
use Prim.Native.Nat.{ℕ, zero, suc, ◌+◌, ◌*◌, ◌-◌, ◌≤◌, ◌<◌}
use mathlib.Core.Path.{◌≡◌, refl, ap, sym, ◌∙◌}
use mathlib.Core.Bool.{Bool, true, false, ◌&&◌, ◌||◌, false≢true, and_assoc, and-true}
use mathlib.Core.List.{List, [], ◌∷◌}
use native.Mathlib.Numerals.{add-one}
use native.Mathlib.Omega.{arith}
use borrow.Author.Tests.{eqb-true, eq-eqb, ne_eqb, ltb-false, le-ltb, le-leb, lt-leb, leb-true}
use lib.Dec.{eqb, leb}
use lib.ListN.{length, get_or, take, drop, replicate}
use Rattle.std.specs.List.{list_all}
use Rattle.std.proofs.lemmas.List.Folds.{list_all_more}
use Rattle.words.specs.Choice.{all_below}
use Rattle.words.specs.Marks.{marked, mark}
use Rattle.words.proofs.Choice.{and_left, and_right}
use Rattle.words.proofs.MarkLaws.{mark_seats}
use Rattle.roll.specs.declared.Roll.{Roll}
use Rattle.roll.specs.Weighing.{large, power_below, named, most_kiosks, most_power, most_total, total_of, roll_fits}

-- two tests that agree on each seat below n weigh the same
pub power_ext : (ps : List ℕ) (f g : ℕ → Bool) (n : ℕ) → ((i : ℕ) → i < n → f i ≡ g i) → power_below ps f n ≡ power_below ps g n
unfolding power_below
power_ext ps f g zero h = refl
power_ext ps f g (suc n) h = rw (power_ext ps f g n (λ i l. h i (omega arith)), h n (omega arith))

-- a test that no seat below n passes weighs nothing
pub power_none : (ps : List ℕ) (f : ℕ → Bool) (n : ℕ) → ((i : ℕ) → i < n → f i ≡ false) → power_below ps f n ≡ 0
unfolding power_below
power_none ps f zero h = refl
power_none ps f (suc n) h = rw (power_none ps f n (λ i l. h i (omega arith)), h n (omega arith))

seat_mono : (a b : Bool) (p : ℕ) → (a ≡ true → b ≡ true) → (if a then p else 0) ≤ (if b then p else 0)
seat_mono false b p h = omega arith
seat_mono true true p h = omega arith
seat_mono true false p h = absurd (false≢true (h refl))

-- a test that more seats pass weighs no less
pub power_mono : (ps : List ℕ) (f g : ℕ → Bool) (n : ℕ) → ((i : ℕ) → i < n → f i ≡ true → g i ≡ true)
    → power_below ps f n ≤ power_below ps g n
unfolding power_below
power_mono ps f g zero h = omega arith
power_mono ps f g (suc n) h =
    omega (arith, power_mono ps f g n (λ i l. h i (omega arith)), seat_mono (f n) (g n) (get_or ps n 0) (h n (omega arith)))

-- where the seats that pass a test are not large, those that pass another too are not
pub large_not : (ps : List ℕ) (f g : ℕ → Bool) (n total : ℕ) {p : ℕ} → p ≡ power_below ps f n → large total p ≡ false
    → large total (power_below ps (λ i. f i && g i) n) ≡ false
large_not ps f g n total e fails =
    let few = ltb-false (2 * total) _ fails in
    let less = power_mono ps (λ i. f i && g i) f n (λ i l. and_left (f i) (g i)) in
    le-ltb (2 * total) _ (omega (arith, e, few, less))

-- a test of each number of a list, the answers joined from the first on
pub all_joined : (test : ℕ → Bool) (fit : Bool) (xs : List ℕ) → fold (λ a x. a && test x) fit xs ≡ (fit && list_all test xs)
all_joined test fit [] = sym (and-true fit)
all_joined test fit (x ∷ xs) = all_joined test (fit && test x) xs ∙ and_assoc fit (test x) (list_all test xs)

-- a test of each of the first n numbers of a list
pub all_first : (test : ℕ → Bool) (n : ℕ) (xs : List ℕ) → n ≤ length xs → list_all test (take n xs) ≡ all_below n (λ i. test (get_or xs i 0))
unfolding all_below
all_first test zero xs h = refl
all_first test (suc n) xs h =
    let l : n < length xs = omega arith in
    rw (← add-one n) (list_all_more test xs n 0 l ∙ ap (λ (b : Bool). b && test (get_or xs n 0)) (all_first test n xs (omega arith)))

-- a step of a test of every seat, and the end of it
pub all_more : (f : ℕ → Bool) (k : ℕ) {b t : Bool} → b ≡ all_below k f → t ≡ f k → (b && t) ≡ all_below (k + 1) f
unfolding all_below
all_more f k e h = rw (add-one, e, h)

-- ---- which seats are named

pass_same : (e f l c : Bool) → (e ≡ true → c ≡ true) → ((e || f) || (l && c)) ≡ (f || ((e || l) && c))
pass_same false f l c h = refl
pass_same true true l c h = refl
pass_same true false l c h = rw (h refl)

pass_other : (e f l c : Bool) → (e ≡ true → c ≡ false) → (f || (l && c)) ≡ (f || ((e || l) && c))
pass_other false f l c h = refl
pass_other true f true c h = refl
pass_other true f false c h = rw (h refl)

-- seat i is passed: the marks m are its own, and those left after it
module _ (cells : List ℕ) (name m left i : ℕ) (others : (j : ℕ) → marked m j ≡ (eqb i j || marked left j)) where
  -- its cell holds the name: it is one of those found
  pub named_same : (found : ℕ) → get_or cells i 0 ≡ name
      → (j : ℕ) → (marked (mark found i) j || named left cells name j) ≡ (marked found j || named m cells name j)
  named_same found same j =
      rw (mark_seats found i j, others j)
      (pass_same (eqb i j) (marked found j) (marked left j) (eqb (get_or cells j 0) name) (λ e. rw (← eqb-true i j e) (eq-eqb _ _ same)))

  -- its cell holds another
  pub named_other : (found : ℕ) → (get_or cells i 0 ≡ name → ⊥)
      → (j : ℕ) → (marked found j || named left cells name j) ≡ (marked found j || named m cells name j)
  named_other found differs j =
      rw (others j)
      (pass_other (eqb i j) (marked found j) (marked left j) (eqb (get_or cells j 0) name) (λ e. rw (← eqb-true i j e) (ne_eqb _ _ differs)))

-- ---- what a roll may be

module _ (r : Roll) where
  pub fits_not_few : r.kiosks < 1 → roll_fits r ≡ false
  unfolding roll_fits
  fits_not_few h = rw (lt-leb 1 r.kiosks h)

  pub fits_not_many : 32 < r.kiosks → roll_fits r ≡ false
  unfolding roll_fits
  fits_not_many h = rw (le-leb 1 r.kiosks (omega arith), lt-leb r.kiosks 32 h)

  pub fits_else : 1 ≤ r.kiosks → r.kiosks ≤ 32
      → roll_fits r ≡ (all_below r.kiosks (λ i. leb (get_or r.powers i 0) most_power) && leb 1 (total_of r) && leb (total_of r) most_total)
  unfolding roll_fits
  fits_else h l = rw (le-leb 1 r.kiosks h, le-leb r.kiosks 32 l)

  -- a roll that fits has 1 to 32 kiosks
  pub fits_count : roll_fits r ≡ true → (1 ≤ r.kiosks) × (r.kiosks ≤ 32)
  unfolding roll_fits
  fits_count e =
      let a = leb 1 r.kiosks in
      let b = leb r.kiosks most_kiosks in
      let c = all_below r.kiosks (λ i. leb (get_or r.powers i 0) most_power) in
      let d = leb 1 (total_of r) in
      let ab = and_left (a && b) c (and_left (a && b && c) d (and_left (a && b && c && d) (leb (total_of r) most_total) e)) in
      (leb-true 1 r.kiosks (and_left a b ab), leb-true r.kiosks most_kiosks (and_right a b ab))

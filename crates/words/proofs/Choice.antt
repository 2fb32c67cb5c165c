-- Laws of choice: an `if`, `&&`, `||`, and the tests over the numbers below a bound. Assumes nothing.
use Rattle.std.specs.Bool.{if◌then◌else◌}
use Prim.Native.Nat.{ℕ, zero, suc, ◌+◌, ◌≤◌, ◌<◌, pred}
use mathlib.Core.Path.{◌≡◌, refl, sym, subst, ◌∙◌}
use mathlib.Core.Bool.{Bool, true, false, ◌&&◌, ◌||◌, false≢true}
use mathlib.Core.Logic.{◌⊎◌, inl, inr, ⊎_elim}
use mathlib.Core.List.{List, [], ◌∷◌}
use native.Mathlib.Nat.{eq-or-lt_of_le}
use native.Mathlib.Numerals.{add-one}
use native.Mathlib.Omega.{arith}
use lib.Dec.{ltb}
use borrow.Author.Tests.{lt-ltb, le-ltb, ltb-true, ltb-false}
use Rattle.words.specs.Choice.{all_below, lowest_below, past_highest_below, first_of}

-- a statement about an `if` is proved at each of its two values, where the test's answer is known
pub by_test {κ} : {A : Type 0} (P : A → Type κ) (b : Bool) {x y : A} → (b ≡ true → P x) → (b ≡ false → P y) → P (if b then x else y)
by_test P true f g = f refl
by_test P false f g = g refl

-- any statement is proved where a test holds, and where it fails
pub by_cases {κ} : {P : Type κ} (b : Bool) → (b ≡ true → P) → (b ≡ false → P) → P
by_cases true f g = f refl
by_cases false f g = g refl

pub and_left : (a b : Bool) → (a && b) ≡ true → a ≡ true
and_left true b e = refl
and_left false b e = e

pub and_right : (a b : Bool) → (a && b) ≡ true → b ≡ true
and_right true b e = e
and_right false b e = absurd (false≢true e)

-- two tests do not both hold, where the second fails if the first holds
pub and_false : (a b : Bool) → (a ≡ true → b ≡ false) → (a && b) ≡ false
and_false true b f = f refl
and_false false b f = refl

pub or_case : (a b : Bool) → (a || b) ≡ true → (a ≡ true) ⊎ (b ≡ true)
or_case true b e = inl refl
or_case false b e = inr e

pub or_so : (a b : Bool) → (a ≡ true) ⊎ (b ≡ true) → (a || b) ≡ true
or_so true b h = refl
or_so false b h = ⊎_elim (λ e. absurd (false≢true e)) (λ e. e) h

-- what `cc` is asked for where two constructors would be equal
pub zero_one : ◌≡◌ {A = ℕ} 0 1 → ⊥
zero_one e = omega arith

-- the first that passes the test does pass it
pub first_passes : (xs : List ℕ) (test : ℕ → Bool) → (first_of xs test ≡ 0 → ⊥) → test (first_of xs test) ≡ true
unfolding first_of
first_passes [] test = λ n. absurd (n refl)
first_passes (x ∷ xs) test =
    by_test (λ (m : ℕ). (m ≡ 0 → ⊥) → test m ≡ true) (test x) (λ e n. e) (λ e n. first_passes xs test n)

-- and so the lowest
pub lowest_passes : (n : ℕ) (p : ℕ → Bool) → lowest_below n p < n → p (lowest_below n p) ≡ true
unfolding lowest_below
lowest_passes zero p = λ h. absurd (omega (arith, h))
lowest_passes (suc k) p =
    by_test (λ (m : ℕ). m < suc k → p m ≡ true) (ltb (lowest_below k p) k)
    (λ e h. lowest_passes k p (ltb-true (lowest_below k p) k e))
    (λ e. by_test (λ (m : ℕ). m < suc k → p m ≡ true) (p k) (λ f h. f) (λ f h. absurd (omega (arith, h))))

-- the highest number that passes the test does pass it, and is below the bound
pub highest_passes : (n : ℕ) (p : ℕ → Bool) → 1 ≤ past_highest_below n p → (p (pred (past_highest_below n p)) ≡ true) × (pred (past_highest_below n p) < n)
unfolding past_highest_below
highest_passes zero p = λ h. absurd (omega (arith, h))
highest_passes (suc k) p =
    by_test (λ (m : ℕ). 1 ≤ m → (p (pred m) ≡ true) × (pred m < suc k)) (p k)
    (λ e h. (e, omega arith))
    (λ e h. let i = highest_passes k p h in (i.0, omega (arith, i.1)))

-- where the test fails at each number below the bound, there is no highest that passes
pub highest_none : (n : ℕ) (p : ℕ → Bool) → ((r : ℕ) → r < n → p r ≡ false) → past_highest_below n p ≡ 0
unfolding past_highest_below
highest_none zero p fails = refl
highest_none (suc k) p fails = rw (fails k (omega arith)) (highest_none k p (λ r h. fails r (omega arith)))

-- above the highest number that passes the test, it fails
pub highest_above : (n : ℕ) (p : ℕ → Bool) (r : ℕ) → past_highest_below n p ≤ r → r < n → p r ≡ false
unfolding past_highest_below
highest_above zero p r = λ h i. absurd (omega arith)
highest_above (suc k) p r =
    by_test (λ (m : ℕ). m ≤ r → r < suc k → p r ≡ false) (p k)
    (λ e h i. absurd (omega arith))
    (λ e h i. ⊎_elim (λ same. rw same e) (λ less. highest_above k p r h less) (eq-or-lt_of_le {n = r} {m = k} (omega arith)))

-- from above: while the test fails, the highest is that below the next bound
pub highest_less : {n : ℕ} (k : ℕ) (p : ℕ → Bool) → n ≡ suc k → p k ≡ false → past_highest_below n p ≡ past_highest_below k p
unfolding past_highest_below
highest_less k p e fails = rw (e, fails)

-- and the first that passes is it
pub highest_found : {n : ℕ} (k : ℕ) (p : ℕ → Bool) → n ≡ suc k → p k ≡ true → past_highest_below n p ≡ n
unfolding past_highest_below
highest_found k p e passes = rw (e, passes)

-- from below: while the test fails, there is no lowest
pub lowest_more : (k : ℕ) (p : ℕ → Bool) → lowest_below k p ≡ k → p k ≡ false → lowest_below (k + 1) p ≡ k + 1
unfolding lowest_below
lowest_more k p none fails = rw (add-one, none, le-ltb k k (omega arith), fails)

-- and the first that passes is it
pub lowest_found : (n k : ℕ) (p : ℕ → Bool) → lowest_below k p ≡ k → p k ≡ true → k < n → lowest_below n p ≡ k
unfolding lowest_below
lowest_found zero k p none passes = λ l. absurd (omega arith)
lowest_found (suc n) k p none passes =
    λ l. ⊎_elim
    (λ same. rw (← same, none, le-ltb k k (omega arith), passes))
    (λ less. rw (lowest_found n k p none passes less, lt-ltb k n less))
    (eq-or-lt_of_le {n = k} {m = n} (omega arith))

-- no number below the lowest passes
pub lowest_least : (n : ℕ) (p : ℕ → Bool) (k : ℕ) → k < n → p k ≡ true → lowest_below n p ≤ k
unfolding lowest_below
lowest_least zero p k l t = absurd (omega arith)
lowest_least (suc n) p k l t =
    by_test (λ (m : ℕ). m ≤ k) (ltb (lowest_below n p) n)
    (λ e. ⊎_elim
    (λ same. omega (arith, same, ltb-true (lowest_below n p) n e))
    (λ less. lowest_least n p k less t)
    (eq-or-lt_of_le {n = k} {m = n} (omega arith)))
    (λ e. ⊎_elim
    (λ same. by_test (λ (m : ℕ). m ≤ k) (p n) (λ f. omega (arith, same)) (λ f. absurd (false≢true (sym f ∙ subst (λ (m : ℕ). p m ≡ true) same t))))
    (λ less. absurd (omega (arith, ltb-false (lowest_below n p) n e, lowest_least n p k less t)))
    (eq-or-lt_of_le {n = k} {m = n} (omega arith)))

-- a test that holds at each number below the bound holds at any one of them
pub all_holds : (n : ℕ) (p : ℕ → Bool) → all_below n p ≡ true → (k : ℕ) → k < n → p k ≡ true
unfolding all_below
all_holds zero p e k h = absurd (omega arith)
all_holds (suc n) p e k h =
    ⊎_elim
    (λ same. rw same (and_right (all_below n p) (p n) e))
    (λ less. all_holds n p (and_left (all_below n p) (p n) e) k less)
    (eq-or-lt_of_le {n = k} {m = n} (omega arith))

-- and one that holds at each of them holds at all
pub all_so : (n : ℕ) (p : ℕ → Bool) → ((k : ℕ) → k < n → p k ≡ true) → all_below n p ≡ true
unfolding all_below
all_so zero p f = refl
all_so (suc n) p f = rw (all_so n p (λ k l. f k (omega arith)), f n (omega arith))

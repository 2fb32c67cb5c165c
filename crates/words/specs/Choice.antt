-- Tests over the numbers below a bound: seats, rounds. Assumes nothing.
use Rattle.std.specs.Prelude.{ℕ, zero, suc, List, [], ◌∷◌, Bool, true, ◌&&◌, ltb, eqb, if◌then◌else◌}

-- the test holds at each number below the bound
unfoldable pub all_below : ℕ → (ℕ → Bool) → Bool
all_below zero test = true
all_below (suc k) test = all_below k test && test k

-- the lowest number below the bound at which the test holds; the bound where there is none
unfoldable pub lowest_below : ℕ → (ℕ → Bool) → ℕ
lowest_below zero test = zero
lowest_below (suc k) test =
    let low = lowest_below k test in
    if ltb low k then low else if test k then k else suc k

-- one more than the highest number below the bound at which the test holds; 0 where there is none
unfoldable pub past_highest_below : ℕ → (ℕ → Bool) → ℕ
past_highest_below zero test = zero
past_highest_below (suc k) test =
    let high = past_highest_below k test in
    if test k then suc k else high

-- the first of some numbers at which the test holds; 0 where there is none
unfoldable pub first_of : List ℕ → (ℕ → Bool) → ℕ
first_of [] test = 0
first_of (x ∷ xs) test =
    let later = first_of xs test in
    if test x then x else later

-- each number of the list is 0
unfoldable pub all_zero : List ℕ → Bool
all_zero [] = true
all_zero (x ∷ xs) = eqb x 0 && all_zero xs

-- To compute with this file: `unfolding the_choices` opens the above.
unfoldable pub the_choices : Unit {0}
unfolding all_below lowest_below past_highest_below first_of all_zero
the_choices = tt

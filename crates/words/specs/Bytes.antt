-- Numbers as bytes, "little-endian" (01, "Journal"); bytes laid over others; bytes held against the expected ones. Assumes nothing.
use Rattle.std.specs.Prelude.{ℕ, zero, suc, ◌+◌, ◌*◌, ◌/◌, ◌%◌, List, [], ◌∷◌, ◌++◌, length, take, drop, eqb, if◌then◌else◌, Result, Ok, Err}
use Rattle.words.specs.declared.Fault.{Fault}
use Rattle.words.specs.declared.Fault.TheVariants.{Unfinished, Damage}

-- x in k bytes, the lowest first
abbrev pub bytes : ℕ → ℕ → List ℕ
bytes zero x = []
bytes (suc k) x = x % 256 ∷ bytes k (x / 256)

-- the number whose bytes, the lowest first, these are
abbrev pub number : List ℕ → ℕ
number [] = 0
number (b ∷ bs) = b + 256 * number bs

-- the images of some things, one after the other
abbrev pub in_order : {A : Type 0} → (A → List ℕ) → List A → List ℕ
in_order image [] = []
in_order image (a ∷ as') = image a ++ in_order image as'

-- the list with `part` in place of what stands from place `at` on; what is after it stays
abbrev pub overwrite : List ℕ → ℕ → List ℕ → List ℕ
overwrite l at part = take at l ++ (part ++ drop (at + length part) l)

-- "must equal the expected ones as far as they go; too few means unfinished": bytes found, and bytes expected
unfoldable pub compared : List ℕ → List ℕ → Result (Unit {0}) Fault
compared found [] = Ok tt
compared [] (w ∷ expected) = Err Unfinished
compared (b ∷ found) (w ∷ expected) =
    let later = compared found expected in
    if eqb b w then later else Err Damage

-- A word of digits, byte by byte. Assumes nothing.
use Rattle.std.specs.Prelude.{ℕ, List, [], ◌∷◌, Bool, true, false, not, ◌&&◌, leb, eqb, if◌then◌else◌, Option, Some, None}
use Rattle.lines.specs.Reading.{said}

abbrev pub is_digit : ℕ → Bool
is_digit b = leb 48 b && leb b 57

unfoldable pub all_digits : List ℕ → Bool
all_digits [] = true
all_digits (b ∷ word) = is_digit b && all_digits word

-- not empty, and with no zero before another digit
unfoldable pub plain : List ℕ → Bool
plain [] = false
plain (b ∷ []) = true
plain (b ∷ c ∷ word) = not (eqb b 48)

-- the number that a word of digits says, up to `most`
unfoldable pub digits_word : ℕ → List ℕ → Option ℕ
digits_word most word = if leb (said word) most && all_digits word then Some (said word) else None

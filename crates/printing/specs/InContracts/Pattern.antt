-- A line's pattern: some bytes are marks, each of which stands for a number of a list; any other byte stands for itself.
-- Assumes nothing.
use Rattle.std.specs.Prelude.{ℕ, Bool, ◌||◌, List, [], ◌∷◌, ◌++◌, eqb, get_or, drop, if◌then◌else◌}
use Rattle.listing.specs.Text.{decimal, valid_round, input_word, output_word}

-- `%` a number, `#` a valid round in its plus-one form, `<` the word of an input's kind, `>` the word of an output's
abbrev pub number_mark : ℕ
number_mark = 37

abbrev pub valid_mark : ℕ
valid_mark = 35

abbrev pub input_mark : ℕ
input_mark = 60

abbrev pub output_mark : ℕ
output_mark = 62

-- what a byte of a pattern stands for, where the next number is x
unfoldable pub piece : ℕ → ℕ → List ℕ
piece byte x =
    if eqb byte number_mark then decimal x
    else if eqb byte valid_mark then valid_round x
    else if eqb byte input_mark then input_word x
    else if eqb byte output_mark then output_word x
    else byte ∷ []

-- how many numbers a byte takes
abbrev pub is_mark : ℕ → Bool
is_mark byte = eqb byte number_mark || eqb byte valid_mark || eqb byte input_mark || eqb byte output_mark

unfoldable pub taken : ℕ → ℕ
taken byte = if is_mark byte then 1 else 0

-- a pattern with its numbers, in order
unfoldable pub filled : List ℕ → List ℕ → List ℕ
filled [] numbers = []
filled (byte ∷ pattern) numbers = piece byte (get_or numbers 0 0) ++ filled pattern (drop (taken byte) numbers)

-- To compute with this file: `unfolding the_pattern` opens the above.
unfoldable pub the_pattern : Unit {0}
unfolding piece taken filled
the_pattern = tt

-- What a line of text reads as: an input, where it is exactly that input's words as the lister writes them. 01, "Whole listing".
-- Assumes nothing.
use Rattle.std.specs.Prelude.{ℕ, suc, ◌+◌, ◌*◌, ◌-◌, ◌≤◌, ◌≡◌, List, [], ◌∷◌, ◌++◌, Bool, true, false, ◌&&◌, leb, ltb, eqb, if◌then◌else◌, Option, Some, None, option_map}
use Rattle.words.specs.Choice.{first_of}
use Rattle.roll.specs.declared.Height.{Height}
use Rattle.rules.specs.declared.Input.{Input}
use Rattle.listing.specs.Text.{space, decimal, valid_round, input_word}

-- ## The words of an input

-- words with a space between them
unfoldable pub spaced : List (List ℕ) → List ℕ
spaced [] = []
spaced (w ∷ []) = w
spaced (w ∷ v ∷ ws) = w ++ (space ∷ spaced (v ∷ ws))

-- the lister's call line of an input, without its place and newline
abbrev pub input_words : Input → List ℕ
input_words i =
    spaced
    (input_word i.kind ∷
    decimal i.sender ∷
    decimal i.round.0 ∷
    decimal i.name ∷
    valid_round i.valid.0 ∷
    decimal i.verdict ∷
    decimal i.offer ∷
    [])

-- the highest number of a byte, and of 64 bits
abbrev pub most_8 : ℕ
most_8 = 255

abbrev pub most_64 : ℕ
most_64 = 18446744073709551615

-- the kind has a word, and every field fits its byte or its 64 bits
pub record Fits (i : Input) : Type 0 where
  pub kind_from : 1 ≤ i.kind
  pub kind_to : i.kind ≤ 7
  pub sender : i.sender ≤ most_8
  pub round : i.round.0 ≤ most_8
  pub name : i.name ≤ most_64
  pub valid : i.valid.0 ≤ most_8
  pub verdict : i.verdict ≤ most_8
  pub offer : i.offer ≤ most_64

-- ## The words of a line

-- the bytes before the first space, and those after it
unfoldable pub first_word : List ℕ → List ℕ
first_word [] = []
first_word (b ∷ line) =
    let later = first_word line in
    if eqb b space then [] else b ∷ later

unfoldable pub after_word : List ℕ → List ℕ
after_word [] = []
after_word (b ∷ line) =
    let later = after_word line in
    if eqb b space then line else later

-- two words are the same
unfoldable pub same : List ℕ → List ℕ → Bool
same [] [] = true
same [] (c ∷ v) = false
same (b ∷ w) [] = false
same (b ∷ w) (c ∷ v) = eqb b c && same w v

-- ## A word as a number

-- the number that digits say, the highest first
unfoldable pub said_on : ℕ → List ℕ → ℕ
said_on x [] = x
said_on x (b ∷ word) = said_on (10 * x + (b - 48)) word

abbrev pub said : List ℕ → ℕ
said word = said_on 0 word

-- a number in decimal, up to `most`: what the word says is written as the word is
unfoldable pub number_word : ℕ → List ℕ → Option ℕ
number_word most word = if leb (said word) most && same word (decimal (said word)) then Some (said word) else None

-- a valid round, in its plus_one form: -1 is none
unfoldable pub valid_word : List ℕ → Option ℕ
valid_word word = if same word (valid_round 0) then Some 0 else option_map suc (number_word 254 word)

-- the kind whose word it is; 0 where there is none
unfoldable pub kind_of : List ℕ → ℕ
kind_of word = first_of (1 ∷ 2 ∷ 3 ∷ 4 ∷ 5 ∷ 6 ∷ 7 ∷ []) (λ kind. same word (input_word kind))

abbrev pub kind_word : List ℕ → Option ℕ
kind_word word = if ltb 0 (kind_of word) then Some (kind_of word) else None

-- ## A line as an input

-- where each field is a number
unfoldable pub gathered : Height → Option ℕ → Option ℕ → Option ℕ → Option ℕ → Option ℕ → Option ℕ → Option ℕ → Option Input
gathered height (Some kind) (Some sender) (Some round) (Some name) (Some valid) (Some verdict) (Some offer) =
    Some record {
      kind = kind;
      height = height;
      sender = sender;
      round = record { 0 = round };
      valid = record { 0 = valid };
      verdict = verdict;
      name = name;
      offer = offer;
    }
gathered height kind sender round name valid verdict offer = None

-- `KIND SENDER ROUND NAME VALID VERDICT OFFER`; the offer is all that is left
unfoldable pub parsed : List ℕ → Height → Option Input
parsed line height =
    let from_sender = after_word line in
    let from_round = after_word from_sender in
    let from_name = after_word from_round in
    let from_valid = after_word from_name in
    let from_verdict = after_word from_valid in
    let offer = after_word from_verdict in
    gathered height
    (kind_word (first_word line))
    (number_word most_8 (first_word from_sender))
    (number_word most_8 (first_word from_round))
    (number_word most_64 (first_word from_name))
    (valid_word (first_word from_valid))
    (number_word most_8 (first_word from_verdict))
    (number_word most_64 offer)

-- ## What is proved of it: exactly the words of inputs are read

pub record Exact (reads : List ℕ → Height → Option Input) : Type 0 where
  -- an input's words are read as that input
  pub back : (i : Input) → Fits i → reads (input_words i) i.height ≡ Some i
  -- a line that is read is the words of the input that it is read as; any other is none
  pub only : (line : List ℕ) (height : Height) (i : Input) → reads line height ≡ Some i → line ≡ input_words i
  pub fits : (line : List ℕ) (height : Height) (i : Input) → reads line height ≡ Some i → Fits i
  pub same_height : (line : List ℕ) (height : Height) (i : Input) → reads line height ≡ Some i → i.height ≡ height

-- To compute with this file: `unfolding the_reading` opens the above.
unfoldable pub the_reading : Unit {0}
unfolding spaced first_word after_word same said_on number_word valid_word kind_of gathered parsed
the_reading = tt

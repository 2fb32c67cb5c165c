-- Powers: the total, "large" and "some", whose turn a round is, and what a roll may be. 01, "Weighing", "Numbers" and the house rule on
-- the proposer. Assumes nothing.
use Rattle.std.specs.Prelude.{ℕ, zero, suc, ◌+◌, ◌*◌, ◌-◌, ◌%◌, Bool, true, ◌&&◌, List, ◌++◌, get_or, length, replicate, ltb, leb, eqb, if◌then◌else◌}
use Rattle.roll.specs.declared.Roll.{Roll}
use Rattle.words.specs.Choice.{all_below}
use Rattle.words.specs.Marks.{marked}

-- "a set with power P is large when 3P > 2T and some when 3P > T"
abbrev pub large : ℕ → ℕ → Bool
large total power = ltb (2 * total) (3 * power)

abbrev pub some : ℕ → ℕ → Bool
some total power = ltb total (3 * power)

-- "Each sender counts once in a set": the power of the seats below a number that the test counts
unfoldable pub power_below : List ℕ → (ℕ → Bool) → ℕ → ℕ
power_below powers counts zero = zero
power_below powers counts (suc i) = power_below powers counts i + (if counts i then get_or powers i 0 else 0)

-- seat i is marked, and its cell holds the name
abbrev pub named : ℕ → List ℕ → ℕ → ℕ → Bool
named marks cells name i = marked marks i && eqb (get_or cells i 0) name

-- the power of the seats on the roll that the test counts
abbrev pub power_of : Roll → (ℕ → Bool) → ℕ
power_of roll counts = power_below roll.powers counts roll.kiosks

-- the total T of the roll
abbrev pub total_of : Roll → ℕ
total_of roll = power_of roll (λ i. true)

-- "Proposer of (h, r): kiosk (h + r) mod n"
abbrev pub proposer : Roll → ℕ → ℕ
proposer roll r = (roll.height.0 + r) % roll.kiosks

-- "1 to 32 kiosks; power 0 to 1,000 each, total 1 to 32,000"
abbrev pub most_kiosks : ℕ
most_kiosks = 32

abbrev pub most_power : ℕ
most_power = 1000

abbrev pub most_total : ℕ
most_total = 32000

unfoldable pub roll_fits : Roll → Bool
roll_fits roll =
    leb 1 roll.kiosks &&
    leb roll.kiosks most_kiosks &&
    all_below roll.kiosks (λ i. leb (get_or roll.powers i 0) most_power) &&
    leb 1 (total_of roll) &&
    leb (total_of roll) most_total

-- the own number is on the roll
abbrev pub own_fits : Roll → Bool
own_fits roll = ltb roll.own roll.kiosks

-- the roll of some powers, one kiosk each; the places past them hold 0
abbrev pub roll_with : List ℕ → ℕ → ℕ → Roll
roll_with powers own height = record {
  kiosks = length powers;
  powers = powers ++ replicate (most_kiosks - length powers) 0;
  own = own;
  height = record { 0 = height };
}

-- To compute with this file: `unfolding the_weighing` opens the above.
unfoldable pub the_weighing : Unit {0}
unfolding power_below roll_fits
the_weighing = tt

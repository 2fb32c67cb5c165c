-- The invariant of `lines::numbers::digits`: what the word says is said by the value and what is left. Assumes nothing.
use Rattle.std.proofs.Common.{◌≤◌, ◌≡◌, drop}
use Rattle.lines.specs.Reading.{said, said_on}
use Rattle.lines.specs.InContracts.Digits.{all_digits}
use Rattle.lines.proofs.numbers.digits.Given as goal

abbrev pub invariant-loop-byte : goal.invariant-loop-byte
invariant-loop-byte l =
    (l.value ≤ l.most)
    × (said l.word ≡ said_on l.value (drop l.byte-index l.word))
    × (all_digits l.word ≡ all_digits (drop l.byte-index l.word))

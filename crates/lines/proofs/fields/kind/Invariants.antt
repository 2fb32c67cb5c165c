-- The invariant of `lines::fields::kind`: the word is of no kind before this one. Assumes nothing.
use Rattle.std.proofs.Common.{◌≡◌, ◌≤◌, ◌<◌, ℕ, false}
use Rattle.listing.specs.Text.{input_word}
use Rattle.lines.specs.Reading.{same}
use Rattle.lines.proofs.fields.kind.Given as goal

abbrev pub invariant-loop-kind : goal.invariant-loop-kind
invariant-loop-kind l = (k : ℕ) → 1 ≤ k → k < l.kind → same l.word (input_word k) ≡ false

-- The goals of `lines::numbers::byte`. Assumes nothing.
use Rattle.std.proofs.Common.{sym, ◌∙◌}
use native.Mathlib.Omega.{arith}
use Rattle.lines.specs.Reading.{most_8}
use Rattle.lines.proofs.Decimals.{number_written}
use Rattle.lines.proofs.numbers.byte.Goals as goal

pub overflow_cast-result : goal.overflow_cast-result
overflow_cast-result c = let h = number_written most_8 c.args.word.now c.in_ok-value.value (sym c.number.ensures ∙ c.in_ok-value.was) in omega (arith, h.0)

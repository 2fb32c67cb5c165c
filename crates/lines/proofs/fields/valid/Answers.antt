-- The goals of `lines::fields::valid`. Assumes nothing.
use Rattle.std.proofs.Common.{sym, ◌∙◌}
use native.Mathlib.Omega.{arith}
use Rattle.lines.proofs.Decimals.{number_written}
use Rattle.lines.proofs.fields.valid.Goals as goal

pub overflow_cast-result : goal.overflow_cast-result
overflow_cast-result c = let h = number_written 254 c.args.word.now c.in_ok-round.round (sym c.number.ensures ∙ c.in_ok-round.was) in omega (arith, h.0)

pub overflow_add-result : goal.overflow_add-result
overflow_add-result c = let h = number_written 254 c.args.word.now c.in_ok-round.round (sym c.number.ensures ∙ c.in_ok-round.was) in omega (arith, h.0)

-- `roll::Roll::is_large_named` meets its contract: where the seats marked are not large, no names are read. Assumes nothing.
use mathlib.Core.Path.{sym, ◌∙◌}
use Rattle.roll.proofs.Weighing.{large_not}
use Rattle.roll.proofs.Roll.is_large_named.Goals as goal

pub returns-else-is_large : goal.returns-else-is_large
returns-else-is_large c =
    c.if-is_large.false ∙ sym (large_not _ _ _ _ _ c.weigh.ensures (sym c.is_large.ensures ∙ c.if-is_large.false))

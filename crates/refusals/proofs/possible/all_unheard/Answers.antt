-- `refusals::possible::all_unheard` meets its contract. Assumes nothing.
use Rattle.std.proofs.Common.{refl, sym, ◌∙◌}
use Rattle.words.specs.Choice.{all_below}
use Rattle.roll.proofs.Weighing.{all_more}
use Rattle.refusals.proofs.Judging.{all_not}
use Rattle.refusals.proofs.possible.all_unheard.Goals as goal

pub loop-r-init : goal.loop-r-init
unfolding all_below
loop-r-init c = refl

pub returns-then-not-is_unheard : goal.returns-then-not-is_unheard
returns-then-not-is_unheard c = all_not 16 _ c.loop-r.r c.loop-r-test.true (rw c.heard.ensures at (sym c.is_unheard.ensures ∙ c.if-not-is_unheard.true))

pub loop-r-preserved : goal.loop-r-preserved
loop-r-preserved c = sym (all_more _ _ (sym c.loop-r.invariant) (sym (rw c.heard.ensures at (sym c.is_unheard.ensures ∙ c.if-not-is_unheard.false))))

-- `refusals::possible::rounds_fit` meets its contract. Assumes nothing.
use Rattle.std.proofs.Common.{refl, sym, ◌∙◌}
use Rattle.words.specs.Choice.{all_below}
use Rattle.roll.proofs.Weighing.{all_more}
use Rattle.refusals.proofs.Judging.{all_not}
use Rattle.refusals.proofs.possible.rounds_fit.Goals as goal

pub loop-r-init : goal.loop-r-init
unfolding all_below
loop-r-init c = refl

pub returns-then-not-round_fits : goal.returns-then-not-round_fits
returns-then-not-round_fits c = all_not 16 _ c.loop-r.r c.loop-r-test.true (sym c.round_fits.ensures ∙ c.if-not-round_fits.true)

pub loop-r-preserved : goal.loop-r-preserved
loop-r-preserved c = sym (all_more _ _ (sym c.loop-r.invariant) (sym (sym c.round_fits.ensures ∙ c.if-not-round_fits.false)))

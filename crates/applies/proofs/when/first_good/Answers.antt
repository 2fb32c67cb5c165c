-- `applies::when::first_good` meets its contract: a round without a good proposal has no sheet to settle. Assumes nothing.
use Rattle.std.proofs.Common.{refl, sym, ◌∙◌}
use Rattle.words.specs.Choice.{lowest_below}
use Rattle.words.proofs.Choice.{lowest_more}
use Rattle.rules.specs.declared.Votes.TheVariants.{Precommits}
use Rattle.rules.specs.Rules.{closing_sheet}
use Rattle.rules.specs.InContracts.Lent.{shown}
use Rattle.applies.proofs.Applies.{sheet_bad}
use Rattle.applies.proofs.when.first_good.Goals as goal

pub loop-r-init : goal.loop-r-init
unfolding lowest_below
loop-r-init c = refl

pub loop-r-preserved : goal.loop-r-preserved
unfolding closing_sheet
loop-r-preserved c =
    lowest_more c.loop-r.r _ c.loop-r.invariant
    (rw (sheet_bad Precommits (shown c.args.d.now) c.loop-r.r (rw c.heard.ensures at (sym c.is_good.ensures ∙ c.if-is_good.false))))

-- `applies::when::closing` meets its contract. Assumes nothing.
use Rattle.std.proofs.Common.{◌≡◌, sym, ◌∙◌, arith}
use Rattle.words.proofs.Choice.{lowest_more, lowest_found}
use Rattle.rules.specs.Rules.{closing_sheet, closing_round}
use Rattle.applies.proofs.Chooses.{named_some, named_none}
use Rattle.applies.proofs.when.closing.Goals as goal

pub loop-r-init : goal.loop-r-init
loop-r-init c = c.first_good-r.ensures.none_before

pub returns-in-Some : goal.returns-in-Some
unfolding closing_round closing_sheet
returns-in-Some c =
    let sheet = named_some _ (sym c.closing_sheet.ensures ∙ c.in-Some.is) in
    (lowest_found 16 c.loop-r.r _ c.loop-r.invariant sheet.0 c.loop-r-test.true, c.loop-r-test.true, sheet.1)

pub loop-r-preserved : goal.loop-r-preserved
unfolding closing_sheet
loop-r-preserved c = lowest_more c.loop-r.r _ c.loop-r.invariant (named_none _ (sym c.closing_sheet.ensures ∙ c.in_default.is))

pub returns : goal.returns
unfolding closing_round
returns c = let end : c.loop-r.r ≡ 16 = omega arith in rw end at c.loop-r.invariant

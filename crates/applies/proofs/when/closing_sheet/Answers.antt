-- `applies::when::closing_sheet` meets its contract: a round without a good proposal, or without large precommits, has none. Assumes nothing.
use Rattle.std.proofs.Common.{sym, ◌∙◌}
use Rattle.rules.specs.declared.Votes.TheVariants.{Precommits}
use Rattle.rules.specs.Rules.{closing_sheet}
use Rattle.rules.specs.InContracts.Lent.{shown}
use Rattle.applies.proofs.Applies.{sheet_bad, sheet_none}
use Rattle.applies.proofs.when.closing_sheet.Goals as goal
use Rattle.applies.proofs.when.closing_sheet.Goals.{else-is_good-via-then-is_good+else-is_large, else-is_good-via-else-is_good}

pub returns-then-is_large : goal.returns-then-is_large
unfolding closing_sheet
returns-then-is_large c = c.large_sheet.ensures

pub returns-else-is_good : goal.returns-else-is_good
unfolding closing_sheet
returns-else-is_good c =
    let d = shown c.args.d.now in
    elim c.else-is_good.branch [
      | else-is_good-via-then-is_good+else-is_large w ↦ rw (sheet_none Precommits d c.args.r.0 (sym w.is_large.ensures ∙ w.if-is_large.false))
      | else-is_good-via-else-is_good w ↦ rw (sheet_bad Precommits d c.args.r.0 (rw c.heard.ensures at (sym c.is_good.ensures ∙ w.if-is_good.false)))
    ]

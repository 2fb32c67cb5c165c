-- `applies::when::sheet_to_back` meets its contract. Assumes nothing.
use Rattle.std.proofs.Common.{◌≡◌, false, ◌∙◌, rules}
use Rattle.rules.specs.State.{is_propose}
use Rattle.rules.specs.Doing.{step}
use Rattle.rules.specs.Rules.{backed_sheet}
use Rattle.rules.specs.InContracts.Lent.{shown}
use Rattle.applies.proofs.Applies.{backed_so}
use Rattle.applies.proofs.when.sheet_to_back.Goals as goal

pub returns : goal.returns
unfolding backed_sheet
returns c =
    let past : is_propose (step (shown c.args.d.now)) ≡ false = search rules in
    c.large_sheet.ensures ∙ backed_so (shown c.args.d.now) past c.if-stand.false

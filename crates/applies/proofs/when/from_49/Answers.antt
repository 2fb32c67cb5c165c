-- `applies::when::from_49` meets its contract. Assumes nothing.
use Rattle.std.proofs.Common.{sym}
use Rattle.rules.specs.InContracts.Lent.{shown}
use Rattle.applies.proofs.Chooses.{far_49, far_rest}
use Rattle.applies.proofs.when.from_49.Goals as goal

pub returns-in-Some : goal.returns-in-Some
returns-in-Some c = sym (far_49 (shown c.args.d.now) c.in-Some.ensures)

pub returns : goal.returns
returns c = far_rest (shown c.args.d.now) c.calling.result c.map.result c.in_default.ensures c.calling.ensures c.map.ensures.cases

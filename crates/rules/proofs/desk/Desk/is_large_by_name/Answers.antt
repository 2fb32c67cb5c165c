-- `rules::desk::Desk::is_large_by_name` meets its contract: the total is the roll's. Assumes nothing.
use Rattle.rules.specs.InContracts.Lent.{shown}
use Rattle.rules.proofs.Powers.{names_weigh}
use Rattle.rules.proofs.desk.Desk.is_large_by_name.Goals as goal

pub returns : goal.returns
returns c =
    let d = shown c.args.self.now in
    rw (c.is_large.ensures, c.weigh_named.ensures, c.requires.0.1, c.marks.ensures, c.heard.ensures, c.voted.ensures.value, names_weigh c.args.v d c.args.r.0 c.args.name c.requires.0.0.few_kiosks)

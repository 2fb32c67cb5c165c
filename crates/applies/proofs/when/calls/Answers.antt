-- `applies::when::calls` meets its contract. Assumes nothing.
use Rattle.std.proofs.Common.{sym, ◌∙◌}
use Rattle.rules.specs.InContracts.Lent.{shown}
use Rattle.applies.proofs.Chooses.{unheard_calls_not, calls_so}
use Rattle.applies.proofs.Weighs.{senders_weigh}
use Rattle.applies.proofs.when.calls.Goals as goal

pub returns-then-not-is_unheard : goal.returns-then-not-is_unheard
returns-then-not-is_unheard c =
    let d = shown c.args.d.now in
    rw (calls_so d c.args.r.0 c.requires.2, c.is_some.ensures, c.requires.0.1, senders_weigh d c.args.r.0 c.heard-h.ensures c.proposer.ensures c.senders.ensures c.weigh.ensures)

pub returns-else-not-is_unheard : goal.returns-else-not-is_unheard
returns-else-not-is_unheard c =
    rw (c.if-not-is_unheard.false, unheard_calls_not (shown c.args.d.now) c.args.r.0 (rw c.heard-h.ensures at (sym c.is_unheard.ensures ∙ c.if-not-is_unheard.false)))

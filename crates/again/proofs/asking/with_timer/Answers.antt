-- `again::asking::with_timer` meets its contract. Assumes nothing.
use mathlib.Core.Path.{ap, ◌∙◌}
use Rattle.rules.specs.declared.Output.{Output}
use Rattle.rules.specs.Doing.{output}
use Rattle.rules.specs.Sent.{with_output}
use Rattle.again.specs.InContracts.Lists.{Takes}
use Rattle.again.proofs.Growing.{given, given_room, given_sent}
use Rattle.again.proofs.asking.with_timer.Goals as goal
use Rattle.again.proofs.asking.with_timer.Goals.{After-is_open}

pub is_open-requires : goal.is_open-requires
is_open-requires c = c.requires.0

-- the output that asks, and that the list takes it
abbrev asks : After-is_open → Output
asks o = output o.from.result o.args.course.progress.stand.round.0 0 0

taken : (o : After-is_open) → Takes o.args.list (given o.is_open.result (asks o))
taken o = rw (o.is_open.ensures, o.from.ensures) o.requires.1

pub send-requires : goal.send-requires
send-requires c =
    let o = (goal.at.send-requires c).After-is_open in
    rw c.then_some.ensures (given_room _ c.is_open.result (asks o) (taken o))

pub returns : goal.returns
returns c =
    let a = c.args in
    let o = (goal.at.returns c).After-is_open in
    let e = c.send.ensures ∙ ap (λ q. with_output q a.list) c.then_some.ensures ∙ given_sent a.list c.is_open.result (asks o) (taken o) in
    rw (c.is_open.ensures, c.from.ensures) at e

-- The goals of `saying::again_text`: the lists given are both lists of the journal. Assumes nothing.
use Rattle.std.proofs.Common.{arith, ◌∙◌}
use Rattle.saying.specs.Saying.{woken}
use Rattle.saying.proofs.Rooms.{unpacked}
use Rattle.saying.proofs.again_text.Goals as goal

pub returns : goal.returns
returns c =
    let a = c.args in
    let b = a.journal.now in
    let given = c.requires.1 in
    let messages = c.outputs.ensures ∙ unpacked (woken b).messages a.messages given.messages_are given.few_messages in
    let timers = c.outputs-2.ensures ∙ unpacked (woken b).timers a.timers given.timers_are (omega (arith, given.few_timers)) in
    rw (messages, timers) at c.lists_text.ensures

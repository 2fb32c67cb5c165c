-- `firing::fire::work` meets its contract: a message, or start and the timers, and then firing, by the laws of a call's beginning. Assumes nothing.
use mathlib.Core.Path.{sym, ◌∙◌}
use Rattle.firing.proofs.Fires.{own_seat}
use Rattle.firing.proofs.Turns.{if_some, if_both}
use Rattle.firing.proofs.Begins.{no_outputs, none_long, none_written, message_fires, message_leaves, begin_fires, begin_leaves}
use Rattle.firing.proofs.fire.work.Goals as goal

pub hear-requires : goal.hear-requires
hear-requires c =
    let w = c.requires.0 in
    (w.readable.round, w.readable.sender, none_written c.requires.1 w.ready.places)

pub fire-requires : goal.fire-requires
fire-requires c =
    let p = c.requires in
    let w = p.0 in
    (rw w.offered (message_fires _ _ _ w.ready w.readable w.few c.none.ensures p.1 (sym c.is_message.ensures ∙ c.if-is_message.true) c.hear.ensures.puts), w.sums)

pub returns-then-is_message-clause-leaves : goal.returns-then-is_message-clause-leaves
returns-then-is_message-clause-leaves c =
    let p = c.requires in
    let w = p.0 in
    message_leaves _ _ _ w.ready w.readable w.few c.none.ensures p.1 (sym c.is_message.ensures ∙ c.if-is_message.true) c.hear.ensures.puts (rw w.offered at c.fire.ensures.leaves)

pub begin-act-requires : goal.begin-act-requires
begin-act-requires c =
    let w = c.requires.0 in
    (w.ready.round, w.ready.some_kiosks, w.offered, w.readable, sym c.is_message.ensures ∙ c.if-is_message.false)

pub hear_own-requires : goal.hear_own-requires
hear_own-requires c =
    let begun = c.begin-act in
    let p = c.requires in
    let ready = p.0.ready in
    (own_seat _ _ ready, if_both begun.result.output _ begun.ensures.round_lt_most_rounds (if_some _ (none_written p.1 ready.places)) (λ w. w), none_long p.1)

pub send-requires : goal.send-requires
send-requires c = λ e. no_outputs c.none-2.ensures

pub fire-requires-2 : goal.fire-requires-2
fire-requires-2 c =
    let p = c.requires in
    let w = p.0 in
    let begun = c.begin-act in
    (rw w.offered (begin_fires _ _ _ w.ready w.readable w.few c.none-2.ensures p.1 begun.result begun.ensures.does_for c.hear_own.ensures.puts c.send.ensures), w.sums)

pub returns-clause-leaves : goal.returns-clause-leaves
returns-clause-leaves c =
    let p = c.requires in
    let w = p.0 in
    let begun = c.begin-act in
    begin_leaves _ _ _ w.ready w.readable w.few c.none-2.ensures p.1 begun.result begun.ensures.does_for c.hear_own.ensures.puts c.send.ensures (rw w.offered at c.fire-2.ensures.leaves)

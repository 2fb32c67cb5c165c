-- The goals of `firing::fire::fire`: each call of a turn, and each return, by the laws of firing.
use native.Mathlib.Omega.{arith}
use Rattle.firing.proofs.Turns.{some_so}
use Rattle.firing.proofs.Fires.{found_fits, own_seat, ends_none_left, ends_no_rule, room_to_send, room_to_say, firing_next, leaves_next}
use Rattle.firing.proofs.fire.+fire.Goals as goal

pub returns-then-left-eq0-clause-leaves : goal.returns-then-left-eq0-clause-leaves
returns-then-left-eq0-clause-leaves t c = ends_none_left _ _ _ _ _ _ _ _ c.requires.0 c.if-left-eq0.true

pub returns-in_default-clause-leaves : goal.returns-in_default-clause-leaves
returns-in_default-clause-leaves t c = ends_no_rule _ _ _ _ _ _ _ _ c.requires.0 c.in_default.ensures

pub act_on-act-requires : goal.act_on-act-requires
act_on-act-requires t c = (c.requires.0.ready, found_fits _ _ _ c.in-Some.ensures, c.requires.1)

pub hear_own-requires : goal.hear_own-requires
hear_own-requires t c =
    let f = c.requires.0 in
    let act = c.act_on-act in (
      own_seat _ _ f.ready,
      room_to_say _ _ _ _ _ _ _ _ _ act.result f c.if-left-eq0.false c.in-Some.ensures act.ensures.does_at act.ensures.round_lt_most_rounds,
      f.long,
    )

pub send-so_far-requires : goal.send-so_far-requires
send-so_far-requires t c =
    let act = c.act_on-act in
    some_so act.result.output (room_to_send _ _ _ _ _ _ _ _ _ act.result c.requires.0 c.if-left-eq0.false c.in-Some.ensures act.ensures.does_at)

pub fire-requires : goal.fire-requires
fire-requires t c =
    let act = c.act_on-act in (
      omega arith,
      (
        firing_next _ _ _ _ _ _ _ _ _ act.result c.requires.0 c.if-left-eq0.false c.in-Some.ensures act.ensures.does_at c.hear_own.ensures.puts c.send-so_far.ensures,
        c.requires.1,
      ),
    )

pub returns-clause-leaves : goal.returns-clause-leaves
returns-clause-leaves t c =
    let act = c.act_on-act in
    leaves_next _ _ _ _ _ _ _ _ _ act.result c.requires.0 c.if-left-eq0.false c.in-Some.ensures act.ensures.does_at c.hear_own.ensures.puts c.send-so_far.ensures c.fire.ensures.leaves

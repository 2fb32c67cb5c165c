-- `again::asking::is_open` meets its contract. Assumes nothing.
use Rattle.again.specs.Again.{is_open}
use Rattle.again.proofs.asking.is_open.Goals as goal

pub judged_possible-requires : goal.judged_possible-requires
judged_possible-requires c = c.requires.0

pub returns : goal.returns
unfolding is_open
returns c =
    rw (c.is_accepted.ensures, c.judged_possible.ensures, c.timer_now-i.ensures, c.requires.1)

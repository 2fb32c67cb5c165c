-- The desk that the code's lent parts show. Assumes nothing.
use Rattle.std.specs.Prelude.{◌≡◌}
use Rattle.roll.specs.Weighing.{total_of}
use Rattle.rules.specs.declared.desk.Desk as lent
use Rattle.rules.specs.State.{state_of}
use Rattle.rules.specs.Log.{Desk, desk}
use Rattle.rules.specs.InContracts.Ready.{Ready}

abbrev pub shown : lent.Desk → Desk
shown d = desk (state_of d.roll.now d.progress.now d.log.now) d.table.now

-- it is one that the rules can rely on
abbrev pub Able : lent.Desk → Type 0
Able d = Ready (shown d).state (shown d).table

-- and its total is that of the roll, so that they can weigh
abbrev pub Weighs : lent.Desk → Type 0
Weighs d = Able d × (d.total.0 ≡ total_of d.roll.now)

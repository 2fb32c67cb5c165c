-- Parts of the refusals that functions of the code answer by themselves. Only the code's contracts are written in this file. Assumes
-- nothing.
use Rattle.std.specs.Prelude.{Bool, ◌&&◌, length, eqb, ltb, if◌then◌else◌}
use Rattle.roll.specs.Weighing.{roll_fits, own_fits}
use Rattle.rules.specs.State.{settled_round}
use Rattle.rules.specs.Log.{Desk, table_length}
use Rattle.rules.specs.Doing.{current}
use Rattle.refusals.specs.declared.Answer.{Answer}
use Rattle.refusals.specs.declared.Answer.TheVariants.{HeardSame, HeardOther}

-- refusal 1, the tests that the others rely on: the roll, the own number, the table's length, and rounds that there are
abbrev pub numbers_fit : Desk → Bool
numbers_fit d =
    roll_fits d.state.roll &&
    own_fits d.state.roll &&
    eqb (length d.table) table_length &&
    ltb (current d) d.rounds &&
    ltb (settled_round d.state.progress.phase) d.rounds

-- refusals 8 and 9, by whether the place that is heard holds the same
abbrev pub heard_already : Bool → Answer
heard_already same = if same then HeardSame else HeardOther

-- What a kiosk can still do in its current round, counted: the steps to go, the two timers not asked for yet, and settling. The laws of
-- ending and of room count by it, and no promise speaks of it. Assumes nothing.
use Rattle.std.specs.Prelude.{ℕ, ◌+◌, Bool, true, false}
use Rattle.rules.specs.declared.Phase.{Phase}
use Rattle.rules.specs.declared.Phase.TheVariants.{Fresh, Running, Settled}
use Rattle.rules.specs.declared.Step.{Step}
use Rattle.rules.specs.declared.Step.TheVariants.{Propose, Prevote, Precommit}
use Rattle.rules.specs.Log.{Desk}

-- the votes that a step has before it, a mark that is not set yet, and a height that has not ended
abbrev pub steps_left : Step → ℕ
steps_left Propose = 2
steps_left Prevote = 1
steps_left Precommit = 0

abbrev pub unless : Bool → ℕ
unless true = 0
unless false = 1

abbrev pub run_left : Phase → ℕ
run_left Fresh = 0
run_left Running = 1
run_left (Settled r) = 0

-- the most outputs that the rules of the current round can still send
abbrev pub room : Desk → ℕ
room d =
    let s = d.state.progress.stand in
    steps_left s.step + unless s.asked.prevote + unless s.asked.precommit + run_left d.state.progress.phase

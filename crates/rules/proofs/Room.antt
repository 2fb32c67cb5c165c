-- Laws of what a kiosk can still do in its current round: what the rules' tests say of it, and the most it can be. Assumes nothing.
use Prim.Native.Nat.{◌≤◌}
use mathlib.Core.Path.{◌≡◌, refl}
use mathlib.Core.Bool.{Bool, true, false, not, false≢true}
use native.Mathlib.Omega.{arith}
use Rattle.rules.specs.declared.Phase.{Phase}
use Rattle.rules.specs.declared.Phase.TheVariants.{Fresh, Running, Settled}
use Rattle.rules.specs.declared.Step.{Step}
use Rattle.rules.specs.declared.Step.TheVariants.{Propose, Prevote, Precommit}
use Rattle.rules.specs.State.{is_running, is_propose, is_prevote}
use Rattle.rules.specs.Log.{Desk}
use Rattle.rules.specs.InContracts.Room.{steps_left, unless, run_left, room}

-- what each test says of it
pub propose_left : (s : Step) → is_propose s ≡ true → steps_left s ≡ 2
propose_left Propose e = refl
propose_left Prevote e = absurd (false≢true e)
propose_left Precommit e = absurd (false≢true e)

pub prevote_left : (s : Step) → is_prevote s ≡ true → steps_left s ≡ 1
prevote_left Propose e = absurd (false≢true e)
prevote_left Prevote e = refl
prevote_left Precommit e = absurd (false≢true e)

pub unless_not : (b : Bool) → not b ≡ true → unless b ≡ 1
unless_not true e = absurd (false≢true e)
unless_not false e = refl

pub running_left : (p : Phase) → is_running p ≡ true → run_left p ≡ 1
running_left Fresh e = absurd (false≢true e)
running_left Running e = refl
running_left (Settled r) e = absurd (false≢true e)

-- the most it can be
steps_most : (s : Step) → steps_left s ≤ 2
steps_most Propose = omega arith
steps_most Prevote = omega arith
steps_most Precommit = omega arith

pub unless_most : (b : Bool) → unless b ≤ 1
unless_most true = omega arith
unless_most false = omega arith

pub run_most : (p : Phase) → run_left p ≤ 1
run_most Fresh = omega arith
run_most Running = omega arith
run_most (Settled r) = omega arith

pub room_most : (d : Desk) → room d ≤ 5
room_most d =
    let s = d.state.progress.stand in
    omega (arith, steps_most s.step, unless_most s.asked.prevote, unless_most s.asked.precommit, run_most d.state.progress.phase)

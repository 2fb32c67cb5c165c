-- `roll::Roll::weigh` meets its contract. The invariant: the sum is the power of the seats passed that are marked. Assumes nothing.
use Prim.Native.Nat.{◌*◌, ◌≤◌}
use mathlib.Core.Path.{◌≡◌}
use Rattle.words.specs.Marks.{marked}
use Rattle.roll.specs.Weighing.{power_below}
use Rattle.roll.proofs.Roll.weigh.Given as goal

abbrev pub invariant-loop-seat : goal.invariant-loop-seat
invariant-loop-seat l = (l.sum ≤ 65535 * l.seat) × (l.sum ≡ power_below l.self.powers (λ k. marked l.marks k) l.seat)

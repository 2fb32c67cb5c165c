-- `roll::weigh::named` meets its contract. The invariant: a seat is named where it is found, or named among the marks left. Assumes nothing.
use Prim.Native.Nat.{ℕ, ◌^◌, ◌<◌}
use mathlib.Core.Path.{◌≡◌}
use mathlib.Core.Bool.{◌||◌}
use mathlib.Core.List.{List}
use Rattle.words.specs.Marks.{marked}
use Rattle.roll.specs.Weighing.{named}
use Rattle.roll.proofs.weigh.named.Given as goal

abbrev pub Split : ℕ → List ℕ → ℕ → ℕ → ℕ → Type 0
Split marks cells name rest found = (j : ℕ) → (marked found j || named rest cells name j) ≡ named marks cells name j

abbrev pub invariant-loop-rest : goal.invariant-loop-rest
invariant-loop-rest l = (l.rest < 2 ^ 32) × Split l.marks l.names l.name l.rest l.found

abbrev pub decreases-loop-rest : goal.decreases-loop-rest
decreases-loop-rest l = l.rest

-- `refusals::possible::all_unheard` meets its contract. The invariant: nothing is heard of the rounds passed. Assumes nothing.
use Rattle.std.proofs.Common.{◌≡◌, true}
use Rattle.words.specs.Choice.{all_below}
use Rattle.rules.specs.State.{unheard}
use Rattle.rules.specs.Log.{heard}
use Rattle.rules.specs.InContracts.Lent.{shown}
use Rattle.refusals.proofs.possible.all_unheard.Given as goal

abbrev pub invariant-loop-r : goal.invariant-loop-r
invariant-loop-r l = all_below l.r (λ k. unheard (heard (shown l.d) k)) ≡ true

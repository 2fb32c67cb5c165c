-- `refusals::possible::rounds_fit` meets its contract. The invariant: the rounds passed fit. Assumes nothing.
use Rattle.std.proofs.Common.{◌≡◌, true}
use Rattle.words.specs.Choice.{all_below}
use Rattle.rules.specs.InContracts.Lent.{shown}
use Rattle.refusals.specs.Possible.{round_fits}
use Rattle.refusals.proofs.possible.rounds_fit.Given as goal

abbrev pub invariant-loop-r : goal.invariant-loop-r
invariant-loop-r l = all_below l.r (λ k. round_fits (shown l.d) k) ≡ true

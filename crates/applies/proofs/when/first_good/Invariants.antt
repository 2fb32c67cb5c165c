-- `applies::when::first_good` meets its contract. The invariant: no round passed has a sheet that can be settled. Assumes nothing.
use Rattle.std.proofs.Common.{◌≡◌, not, eqb}
use Rattle.words.specs.Choice.{lowest_below}
use Rattle.rules.specs.Rules.{closing_sheet}
use Rattle.rules.specs.InContracts.Lent.{shown}
use Rattle.applies.proofs.when.first_good.Given as goal

abbrev pub invariant-loop-r : goal.invariant-loop-r
invariant-loop-r l = lowest_below l.r (λ k. not (eqb (closing_sheet (shown l.d) k) 0)) ≡ l.r

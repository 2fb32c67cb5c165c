-- `applies::when::calling` meets its contract. The invariant: no round passed calls. Assumes nothing.
use Rattle.std.proofs.Common.{◌≡◌}
use Rattle.words.specs.Choice.{past_highest_below}
use Rattle.rules.specs.Rules.{calls, past_calling_round}
use Rattle.rules.specs.InContracts.Lent.{shown}
use Rattle.applies.proofs.when.calling.Given as goal

abbrev pub invariant-loop-r : goal.invariant-loop-r
invariant-loop-r l = past_calling_round (shown l.d) ≡ past_highest_below l.r (λ k. calls (shown l.d) k)

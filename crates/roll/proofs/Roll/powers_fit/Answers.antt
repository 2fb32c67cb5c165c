-- `roll::Roll::powers_fit` meets its contract: the powers of the kiosks are the first of the list. Assumes nothing.
use mathlib.Core.Bool.{true, ◌&&◌}
use mathlib.Core.Path.{◌∙◌}
use lib.Dec.{leb}
use lib.ListN.{take}
use Rattle.std.proofs.lemmas.Iterator.{YieldsList-from_slice}
use Rattle.std.proofs.lemmas.Iterator.Consumers.{fold_from_yields_List}
use Rattle.std.proofs.Common.{rules, tests}
use Rattle.roll.specs.Weighing.{most_power}
use Rattle.roll.proofs.Weighing.{all_joined, all_first}
use Rattle.roll.proofs.Roll.powers_fit.Goals as goal

pub returns : goal.returns
returns c =
    let r = c.args.self.now in
    fold_from_yields_List _ (λ fit p. fit && leb p most_power) true _ c.fold.ensures.ran (YieldsList-from_slice (take r.kiosks r.powers) cc) (λ a x b q k. search (rules, tests))
    ∙ all_joined (λ p. leb p most_power) true (take r.kiosks r.powers)
    ∙ all_first (λ p. leb p most_power) r.kiosks r.powers (search rules)

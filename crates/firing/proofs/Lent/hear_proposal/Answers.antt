-- `firing::Lent::hear_proposal` meets its contract. Assumes nothing.
use mathlib.Core.Path.{◌∙◌}
use Rattle.firing.proofs.Hears.{hears_proposal}
use Rattle.firing.proofs.Lent.hear_proposal.Goals as goal

pub returns-clause-puts : goal.returns-clause-puts
returns-clause-puts c =
    let n = c.note.ensures in
    hears_proposal _ _ _ _ c.requires.1 c.proposal_place.ensures (n.log ∙ c.mark_proposal.ensures) n.table n.trail

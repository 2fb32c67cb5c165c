-- `firing::Lent::hear_vote` meets its contract. Assumes nothing.
use mathlib.Core.Path.{◌∙◌}
use Rattle.firing.proofs.Hears.{hears_vote}
use Rattle.firing.proofs.Lent.hear_vote.Goals as goal

pub returns-clause-puts : goal.returns-clause-puts
returns-clause-puts c =
    let n = c.note.ensures in
    hears_vote _ _ _ _ c.requires.2 c.marks_place.ensures c.votes_place.ensures (n.log ∙ c.mark_vote.ensures) n.table n.trail

-- `refusals::refuse::refused_vote` meets its contract. Assumes nothing.
use Rattle.std.proofs.Common.{drop, sym, ◌∙◌}
use Rattle.std.proofs.lemmas.List.{get_or-take, get_or-drop}
use Rattle.rules.specs.Log.{votes_place}
use Rattle.rules.specs.InContracts.Lent.{shown}
use Rattle.refusals.proofs.Judging.{vote_heard}
use Rattle.refusals.proofs.refuse.refused_vote.Goals as goal

pub returns-then-is_marked : goal.returns-then-is_marked
returns-then-is_marked c =
    let d = shown c.args.d.now in
    let i = c.args.i in
    let at = votes_place c.args.v i.round.0 in
    c.heard_already.ensures
    ∙ vote_heard c.args.v d i c.requires.3 (rw c.from-seat.ensures at c.if-seat-d.false)
    (rw (c.marks.ensures, c.heard.ensures, c.from-seat.ensures) at (sym c.is_marked.ensures ∙ c.if-is_marked.true))
    (rw (c.voted.ensures.value, c.from-seat.ensures, get_or-take 32 (drop at c.args.d.now.table.now) i.sender 0 c.requires.2, get_or-drop at c.args.d.now.table.now i.sender 0))

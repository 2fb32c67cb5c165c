-- `board::calls::slip_put` meets its contract. Assumes nothing.
use mathlib.Core.Path.{refl, sym, ◌∙◌}
use Rattle.board.proofs.Through.{says, says_1}
use Rattle.board.proofs.calls.slip_put.Goals as goal

pub returns-then-not-holds : goal.returns-then-not-holds
returns-then-not-holds c = says_1 _ _ _ _ _ (sym c.holds.ensures ∙ c.if-not-holds.true) c.impossible.ensures

pub returns : goal.returns
returns c =
    says _ _ _ _ _ _ _ _ _ _ _ (sym c.holds.ensures ∙ c.if-not-holds.false) c.input_of.ensures refl
    c.course_of.ensures (rw c.roll_of.ensures at c.put_lent-done.ensures) c.flat_done.ensures

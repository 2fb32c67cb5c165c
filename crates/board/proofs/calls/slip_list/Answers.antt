-- `board::calls::slip_list` meets its contract. Assumes nothing.
use mathlib.Core.Path.{refl}
use Rattle.board.proofs.Through.{lists}
use Rattle.board.proofs.calls.slip_list.Goals as goal

pub returns : goal.returns
returns c = lists _ _ _ _ _ c.print_journal-page.ensures.prints c.from.ensures refl

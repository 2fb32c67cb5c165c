-- `board::calls::slip_create` meets its contract. Assumes nothing.
use mathlib.Core.Path.{refl}
use Rattle.board.proofs.Through.{creates}
use Rattle.board.proofs.calls.slip_create.Goals as goal

pub returns : goal.returns
returns c = creates _ _ _ _ _ _ _ c.create-made.ensures c.from.ensures refl

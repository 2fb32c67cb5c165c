-- `board::calls::slip_open` meets its contract. Assumes nothing.
use Rattle.board.proofs.Through.{opens}
use Rattle.board.proofs.calls.slip_open.Goals as goal

pub returns : goal.returns
returns c = opens _ _ _ _ _ _ c.open.ensures c.flat_reply.ensures

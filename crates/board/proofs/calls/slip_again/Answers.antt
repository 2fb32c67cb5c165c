-- `board::calls::slip_again` meets its contract. Assumes nothing.
use Rattle.board.proofs.Through.{says_again}
use Rattle.board.proofs.calls.slip_again.Goals as goal

pub returns : goal.returns
returns c = says_again _ _ _ _ _ _ _ _ c.say_again.ensures c.flat_reply.ensures

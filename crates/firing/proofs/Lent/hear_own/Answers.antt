-- `firing::Lent::hear_own` meets its contract. Assumes nothing.
use Rattle.firing.proofs.Hears.{own_heard, own_silent}
use Rattle.firing.proofs.Lent.hear_own.Goals as goal

pub returns-in-Some-clause-puts : goal.returns-in-Some-clause-puts
returns-in-Some-clause-puts c = own_heard _ _ _ c.in-Some.is c.hear.ensures.puts

pub returns-in_default-clause-puts : goal.returns-in_default-clause-puts
returns-in_default-clause-puts c = own_silent _ _ c.in_default.is c.requires.2

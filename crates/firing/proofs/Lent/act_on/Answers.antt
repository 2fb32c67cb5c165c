-- `firing::Lent::act_on` meets its contract. Assumes nothing.
use Rattle.firing.proofs.Lent.act_on.Goals as goal

pub returns-clause-does_at : goal.returns-clause-does_at
returns-clause-does_at c = let d = c.desk-desk.ensures in λ os. c.act.ensures.does_hearing _ _ os (rw d.log at c.heard.ensures) (rw d.table at c.proposed.ensures)

-- `firing::Lent::hear` meets its contract. Assumes nothing.
use native.Mathlib.Omega.{arith}
use Rattle.firing.proofs.Hears.{is_proposal, is_prevote, is_precommit, no_message}
use Rattle.firing.proofs.Lent.hear.Goals as goal

pub returns-in-1-clause-puts : goal.returns-in-1-clause-puts
returns-in-1-clause-puts c = is_proposal _ _ _ c.in-1.is c.hear_proposal.ensures.puts

pub returns-in-2-clause-puts : goal.returns-in-2-clause-puts
returns-in-2-clause-puts c = is_prevote _ _ _ c.in-2.is c.hear_vote.ensures.puts

pub returns-in-3-clause-puts : goal.returns-in-3-clause-puts
returns-in-3-clause-puts c = is_precommit _ _ _ c.in-3.is c.hear_vote-in-3.ensures.puts

pub returns-in_default-clause-puts : goal.returns-in_default-clause-puts
returns-in_default-clause-puts c = no_message _ _ _ c.requires.2.long (λ e. omega arith) (λ e. omega arith) (λ e. omega arith)

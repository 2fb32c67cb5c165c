-- `applies::when::from_34` meets its contract. Assumes nothing.
use Rattle.std.proofs.Common.{sym, ◌∙◌}
use Rattle.rules.specs.Rules.{from_47}
use Rattle.applies.proofs.when.from_34.Goals as goal

pub returns-then-applies_47 : goal.returns-then-applies_47
unfolding from_47
returns-then-applies_47 c = sym (c.in_default.ensures ∙ rw (sym c.applies_47.ensures ∙ c.if-applies_47.true))

pub returns : goal.returns
unfolding from_47
returns c = sym (c.in_default.ensures ∙ rw (sym c.applies_47.ensures ∙ c.if-applies_47.false, c.from_49.ensures))

-- `applies::when::prevote_rule` meets its contract: the rules in their order. Assumes nothing.
use Rattle.std.proofs.Common.{sym, ◌∙◌}
use Rattle.std.proofs.lemmas.Option.{cond_some}
use Rattle.rules.specs.Rules.{applies_36, backed_sheet}
use Rattle.rules.specs.InContracts.Lent.{shown}
use Rattle.applies.proofs.Applies.{heedless_rest, few_rest, awaits_is, first_34, first_36, first_44, first_rest, let_none}
use Rattle.applies.proofs.when.prevote_rule.Goals as goal

pub returns-then-not-heeds_prevotes : goal.returns-then-not-heeds_prevotes
returns-then-not-heeds_prevotes c = heedless_rest (shown c.args.d.now) (sym c.heeds_prevotes.ensures ∙ c.if-not-heeds_prevotes.true)

pub returns-then-not-is_large : goal.returns-then-not-is_large
returns-then-not-is_large c = few_rest (shown c.args.d.now) (sym c.is_large.ensures ∙ c.if-not-is_large.true)

pub returns-then-awaits_prevotes : goal.returns-then-awaits_prevotes
returns-then-awaits_prevotes c =
    let d = shown c.args.d.now in
    first_34 d (sym (awaits_is d (sym c.is_large.ensures ∙ c.if-not-is_large.false)) ∙ sym c.awaits_prevotes.ensures ∙ c.if-awaits_prevotes.true)

pub returns-in-Some : goal.returns-in-Some
returns-in-Some c =
    let d = shown c.args.d.now in
    let not_34 = sym (awaits_is d (sym c.is_large.ensures ∙ c.if-not-is_large.false)) ∙ sym c.awaits_prevotes.ensures ∙ c.if-awaits_prevotes.false in
    let found = cond_some (applies_36 d) (backed_sheet d) c.in-Some.name (sym c.sheet_to_back.ensures ∙ c.in-Some.is) in
    rw (first_36 d not_34 found.0, found.1)

pub returns-then-applies_44 : goal.returns-then-applies_44
returns-then-applies_44 c =
    let d = shown c.args.d.now in
    let not_34 = sym (awaits_is d (sym c.is_large.ensures ∙ c.if-not-is_large.false)) ∙ sym c.awaits_prevotes.ensures ∙ c.if-awaits_prevotes.false in
    let not_36 = let_none (applies_36 d) (backed_sheet d) (sym c.sheet_to_back.ensures ∙ c.in_default.is) in
    first_44 d not_34 not_36 (sym c.applies_44.ensures ∙ c.if-applies_44.true)

pub returns : goal.returns
returns c =
    let d = shown c.args.d.now in
    let not_34 = sym (awaits_is d (sym c.is_large.ensures ∙ c.if-not-is_large.false)) ∙ sym c.awaits_prevotes.ensures ∙ c.if-awaits_prevotes.false in
    let not_36 = let_none (applies_36 d) (backed_sheet d) (sym c.sheet_to_back.ensures ∙ c.in_default.is) in
    first_rest d not_34 not_36 (sym c.applies_44.ensures ∙ c.if-applies_44.false)

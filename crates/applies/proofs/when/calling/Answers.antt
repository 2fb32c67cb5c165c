-- `applies::when::calling` meets its contract. Assumes nothing.
use Rattle.std.proofs.Common.{◌≡◌, ◌-◌, suc, refl, sym, ◌∙◌, arith}
use Rattle.words.proofs.Choice.{highest_less, highest_found}
use Rattle.rules.specs.Rules.{past_calling_round}
use Rattle.rules.specs.InContracts.Lent.{shown}
use Rattle.applies.proofs.Chooses.{none_calls}
use Rattle.applies.proofs.when.calling.Goals as goal

pub loop-r-init : goal.loop-r-init
unfolding past_calling_round
loop-r-init c = refl

pub returns-then-calls : goal.returns-then-calls
returns-then-calls c =
    let one : c.loop-r.r ≡ suc (c.loop-r.r - 1) = omega arith in
    c.loop-r.invariant ∙ highest_found (c.loop-r.r - 1) _ one (sym c.calls.ensures ∙ c.if-calls.true) ∙ one

pub loop-r-preserved : goal.loop-r-preserved
loop-r-preserved c =
    let one : c.loop-r.r ≡ suc (c.loop-r.r - 1) = omega arith in
    c.loop-r.invariant ∙ highest_less (c.loop-r.r - 1) _ one (sym c.calls.ensures ∙ c.if-calls.false)

pub returns : goal.returns
returns c = c.loop-r.invariant ∙ none_calls (shown c.args.d.now) c.loop-r.r (omega (arith, c.from-r-start.ensures))

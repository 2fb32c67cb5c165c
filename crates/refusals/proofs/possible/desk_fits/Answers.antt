-- `refusals::possible::desk_fits` meets its contract: the other tests are asked where the numbers fit. Assumes nothing.
use Rattle.std.proofs.Common.{sym, ◌∙◌}
use Rattle.rules.specs.InContracts.Lent.{shown}
use Rattle.refusals.proofs.Judging.{numbers_ready}
use Rattle.refusals.proofs.possible.desk_fits.Goals as goal

pub rounds_fit-requires : goal.rounds_fit-requires
rounds_fit-requires c = let d = shown c.args.d.now in let r = numbers_ready d.state d.table (sym c.numbers_fit.ensures ∙ c.if-not-numbers_fit.false) in (r.few_kiosks, r.places)

pub at_rest-requires : goal.at_rest-requires
at_rest-requires c =
    let d = shown c.args.d.now in
    let r = numbers_ready d.state d.table (sym c.numbers_fit.ensures ∙ c.if-not-numbers_fit.false) in
    (r, c.requires r.few_kiosks)

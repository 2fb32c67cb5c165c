-- `applies::when::large_sheet` meets its contract. Assumes nothing.
use Rattle.std.proofs.Common.{sym, ◌∙◌, ne_eqb}
use Rattle.rules.specs.InContracts.Lent.{shown}
use Rattle.applies.proofs.Applies.{sheet_bad, sheet_few, sheet_so, sheet_unnamed}
use Rattle.applies.proofs.when.large_sheet.Goals as goal
use Rattle.applies.proofs.when.large_sheet.Goals.{else-name-ne0-via-then-name-ne0+else-is_large_by_name, else-name-ne0-via-else-name-ne0}

pub returns-then-not-is_good : goal.returns-then-not-is_good
returns-then-not-is_good c = rw (sheet_bad c.args.v (shown c.args.d.now) c.args.r.0 (rw c.heard.ensures at (sym c.is_good.ensures ∙ c.if-not-is_good.true)))

pub returns-then-is_large_by_name : goal.returns-then-is_large_by_name
returns-then-is_large_by_name c =
    let d = shown c.args.d.now in
    let good = rw c.heard.ensures at (sym c.is_good.ensures ∙ c.if-not-is_good.false) in
    let large = rw c.proposed-name.ensures at (sym c.is_large_by_name.ensures ∙ c.if-is_large_by_name.true) in
    rw (sheet_so c.args.v d c.args.r.0 good large, ← c.proposed-name.ensures, ne_eqb c.proposed-name.result 0 c.if-name-ne0.true)

pub returns-else-name-ne0 : goal.returns-else-name-ne0
returns-else-name-ne0 c =
    let d = shown c.args.d.now in
    elim c.else-name-ne0.branch [
      | else-name-ne0-via-then-name-ne0+else-is_large_by_name w ↦
          rw (sheet_few c.args.v d c.args.r.0 (rw c.proposed-name.ensures at (sym w.is_large_by_name.ensures ∙ w.if-is_large_by_name.false)))
      | else-name-ne0-via-else-name-ne0 w ↦ rw (sheet_unnamed c.args.v d c.args.r.0 (sym c.proposed-name.ensures ∙ w.if-name-ne0.false))
    ]

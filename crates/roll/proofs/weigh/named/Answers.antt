-- The goals of `roll::weigh::named`.
use Prim.Native.Nat.{ℕ}
use mathlib.Core.Path.{◌≡◌, sym, subst, ◌∙◌}
use mathlib.Core.Bool.{◌||◌}
use native.Mathlib.Omega.{arith}
use lib.Dec.{eqb}
use Rattle.words.specs.Marks.{marked}
use Rattle.words.proofs.MarkLaws.{lowest_others}
use Rattle.roll.proofs.Weighing.{named_same, named_other}
use Rattle.roll.proofs.weigh.named.Invariants.{Split}
use Rattle.roll.proofs.weigh.named.Goals as goal
use Rattle.roll.proofs.weigh.named.Goals.{After-lowest-seat, then-names-seat, else-names-seat}

pub loop-rest-preserved : goal.loop-rest-preserved
loop-rest-preserved c =
    let joined = c.if-names-seat in
    let low = c.lowest-seat in
    let l = c.loop-rest in
    let a = c.args in
    let v = l.invariant in
    let i = low.result in
    let left = c.without_lowest-rest.result in
    let others : (j : ℕ) → marked l.rest j ≡ (eqb i j || marked left j)
    = λ j. rw (low.ensures, c.without_lowest-rest.ensures) (lowest_others 32 l.rest (omega (arith, c.loop-rest-test.true)) v.0 j) in
    let split : ℕ → Type 0 = Split a.marks a.names.now a.name left in (
      omega (arith, c.without_lowest-rest.ensures, v.0),
      elim joined.branch [
        | then-names-seat w ↦ subst split (sym (w.found-is ∙ w.with_mark-found.ensures)) (λ j. named_same a.names.now a.name l.rest left i others l.found w.if-names-seat.true j ∙ v.1 j)
        | else-names-seat w ↦ subst split (sym w.found-is) (λ j. named_other a.names.now a.name l.rest left i others l.found w.if-names-seat.false j ∙ v.1 j)
      ],
    )

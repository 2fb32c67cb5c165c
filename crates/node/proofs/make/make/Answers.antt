-- The goals of `node::make::make`: what was created is within the room that was lent. Assumes nothing.
use Rattle.std.proofs.Common.{◌≤◌, ◌≡◌, ℕ, List, length, arith, sym, not, ◌&&◌, ltb}
use borrow.Author.Tests.{ltb-false}
use lib.Seq.{length-take-le}
use Rattle.words.proofs.Choice.{by_test}
use Rattle.roll.specs.Weighing.{roll_fits, own_fits, roll_with}
use Rattle.journal.specs.Layout.{header_length}
use Rattle.kiosk.specs.declared.Made.{Made}
use Rattle.kiosk.specs.Calls.{Created, create}
use Rattle.kiosk.specs.Promises.{Makes}
use Rattle.node.proofs.make.make.Goals as goal

created_within : (powers : List ℕ) (own height : ℕ) (journal : List ℕ) → (create powers own height journal).used ≤ length journal
unfolding create
created_within powers own height journal =
    let roll = roll_with powers own height in
    let P : Created → Type 0 = λ o. o.used ≤ length journal in
    by_test P (not (roll_fits roll && own_fits roll)) (λ e. omega arith)
    (λ e. by_test P (ltb (length journal) (header_length roll)) (λ f. omega arith) (λ f. ltb-false (length journal) (header_length roll) f))

made_within : (powers : List ℕ) (own height : ℕ) (journal journal' : List ℕ) (m : Made) → Makes (create powers own height journal) m journal'
    → length journal' ≡ length journal → m.used ≤ length journal'
made_within powers own height journal journal' m made same = omega (arith, made.used, created_within powers own height journal, same)

pub slice_bounds-header-end : goal.slice_bounds-header-end
slice_bounds-header-end g c = made_within _ _ _ _ _ _ c.create-made.ensures c.create-made.auto.journal

pub slice_bounds-header-end-2 : goal.slice_bounds-header-end-2
slice_bounds-header-end-2 g c =
    let m = c.create-made in
    sym (length-take-le m.result.used m.new.journal (made_within _ _ _ _ _ _ m.ensures m.auto.journal))

-- The goals of `Text::fill`. Assumes nothing.
use Rattle.std.proofs.Common.{◌+◌, ◌++◌, ap, sym, ◌∙◌, length, get_or, drop}
use native.Mathlib.Omega.{arith}
use Rattle.listing.proofs.Laying.{overwrite_none, turn}
use Rattle.printing.specs.InContracts.Pattern.{piece, taken, filled}
use Rattle.printing.specs.InContracts.Texts.{HasRoom}
use Rattle.printing.proofs.Filling.{left_none, left_more}
use Rattle.printing.proofs.Texts.{room_first}
use Rattle.printing.proofs.text.Text.fill.Goals as goal
use Rattle.printing.proofs.text.Text.fill.Goals.{After-first}

-- there is room for this byte's piece, and for what comes after it
room : (c : After-first)
    → let b = get_or c.args.pattern.now c.loop-byte.byte-index 0 in
    HasRoom (piece b (get_or c.loop-byte.rest.now 0 0) ++ filled (drop (c.loop-byte.byte-index + 1) c.args.pattern.now) (drop (taken b) c.loop-byte.rest.now)) c.loop-byte.self
room c =
    let m = ap length (left_more c.args.pattern.now c.loop-byte.rest.now c.loop-byte.byte-index c.loop-byte-test.true) in
    omega (arith, m, c.requires, c.loop-byte.invariant.0, c.loop-byte.invariant.2)

pub piece-requires : goal.piece-requires
piece-requires c =
    let b = get_or c.args.pattern.now c.loop-byte.byte-index 0 in
    let r = c.loop-byte.rest.now in
    rw c.first.ensures
    (room_first (piece b (get_or r 0 0)) (filled (drop (c.loop-byte.byte-index + 1) c.args.pattern.now) (drop (taken b) r)) c.loop-byte.self (room (goal.at.piece-requires c).After-first))

pub loop-byte-preserved : goal.loop-byte-preserved
loop-byte-preserved c =
    let p = c.args.pattern.now in
    let r = c.loop-byte.rest.now in
    let l = c.loop-byte in
    let b = get_or p l.byte-index 0 in
    let e = rw c.first.ensures at c.piece.ensures in
    let m = left_more p r l.byte-index c.loop-byte-test.true in
    let t = turn l.self.area.now l.self.size (piece b (get_or r 0 0)) (filled (drop (l.byte-index + 1) p) (drop (taken b) r)) (room (goal.at.loop-byte-preserved c).After-first) (e.0, e.1) in
    rw c.left-rest.ensures (t.0 ∙ (rw m at l.invariant.0), t.1 ∙ (rw m at l.invariant.1), e.2 ∙ l.invariant.2, e.3 ∙ l.invariant.3)

pub returns : goal.returns
returns c =
    let l = c.loop-byte in
    let e = left_none c.args.pattern.now l.rest.now l.byte-index c.loop-byte-test.false in
    (omega (arith, ap length e, l.invariant.0), sym (overwrite_none l.self.area.now l.self.size) ∙ (rw e at l.invariant.1), l.invariant.2, l.invariant.3)

-- The goals of `lines::fields::kind`. Assumes nothing.
use Rattle.std.proofs.Common.{sym, ◌∙◌, ◌≡◌, true}
use borrow.Author.Tests.{lt-ltb}
use native.Mathlib.Omega.{arith}
use Rattle.listing.specs.Text.{input_word}
use Rattle.lines.specs.Reading.{same, kind_of}
use Rattle.lines.proofs.Words.{same_decided}
use Rattle.lines.proofs.Line.{kind_first}
use Rattle.lines.proofs.fields.kind.Goals as goal

pub returns-then-eq : goal.returns-then-eq
returns-then-eq c =
    let w = c.args.word.now in
    let k = c.loop-kind.kind in
    let e : same w (input_word k) ≡ true = rw (c.input_word.ensures, c.from.ensures) at (sym (same_decided w c.input_word.result.now c.eq.result c.eq.ensures) ∙ c.if-eq.true) in
    let o : kind_of w ≡ k = kind_first w k c.loop-kind.auto.kind c.loop-kind-test.true c.loop-kind.invariant e in
    rw (o, lt-ltb 0 k (omega (arith, c.loop-kind.auto.kind)))

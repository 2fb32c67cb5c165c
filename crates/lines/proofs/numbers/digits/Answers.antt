-- The goals of `lines::numbers::digits`. Assumes nothing.
use Rattle.std.proofs.Common.{rules, ◌+◌, ◌-◌, ◌*◌, ◌∙◌, sym, drop, get_or}
use native.Mathlib.Omega.{arith}
use Rattle.lines.proofs.Decimals.{said_more, digits_go_on, no_digit, said_grows, digits_none, digits_high}
use Rattle.lines.proofs.numbers.digits.Goals as goal

pub returns-then-not-is_ascii_digit : goal.returns-then-not-is_ascii_digit
returns-then-not-is_ascii_digit c =
    digits_none c.args.most c.args.word.now
    (c.loop-byte.invariant.2 ∙ no_digit c.args.word.now c.loop-byte.byte-index 0 c.loop-byte-test.true (sym c.is_ascii_digit.ensures.value ∙ c.if-not-is_ascii_digit.true))

pub returns-then-most-digit : goal.returns-then-most-digit
returns-then-most-digit c =
    let w = c.args.word.now in
    let i = c.loop-byte.byte-index in
    let g = said_more w i c.loop-byte.value c.loop-byte-test.true in
    digits_high c.args.most w
    (omega (arith, c.loop-byte.invariant.1, g, said_grows (drop (i + 1) w) (10 * c.loop-byte.value + (get_or w i 0 - 48)), c.from-digit.ensures, c.if-most-digit.true))

pub loop-byte-preserved : goal.loop-byte-preserved
loop-byte-preserved c =
    let w = c.args.word.now in
    let i = c.loop-byte.byte-index in (
      search rules,
      c.loop-byte.invariant.1 ∙ rw c.from-digit.ensures (said_more w i c.loop-byte.value c.loop-byte-test.true),
      c.loop-byte.invariant.2 ∙ digits_go_on w i 0 c.loop-byte-test.true (sym c.is_ascii_digit.ensures.value ∙ c.if-not-is_ascii_digit.false),
    )

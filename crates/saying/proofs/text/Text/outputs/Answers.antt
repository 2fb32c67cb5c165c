-- The goals of `saying::text::Text::outputs`: each line goes behind those before it. Assumes nothing.
use Rattle.std.proofs.Common.{◌++◌, List, ℕ, ap, sym, ◌∙◌, arith, length, length-append, take, get_or, append_assoc}
use lib.Seq.{take-length}
use Rattle.words.specs.Bytes.{in_order}
use Rattle.words.proofs.ByteLaws.{in_order_more}
use Rattle.rules.specs.declared.Output.{Output}
use Rattle.rules.specs.Sent.{no_output}
use Rattle.listing.specs.Listing.{out_line}
use Rattle.saying.specs.Texts.{text_of}
use Rattle.saying.proofs.Rooms.{line_room}
use Rattle.saying.proofs.text.Text.outputs.Goals as goal

pub output-requires : goal.output-requires
output-requires c =
    let os = c.args.list.now in
    let k = c.loop-o.o-index in
    let before = in_order out_line (take k os) in
    let whole = ap (λ (l : List Output). length (in_order out_line l)) (take-length os) in
    omega (arith, line_room os no_output k (length os) c.loop-o-test.true (omega arith), whole, ap length c.loop-o.invariant, length-append (text_of c.args.self.now) before, c.requires)

pub loop-o-preserved : goal.loop-o-preserved
loop-o-preserved c =
    let os = c.args.list.now in
    let k = c.loop-o.o-index in
    let o = out_line (get_or os k no_output) in
    let first = text_of c.args.self.now in
    c.output.ensures
    ∙ ap (λ (t : List ℕ). t ++ o) c.loop-o.invariant
    ∙ append_assoc first (in_order out_line (take k os)) o
    ∙ ap (λ (t : List ℕ). first ++ t) (sym (in_order_more out_line os k no_output c.loop-o-test.true))

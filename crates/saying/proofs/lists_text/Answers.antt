-- The goals of `saying::lists_text`: the timers' lines have room behind the messages'. Assumes nothing.
use Rattle.std.proofs.Common.{◌≡◌, ap, arith, length, length-append}
use Rattle.words.specs.Bytes.{in_order}
use Rattle.listing.specs.Text.{line}
use Rattle.listing.specs.Listing.{out_line}
use Rattle.printing.specs.InContracts.Pattern.{the_pattern}
use Rattle.saying.specs.Saying.{again_line}
use Rattle.saying.specs.Texts.{text_of}
use Rattle.saying.proofs.Rooms.{again_most, lines_most}
use Rattle.saying.proofs.lists_text.Goals as goal

pub outputs-requires-2 : goal.outputs-requires-2
unfolding the_pattern line
outputs-requires-2 c =
    let ms = c.args.messages.now in
    let ts = c.args.timers.now in
    let first = again_line (length ms) (length ts) in
    let counts : text_of c.line.new.self ≡ first = rw c.new-text.ensures at c.line.ensures in
    omega (arith, ap length c.outputs.ensures, length-append (text_of c.line.new.self) (in_order out_line ms), ap length counts, again_most (length ms) (length ts), lines_most ms, lines_most ts, c.requires.0, c.requires.1)

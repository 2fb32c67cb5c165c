-- The lines of the outputs so far are written. Assumes nothing.
use Rattle.std.proofs.Common.{◌≡◌, ◌++◌, take}
use Rattle.words.specs.Bytes.{in_order}
use Rattle.listing.specs.Listing.{out_line}
use Rattle.saying.specs.Texts.{text_of}
use Rattle.saying.proofs.text.Text.outputs.Given as goal

abbrev pub invariant-loop-o : goal.invariant-loop-o
invariant-loop-o l = text_of l.self ≡ text_of l.initial.self ++ in_order out_line (take l.o-index l.list)

-- The invariant of `Text::fill`: writing what is left of the pattern, from here on, leaves what writing all of it leaves. Assumes nothing.
use Rattle.std.proofs.Common.{◌+◌, ◌≡◌, length, drop}
use Rattle.words.specs.Bytes.{overwrite}
use Rattle.printing.specs.InContracts.Pattern.{filled}
use Rattle.printing.proofs.text.Text.fill.Given as goal

abbrev pub invariant-loop-byte : goal.invariant-loop-byte
invariant-loop-byte l =
    let left = filled (drop l.byte-index l.pattern) l.rest in
    let all = filled l.pattern l.numbers in
    (l.self.size + length left ≡ l.fn.self.size + length all)
    × (overwrite l.self.area.now l.self.size left ≡ overwrite l.fn.self.area.now l.fn.self.size all)
    × (length l.self.area.now ≡ length l.fn.self.area.now)
    × (l.self.area.ghost_name ≡ l.fn.self.area.ghost_name)

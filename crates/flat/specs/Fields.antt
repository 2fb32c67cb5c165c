-- The numbers of the flat twins by field, in the order of include/slipcoacher.h: for a caller to see that its compiler lays the structs
-- as the library does. Assumes nothing.
use Rattle.std.specs.Prelude.{ℕ, ◌+◌, [], ◌∷◌, get_or, ltb, eqb, if◌then◌else◌}
use Rattle.flat.specs.declared.FlatKiosk.{FlatKiosk}
use Rattle.flat.specs.declared.FlatInput.{FlatInput}
use Rattle.flat.specs.declared.FlatOutput.{FlatOutput}
use Rattle.flat.specs.declared.FlatReply.{FlatReply}

unfoldable pub plain_number : FlatKiosk → ℕ → ℕ
plain_number f field =
    if eqb field 0 then f.kiosks
    else if eqb field 1 then f.own
    else if eqb field 2 then f.used
    else if eqb field 3 then f.last
    else if eqb field 4 then f.locked_name
    else if eqb field 5 then f.valid_name
    else if eqb field 6 then f.height
    else if eqb field 8 then f.phase
    else if eqb field 9 then f.settled
    else if eqb field 10 then f.round
    else if eqb field 11 then f.step
    else if eqb field 12 then f.asked_propose
    else if eqb field 13 then f.asked_prevote
    else if eqb field 14 then f.asked_precommit
    else if eqb field 15 then f.backed
    else if eqb field 16 then f.locked_next
    else if eqb field 17 then f.valid_next
    else 0

unfoldable pub kiosk_number : FlatKiosk → ℕ → ℕ → ℕ
kiosk_number f field index =
    if eqb field 7 then (if ltb index 32 then get_or f.powers index 0 else 0)
    else if ltb field 18 then plain_number f field
    else if ltb 18 field then 0
    else if ltb index 64 then get_or f.log index 0
    else 0

unfoldable pub input_number : FlatInput → ℕ → ℕ
input_number i field =
    if eqb field 0 then i.name
    else if eqb field 1 then i.offer
    else if eqb field 2 then i.height
    else if eqb field 3 then i.kind
    else if eqb field 4 then i.sender
    else if eqb field 5 then i.round
    else if eqb field 6 then i.valid
    else if eqb field 7 then i.verdict
    else 0

abbrev pub output_from : ℕ → FlatOutput
output_from n = record { name = n; kind = n + 1; round = n + 2; valid = n + 3 }

abbrev pub layout_from : FlatKiosk → ℕ → FlatReply
layout_from f n = record {
  number = n;
  place = n + 1;
  count = n + 2;
  sent =
      output_from (n + 3) ∷ output_from (n + 7) ∷ output_from (n + 11) ∷ output_from (n + 15) ∷ output_from (n + 19) ∷ output_from (n + 23) ∷ [];
  kiosk = f;
}

-- a first number over 200 counts as 200
unfoldable pub layout : FlatKiosk → ℕ → FlatReply
layout f first = layout_from f (if ltb 200 first then 200 else first)

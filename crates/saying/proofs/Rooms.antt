-- Every answer fits its room. Assumes nothing.
use Prim.Native.Nat.{ℕ, zero, suc, ◌+◌, ◌*◌, ◌≤◌, ◌<◌}
use mathlib.Core.Path.{◌≡◌, refl, ap, sym, ◌∙◌}
use mathlib.Core.List.{List, [], ◌∷◌}
use mathlib.Core.Logic.{⊎_elim}
use native.Mathlib.Nat.{eq-or-lt_of_le}
use native.Mathlib.Numerals.{add-one}
use native.Mathlib.Omega.{arith}
use lib.ListN.{length, take, get_or, length-append}
use Rattle.words.specs.Bytes.{in_order}
use Rattle.words.proofs.ByteLaws.{in_order_more}
use Rattle.journal.specs.Readback.{count_of}
use Rattle.rules.specs.declared.Input.{Input}
use Rattle.rules.specs.declared.Output.{Output}
use Rattle.rules.specs.declared.Sent.{Sent}
use Rattle.rules.specs.Sent.{packed}
use Rattle.rules.specs.InContracts.Ready.{so_far}
use Rattle.firing.proofs.Handover.{so_far_packed}
use Rattle.journal.specs.Layout.{group_bytes, reply_bytes}
use Rattle.listing.specs.Text.{line}
use Rattle.listing.specs.Listing.{out_line, out_lines}
use Rattle.listing.proofs.Digits.{length_digits}
use Rattle.listing.proofs.Fits.{Bytes, out_any, out_lines_most}
use Rattle.saying.specs.Saying.{again_line, accepted_line, created_line, bad_line}

pub again_most : (m t : ℕ) → length (again_line m t) ≤ 48
unfolding line
again_most m t = simp length-append (omega (arith, length_digits 20 m, length_digits 20 t))

pub accepted_most : (n : ℕ) → length (accepted_line n) ≤ 30
unfolding line
accepted_most n = simp length-append (omega (arith, length_digits 20 n))

pub created_most : (n : ℕ) → length (created_line n) ≤ 30
unfolding line
created_most n = simp length-append (omega (arith, length_digits 20 n))

pub bad_most : (n : ℕ) → length (bad_line n) ≤ 30
unfolding line
bad_most n = simp length-append (omega (arith, length_digits 20 n))

pub outs_most : (g : List ℕ) → Bytes g → count_of g ≤ 6 → length (out_lines (count_of g) g) ≤ 288
outs_most g b h = omega (arith, out_lines_most (count_of g) g b)

-- a group says how many outputs it has
pub count_back : (i : Input) (os : List Output) → count_of (group_bytes i os) ≡ length os
unfolding group_bytes reply_bytes
count_back i os = refl

-- a list in six places is the list
pub unpacked : (os : List Output) (s : Sent) → s ≡ packed os → s.count ≤ 6 → so_far s ≡ os
unpacked os s e h =
    let n : length os ≤ 6 = omega (arith, ap (λ (q : Sent). q.count) e) in
    ap so_far e ∙ so_far_packed os n

-- ---- the lines of outputs in a list, one after the other

pub lines_most : (os : List Output) → length (in_order out_line os) ≤ 81 * length os
lines_most [] = omega arith
lines_most (o ∷ os) = omega (arith, length-append (out_line o) (in_order out_line os), out_any o, lines_most os)

module _ (os : List Output) (none : Output) where
  abbrev lines : ℕ → List ℕ
  lines k = in_order out_line (take k os)

  -- there is room for one line more
  pub line_room : (k n : ℕ) → k < n → n ≤ length os → length (lines k) + length (out_line (get_or os k none)) ≤ length (lines n)
  line_room k zero h l = absurd (omega arith)
  line_room k (suc n) h l =
      let o = out_line (get_or os n none) in
      let e : length (lines (suc n)) ≡ length (lines n) + length o
      = ap (λ (m : ℕ). length (lines m)) (sym (add-one n)) ∙ ap length (in_order_more out_line os n none (omega arith)) ∙ length-append (lines n) o in
      ⊎_elim
      (λ same. rw same (omega (arith, e)))
      (λ less. omega (arith, e, line_room k n less (omega arith)))
      (eq-or-lt_of_le {n = k} {m = n} (omega arith))

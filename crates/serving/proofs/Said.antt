-- What is said of a group is what its call sent: how many outputs, and then a line for each. Assumes nothing.
use Prim.Native.Nat.{ℕ, zero, suc, ◌+◌}
use mathlib.Core.Path.{◌≡◌, refl, ap, sym, ◌∙◌}
use mathlib.Core.List.{List, [], ◌∷◌, ◌++◌, append-nil}
use native.Mathlib.Omega.{arith}
use lib.ListN.{length}
use Rattle.words.specs.Bytes.{in_order}
use Rattle.words.proofs.ByteLaws.{in_order_append}
use Rattle.rules.specs.declared.Output.{Output}
use Rattle.journal.specs.Readback.{output_of, count_of, outputs_from}
use Rattle.history.specs.Histories.{Call, call_bytes}
use Rattle.history.proofs.Readback.{Plain, call_back}
use Rattle.listing.specs.Listing.{out_line, out_lines}
use Rattle.saying.specs.Saying.{accepted_line, said}
use Rattle.saying.proofs.Rooms.{count_back}

-- one output more, at the end
outputs_snoc : (k j : ℕ) (g : List ℕ) → outputs_from j (suc k) g ≡ outputs_from j k g ++ (output_of g (j + k) ∷ [])
unfolding outputs_from
outputs_snoc zero j g =
    let z : j ≡ j + 0 = omega arith in
    ap (λ (n : ℕ). output_of g n ∷ []) z
outputs_snoc (suc k) j g =
    let n : suc j + k ≡ j + suc k = omega arith in
    ap (λ (os : List Output). output_of g j ∷ os) (outputs_snoc k (suc j) g)
    ∙ ap (λ (x : ℕ). output_of g j ∷ (outputs_from (suc j) k g ++ (output_of g x ∷ []))) n

lines_are : (k : ℕ) (g : List ℕ) → out_lines k g ≡ in_order out_line (outputs_from 0 k g)
unfolding out_lines outputs_from
lines_are zero g = refl
lines_are (suc k) g =
    let os = outputs_from 0 k g in
    let z : 0 + k ≡ k = omega arith in
    ap (λ (l : List ℕ). l ++ out_line (output_of g k)) (lines_are k g)
    ∙ sym (in_order_append out_line os (output_of g k ∷ []) ∙ ap (λ (l : List ℕ). in_order out_line os ++ l) (append-nil (out_line (output_of g k))))
    ∙ sym (ap (in_order out_line) (outputs_snoc k 0 g ∙ ap (λ (n : ℕ). os ++ (output_of g n ∷ [])) z))

-- the numbers of a call are those that its types hold, and its height is the journal's (`Plain`)
pub said_sent : (c : Call) → Plain c.input.height c → said (call_bytes c) ≡ accepted_line (length c.sent) ++ in_order out_line c.sent
unfolding said
said_sent c p =
    let g = call_bytes c in
    let sent : outputs_from 0 (count_of g) g ≡ c.sent = ap (λ (x : Call). x.sent) (call_back c.input.height c p) in
    ap (λ (l : List ℕ). accepted_line (count_of g) ++ l) (lines_are (count_of g) g ∙ ap (in_order out_line) sent)
    ∙ ap (λ (n : ℕ). accepted_line n ++ in_order out_line c.sent) (count_back c.input c.sent)

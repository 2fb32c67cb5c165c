-- What the bytes alone say: the calls of a history, inputs and outputs; and the last group that is shown is the last call's.
-- Assumes nothing.
use Prim.Native.Nat.{ℕ, zero, suc, ◌+◌, ◌*◌, ◌-◌, ◌^◌, ◌≤◌, ◌<◌}
use mathlib.Core.Path.{◌≡◌, refl, ap, sym, ◌∙◌}
use mathlib.Core.List.{List, [], ◌∷◌, ◌++◌, append_assoc, append-nil, map}
use mathlib.Core.Bool.{true}
use native.Mathlib.Omega.{arith}
use borrow.Author.Tests.{le-ltb, le-leb}
use lib.ListN.{length, take, drop, get_or, length-append}
use lib.Seq.{drop_at, get_or-append-add, length-take-le, take-append_seam, drop-append_seam, take-add}
use Rattle.words.specs.Bytes.{number, in_order}
use Rattle.words.proofs.ByteLaws.{number_bytes}
use Rattle.words.proofs.Places.{zeros_at}
use Rattle.roll.specs.declared.Height.{Height}
use Rattle.roll.specs.declared.Roll.{Roll}
use Rattle.rules.specs.declared.Input.{Input}
use Rattle.rules.specs.declared.Output.{Output}
use Rattle.rules.specs.declared.State.{State}
use Rattle.rules.specs.Log.{desk, table_length}
use Rattle.journal.specs.Layout.{header_bytes, header_length, head_bytes, reply_bytes, output_bytes, group_bytes, group_length}
use Rattle.journal.specs.Readback.{input_of, output_of, count_of, length_of, groups_of, outputs_from}
use Rattle.journal.proofs.Roundtrip.{input_back, length_group}
use Rattle.kiosk.specs.Calls.{after_group, last_group}
use Rattle.kiosk.proofs.Accepted.{accepted_passes}
use Rattle.history.specs.Histories.{Call, call_bytes, Past, does, after, takes, Wide, WideNames, Told, told_none, told_more, beginning, History, written}
use Rattle.history.specs.Histories.{call_of, calls_in, records}
use Rattle.history.specs.Remembering.{Steady}
use Rattle.journal.proofs.Headers.{run_after}
use Rattle.history.proofs.Finding.{taken_height}
use Rattle.history.proofs.Names.{Named, Holds, works}
use Rattle.history.proofs.Steady.{steady, steady_after}
use Rattle.history.proofs.Openings.{created_length, created_roll, history_used}
use Rattle.history.proofs.Puts.{more, written_snoc}

-- ## Names of 64 bits

abbrev Narrow : ℕ → Type 0
Narrow x = x < 2 ^ 64

-- a call that its bytes say again
pub record Plain (height : Height) (c : Call) : Type 0 where
  pub wide : Wide c.input
  pub height_is : c.input.height ≡ height
  pub names : Named Narrow c.sent

data AllPlain (height : Height) : List Call → Type 0 where
  no_call : AllPlain height []
  one_call : {c : Call} {cs : List Call} → Plain height c → AllPlain height cs → AllPlain height (c ∷ cs)

-- what an input that is taken leaves and sends
pub wide_after : (p : Past) (i : Input) → takes p i ≡ true → Wide i → WideNames p → WideNames (after p i) × Named Narrow (does p i).sent
wide_after p i t w n =
    let passes = accepted_passes p.kiosk.used p.kiosk p.table i t in
    let start : Holds Narrow (desk p.kiosk.state p.table) = record { names = n.table; locked_named = n.locked; valid_named = n.valid; sent_named = tt } in
    let h = works Narrow (omega arith) (desk p.kiosk.state p.table) i w.name w.offer start passes in
    (record { table = h.names; locked = h.locked_named; valid = h.valid_named }, h.sent_named)

all_plain : {roll : Roll} {p q : Past} {cs : List Call} → Told p cs q → Steady roll p → WideNames p → AllPlain roll.height cs
all_plain told_none s n = no_call
all_plain {roll} (told_more {p} {q} {c} {cs} t w e later) s n =
    let h = wide_after p c.input t w n in
    one_call {c = c}
    (record {
      wide = w;
      height_is = taken_height p c.input t ∙ ap (λ (r : Roll). r.height) s.roll_is;
      names = rw e h.1;
    })
    (all_plain later (steady_after p c.input t s) h.0)

-- ## One group

same_output : {k k' r r' v v' n n' : ℕ} → k ≡ k' → r ≡ r' → v ≡ v' → n ≡ n'
    → ◌≡◌ {A = Output} (record { kind = k; round = record { 0 = r }; valid = record { 0 = v }; name = n }) (record { kind = k'; round = record { 0 = r' }; valid = record { 0 = v' }; name = n' })
same_output a b c d = rw (a, b, c, d)

output_back : (pre s : List ℕ) (j : ℕ) (o : Output) → length pre ≡ 26 + 12 * j → Narrow o.name → output_of (pre ++ (output_bytes o ++ s)) j ≡ o
output_back pre s j o l n =
    let b : List ℕ = output_bytes o ++ s in
    let at : (k : ℕ) → get_or (pre ++ b) (26 + 12 * j + k) 0 ≡ get_or b k 0
    = λ k. ap (λ (x : ℕ). get_or (pre ++ b) (x + k) 0) (sym l) ∙ get_or-append-add pre b k 0 in
    let z : 26 + 12 * j ≡ 26 + 12 * j + 0 = omega arith in
    same_output
    (ap (λ (x : ℕ). get_or (pre ++ b) x 0) z ∙ at 0)
    (at 1)
    (at 2)
    (ap number (run_after 8 pre b 4 (26 + 12 * j + 4) (omega arith)) ∙ number_bytes 8 o.name n)

outputs_back : (os : List Output) (pre s : List ℕ) (j : ℕ) → length pre ≡ 26 + 12 * j → Named Narrow os
    → outputs_from j (length os) (pre ++ (in_order output_bytes os ++ s)) ≡ os
unfolding outputs_from
outputs_back [] pre s j l n = refl
outputs_back (o ∷ os) pre s j l n =
    let later : List ℕ = in_order output_bytes os ++ s in
    let whole : pre ++ ((output_bytes o ++ in_order output_bytes os) ++ s) ≡ pre ++ (output_bytes o ++ later)
    = ap (λ (b : List ℕ). pre ++ b) (append_assoc (output_bytes o) (in_order output_bytes os) s) in
    let next : pre ++ (output_bytes o ++ later) ≡ (pre ++ output_bytes o) ++ later = sym (append_assoc pre (output_bytes o) later) in
    let m : length (pre ++ output_bytes o) ≡ 26 + 12 * suc j = length-append pre (output_bytes o) ∙ omega arith in
    ap (λ (b : List ℕ). output_of b j ∷ outputs_from (suc j) (length os) b) whole
    ∙ ap (λ (x : Output). x ∷ outputs_from (suc j) (length os) (pre ++ (output_bytes o ++ later))) (output_back pre later j o l n.0)
    ∙ ap (λ (b : List ℕ). o ∷ outputs_from (suc j) (length os) b) next
    ∙ ap (λ (l : List Output). o ∷ l) (outputs_back os (pre ++ output_bytes o) s (suc j) m n.1)

count_back : (i : Input) (os : List Output) (rest : List ℕ) → count_of (group_bytes i os ++ rest) ≡ length os
unfolding group_bytes reply_bytes
count_back i os rest = refl

sent_back : (i : Input) (os : List Output) → Named Narrow os → outputs_from 0 (length os) (group_bytes i os) ≡ os
unfolding group_bytes reply_bytes
sent_back i os n =
    let pre : List ℕ = head_bytes i ++ (length os ∷ []) in
    ap (λ (b : List ℕ). outputs_from 0 (length os) (pre ++ b)) (sym (append-nil (in_order output_bytes os)))
    ∙ outputs_back os pre [] 0 refl n

input_again : (i : Input) (os : List Output) (height : Height) → Wide i → i.height ≡ height → input_of height (group_bytes i os) ≡ i
unfolding group_bytes
input_again i os height w e =
    ap (λ (h : Height). input_of h (head_bytes i ++ reply_bytes os)) (sym e) ∙ input_back i (reply_bytes os) w.name w.offer

-- a group says its call
pub call_back : (height : Height) (c : Call) → Plain height c → call_of height (call_bytes c) ≡ c
call_back height c p =
    let i = c.input in
    let os = c.sent in
    let count : count_of (group_bytes i os) ≡ length os = ap count_of (sym (append-nil (group_bytes i os))) ∙ count_back i os [] in
    let sent : (call_of height (group_bytes i os)).sent ≡ os
    = ap (λ (n : ℕ). outputs_from 0 n (group_bytes i os)) count ∙ sent_back i os p.names in
    rw (input_again i os height p.wide p.height_is, sent)

-- ## All groups

groups_back : (height : Height) (left : ℕ) {cs : List Call} → AllPlain height cs → length (in_order call_bytes cs) ≤ left
    → map (call_of height) (groups_of left (in_order call_bytes cs)) ≡ cs
unfolding groups_of
groups_back height zero no_call long = refl
groups_back height (suc left) no_call long = refl
groups_back height zero (one_call {c} {cs} p later) long =
    absurd (omega (arith, length-append (call_bytes c) (in_order call_bytes cs), length_group c.input c.sent))
groups_back height (suc left) (one_call {c} {cs} p later) long =
    let g : List ℕ = call_bytes c in
    let rest : List ℕ = in_order call_bytes cs in
    let n : length (g ++ rest) ≡ length g + length rest = length-append g rest in
    let l : length g ≡ group_length c.sent = length_group c.input c.sent in
    let size : length_of (g ++ rest) ≡ length g = ap (λ (k : ℕ). 26 + 12 * k) (count_back c.input c.sent rest) ∙ sym l in
    rw (le-ltb (length (g ++ rest)) 26 (omega arith), size, take-append_seam g rest, drop-append_seam g rest)
    (ap (λ (x : Call). x ∷ map (call_of height) (groups_of left rest)) (call_back height c p)
    ∙ ap (λ (l : List Call). c ∷ l) (groups_back height left later (omega arith)))

calls_back : {roll : Roll} {cs : List Call} {p : Past} → History roll cs p → calls_in roll.height (drop (header_length roll) (written roll cs)) ≡ cs
calls_back {roll} {cs} h =
    let c = h.created in
    let b : List ℕ = in_order call_bytes cs in
    let start : Steady roll (beginning roll) = steady (record { created = c; told = told_none }) in
    let zeros : WideNames (beginning roll) = record { table = λ place. rw (zeros_at table_length place) (omega arith); locked = omega arith; valid = omega arith } in
    ap (calls_in roll.height) (drop_at (header_bytes roll) b (header_length roll) (created_length roll c))
    ∙ groups_back roll.height (length b) (all_plain h.told start zeros) (omega arith)

-- The records read back as what was done: from the bytes alone, the history's own calls
pub reads_back : {roll : Roll} {cs : List Call} {p : Past} → History roll cs p → records (written roll cs) ≡ cs
reads_back {roll} {cs} h =
    ap (λ (x : Roll). calls_in x.height (drop (header_length x) (written roll cs))) (created_roll roll h.created (in_order call_bytes cs)) ∙ calls_back h

-- The last group that is shown is the one written last
pub last_shown : (from : ℕ) (os : List Output) (s : State) (w g journal : List ℕ) → length w ≡ from → from + group_length os ≤ length journal
    → take (from + group_length os) journal ≡ w ++ g → last_group (after_group from os s) journal ≡ g
unfolding last_group
last_shown from os s w g journal lw within is =
    let n = group_length os in
    let size : from + n - from ≡ n = omega arith in
    rw (le-leb from (from + n) (omega arith), le-leb (from + n) (length journal) within, size)
    (sym (drop_at (take from journal) (take n (drop from journal)) from (length-take-le from journal (omega arith)))
    ∙ ap (drop from) (sym (take-add from n journal) ∙ is) ∙ drop_at w g from lw)

pub shows_last : {roll : Roll} {cs : List Call} {p : Past} → History roll cs p → (i : Input) → (journal : List ℕ)
    → (after p i).kiosk.used ≤ length journal → take (after p i).kiosk.used journal ≡ written roll (more cs p i)
    → last_group (after p i).kiosk journal ≡ group_bytes i (does p i).sent
shows_last {roll} {cs} {p} h i journal within is =
    let os = (does p i).sent in
    last_shown p.kiosk.used os (does p i).state (written roll cs) (group_bytes i os) journal (sym (history_used h)) within
    (is ∙ written_snoc roll cs (record { input = i; sent = os }))

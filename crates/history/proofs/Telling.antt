-- Calls one after the other: replaying their bytes leaves what they left; and any bytes are those of some calls, with a tail or with
-- damage after them. Assumes nothing.
use Prim.Native.Nat.{ℕ, zero, suc, ◌+◌, ◌≤◌}
use mathlib.Core.Path.{◌≡◌, refl, ap, sym, ◌∙◌}
use mathlib.Core.Logic.{◌⊎◌, inl, inr}
use mathlib.Core.List.{List, [], ◌∷◌, ◌++◌, append_assoc}
use mathlib.Core.Bool.{true}
use native.Mathlib.Omega.{arith}
use lib.ListN.{length, drop, length-append}
use lib.Seq.{drop_at, get_or-append-add}
use Rattle.words.specs.Bytes.{in_order}
use Rattle.roll.specs.declared.Roll.{Roll}
use Rattle.rules.specs.declared.Input.{Input}
use Rattle.rules.specs.declared.Output.{Output}
use Rattle.rules.specs.Log.{empty_table}
use Rattle.journal.specs.Layout.{group_bytes, group_length}
use Rattle.journal.proofs.Roundtrip.{length_group}
use Rattle.refusals.specs.declared.Answer.TheVariants.{Damaged}
use Rattle.kiosk.specs.Opening.{Opened, Found, ended, unfinished, damaged, whole, opened, failed, find, replay}
use Rattle.kiosk.proofs.Replays.{replay_stops, replay_damaged, replay_enough, replay_whole}
use Rattle.history.specs.Histories.{Call, call_bytes, Past, does, after, takes, Wide, Told, told_none, told_more, beginning, History, Tail, none, Bad, Bytes}
use Rattle.history.proofs.Finding.{found_whole, tail_stops, empty_is, Reads, find_reads, damage_bad}

-- ## How long they are

-- what holds as a journal begins, and is kept by each call that is accepted, holds of every history
told_keeps : (P : Past → Type 0) → ((p : Past) (i : Input) → takes p i ≡ true → P p → P (after p i)) → {p q : Past} {cs : List Call} → Told p cs q → P p → P q
told_keeps P keeps told_none h = h
told_keeps P keeps (told_more {p} {q} {c} {cs} t w e later) h = told_keeps P keeps later (keeps p c.input t h)

pub history_keeps : (P : Past → Type 0) → ((p : Past) (i : Input) → takes p i ≡ true → P p → P (after p i))
    → {roll : Roll} {cs : List Call} {p : Past} → History roll cs p → P (beginning roll) → P p
history_keeps P keeps h = told_keeps P keeps h.told

pub told_used : {p q : Past} {cs : List Call} → Told p cs q → q.kiosk.used ≡ p.kiosk.used + length (in_order call_bytes cs)
told_used told_none = omega arith
told_used (told_more {p} {q} {c} {cs} t w s later) =
    let g : List ℕ = call_bytes c in
    let n : length (g ++ in_order call_bytes cs) ≡ length g + length (in_order call_bytes cs) = length-append g (in_order call_bytes cs) in
    let l : length g ≡ group_length (does p c.input).sent = length_group c.input c.sent ∙ ap group_length s in
    omega (arith, told_used later)

-- ## Forwards

-- one call
replay_call : (left area : ℕ) (p : Past) (i : Input) (rest : List ℕ) → takes p i ≡ true → Wide i → p.kiosk.used ≤ area
    → length (group_bytes i (does p i).sent ++ rest) ≤ left
    → replay left area (group_bytes i (does p i).sent ++ rest) p.kiosk p.table ≡ replay (length rest) area rest (after p i).kiosk (after p i).table
replay_call left area p i rest t w room long =
    let os = (does p i).sent in
    let next : drop (group_length os) (group_bytes i os ++ rest) ≡ rest = drop_at (group_bytes i os) rest (group_length os) (length_group i os) in
    replay_whole left area (group_bytes i os ++ rest) p.kiosk p.table (does p i) long (found_whole area p i t w room rest)
    ∙ ap (λ (b : List ℕ). replay (length b) area b (after p i).kiosk (after p i).table) next

-- any number of calls
pub replay_told : (left area : ℕ) {p q : Past} {cs : List Call} → Told p cs q → (tail : List ℕ)
    → p.kiosk.used + length (in_order call_bytes cs ++ tail) ≤ area → length (in_order call_bytes cs ++ tail) ≤ left
    → replay left area (in_order call_bytes cs ++ tail) p.kiosk p.table ≡ replay (length tail) area tail q.kiosk q.table
replay_told left area (told_none {p}) tail room long = replay_enough left (length tail) area tail p.kiosk p.table long (omega arith)
replay_told left area (told_more {p} {q} {c} {cs} t w s later) tail room long =
    let i = c.input in
    let os = (does p i).sent in
    let g : List ℕ = group_bytes i os in
    let rest : List ℕ = in_order call_bytes cs ++ tail in
    let is : in_order call_bytes (c ∷ cs) ++ tail ≡ g ++ rest
    = append_assoc (call_bytes c) (in_order call_bytes cs) tail ∙ ap (λ (x : List Output). group_bytes i x ++ rest) s in
    let l : length g ≡ group_length os = length_group i os in
    let n : length (g ++ rest) ≡ length g + length rest = length-append g rest in
    let m : length (in_order call_bytes (c ∷ cs) ++ tail) ≡ length (g ++ rest) = ap length is in
    ap (λ (b : List ℕ). replay left area b p.kiosk p.table) is
    ∙ replay_call left area p i rest t w (omega arith) (omega arith)
    ∙ replay_told (length rest) area later tail (omega arith) (omega arith)

-- and then a tail
pub replay_tail : (left area : ℕ) {p q : Past} {cs : List Call} → Told p cs q → (tail : List ℕ) → Tail q tail
    → p.kiosk.used + length (in_order call_bytes cs ++ tail) ≤ area → length (in_order call_bytes cs ++ tail) ≤ left
    → replay left area (in_order call_bytes cs ++ tail) p.kiosk p.table ≡ opened q.kiosk q.table
replay_tail left area {p} {q} {cs} told tail is room long =
    let n : length (in_order call_bytes cs ++ tail) ≡ length (in_order call_bytes cs) + length tail = length-append (in_order call_bytes cs) tail in
    let u = told_used told in
    replay_told left area told tail room long
    ∙ replay_stops (length tail) area tail q.kiosk q.table (find area tail q.kiosk q.table) refl (tail_stops area q is (omega arith))

-- ## Backwards

-- bytes b, replayed from p with the answer o: calls, and what is after them
pub record Splits (p : Past) (b : List ℕ) (o : Opened) : Type 0 where
  pub calls : List Call
  pub tail : List ℕ
  pub last : Past
  pub told : Told p calls last
  pub bytes : b ≡ in_order call_bytes calls ++ tail
  pub ends : (Tail last tail × (o ≡ opened last.kiosk last.table)) ⊎ (Bad last tail × (o ≡ failed (Damaged last.kiosk.used) empty_table))

bytes_after : (a b : List ℕ) → Bytes (a ++ b) → Bytes b
bytes_after a b low i = rw (get_or-append-add a b i 0) at (low (length a + i))

one_more : (p : Past) (i : Input) (b rest : List ℕ) {o o' : Opened} → takes p i ≡ true → Wide i → b ≡ group_bytes i (does p i).sent ++ rest → o ≡ o'
    → Splits (after p i) rest o' → Splits p b o
one_more p i b rest t w is e s =
    let c : Call = record { input = i; sent = (does p i).sent } in
    record {
      calls = c ∷ s.calls;
      tail = s.tail;
      last = s.last;
      told = told_more {c = c} t w refl s.told;
      bytes = is ∙ ap (λ (l : List ℕ). group_bytes i (does p i).sent ++ l) s.bytes ∙ sym (append_assoc (call_bytes c) (in_order call_bytes s.calls) s.tail);
      ends = rw e s.ends;
    }

by_found : (left area : ℕ) (p : Past) (b : List ℕ) (f : Found) → find area b p.kiosk p.table ≡ f → Reads p b f → Bytes b
    → p.kiosk.used + length b ≤ area → length b ≤ suc left
    → ((q : Past) (rest : List ℕ) → Bytes rest → q.kiosk.used + length rest ≤ area → length rest ≤ left → Splits q rest (replay left area rest q.kiosk q.table))
    → Splits p b (replay (suc left) area b p.kiosk p.table)
by_found left area p b ended e r low room long later =
    record { calls = []; tail = b; last = p; told = told_none; bytes = refl; ends = inl (r, replay_stops (suc left) area b p.kiosk p.table ended e tt) }
by_found left area p b unfinished e r low room long later =
    record { calls = []; tail = b; last = p; told = told_none; bytes = refl; ends = inl (r, replay_stops (suc left) area b p.kiosk p.table unfinished e tt) }
by_found left area p b damaged e r low room long later =
    record { calls = []; tail = b; last = p; told = told_none; bytes = refl; ends = inr (damage_bad area p b (omega arith) e, replay_damaged (suc left) area b p.kiosk p.table long e) }
by_found left area p b (whole d) e (i, rest, t, w, same, is) low room long later =
    let os = (does p i).sent in
    let l : length (group_bytes i os) ≡ group_length os = length_group i os in
    let n : length b ≡ length (group_bytes i os) + length rest = ap length is ∙ length-append (group_bytes i os) rest in
    let step : replay (suc left) area b p.kiosk p.table ≡ replay (length rest) area rest (after p i).kiosk (after p i).table
    = ap (λ (x : List ℕ). replay (suc left) area x p.kiosk p.table) is
    ∙ replay_call (suc left) area p i rest t w (omega arith) (omega (arith, length-append (group_bytes i os) rest)) in
    one_more p i b rest t w is (step ∙ replay_enough (length rest) left area rest (after p i).kiosk (after p i).table (omega arith) (omega arith))
    (later (after p i) rest (bytes_after (group_bytes i os) rest (rw is at low)) (omega arith) (omega arith))

pub replay_splits : (left area : ℕ) (p : Past) (b : List ℕ) → Bytes b → p.kiosk.used + length b ≤ area → length b ≤ left
    → Splits p b (replay left area b p.kiosk p.table)
unfolding replay
replay_splits zero area p b low room long =
    record { calls = []; tail = b; last = p; told = told_none; bytes = refl; ends = inl (rw (empty_is b long) none, refl) }
replay_splits (suc left) area p b low room long =
    by_found left area p b (find area b p.kiosk p.table) refl (find_reads area p b low (omega arith)) low room long
    (λ q rest. replay_splits left area q rest)

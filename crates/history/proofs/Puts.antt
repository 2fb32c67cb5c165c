-- Creating a journal begins a history, and an accepted call goes on with it: the bytes, the kiosk, the table and what was sent; so opening
-- what a call left gives that very state and table. Assumes nothing.
use Prim.Native.Nat.{ℕ, ◌+◌, ◌-◌, ◌^◌, ◌≤◌, ◌<◌}
use mathlib.Core.Path.{◌≡◌, refl, ap, sym, ◌∙◌}
use mathlib.Core.List.{List, [], ◌∷◌, ◌++◌, append_assoc, append-nil, map}
use mathlib.Core.Bool.{true, ◌&&◌, not, false≢true}
use native.Mathlib.Omega.{arith}
use borrow.Author.Tests.{le-ltb, ltb-false, not-true, not-false}
use lib.Dec.{ltb}
use lib.ListN.{length, take, drop, replicate, length-append, length-replicate}
use lib.Seq.{take_at, drop-append_seam}
use Rattle.words.specs.Bytes.{in_order, overwrite}
use Rattle.words.proofs.Choice.{by_test, and_left, and_right}
use Rattle.words.proofs.ByteLaws.{in_order_append}
use Rattle.roll.specs.declared.Roll.{Roll}
use Rattle.roll.specs.Weighing.{roll_fits, own_fits, roll_with}
use Rattle.roll.proofs.Weighing.{fits_count}
use Rattle.rules.specs.declared.Input.{Input}
use Rattle.rules.specs.Log.{desk, table_length}
use Rattle.journal.specs.Layout.{header_bytes, header_length, group_bytes, group_length}
use Rattle.journal.proofs.Roundtrip.{length_group}
use Rattle.refusals.specs.declared.Answer.TheVariants.{Accepted}
use Rattle.refusals.specs.Answers.{is_accepted}
use Rattle.kiosk.specs.Judged.{judged}
use Rattle.kiosk.specs.Calls.{Called, Created, create, put, accepted}
use Rattle.kiosk.specs.Opening.{opened, open_journal}
use Rattle.kiosk.proofs.Accepted.{accepted_used}
use Rattle.history.specs.Histories.{Call, call_bytes, Past, does, after, takes, Wide, Told, told_none, told_more, Creates, beginning, History, written, none}
use Rattle.history.specs.Histories.{AllWide, no_input, one_input, PutAll, put_none, put_more}
use Rattle.history.proofs.Images.{length_overwrite, take_overwrite}
use Rattle.history.proofs.Finding.{judged_area, part_tail}
use Rattle.history.proofs.Telling.{told_used}
use Rattle.history.proofs.Openings.{opens_history, created_length}

-- ## One call more

pub told_snoc : {p q : Past} {cs : List Call} → Told p cs q → (i : Input) → takes q i ≡ true → Wide i
    → let c : Call = record { input = i; sent = (does q i).sent } in Told p (cs ++ (c ∷ [])) (after q i)
told_snoc (told_none {p}) i t w = told_more {c = record { input = i; sent = (does p i).sent }} t w refl told_none
told_snoc (told_more {p} {q} {c} {cs} t w e later) i on wide = told_more {c = c} t w e (told_snoc later i on wide)

pub written_snoc : (roll : Roll) (cs : List Call) (c : Call) → written roll (cs ++ (c ∷ [])) ≡ written roll cs ++ call_bytes c
written_snoc roll cs c =
    ap (λ (l : List ℕ). header_bytes roll ++ l) (in_order_append call_bytes cs (c ∷ []) ∙ ap (λ (l : List ℕ). in_order call_bytes cs ++ l) (append-nil (call_bytes c)))
    ∙ sym (append_assoc (header_bytes roll) (in_order call_bytes cs) (call_bytes c))

-- what an accepted call has passed, and what it gives
pub record Puts (p : Past) (i : Input) (journal : List ℕ) : Type 0 where
  pub taken : takes p i ≡ true
  pub room : p.kiosk.used + group_length (does p i).sent ≤ length journal
  pub gives : put i p.kiosk p.table journal ≡ accepted i (does p i) p.kiosk journal

pub put_accepts : (p : Past) (i : Input) (journal : List ℕ) → is_accepted (put i p.kiosk p.table journal).answer ≡ true → Puts p i journal
unfolding put
put_accepts p i journal =
    let k = p.kiosk in
    let d = desk k.state p.table in
    let a = judged (length journal) k d i in
    let o : Called = accepted i (does p i) k journal in
    let P : Called → Type 0 = λ r. is_accepted r.answer ≡ true → (takes p i ≡ true) × (k.used + group_length (does p i).sent ≤ length journal) × (r ≡ o) in
    let all : P (put i k p.table journal) =
    by_test P (not (is_accepted a)) (λ e h. absurd (false≢true (sym (not-true (is_accepted a) e) ∙ h)))
    (λ e. by_test P (ltb (length journal) (k.used + group_length (does p i).sent)) (λ f h. absurd (false≢true h))
    (λ f h.
    let on = not-false (is_accepted a) e in
    let within = (accepted_used (length journal) k p.table i on).0 in
    (rw (judged_area (length journal) k d i within) at on, ltb-false (length journal) (k.used + group_length (does p i).sent) f, refl))) in
    λ h. let x = all h in record { taken = x.0; room = x.1; gives = x.2 }

-- a history with one more call
abbrev pub more : List Call → Past → Input → List Call
more cs p i = cs ++ (record { input = i; sent = (does p i).sent } ∷ [])

module _ {roll : Roll} {cs : List Call} {p : Past} (h : History roll cs p) (i : Input) (w : Wide i) where
  pub longer : takes p i ≡ true → History roll (more cs p i) (after p i)
  longer t = record { created = h.created; told = told_snoc h.told i t w }

  -- the used bytes of the journal after it
  pub longer_bytes : (journal : List ℕ) → take p.kiosk.used journal ≡ written roll cs → p.kiosk.used ≤ length journal
      → let g = group_bytes i (does p i).sent in
      take (after p i).kiosk.used (overwrite journal p.kiosk.used g) ≡ written roll (more cs p i)
  longer_bytes journal is within =
      let u = p.kiosk.used in
      let g : List ℕ = group_bytes i (does p i).sent in
      let l : length g ≡ group_length (does p i).sent = length_group i (does p i).sent in
      ap (λ (n : ℕ). take (u + n) (overwrite journal u g)) (sym l)
      ∙ take_overwrite journal u g within
      ∙ ap (λ (b : List ℕ). b ++ g) is
      ∙ sym (written_snoc roll cs (record { input = i; sent = (does p i).sent }))

  -- an accepted call: its reply, and the history that it goes on with
  module _ (journal : List ℕ) (is : take p.kiosk.used journal ≡ written roll cs)
      (on : is_accepted (put i p.kiosk p.table journal).answer ≡ true) where
    puts : Puts p i journal
    puts = put_accepts p i journal on

    abbrev reply : Called
    reply = put i p.kiosk p.table journal

    pub put_history : History roll (more cs p i) (after p i)
    put_history = longer puts.taken

    pub put_gives : (reply.sent ≡ (does p i).sent) × (reply.kiosk ≡ (after p i).kiosk) × (reply.table ≡ (after p i).table)
        × (take (after p i).kiosk.used reply.journal ≡ written roll (more cs p i))
    put_gives =
        let e = puts.gives in (
          ap (λ (r : Called). r.sent) e,
          ap (λ (r : Called). r.kiosk) e,
          ap (λ (r : Called). r.table) e,
          ap (λ (r : Called). take (after p i).kiosk.used r.journal) e ∙ longer_bytes journal is (omega (arith, puts.room)),
        )

-- opening what a history left, in any area and with any table before, is the identity
pub opening_again : {roll : Roll} {cs : List Call} {p : Past} → History roll cs p → (journal table : List ℕ) → length table ≡ table_length
    → p.kiosk.used ≤ length journal → take p.kiosk.used journal ≡ written roll cs
    → open_journal journal p.kiosk.used table ≡ opened p.kiosk p.table
opening_again {roll} {cs} {p} h journal table places within is =
    opens_history journal p.kiosk.used table places within h [] none (is ∙ sym (append-nil (written roll cs)))

-- a power cut at any byte of a further call's group: what the history left
pub opening_cut : {roll : Roll} {cs : List Call} {p : Past} → History roll cs p → (i : Input) (m : ℕ) → takes p i ≡ true → Wide i
    → m < length (group_bytes i (does p i).sent) → (journal : List ℕ) (used : ℕ) (table : List ℕ) → length table ≡ table_length → used ≤ length journal
    → take used journal ≡ written roll cs ++ take m (group_bytes i (does p i).sent)
    → open_journal journal used table ≡ opened p.kiosk p.table
opening_cut {roll} {cs} {p} h i m t w less journal used table places within is =
    opens_history journal used table places within h (take m (group_bytes i (does p i).sent)) (part_tail p i m t w less) is

-- ## Creating

-- a roll that fits, with an own number on it, is one that creating takes
pub fits_creates : (powers : List ℕ) (own height : ℕ) → roll_fits (roll_with powers own height) ≡ true → own_fits (roll_with powers own height) ≡ true → height < 2 ^ 32
    → Creates (roll_with powers own height)
fits_creates powers own height fits mine tall =
    let pad : List ℕ = replicate (32 - length powers) 0 in
    record {
      fits = fits;
      own = mine;
      tall = tall;
      long = length-append powers pad ∙ omega (arith, length-replicate {A = ℕ} (32 - length powers) 0, (fits_count (roll_with powers own height) fits).1);
      past = drop-append_seam powers pad;
    }

module _ (powers : List ℕ) (own height : ℕ) (journal : List ℕ) (tall : height < 2 ^ 32) where
  abbrev roll : Roll
  roll = roll_with powers own height

  created_so : is_accepted (create powers own height journal).answer ≡ true
      → (roll_fits roll ≡ true) × (own_fits roll ≡ true) × (header_length roll ≤ length journal)
      × (create powers own height journal ≡ record { answer = Accepted; used = header_length roll; journal = overwrite journal 0 (header_bytes roll) })
  unfolding create
  created_so =
      let o : Created = record { answer = Accepted; used = header_length roll; journal = overwrite journal 0 (header_bytes roll) } in
      let P : Created → Type 0 = λ r. is_accepted r.answer ≡ true → (roll_fits roll ≡ true) × (own_fits roll ≡ true) × (header_length roll ≤ length journal) × (r ≡ o) in
      by_test P (not (roll_fits roll && own_fits roll)) (λ e h. absurd (false≢true h))
      (λ e. by_test P (ltb (length journal) (header_length roll)) (λ f h. absurd (false≢true h))
      (λ f h.
      let both = not-false (roll_fits roll && own_fits roll) e in
      (and_left (roll_fits roll) (own_fits roll) both, and_right (roll_fits roll) (own_fits roll) both, ltb-false (length journal) (header_length roll) f, refl)))

  pub create_begins : is_accepted (create powers own height journal).answer ≡ true → History roll [] (beginning roll)
  create_begins on =
      let x = created_so on in
      record { created = fits_creates powers own height x.0 x.1 tall; told = told_none }

  pub create_within : is_accepted (create powers own height journal).answer ≡ true → (create powers own height journal).used ≤ length (create powers own height journal).journal
  create_within on =
      let x = created_so on in
      let long = created_length roll (create_begins on).created in
      rw x.3 (omega (arith, x.2, length_overwrite journal 0 (header_bytes roll) (omega arith) (omega (arith, x.2))))

  -- its used bytes
  pub create_bytes : (on : is_accepted (create powers own height journal).answer ≡ true)
      → take (create powers own height journal).used (create powers own height journal).journal ≡ written roll []
  create_bytes on =
      let x = created_so on in
      let head = header_bytes roll in
      let rest : List ℕ = drop (0 + length head) journal in
      ap (λ (r : Created). take r.used r.journal) x.3
      ∙ take_at head rest (header_length roll) (created_length roll (create_begins on).created)
      ∙ sym (append-nil head)

-- ## Histories are what `put` makes

-- a call that is taken, in an area that has room for it
pub takes_put : (p : Past) (i : Input) (journal : List ℕ) → takes p i ≡ true → p.kiosk.used + group_length (does p i).sent ≤ length journal
    → put i p.kiosk p.table journal ≡ accepted i (does p i) p.kiosk journal
unfolding put
takes_put p i journal t room =
    let k = p.kiosk in
    let d = desk k.state p.table in
    let on : is_accepted (judged (length journal) k d i) ≡ true = rw (judged_area (length journal) k d i (omega arith)) t in
    rw (on, le-ltb (length journal) (k.used + group_length (does p i).sent) room)

-- the calls of a history can be put so, in any area that has room for their bytes
pub record PutsSo (p : Past) (cs : List Call) (q : Past) (j : List ℕ) : Type 0 where
  pub journal : List ℕ
  pub put_so : PutAll p j (map (λ (c : Call). c.input) cs) q journal
  pub as_long : length journal ≡ length j
  pub bytes_are : take q.kiosk.used journal ≡ take p.kiosk.used j ++ in_order call_bytes cs

pub told_put : {p q : Past} {cs : List Call} → Told p cs q → (j : List ℕ) → q.kiosk.used ≤ length j → PutsSo p cs q j
told_put (told_none {p}) j room = record { journal = j; put_so = put_none; as_long = refl; bytes_are = sym (append-nil (take p.kiosk.used j)) }
told_put (told_more {p} {q} {c} {cs} t w s later) j room =
    let i = c.input in
    let u = p.kiosk.used in
    let os = (does p i).sent in
    let g : List ℕ = group_bytes i os in
    let lg : length g ≡ group_length os = length_group i os in
    let used : q.kiosk.used ≡ u + group_length os + length (in_order call_bytes cs) = told_used later in
    let fits : u + group_length os ≤ length j = omega arith in
    let gives = takes_put p i j t fits in
    let j' : List ℕ = overwrite j u g in
    let same : length j' ≡ length j = length_overwrite j u g (omega arith) (omega arith) in
    let x = told_put later j' (omega arith) in
    let front : take (u + group_length os) j' ≡ take u j ++ g = ap (λ (n : ℕ). take (u + n) j') (sym lg) ∙ take_overwrite j u g (omega arith) in
    let b : g ≡ call_bytes c = ap (group_bytes i) (sym s) in
    record {
      journal = x.journal;
      put_so = put_more {p = p} {q = q} {j = j} {l = x.journal} {i = i} {is = map (λ (d : Call). d.input) cs} (ap (λ (r : Called). is_accepted r.answer) gives) (rw gives x.put_so);
      as_long = x.as_long ∙ same;
      bytes_are = x.bytes_are ∙ ap (λ (l : List ℕ). l ++ in_order call_bytes cs) (front ∙ ap (λ (l : List ℕ). take u j ++ l) b) ∙ append_assoc (take u j) (call_bytes c) (in_order call_bytes cs);
    }

-- and what is put so, with names and offers of 64 bits, is a history
pub put_told : {p q : Past} {j l : List ℕ} {is : List Input} → AllWide is → PutAll p j is q l → (cs : List Call) × Told p cs q × (map (λ (c : Call). c.input) cs ≡ is)
put_told {p} no_input put_none = ([], told_none, refl)
put_told {p} {q} {j} {l} (one_input {i} {is} w ws) (put_more on later) =
    let x = put_accepts p i j on in
    let r = put_told {p = record { kiosk = (accepted i (does p i) p.kiosk j).kiosk; table = (accepted i (does p i) p.kiosk j).table }} ws (rw x.gives at later) in
    (record { input = i; sent = (does p i).sent } ∷ r.0, told_more {c = record { input = i; sent = (does p i).sent }} x.taken w refl r.1, ap (λ (l : List Input). i ∷ l) r.2)

-- Steps of the market, for examples, by any step relation that holds the honest one: power on, calls, a call that power cuts, power
-- off, a message sent; what may arrive; and what a kiosk put out. Assumes nothing.
use Rattle.std.specs.Bool.{if◌then◌else◌}
use Prim.Native.Nat.{ℕ, ◌+◌, ◌^◌, ◌≤◌, ◌<◌}
use mathlib.Core.Path.{◌≡◌, refl, ap, sym, subst, ◌∙◌}
use mathlib.Core.List.{List, [], ◌∷◌, ◌++◌, append_assoc, append-nil}
use mathlib.Core.Bool.{Bool, true, false, ◌&&◌, ◌||◌, true≢false}
use native.Mathlib.Omega.{arith}
use borrow.Author.Tests.{eq-eqb, ne_eqb, ltb-true, lt-ltb, le-ltb}
use lib.Dec.{eqb, ltb}
use lib.ListN.{length, take, replicate, length-append, length-replicate}
use lib.Seq.{take_at, take-length, take-append-add}
use Rattle.words.specs.Choice.{the_choices}
use Rattle.words.specs.Bytes.{in_order, overwrite}
use Rattle.words.specs.Members.{In}
use Rattle.words.proofs.Choice.{and_left, and_right}
use Rattle.roll.specs.declared.Roll.{Roll}
use Rattle.roll.specs.Weighing.{roll_fits, the_weighing}
use Rattle.rules.specs.declared.Input.{Input}
use Rattle.rules.specs.Log.{empty_table, table_length, the_log}
use Rattle.rules.specs.Doing.{the_doing}
use Rattle.rules.specs.Rules.{the_rules}
use Rattle.rules.specs.Work.{the_work}
use Rattle.rules.specs.Sent.{packed}
use Rattle.journal.specs.Layout.{header_bytes, header_length, group_bytes, group_length}
use Rattle.journal.proofs.Roundtrip.{length_group}
use Rattle.refusals.specs.declared.Answer.{Answer}
use Rattle.refusals.specs.declared.Answer.TheVariants.{Accepted, HeaderShort}
use Rattle.refusals.specs.Answers.{is_accepted}
use Rattle.refusals.specs.Possible.{the_possible}
use Rattle.refusals.specs.Refusals.{is_proposal, is_vote, the_refusals}
use Rattle.kiosk.specs.Judged.{the_judged}
use Rattle.kiosk.specs.Calls.{Called, Created}
use Rattle.kiosk.specs.Calls as calls
use Rattle.kiosk.specs.Opening.{Opened, failed, open_journal}
use Rattle.history.specs.Histories.{Call, call_bytes, Past, does, after, takes, Wide, AllWide, no_input, one_input, Creates, History, beginning, written, Tail, none, records, sent_in, all_taken, calls_of, leaves, the_histories}
use Rattle.history.proofs.Finding.{part_tail}
use Rattle.history.proofs.Openings.{opens_short, history_used, created_length}
use Rattle.history.proofs.Puts.{more, longer_bytes, written_snoc, takes_put, create_bytes}
use Rattle.history.proofs.OneHistory.{spoken, taken_told}
use Rattle.agreement.specs.Weigh.{Seats}
use Rattle.agreement.specs.Moves.{Out}
use Rattle.agreement.specs.System.{opened, no_header, Board, off, on, Msg, by, Change, create, wake, write, write_cut, cut, change, send, begin, next, awake, asleep}
use Rattle.agreement.specs.System as system
use Rattle.market.specs.Seat.{acts, message}
use Rattle.market.specs.Kiosks.{MayCreate, MayOpen, MayPut, opening_of, kiosk_of}
use Rattle.market.specs.Demand3.{roll_at, scale, World, Step, Reached, Leads, here, further, PutOut}
use Rattle.market.proofs.Kiosks.{empty_length, opens_so, left_opens}
use Rattle.market.proofs.Kiosks as kiosks

-- ## A kiosk after some inputs, in order

abbrev pub file_after : Roll → List Input → List ℕ
file_after roll is = written roll (calls_of (beginning roll) is)

abbrev pub memory_after : Roll → List Input → Past
memory_after roll is = leaves (beginning roll) is

-- the file where power is cut after n bytes of one further group
abbrev pub cut_file : Roll → List Input → Input → ℕ → List ℕ
cut_file roll is x n = file_after roll is ++ take n (group_bytes x (does (memory_after roll is) x).sent)

abbrev pub kiosk_after : Roll → List Input → Board Past
kiosk_after roll is = on (memory_after roll is) (file_after roll is)

-- names and offers of 64 bits, by a test
unfoldable pub narrow : List Input → Bool
narrow [] = true
narrow (i ∷ is) = (ltb i.name (2 ^ 64) && ltb i.offer (2 ^ 64)) && narrow is

-- the journal is created, each of these inputs is accepted, and this is what they put out
pub record Story (roll : Roll) (is : List Input) (os : List Out) : Type 0 where
  pub created : Creates roll
  pub fit : narrow is ≡ true
  pub taken : all_taken (beginning roll) is ≡ true
  pub sent : acts (sent_in (calls_of (beginning roll) is)) ≡ os

-- To compute a story: `unfolding the_stories` opens all that it takes.
unfoldable pub the_stories : Unit {0}
unfolding narrow the_choices the_weighing the_log the_doing the_rules the_work the_possible the_refusals the_judged the_histories
the_stories = tt

-- first some inputs, then others
leaves_then : (p : Past) (is xs : List Input) → leaves p (is ++ xs) ≡ leaves (leaves p is) xs
unfolding leaves
leaves_then p [] xs = refl
leaves_then p (i ∷ is) xs = leaves_then (after p i) is xs

calls_then : (p : Past) (is xs : List Input) → calls_of p (is ++ xs) ≡ calls_of p is ++ calls_of (leaves p is) xs
unfolding calls_of leaves
calls_then p [] xs = refl
calls_then p (i ∷ is) xs = ap (λ (l : List Call). record { input = i; sent = (does p i).sent } ∷ l) (calls_then (after p i) is xs)

taken_then : (p : Past) (is xs : List Input) → all_taken p (is ++ xs) ≡ true → (all_taken p is ≡ true) × (all_taken (leaves p is) xs ≡ true)
unfolding all_taken leaves
taken_then p [] xs e = (refl, e)
taken_then p (i ∷ is) xs e =
    let t = and_left (takes p i) (all_taken (after p i) (is ++ xs)) e in
    let r = taken_then (after p i) is xs (and_right (takes p i) (all_taken (after p i) (is ++ xs)) e) in
    (rw t r.0, r.1)

narrow_then : (is xs : List Input) → narrow (is ++ xs) ≡ true → (narrow is ≡ true) × (narrow xs ≡ true)
unfolding narrow
narrow_then [] xs e = (refl, e)
narrow_then (i ∷ is) xs e =
    let a = ltb i.name (2 ^ 64) && ltb i.offer (2 ^ 64) in
    let t = and_left a (narrow (is ++ xs)) e in
    let r = narrow_then is xs (and_right a (narrow (is ++ xs)) e) in
    (rw t r.0, r.1)

pub wide_first : (i : Input) (is : List Input) → narrow (i ∷ is) ≡ true → Wide i
unfolding narrow
wide_first i is e =
    let a = ltb i.name (2 ^ 64) in
    let b = ltb i.offer (2 ^ 64) in
    let t = and_left (a && b) (narrow is) e in
    record { name = ltb-true i.name (2 ^ 64) (and_left a b t); offer = ltb-true i.offer (2 ^ 64) (and_right a b t) }

all_wide : (is : List Input) → narrow is ≡ true → AllWide is
unfolding narrow
all_wide [] e = no_input
all_wide (i ∷ is) e = one_input {i = i} (wide_first i is e) (all_wide is (and_right (ltb i.name (2 ^ 64) && ltb i.offer (2 ^ 64)) (narrow is) e))

-- ## Creating, opening and putting, met by replies that say what the definitions give

-- one call more, in an area that just holds it
pub one_more : {roll : Roll} {cs : List Call} {p : Past} → History roll cs p → (x : Input) → Wide x → takes p x ≡ true
    → MayPut p (written roll cs) x (after p x) (written roll (more cs p x))
one_more {roll} {cs} {p} h x w t =
    let n = group_length (does p x).sent in
    let file : List ℕ = written roll cs in
    let area : List ℕ = file ++ replicate n 0 in
    let used : length file ≡ p.kiosk.used = sym (history_used h) in
    let begins : take p.kiosk.used area ≡ file = take_at file (replicate n 0) p.kiosk.used used in
    let long : p.kiosk.used + n ≤ length area = omega (arith, length-append file (replicate n 0), length-replicate {A = ℕ} n 0) in
    let o : Called = calls.accepted x (does p x) p.kiosk area in
    record {
      wide = w;
      area = area;
      begins = begins;
      reply = record { answer = Accepted; sent = packed o.sent; kiosk = o.kiosk };
      table = o.table;
      journal = o.journal;
      meets = rw (takes_put p x area t long) (record { answer = refl; sent = refl; kiosk = refl; table_is = refl; journal_is = refl });
      accepted = refl;
      kiosk_is = refl;
      table_is = refl;
      file_is = sym (longer_bytes h x w area begins (omega arith));
    }

-- what no byte was written of
unwritten : {roll : Roll} → Creates roll → (area table : List ℕ) → length table ≡ table_length → open_journal area 0 table ≡ failed HeaderShort empty_table
unwritten {roll} c area table places = opens_short area 0 table places (omega arith) roll c 0 (omega (arith, created_length roll c)) refl

pub none_there : {roll : Roll} → Creates roll → MayOpen [] no_header
none_there c = opens_so [] (failed HeaderShort empty_table) (unwritten c [] empty_table empty_length)

-- the change that opens it, whatever may arrive
pub waked : {powers : List ℕ} {height i : ℕ} {May : Input → Type 0} {roll : Roll} {cs : List Call} {p : Past} → History roll cs p → (d tail : List ℕ) → Tail p tail
    → d ≡ written roll cs ++ tail → Change (kiosk_of powers height i) May (off d) (on p (written roll cs))
waked {roll = roll} {cs = cs} {p = p} h d tail t e =
    let file : List ℕ = written roll cs in
    rw e
    (wake (file ++ tail) p p.kiosk.used refl (left_opens h tail t)
    (ap {B = Board Past} (on p) (sym (take_at file tail p.kiosk.used (sym (history_used h))))))

-- ## The same of a story

told : {roll : Roll} {is : List Input} {os : List Out} → Story roll is os → History roll (calls_of (beginning roll) is) (memory_after roll is)
told {roll} {is} s = record { created = s.created; told = taken_told (beginning roll) (all_wide is s.fit) s.taken }

module _ {roll : Roll} (is : List Input) {os : List Out} (s : Story roll is os) where
  abbrev p : Past
  p = memory_after roll is

  pub story_opens : MayOpen (file_after roll is) (opened p p.kiosk.used)
  story_opens = subst (λ (d : List ℕ). MayOpen d (opened p p.kiosk.used)) (append-nil (file_after roll is)) (left_opens (told s) [] none)

  -- the outputs of its whole records
  pub story_outputs : acts (sent_in (records (file_after roll is))) ≡ os
  story_outputs = ap acts (spoken (told s)) ∙ s.sent

  -- its file begins with the header
  pub story_header : take (header_length roll) (file_after roll is) ≡ file_after roll []
  unfolding calls_of
  story_header =
      let head = header_bytes roll in
      take_at head (in_order call_bytes (calls_of (beginning roll) is)) (header_length roll) (created_length roll s.created) ∙ sym (append-nil head)

-- the first inputs of a story
pub first_part : {roll : Roll} (is xs : List Input) {os : List Out} → Story roll (is ++ xs) os → Story roll is (acts (sent_in (calls_of (beginning roll) is)))
first_part {roll} is xs s =
    record { created = s.created; fit = (narrow_then is xs s.fit).0; taken = (taken_then (beginning roll) is xs s.taken).0; sent = refl }

-- the last input of a story
module _ {roll : Roll} (is : List Input) (x : Input) {os : List Out} (s : Story roll (is ++ (x ∷ [])) os) where
  last_taken : takes (memory_after roll is) x ≡ true
  unfolding all_taken
  last_taken = and_left (takes (memory_after roll is) x) true (taken_then (beginning roll) is (x ∷ []) s.taken).1

  last_wide : Wide x
  last_wide = wide_first x [] (narrow_then is (x ∷ []) s.fit).1

  file_more : file_after roll (is ++ (x ∷ [])) ≡ written roll (more (calls_of (beginning roll) is) (memory_after roll is) x)
  unfolding calls_of
  file_more = ap (written roll) (calls_then (beginning roll) is (x ∷ []))

  pub story_puts : MayPut (memory_after roll is) (file_after roll is) x (memory_after roll (is ++ (x ∷ []))) (file_after roll (is ++ (x ∷ [])))
  unfolding leaves
  story_puts = rw (leaves_then (beginning roll) is (x ∷ []), file_more) (one_more (told (first_part is (x ∷ []) s)) x last_wide last_taken)

-- ## A roll that fits, with an own number on it, is created

module _ (powers : List ℕ) (height : ℕ) (fits : roll_fits (roll_at powers height 0) ≡ true) (tall : height < 2 ^ 32) (i : ℕ) (on_roll : i < length powers) where
  abbrev n : ℕ
  n = header_length (roll_at powers height i)

  abbrev room : List ℕ
  room = replicate n 0

  abbrev made : Created
  made = record { answer = Accepted; used = n; journal = overwrite room 0 (header_bytes (roll_at powers height i)) }

  create_so : calls.create powers i height room ≡ made
  unfolding calls.create roll_fits
  create_so = rw (fits, lt-ltb i (length powers) on_roll, le-ltb (length room) n (omega (arith, length-replicate {A = ℕ} n 0)))

  create_on : is_accepted (calls.create powers i height room).answer ≡ true
  create_on = ap (λ (c : Created). is_accepted c.answer) create_so

  pub creates : Creates (roll_at powers height i)
  creates = kiosks.creates powers i height fits on_roll tall

  pub may_create : MayCreate powers i height (file_after (roll_at powers height i) [])
  unfolding calls_of
  may_create = record {
    area = room;
    made = record { answer = Accepted; used = n };
    journal = made.journal;
    meets = rw create_so (record { answer = refl; used = refl; journal_is = refl });
    accepted = refl;
    file_is = sym (create_bytes powers i height room tall create_on) ∙ ap (λ (c : Created). take c.used c.journal) create_so;
  }

  pub untold : Story (roll_at powers height i) [] []
  unfolding narrow calls_of all_taken sent_in
  untold = record { created = creates; fit = refl; taken = refl; sent = refl }

-- ## Steps

-- the setting of an example: its powers, who keeps the rules, and the worlds that were come to, from which honest steps lead on
pub record Setting : Type 1 where
  pub powers : List ℕ
  pub height : ℕ
  pub keeps : Seats
  pub fits : roll_fits (roll_at powers height 0) ≡ true
  pub tall : height < 2 ^ 32
  pub came : World powers height keeps → Type 0
  pub onward : (w w' : World powers height keeps) → came w → Step powers height keeps w w' → came w'

module _ (powers : List ℕ) (height : ℕ) (keeps : Seats) where
  -- kiosks without a journal and nothing on the air
  abbrev pub unbegun : World powers height keeps
  unbegun = record { board = λ i. off []; air = [] }

  -- what steps lead to from there
  abbrev pub ReachedWith : (World powers height keeps → World powers height keeps → Type 0) → World powers height keeps → Type 0
  ReachedWith S w = system.Reach (scale powers height) keeps (kiosk_of powers height) S w

  -- what steps lead to from a world that is reached is reached
  pub leads_on : {v w : World powers height keeps} → Reached powers height keeps v → Leads powers height keeps v w → Reached powers height keeps w
  leads_on r here = r
  leads_on r (further l s) = next (leads_on r l) s

  pub begins : {S : World powers height keeps → World powers height keeps → Type 0} → ReachedWith S unbegun
  begins = begin (λ i. refl) refl

-- a rule-keeping seat
pub record Keeper (powers : List ℕ) (keeps : Seats) (i : ℕ) : Type 0 where
  pub on_roll : i < length powers
  pub rule : keeps i ≡ true

-- What may arrive at a seat, with a reason for each input: start and timers; anything from a rule-breaker; a message on the air
pub data MayCome (keeps : Seats) (air : List Msg) : List Input → Type 0 where
  may_none : MayCome keeps air []
  may_own : {x : Input} {xs : List Input} → (is_proposal x || is_vote x) ≡ false → MayCome keeps air xs → MayCome keeps air (x ∷ xs)
  may_breaker : {x : Input} {xs : List Input} → keeps x.sender ≡ false → MayCome keeps air xs → MayCome keeps air (x ∷ xs)
  may_sent : {x : Input} {xs : List Input} → In (by x.sender (message x)) air → MayCome keeps air xs → MayCome keeps air (x ∷ xs)

module _ (m : Setting) where
  abbrev pub W : Type 0
  W = World m.powers m.height m.keeps

  abbrev pub Came : W → Type 0
  Came w = m.came w

  abbrev pub Sees : List Msg → ℕ → Input → Type 0
  Sees air i x = system.Sees (scale m.powers m.height) m.keeps (kiosk_of m.powers m.height) air i x

  abbrev Changes : List Msg → ℕ → Board Past → Board Past → Type 0
  Changes air i b b' = Change (kiosk_of m.powers m.height i) (Sees air i) b b'

  pub sees_first : {air : List Msg} {x : Input} {xs : List Input} → MayCome m.keeps air (x ∷ xs) → (i : ℕ) → Sees air i x
  sees_first (may_own n later) i j o b hj kj = absurd (true≢false (sym b.0 ∙ n))
  sees_first (may_breaker n later) i j o b hj kj = absurd (true≢false (sym kj ∙ ap m.keeps (sym b.1) ∙ n))
  sees_first (may_sent a later) i j o b hj kj = rw (← b.1, b.2) a

  come_later : {air : List Msg} {x : Input} {xs : List Input} → MayCome m.keeps air (x ∷ xs) → MayCome m.keeps air xs
  come_later (may_own n later) = later
  come_later (may_breaker n later) = later
  come_later (may_sent a later) = later

  -- the world with one kiosk changed, and with one message more on the radio
  abbrev pub with_board : W → ℕ → Board Past → W
  with_board w i b = record { board = λ j. if eqb j i then b else w.board j; air = w.air }

  abbrev pub with_word : W → ℕ → Out → W
  with_word w i o = record { board = w.board; air = by i o ∷ w.air }

  module _ (w : W) {i : ℕ} (k : Keeper m.powers m.keeps i) where
    -- a change of one kiosk, and another after it
    moved : {b b' : Board Past} → Came w → w.board i ≡ b → Changes w.air i b b' → Came (with_board w i b')
    moved {b} {b'} r e c =
        m.onward w (with_board w i b') r (change i k.on_roll k.rule (rw (e, eq-eqb i i refl) c) (λ j n. rw (ne_eqb j i n)) refl)

    again : {b b' : Board Past} → Came (with_board w i b) → Changes w.air i b b' → Came (with_board w i b')
    again {b} {b'} r c =
        m.onward (with_board w i b) (with_board w i b') r (change i k.on_roll k.rule (rw (eq-eqb i i refl) c) (λ j n. rw (ne_eqb j i n)) refl)

    put_one : {roll : Roll} (is : List Input) (x : Input) {os : List Out} → Story roll (is ++ (x ∷ [])) os → Sees w.air i x
        → Changes w.air i (kiosk_after roll is) (kiosk_after roll (is ++ (x ∷ [])))
    put_one {roll} is x s sees =
        let all : List Input = is ++ (x ∷ []) in
        write (memory_after roll is) (memory_after roll all) (file_after roll is) (file_after roll all) x refl sees (story_puts is x s) refl

    puts_all : {roll : Roll} (is xs : List Input) {os : List Out} → Story roll (is ++ xs) os → MayCome m.keeps w.air xs
        → Came (with_board w i (kiosk_after roll is)) → Came (with_board w i (kiosk_after roll (is ++ xs)))
    puts_all is [] s c r = rw (append-nil is) r
    puts_all {roll} is (x ∷ xs) {os} s c r =
        let part : List Input = is ++ (x ∷ []) in
        let split : part ++ xs ≡ is ++ (x ∷ xs) = append_assoc is (x ∷ []) xs in
        let t : Story roll (part ++ xs) os = rw split s in
        rw split at (puts_all part xs t (come_later c) (again r (put_one is x (first_part part xs t) (sees_first c i))))

  module _ {w : W} {i : ℕ} (k : Keeper m.powers m.keeps i) where
    -- created and opened
    pub powered : Came w → w.board i ≡ off [] → Came (with_board w i (kiosk_after (roll_at m.powers m.height i) []))
    powered r e =
        let head : List ℕ = file_after (roll_at m.powers m.height i) [] in
        let s = untold m.powers m.height m.fits m.tall i k.on_roll in
        let first = moved w k r e
        (create [] head (length head) refl (none_there s.created) (may_create m.powers m.height m.fits m.tall i k.on_roll) (ap {B = Board Past} off (sym (take-length head)))) in
        again w k first (waked (told s) head [] none (sym (append-nil head)))

    -- power goes between two calls
    pub rests : {p : Past} {d : List ℕ} → Came w → w.board i ≡ on p d → Came (with_board w i (off d))
    rests {p} {d} r e = moved w k r e (cut p d refl refl)

    module _ {roll : Roll} (is : List Input) where
      -- accepted calls
      pub called : Came w → w.board i ≡ kiosk_after roll is → (x : Input) (xs : List Input) {os : List Out} → Story roll (is ++ (x ∷ xs)) os
          → MayCome m.keeps w.air (x ∷ xs) → Came (with_board w i (kiosk_after roll (is ++ (x ∷ xs))))
      called r e x xs {os} s c =
          let part : List Input = is ++ (x ∷ []) in
          let split : part ++ xs ≡ is ++ (x ∷ xs) = append_assoc is (x ∷ []) xs in
          let t : Story roll (part ++ xs) os = rw split s in
          rw split at (puts_all w k part xs t (come_later c) (moved w k r e (put_one w k is x (first_part part xs t) (sees_first c i))))

      -- a call whose group power cuts after n bytes
      module _ (x : Input) {os : List Out} (s : Story roll (is ++ (x ∷ [])) os) (n : ℕ) where
        pub interrupted : Came w → w.board i ≡ kiosk_after roll is → MayCome m.keeps w.air (x ∷ []) → Came (with_board w i (off (cut_file roll is x n)))
        interrupted r e c =
            let p = memory_after roll is in
            let d : List ℕ = file_after roll is in
            let all : List Input = is ++ (x ∷ []) in
            let sent = (does p x).sent in
            let g : List ℕ = group_bytes x sent in
            let part : take (length d + n) (file_after roll all) ≡ d ++ take n g
            = ap (take (length d + n)) (file_more is x s ∙ written_snoc roll (calls_of (beginning roll) is) (record { input = x; sent = sent })) ∙ take-append-add d g n in
            moved w k r e
            (write_cut p (memory_after roll all) d (file_after roll all) x (length d + n) refl (sees_first c i) (story_puts is x s) (omega arith) (ap {B = Board Past} off (sym part)))

        -- and the journal opened again, where the cut is inside the group
        pub recovers : n < group_length (does (memory_after roll is) x).sent → Came w → w.board i ≡ off (cut_file roll is x n) → Came (with_board w i (kiosk_after roll is))
        recovers less r e =
            let p = memory_after roll is in
            let sent = (does p x).sent in
            let g : List ℕ = group_bytes x sent in
            let tail : Tail p (take n g) = part_tail p x n (last_taken is x s) (last_wide is x s) (omega (arith, length_group x sent)) in
            moved w k r e (waked (told (first_part is (x ∷ []) s)) (cut_file roll is x n) (take n g) tail refl)

      module _ {os : List Out} (s : Story roll is os) where
        -- the journal opened again
        pub wakes : Came w → w.board i ≡ off (file_after roll is) → Came (with_board w i (kiosk_after roll is))
        wakes r e = moved w k r e (waked (told s) (file_after roll is) [] none (sym (append-nil (file_after roll is))))

        -- an output of a whole record is sent
        pub spoke : Came w → w.board i ≡ kiosk_after roll is → (o : Out) → In o os → Came (with_word w i o)
        spoke r e o a =
            m.onward w (with_word w i o) r
            (send i (memory_after roll is) (file_after roll is) o k.on_roll k.rule e (rw (story_outputs is s) a) (λ j. refl) refl)

  -- ## What was put out

  module _ (w : W) {i : ℕ} (k : Keeper m.powers m.keeps i) where
    abbrev OutOf : Out → Type 0
    OutOf o = PutOut m.powers m.height m.keeps w i o

    -- by a kiosk with power: what its story says, and nothing else
    module _ {roll : Roll} (is : List Input) {os : List Out} (e : w.board i ≡ kiosk_after roll is) (s : Story roll is os) where
      pub story_out : {o : Out} → In o os → OutOf o
      story_out a = awake (memory_after roll is) (file_after roll is) e (rw (story_outputs is s) a)

      pub out_story : {o : Out} → OutOf o → In o os
      out_story {o} (awake p d eb a) =
          let same : d ≡ file_after roll is = cc in
          subst (λ (l : List Out). In o l) (ap (λ (f : List ℕ). acts (sent_in (records f))) same ∙ story_outputs is s) a
      out_story (asleep d p used eb op a) = absurd (cc)

    -- by one without a journal: nothing
    pub says_nothing : w.board i ≡ off [] → {o : Out} → OutOf o → ⊥
    says_nothing e (awake p d eb a) = cc
    says_nothing e (asleep d p used eb op a) =
        let c = creates m.powers m.height m.fits m.tall i k.on_roll in
        let no_byte : d ≡ [] = cc in
        let short : op.reply.answer ≡ HeaderShort
        = op.meets.answer ∙ ap (λ (f : List ℕ). (open_journal op.area (length f) op.table).answer) no_byte
        ∙ ap (λ (o : Opened). o.answer) (unwritten c op.area op.table op.places) in
        let said : opened p used ≡ no_header = op.answers ∙ ap (λ (a : Answer). opening_of a (record { kiosk = op.reply.kiosk; table = op.after })) short in
        cc

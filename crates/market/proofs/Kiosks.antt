-- A kiosk with its journal goes by a history of accepted calls, whatever areas are lent to it and wherever power is cut: agreement's
-- `Lawful`. Assumes nothing.
use Prim.Native.Nat.{ℕ, ◌+◌, ◌-◌, ◌^◌, ◌≤◌, ◌<◌}
use mathlib.Core.Path.{◌≡◌, refl, sym, ap, subst, ◌∙◌}
use mathlib.Core.Logic.{◌⊎◌, inl, inr, ⊎_elim}
use mathlib.Core.List.{List, [], ◌∷◌, ◌++◌, append-nil}
use mathlib.Core.Bool.{true}
use native.Mathlib.Omega.{arith}
use borrow.Author.Tests.{lt-ltb, ltb-true, ltb-false}
use lib.Dec.{ltb}
use lib.ListN.{length, take, length-take, length-replicate}
use lib.Seq.{take_all, take_at, take-append-add, take-length}
use Rattle.words.specs.Members.{In}
use Rattle.words.proofs.Choice.{by_cases}
use Rattle.words.proofs.Members.{InLeft, InLast}
use Rattle.roll.specs.declared.Roll.{Roll}
use Rattle.roll.specs.Weighing.{roll_fits, roll_with}
use Rattle.rules.specs.declared.Input.{Input}
use Rattle.rules.specs.Log.{table_length, empty_table}
use Rattle.rules.specs.Sent.{packed}
use Rattle.journal.specs.Layout.{header_bytes, group_bytes}
use Rattle.refusals.specs.declared.Answer.{Answer}
use Rattle.refusals.specs.declared.Answer.TheVariants.{HeaderShort}
use Rattle.refusals.specs.Answers.{is_accepted}
use Rattle.kiosk.specs.declared.Kiosk.{Kiosk}
use Rattle.kiosk.specs.Calls.{create}
use Rattle.kiosk.specs.Opening.{Opened, failed, open_journal}
use Rattle.kiosk.specs.Opening as opening
use Rattle.history.specs.Histories.{Call, Past, does, told_none, Creates, beginning, History, written, Tail, none, sent_in}
use Rattle.history.proofs.Finding.{part_tail}
use Rattle.history.proofs.Openings.{created_length, opens_short, opens_history, history_used}
use Rattle.history.proofs.Puts.{more, put_accepts, fits_creates, create_bytes, written_snoc}
use Rattle.history.proofs.Replies.{code_put}
use Rattle.history.proofs.OneHistory.{spoken, sent_more}
use Rattle.agreement.specs.Moves.{Out}
use Rattle.agreement.specs.Weigh.{scale_of}
use Rattle.agreement.specs.System.{Opening, opened, Lawful}
use Rattle.market.specs.Seat.{acts, brings}
use Rattle.market.specs.Kiosks.{MayCreate, MayOpen, MayPut, opening_of, kiosk_of}
use Rattle.market.proofs.Good.{acts_append}
use Rattle.market.proofs.Honest.{arrivals, honest}

-- ## A file that is lent as the first part of an area

pub within : (d area : List ℕ) → take (length d) area ≡ d → length d ≤ length area
within d area e = omega (arith, length-take (length d) area, ap length e)

module _ (roll : Roll) where
  -- a file that a cut header left, and one that a cut left after a history
  abbrev pub Unmade : List ℕ → Type 0
  Unmade d = (k : ℕ) × (k < length (header_bytes roll)) × (d ≡ take k (header_bytes roll))

  abbrev pub Left : List Call → Past → List ℕ → Type 0
  Left cs p d = (tail : List ℕ) × Tail p tail × (d ≡ written roll cs ++ tail)

  module _ (d area table : List ℕ) (begins : take (length d) area ≡ d) (places : length table ≡ table_length) where
    -- opening the first answers 13, and the second what the history left
    pub unmade_short : Creates roll → Unmade d → open_journal area (length d) table ≡ failed HeaderShort empty_table
    unmade_short c u = opens_short area (length d) table places (within d area begins) roll c u.0 u.1 (begins ∙ u.2)

    pub left_whole : {cs : List Call} {p : Past} → History roll cs p → Left cs p d → open_journal area (length d) table ≡ opening.opened p.kiosk p.table
    left_whole h l = opens_history area (length d) table places (within d area begins) h l.0 l.1 (begins ∙ l.2)

  -- the whole records of such a file
  pub left_records : {cs : List Call} {p : Past} {d : List ℕ} → History roll cs p → Left cs p d → take p.kiosk.used d ≡ written roll cs
  left_records {cs} {p} h l = ap (take p.kiosk.used) l.2 ∙ take_at (written roll cs) l.0 p.kiosk.used (sym (history_used h))

-- what opening such a file answers
pub opens_to : (d : List ℕ) (o : Opening Past) (m : MayOpen d o) (r : Opened) → open_journal m.area (length d) m.table ≡ r
    → o ≡ opening_of r.answer (record { kiosk = r.kiosk; table = r.table })
opens_to d o m r e =
    m.answers
    ∙ ap (λ (a : Answer). opening_of a (record { kiosk = m.reply.kiosk; table = m.after })) (m.meets.answer ∙ ap (λ (x : Opened). x.answer) e)
    ∙ ap (λ (k : Kiosk). opening_of r.answer (record { kiosk = k; table = m.after })) (m.meets.kiosk ∙ ap (λ (x : Opened). x.kiosk) e)
    ∙ ap (λ (t : List ℕ). opening_of r.answer (record { kiosk = r.kiosk; table = t })) (m.meets.table_is ∙ ap (λ (x : Opened). x.table) e)

-- such a file is opened so, whichever way it is lent
pub empty_length : length empty_table ≡ table_length
empty_length = length-replicate {A = ℕ} table_length 0

pub opens_so : (file : List ℕ) (o : Opened) → open_journal file (length file) empty_table ≡ o → MayOpen file (opening_of o.answer (record { kiosk = o.kiosk; table = o.table }))
opens_so file o e = record {
  area = file;
  begins = take-length file;
  table = empty_table;
  places = empty_length;
  reply = record { answer = o.answer; sent = packed []; kiosk = o.kiosk };
  after = o.table;
  meets = rw e (record { answer = refl; sent = refl; kiosk = refl; table_is = refl });
  answers = refl;
}

-- a file that holds a history, with what a power cut can leave after it
pub left_opens : {roll : Roll} {cs : List Call} {p : Past} → History roll cs p → (tail : List ℕ) → Tail p tail → MayOpen (written roll cs ++ tail) (opened p p.kiosk.used)
left_opens {roll} {cs} {p} h tail t =
    let d : List ℕ = written roll cs ++ tail in
    opens_so d (opening.opened p.kiosk p.table) (opens_history d (length d) empty_table empty_length (omega arith) h tail t (take-length d))

-- ## Creating

-- whose roll it is does not matter to whether it fits
fits_each : (powers : List ℕ) (i j height : ℕ) → roll_fits (roll_with powers i height) ≡ true → roll_fits (roll_with powers j height) ≡ true
unfolding roll_fits
fits_each powers i j height fits = fits

module _ (powers : List ℕ) (own height : ℕ) (fits : roll_fits (roll_with powers 0 height) ≡ true) (seat : own < length powers) (tall : height < 2 ^ 32) where
  abbrev roll : Roll
  roll = roll_with powers own height

  pub creates : Creates roll
  creates = fits_creates powers own height (fits_each powers 0 own height fits) (lt-ltb own (length powers) seat) tall

  -- the file of a journal that is created is the header
  pub created_file : (f : List ℕ) → MayCreate powers own height f → f ≡ header_bytes roll
  created_file f m =
      let c = create powers own height m.area in
      let on : is_accepted c.answer ≡ true = ap is_accepted (sym m.meets.answer ∙ m.accepted) in
      m.file_is
      ∙ ap (λ (n : ℕ). take n m.journal) m.meets.used
      ∙ ap (take c.used) m.meets.journal_is
      ∙ create_bytes powers own height m.area tall on
      ∙ append-nil (header_bytes roll)

  -- power may go at any of its bytes
  pub header_cut : (k : ℕ) → Unmade roll (take k (header_bytes roll)) ⊎ Left roll [] (beginning roll) (take k (header_bytes roll))
  header_cut k =
      let head = header_bytes roll in
      by_cases (ltb k (length head))
      (λ e. inl (k, ltb-true k (length head) e, refl))
      (λ e. inr ([], none, take_all k head (ltb-false k (length head) e) ∙ sym (append-nil (written roll []) ∙ append-nil head)))

  -- ## One more call

  module _ (cs : List Call) (p : Past) (h : History roll cs p) (i : Input) (q : Past) (next : List ℕ) (m : MayPut p (written roll cs) i q next) where
    -- it goes on with the history, by what the code's reply is proved to be
    abbrev said : History roll (more cs p i) (record { kiosk = m.reply.kiosk; table = m.table }) × (take m.reply.kiosk.used m.journal ≡ written roll (more cs p i)) × (m.reply.sent ≡ packed (does p i).sent)
    said = code_put h i m.area m.meets m.wide m.begins m.accepted

    pub put_told : History roll (more cs p i) q
    put_told = rw (m.kiosk_is, m.table_is) said.0

    pub put_file : next ≡ written roll (more cs p i)
    put_file = m.file_is ∙ said.1

    -- power may go at any byte of its group
    pub put_cut : (n : ℕ) → length (written roll cs) ≤ n → Left roll cs p (take n next) ⊎ Left roll (more cs p i) q (take n next)
    put_cut n low =
        let c : Call = record { input = i; sent = (does p i).sent } in
        let w : List ℕ = written roll cs in
        let b : List ℕ = group_bytes i (does p i).sent in
        let k = n - length w in
        let whole : next ≡ w ++ b = put_file ∙ written_snoc roll cs c in
        let size : n ≡ length w + k = omega arith in
        let part : take n next ≡ w ++ take k b = ap (take n) whole ∙ ap (λ (x : ℕ). take x (w ++ b)) size ∙ take-append-add w b k in
        by_cases (ltb k (length b))
        (λ e. inl (take k b, part_tail p i k (put_accepts p i m.area (ap is_accepted (sym m.meets.answer ∙ m.accepted))).taken m.wide (ltb-true k (length b) e), part))
        (λ e.
        let all : take k b ≡ b = take_all k b (ltb-false k (length b) e) in
        inr ([], none, part ∙ ap (λ (x : List ℕ). w ++ x) all ∙ sym whole ∙ put_file ∙ sym (append-nil (written roll (more cs p i)))))

    pub put_sent : acts (sent_in (more cs p i)) ≡ acts (sent_in cs) ++ acts (does p i).sent
    put_sent = ap acts (sent_more cs (record { input = i; sent = (does p i).sent })) ∙ acts_append (sent_in cs) (does p i).sent

    pub put_arrived : (j : ℕ) (o : Out) → arrivals (more cs p i) j o → arrivals cs j o ⊎ brings i j o
    put_arrived j o (c, m, b) =
        let last : Call = record { input = i; sent = (does p i).sent } in
        ⊎_elim (λ old. inl (c, old, b)) (λ e. inr (subst (λ (x : Call). brings x.input j o) e b)) (InLast c last cs (last ∷ []) refl m)

  -- ## Lawful

  -- the calls of a history of this seat, and what they leave
  pub record Remembered : Type 0 where
    pub calls : List Call
    pub past : Past
    pub history : History roll calls past

  abbrev remember : (cs : List Call) (p : Past) → History roll cs p → Remembered
  remember cs p h = record { calls = cs; past = p; history = h }

  unfoldable pub lawful : Lawful (kiosk_of powers height own) (scale_of (roll_with powers 0 height)) own
  lawful = record {
    History = Remembered;
    memory = λ h. h.past;
    file = λ h. written roll h.calls;
    outs = λ h. acts (sent_in h.calls);
    arrived = λ h. arrivals h.calls;
    honest = λ h. honest h.history;
    spoken = λ h. ap acts (spoken h.history);
    Unmade = Unmade roll;
    Left = λ h. Left roll h.calls h.past;
    unmade_opens = λ d u o m. opens_to d o m _ (unmade_short roll d m.area m.table m.begins m.places creates u);
    left_opens = λ h d l o m. (
      h.past.kiosk.used,
      opens_to d o m _ (left_whole roll d m.area m.table m.begins m.places h.history l),
      left_records roll h.history l,
    );
    left_whole = λ h. ([], none, sym (append-nil (written roll h.calls)));
    none = (0, omega (arith, created_length roll creates), refl);
    start = remember [] (beginning roll) (record { created = creates; told = told_none });
    unheard = λ j o a. a.1;
    create_cut = λ f k m. rw (created_file f m) (header_cut k);
    more = λ h x m d p. remember (more h.calls h.past x) m (put_told h.calls h.past h.history x m d p);
    more_memory = λ h x m d p. refl;
    more_file = λ h x m d p. put_file h.calls h.past h.history x m d p;
    more_outs = λ h x m d p o a.
        subst (λ (l : List Out). In o l) (sym (put_sent h.calls h.past h.history x m d p)) (InLeft o (acts (sent_in h.calls)) (acts (does h.past x).sent) a);
    more_arrived = λ h x m d p j o a. put_arrived h.calls h.past h.history x m d p j o a;
    more_cut = λ h x m d p n low. put_cut h.calls h.past h.history x m d p n low;
  }

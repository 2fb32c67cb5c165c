-- The same of the code's own replies, each by the promise that its function keeps (`Makes`, `Says`, `Opens`): creating begins a history, an
-- accepted call goes on with it, and opening gives what it left. Assumes nothing.
use Prim.Native.Nat.{ℕ, ◌^◌, ◌≤◌, ◌<◌}
use mathlib.Core.Path.{◌≡◌, ap, sym, ◌∙◌}
use mathlib.Core.List.{List, [], ◌++◌}
use lib.ListN.{length, take}
use Rattle.roll.specs.declared.Roll.{Roll}
use Rattle.roll.specs.Weighing.{roll_with}
use Rattle.rules.specs.declared.Input.{Input}
use Rattle.rules.specs.Log.{desk, table_length}
use Rattle.rules.specs.Sent.{packed}
use Rattle.journal.specs.Layout.{roomy}
use Rattle.refusals.specs.declared.Answer.TheVariants.{Accepted, Impossible, NoRoom}
use Rattle.refusals.specs.Answers.{is_accepted}
use Rattle.refusals.specs.Refusals.{refused_input}
use Rattle.kiosk.specs.declared.Made.{Made}
use Rattle.kiosk.specs.declared.Reply.{Reply}
use Rattle.kiosk.specs.Calls.{create, put}
use Rattle.kiosk.specs.Opening.{Opened, open_journal}
use Rattle.kiosk.specs.Promises.{Makes, Opens, Says}
use Rattle.history.specs.Histories.{Call, Past, does, Wide, beginning, History, written, Tail, Bytes}
use Rattle.history.specs.Remembering.{OpenedHistory}
use Rattle.history.proofs.Openings.{opens_history, used_bytes, opened_history}
use Rattle.history.proofs.Puts.{more, put_history, put_gives, opening_again, create_begins, create_within, create_bytes}
use Rattle.history.proofs.Room.{put_answers}
use Rattle.history.proofs.Calls.{input_never_impossible, input_never_no_room, accepted_within}

-- creating begins a history
pub code_created : (powers : List ℕ) (own height : ℕ) (journal : List ℕ) → height < 2 ^ 32 → {m : Made} {j' : List ℕ} → Makes (create powers own height journal) m j' → m.answer ≡ Accepted
    → let roll = roll_with powers own height in History roll [] (beginning roll) × (take m.used j' ≡ written roll []) × (m.used ≤ length j')
code_created powers own height journal tall {m} {j'} makes e =
    let on = ap is_accepted (sym makes.answer ∙ e) in (
      create_begins powers own height journal tall on,
      ap (λ (n : ℕ). take n j') makes.used ∙ ap (take (create powers own height journal).used) makes.journal_is ∙ create_bytes powers own height journal tall on,
      rw (makes.used, makes.journal_is) (create_within powers own height journal tall on),
    )

-- a journal that opens is one that accepted calls write, up to a tail, and the reply is what they left
pub code_remembers : (journal : List ℕ) (used : ℕ) (table : List ℕ) → Bytes journal → {r : Reply} {t' : List ℕ} → Opens (open_journal journal used table) r t' → r.answer ≡ Accepted
    → OpenedHistory (take used journal) (record { answer = r.answer; kiosk = r.kiosk; table = t' })
code_remembers journal used table low opens e =
    rw (opens.answer, opens.kiosk, opens.table_is) (opened_history journal used table low (ap is_accepted (sym opens.answer ∙ e)))

module _ {roll : Roll} {cs : List Call} {p : Past} (h : History roll cs p) where
  -- opening its bytes, with whatever tail a power cut left, gives what it left, and the used bytes are its bytes
  pub code_opened : (journal : List ℕ) (used : ℕ) (table : List ℕ) → length table ≡ table_length → used ≤ length journal
      → (tail : List ℕ) → Tail p tail → take used journal ≡ written roll cs ++ tail → {r : Reply} {t' : List ℕ} → Opens (open_journal journal used table) r t'
      → (r.answer ≡ Accepted) × (r.kiosk ≡ p.kiosk) × (t' ≡ p.table) × (take r.kiosk.used journal ≡ written roll cs)
  code_opened journal used table places within tail t is {r} opens =
      let e = opens_history journal used table places within h tail t is in
      let kiosk_is : r.kiosk ≡ p.kiosk = opens.kiosk ∙ ap (λ (o : Opened). o.kiosk) e in (
        opens.answer ∙ ap (λ (o : Opened). o.answer) e,
        kiosk_is,
        opens.table_is ∙ ap (λ (o : Opened). o.table) e,
        rw kiosk_is (used_bytes h journal used tail within is),
      )

  module _ (i : Input) (j : List ℕ) {r : Reply} {t' j' : List ℕ} (says : Says (put i p.kiosk p.table j) r t' j') where
    -- in a roomy area a call is answered by its input: never 1, never 12
    pub code_roomy : roomy roll.kiosks ≤ length j
        → (r.answer ≡ refused_input (desk p.kiosk.state p.table) i) × (r.answer ≡ Impossible → ⊥) × (r.answer ≡ NoRoom → ⊥)
    code_roomy wide =
        let d = desk p.kiosk.state p.table in
        let e : r.answer ≡ refused_input d i = says.answer ∙ put_answers h j wide i in
        (e, λ f. input_never_impossible d i (sym e ∙ f), λ f. input_never_no_room d i (sym e ∙ f))

    module _ (w : Wide i) (is : take p.kiosk.used j ≡ written roll cs) (e : r.answer ≡ Accepted) where
      -- an accepted call goes on with it: the reply's kiosk and table are what it then leaves, the used bytes are its bytes, and the reply
      -- sends what it says
      pub code_put : History roll (more cs p i) (record { kiosk = r.kiosk; table = t' }) × (take r.kiosk.used j' ≡ written roll (more cs p i)) × (r.sent ≡ packed (does p i).sent)
      code_put =
          let on = ap is_accepted (sym says.answer ∙ e) in
          let gives = put_gives h i w j is on in
          let kiosk_is = says.kiosk ∙ gives.1 in
          (rw (kiosk_is, says.table_is ∙ gives.2) (put_history h i w j is on), rw (kiosk_is, says.journal_is) gives.3, says.sent ∙ ap packed gives.0)

      -- and to open what it left, with any table before, changes nothing
      pub code_again : (table : List ℕ) → length table ≡ table_length → {o : Reply} {t'' : List ℕ} → Opens (open_journal j' r.kiosk.used table) o t''
          → (o.answer ≡ Accepted) × (o.kiosk ≡ r.kiosk) × (t'' ≡ t')
      code_again table places opens =
          let next = code_put in
          let same = opening_again next.0 j' table places (accepted_within i p.kiosk p.table j says e).1 next.1 in
          (opens.answer ∙ ap (λ (o : Opened). o.answer) same, opens.kiosk ∙ ap (λ (o : Opened). o.kiosk) same, opens.table_is ∙ ap (λ (o : Opened). o.table) same)

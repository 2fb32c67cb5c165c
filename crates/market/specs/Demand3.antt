-- Demand 3: the statements, with all their premises. One height; one roll shared by all; rule-breakers hold B with 3B < T and send
-- anything; the radio loses, repeats and reorders, and forges no sender (`Sees`); one name means one sheet; each rule-keeping kiosk has
-- its own seat and one journal, creates it once (again only after 13), puts each input with what opening or its last call left, may lose
-- power at any byte written, goes on from what opening gives, and sends only outputs of its whole records (`Change`, `Step`, `Reach`).
-- Assumes nothing.
use Rattle.std.specs.Prelude.{ℕ, ◌*◌, ◌^◌, ◌<◌, ◌≡◌, ◌⊎◌, List, true, not, length, take}
use Rattle.words.specs.Members.{In}
use Rattle.roll.specs.declared.Roll.{Roll}
use Rattle.roll.specs.Weighing.{power_of, total_of, roll_fits, roll_with}
use Rattle.rules.specs.State.{is_settled, settled_round}
use Rattle.rules.specs.Log.{table_length, desk, proposed}
use Rattle.refusals.specs.declared.Answer.TheVariants.{Accepted, HeaderShort}
use Rattle.kiosk.specs.declared.Reply.{Reply}
use Rattle.kiosk.specs.Opening.{open_journal}
use Rattle.kiosk.specs.Promises.{Opens}
use Rattle.history.specs.Histories.{Call, Past, History, written}
use Rattle.agreement.specs.Weigh.{Scale, Seats, scale_of}
use Rattle.agreement.specs.Moves.{Out, settled}
use Rattle.agreement.specs.System as system
use Rattle.agreement.specs.System.{off, on, by}
use Rattle.market.specs.Kiosks.{kiosk_of}

-- one roll, shared by all but for the own number
abbrev pub roll_at : List ℕ → ℕ → ℕ → Roll
roll_at powers height i = roll_with powers i height

abbrev pub scale : List ℕ → ℕ → Scale
scale powers height = scale_of (roll_at powers height 0)

-- the kiosks of a height with their files and the radio; a step of one of them; and what steps lead to
abbrev pub World : List ℕ → ℕ → Seats → Type 0
World powers height keeps = system.World (scale powers height) keeps (kiosk_of powers height)

abbrev pub Step : (powers : List ℕ) (height : ℕ) (keeps : Seats) → World powers height keeps → World powers height keeps → Type 0
Step powers height keeps = system.Step (scale powers height) keeps (kiosk_of powers height)

abbrev pub Reached : (powers : List ℕ) (height : ℕ) (keeps : Seats) → World powers height keeps → Type 0
Reached powers height keeps w = system.Reach (scale powers height) keeps (kiosk_of powers height) (Step powers height keeps) w

-- what steps lead to from any world
pub data Leads (powers : List ℕ) (height : ℕ) (keeps : Seats) (v : World powers height keeps) : World powers height keeps → Type 0 where
  here : Leads powers height keeps v v
  further : {w w' : World powers height keeps} → Leads powers height keeps v w → Step powers height keeps w w' → Leads powers height keeps v w'

-- an output of a whole record of seat i's file, or of those that opening keeps of it
abbrev pub PutOut : (powers : List ℕ) (height : ℕ) (keeps : Seats) → World powers height keeps → ℕ → Out → Type 0
PutOut powers height keeps w i o = system.PutOut (scale powers height) keeps (kiosk_of powers height) i w o

-- the premises on the roll, and a conclusion for every world that is reached
abbrev pub InEveryMarket : ((powers : List ℕ) (height : ℕ) (keeps : Seats) → World powers height keeps → Type 0) → Type 0
InEveryMarket Holds =
    (powers : List ℕ) (height : ℕ) (keeps : Seats) →
    roll_fits (roll_at powers height 0) ≡ true →
    height < 2 ^ 32 →
    3 * power_of (roll_at powers height 0) (λ i. not (keeps i)) < total_of (roll_at powers height 0) →
    (w : World powers height keeps) →
    Reached powers height keeps w →
    Holds powers height keeps w

-- no two rule-keeping kiosks ever settle different sheets: output 7 in a whole record
abbrev pub OneSheetSent : Type 0
OneSheetSent =
    InEveryMarket (λ powers height keeps w.
    (i j r s u v : ℕ) → i < length powers → keeps i ≡ true → j < length powers → keeps j ≡ true →
    PutOut powers height keeps w i (settled r u) → PutOut powers height keeps w j (settled s v) →
    u ≡ v)

-- the sheet of a settled state: the name that the table holds of its round
abbrev pub settled_sheet : Past → ℕ
settled_sheet p = proposed (desk p.kiosk.state p.table) (settled_round p.kiosk.state.progress.phase)

-- a settled state of a kiosk with power is one that output 7 was put out for, with its round and its sheet
abbrev pub SettledSent : Type 0
SettledSent =
    InEveryMarket (λ powers height keeps w.
    (i : ℕ) → i < length powers → keeps i ≡ true → (p : Past) (d : List ℕ) → w.board i ≡ on p d →
    is_settled p.kiosk.state.progress.phase ≡ true → PutOut powers height keeps w i (settled (settled_round p.kiosk.state.progress.phase) (settled_sheet p)))

-- and so two settled states have one sheet
abbrev pub OneSheetHeld : Type 0
OneSheetHeld =
    InEveryMarket (λ powers height keeps w.
    (i j : ℕ) → i < length powers → keeps i ≡ true → j < length powers → keeps j ≡ true →
    (p q : Past) (d f : List ℕ) → w.board i ≡ on p d → w.board j ≡ on q f →
    is_settled p.kiosk.state.progress.phase ≡ true → is_settled q.kiosk.state.progress.phase ≡ true →
    settled_sheet p ≡ settled_sheet q)

-- Opening what a power cut left, whatever area and table are lent: 13, and then this kiosk never sent anything; or the state and the table
-- that the whole records set, which are all that is kept
abbrev pub OpensWhole : Type 0
OpensWhole =
    InEveryMarket (λ powers height keeps w.
    (i : ℕ) → i < length powers → keeps i ≡ true → (d : List ℕ) → w.board i ≡ off d →
    (area table : List ℕ) → take (length d) area ≡ d → length table ≡ table_length →
    (reply : Reply) (after : List ℕ) → Opens (open_journal area (length d) table) reply after →
    ((reply.answer ≡ HeaderShort) × ((o : Out) → In (by i o) w.air → ⊥)) ⊎
    ((cs : List Call) × (p : Past) × History (roll_at powers height i) cs p × (take p.kiosk.used d ≡ written (roll_at powers height i) cs) ×
    (reply.answer ≡ Accepted) × (reply.kiosk ≡ p.kiosk) × (after ≡ p.table)))

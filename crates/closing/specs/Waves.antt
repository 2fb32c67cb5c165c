-- What is delivered to the kiosks of a market, from one of its worlds on: the calls that return, and all else that the market does in
-- between. C-22, "delivered to all of them". Assumes nothing.
use Rattle.std.specs.Prelude.{ℕ, ◌≤◌, ◌<◌, ◌≡◌, ◌≢◌, List, [], ◌∷◌, true, false, length, take}
use Rattle.words.specs.Members.{In}
use Rattle.rules.specs.declared.Input.{Input}
use Rattle.rules.specs.State.{most_rounds}
use Rattle.journal.specs.Layout.{roomy}
use Rattle.refusals.specs.Answers.{is_accepted}
use Rattle.refusals.specs.Refusals.{fields_fit}
use Rattle.kiosk.specs.declared.Reply.{Reply}
use Rattle.kiosk.specs.Calls.{put}
use Rattle.kiosk.specs.Promises.{Says}
use Rattle.history.specs.Histories.{Past}
use Rattle.agreement.specs.Weigh.{Seats}
use Rattle.agreement.specs.Moves.{Out}
use Rattle.agreement.specs.System.{on, Msg, by, Change}
use Rattle.market.specs.Seat.{brings}
use Rattle.market.specs.Kiosks.{MayPut, kiosk_of}
use Rattle.market.specs.Demand3.{World}

-- a rule-keeping seat of the roll
abbrev pub Keeps : List ℕ → Seats → ℕ → Type 0
Keeps powers keeps i = (i < length powers) × (keeps i ≡ true)

-- an input that is put to the kiosk of a seat
pub data Delivery : Type 0 where
  to : ℕ → Input → Delivery

-- an input that carries an output of seat j to another, in the fields that 01 gives it
pub record Carries (powers : List ℕ) (height j : ℕ) (o : Out) (x : Input) : Type 0 where
  pub brings_it : brings x j o
  pub height_is : x.height.0 ≡ height
  pub fits : fields_fit (length powers) most_rounds x ≡ true

-- among these deliveries is one that carries it to seat i
abbrev pub Delivered : List ℕ → ℕ → List Delivery → ℕ → ℕ → Out → Type 0
Delivered powers height ds i j o = (x : Input) × In (to i x) ds × Carries powers height j o x

module _ (powers : List ℕ) (height : ℕ) (keeps : Seats) where
  -- the call of seat i with x returns, accepted: a step of the market
  pub record Accepts (w : World powers height keeps) (i : ℕ) (x : Input) (w' : World powers height keeps) : Type 0 where
    pub past : Past
    pub next : Past
    pub file : List ℕ
    pub longer : List ℕ
    pub before : w.board i ≡ on past file
    pub puts : MayPut past file x next longer
    pub after : w'.board i ≡ on next longer
    pub others : (j : ℕ) → j ≢ i → w'.board j ≡ w.board j
    pub air : w'.air ≡ w.air

  -- or it is refused, and changes nothing. "Journals are roomy": the area that is lent is
  pub record Refuses (w : World powers height keeps) (i : ℕ) (x : Input) : Type 0 where
    pub past : Past
    pub file : List ℕ
    pub powered : w.board i ≡ on past file
    pub area : List ℕ
    pub begins : take past.kiosk.used area ≡ file
    pub room : roomy (length powers) ≤ length area
    pub reply : Reply
    pub table : List ℕ
    pub journal : List ℕ
    pub meets : Says (put x past.kiosk past.table area) reply table journal
    pub refused : is_accepted reply.answer ≡ false

  -- What happens from a world on, with the deliveries so far, the last first. `May` says which inputs may arrive, after these messages on
  -- the radio and these deliveries, at a seat. Nothing else is held back: power may go at any byte and come again, and all that was put
  -- out may be sent
  pub data Play (May : List Msg → List Delivery → ℕ → Input → Type 0) (v : World powers height keeps) : World powers height keeps → List Delivery → Type 0 where
    begin : Play May v v []
    accepts :
        {w w' : World powers height keeps} {ds : List Delivery} →
        Play May v w ds →
        (i : ℕ) (x : Input) →
        Keeps powers keeps i →
        May w.air ds i x →
        Accepts w i x w' →
        Play May v w' (to i x ∷ ds)
    refuses :
        {w : World powers height keeps} {ds : List Delivery} →
        Play May v w ds →
        (i : ℕ) (x : Input) →
        Keeps powers keeps i →
        Refuses w i x →
        Play May v w (to i x ∷ ds)
    changes :
        {w w' : World powers height keeps} {ds : List Delivery} →
        Play May v w ds →
        (i : ℕ) →
        Keeps powers keeps i →
        Change (kiosk_of powers height i) (May w.air ds i) (w.board i) (w'.board i) →
        ((j : ℕ) → j ≢ i → w'.board j ≡ w.board j) →
        w'.air ≡ w.air →
        Play May v w' ds
    sends :
        {w w' : World powers height keeps} {ds : List Delivery} →
        Play May v w ds →
        (i : ℕ) (p : Past) (d : List ℕ) (o : Out) →
        Keeps powers keeps i →
        w.board i ≡ on p d →
        In o ((kiosk_of powers height i).outputs d) →
        ((j : ℕ) → w'.board j ≡ w.board j) →
        w'.air ≡ by i o ∷ w.air →
        Play May v w' ds

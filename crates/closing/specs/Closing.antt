-- C-22, "A good round always closes": the situation, what arrives, and what follows. Demand 3's premises are the market's: one roll,
-- 3B < T, a world that is reached, power cuts included, and no sender forged. Assumes nothing.
use Rattle.std.specs.Prelude.{ℕ, pred, ◌≤◌, ◌≡◌, ◌≢◌, ◌⊎◌, List, [], ◌∷◌, true, false}
use Rattle.roll.specs.Weighing.{large, power_of, total_of, proposer}
use Rattle.rules.specs.declared.Votes.TheVariants.{Prevotes}
use Rattle.rules.specs.declared.Input.{Input}
use Rattle.rules.specs.declared.Phase.{Phase}
use Rattle.rules.specs.declared.Phase.TheVariants.{Running, Settled}
use Rattle.rules.specs.declared.Step.TheVariants.{Propose, Prevote}
use Rattle.rules.specs.Log.{Desk, desk, proposed, power_for}
use Rattle.rules.specs.Doing.{current, step}
use Rattle.rules.specs.Rules.{is_large}
use Rattle.refusals.specs.Refusals.{is_proposal, is_timer}
use Rattle.history.specs.Histories.{Past}
use Rattle.agreement.specs.Weigh.{Seats}
use Rattle.agreement.specs.Moves.{Out, proposal, prevote, precommit, settled}
use Rattle.agreement.specs.System.{opened, off, on, Msg}
use Rattle.agreement.specs.System as system
use Rattle.market.specs.Kiosks.{MayOpen, kiosk_of}
use Rattle.market.specs.Demand3.{roll_at, scale, World, Leads, PutOut, InEveryMarket}
use Rattle.closing.specs.Waves.{Keeps, Delivery, Delivered, Play}

-- a proposal: its round, its valid round plus one, its name
pub record Proposal : Type 0 where
  pub round : ℕ
  pub valid : ℕ
  pub name : ℕ

-- as it is sent
abbrev pub offer_of : Proposal → Out
offer_of g = proposal (g.round ∷ g.valid ∷ g.name ∷ [])

-- the seat whose turn its round is
abbrev pub turn_of : List ℕ → ℕ → Proposal → ℕ
turn_of powers height g = proposer (roll_at powers height 0) g.round

abbrev pub desk_of : Past → Desk
desk_of p = desk p.kiosk.state p.table

-- what the kiosk of a seat has: its memory; or without power what opening its file gives
pub data Recalls (powers : List ℕ) (height : ℕ) (keeps : Seats) (w : World powers height keeps) (i : ℕ) (p : Past) : Type 0 where
  with_power : (d : List ℕ) → w.board i ≡ on p d → Recalls powers height keeps w i p
  without_power : (d : List ℕ) (n : ℕ) → w.board i ≡ off d → MayOpen d (opened p n) → Recalls powers height keeps w i p

-- ## The situation

-- `Stands` is how a phase stands in a round: C-22's reading is `Running`, started and not settled
pub record GoodRound (Stands : Phase → Type 0) (powers : List ℕ) (height : ℕ) (keeps : Seats) (w : World powers height keeps) (g : Proposal) : Type 0 where
  pub past : ℕ → Past
  pub recalls : (i : ℕ) → Keeps powers keeps i → Recalls powers height keeps w i (past i)
  -- "all stand in one round under the same journal rules with nobody settled"; there is one set of rules
  pub stands : (i : ℕ) → Keeps powers keeps i → Stands (past i).kiosk.state.progress.phase
  pub one_round : (i : ℕ) → Keeps powers keeps i → current (desk_of (past i)) ≡ g.round
  -- "its proposer keeps the rules, has proposed and prevoted its proposal and is at the prevote step"
  pub turn : Keeps powers keeps (turn_of powers height g)
  pub has_proposed : PutOut powers height keeps w (turn_of powers height g) (offer_of g)
  pub has_prevoted : PutOut powers height keeps w (turn_of powers height g) (prevote g.round g.name)
  pub at_prevote : step (desk_of (past (turn_of powers height g))) ≡ Prevote
  -- "the others are at the propose step"
  pub at_propose : (i : ℕ) → Keeps powers keeps i → i ≢ turn_of powers height g → step (desk_of (past i)) ≡ Propose
  -- "no kiosk is locked on another sheet after the proposal's valid round (on none other if that is -1)": both rounds plus one
  pub unlocked : (i : ℕ) → Keeps powers keeps i → ((past i).kiosk.state.progress.locked.next.0 ≤ g.valid) ⊎ ((past i).kiosk.state.progress.locked.name ≡ g.name)
  -- "each holds large prevotes of that valid round, if any, for it"
  pub backed : (i : ℕ) → Keeps powers keeps i → 1 ≤ g.valid →
      is_large (desk_of (past i)) (power_for Prevotes (desk_of (past i)) (pred g.valid) g.name) ≡ true

-- "rule-keeping kiosks are large together": no premise, as 3B < T says it
abbrev pub LargeTogether : Type 0
LargeTogether =
    InEveryMarket (λ powers height keeps w. large (total_of (roll_at powers height 0)) (power_of (roll_at powers height 0) keeps) ≡ true)

-- ## What arrives

module _ (powers : List ℕ) (height : ℕ) (keeps : Seats) (g : Proposal) where
  -- demand 3's, "forges no sender"
  abbrev pub Unforged : List Msg → ℕ → Input → Type 0
  Unforged air i x = system.Sees (scale powers height) keeps (kiosk_of powers height) air i x

  -- "before any timer"
  abbrev pub NoTimer : Input → Type 0
  NoTimer x = is_timer x ≡ false

  -- "nothing else of earlier rounds arrives"; rule-breakers may say anything else
  abbrev pub NotEarlier : Input → Type 0
  NotEarlier x = g.round ≤ x.round.0

  -- the others "judge it good"
  abbrev pub JudgedGood : Input → Type 0
  JudgedGood x = is_proposal x ≡ true → x.round.0 ≡ g.round → x.verdict ≡ 1

  -- seat i was delivered the proposal, and the round's prevote of every other rule-keeping kiosk
  pub record TwoWaves (ds : List Delivery) (i : ℕ) : Type 0 where
    pub proposal_came : i ≢ turn_of powers height g → Delivered powers height ds i (turn_of powers height g) (offer_of g)
    pub prevotes_came : (j : ℕ) → Keeps powers keeps j → j ≢ i → (name : ℕ) × Delivered powers height ds i j (prevote g.round name)

  -- "the proposal, after it all their prevotes and after those all their precommits": at each kiosk a rule-keeping kiosk's precommit comes
  -- after the other two waves
  abbrev pub InOrder : List Delivery → ℕ → Input → Type 0
  InOrder ds i x = x.kind ≡ 4 → keeps x.sender ≡ true → TwoWaves ds i

  abbrev pub MayArrive : List Msg → List Delivery → ℕ → Input → Type 0
  MayArrive air ds i x = Unforged air i x × NoTimer x × NotEarlier x × JudgedGood x × InOrder ds i x

  -- "the proposal, .. all their prevotes and .. all their precommits are delivered to all of them": those that stand in their journals at
  -- the end
  pub record ThreeWaves (w : World powers height keeps) (ds : List Delivery) : Type 0 where
    pub proposal_came : (i : ℕ) → Keeps powers keeps i → i ≢ turn_of powers height g → Delivered powers height ds i (turn_of powers height g) (offer_of g)
    pub prevotes_came : (i j name : ℕ) → Keeps powers keeps i → Keeps powers keeps j → j ≢ i →
        PutOut powers height keeps w j (prevote g.round name) → Delivered powers height ds i j (prevote g.round name)
    pub precommits_came : (i j name : ℕ) → Keeps powers keeps i → Keeps powers keeps j → j ≢ i →
        PutOut powers height keeps w j (precommit g.round name) → Delivered powers height ds i j (precommit g.round name)

  -- ## What follows

  -- "then each of them has settled": in that round, on that proposal
  pub record Closed (w : World powers height keeps) : Type 0 where
    -- output 7 stands in a whole record of its journal
    pub put_out : (i : ℕ) → Keeps powers keeps i → PutOut powers height keeps w i (settled g.round g.name)
    -- and that is the state that it has, or that opening gives
    pub holds : (i : ℕ) → Keeps powers keeps i → (p : Past) → Recalls powers height keeps w i p →
        (p.kiosk.state.progress.phase ≡ Settled (record { 0 = g.round })) × (proposed (desk_of p) g.round ≡ g.name)
    -- and nobody ever settles another
    pub no_other : (w' : World powers height keeps) → Leads powers height keeps w w' → (j s u : ℕ) → Keeps powers keeps j →
        PutOut powers height keeps w' j (settled s u) → u ≡ g.name

-- which inputs may arrive, in every market
abbrev pub Arriving : Type 1
Arriving = (powers : List ℕ) (height : ℕ) (keeps : Seats) → Proposal → List Msg → List Delivery → ℕ → Input → Type 0

-- the statement, where standing in a round and what may arrive are read so
abbrev pub ClosesWhere : (Phase → Type 0) → Arriving → Type 0
ClosesWhere Stands May =
    InEveryMarket (λ powers height keeps v.
    (g : Proposal) → GoodRound Stands powers height keeps v g →
    (w : World powers height keeps) (ds : List Delivery) → Play powers height keeps (May powers height keeps g) v w ds →
    ThreeWaves powers height keeps g w ds →
    Closed powers height keeps g w)

-- C-22
abbrev pub Closes : Type 0
Closes = ClosesWhere (λ p. p ≡ Running) MayArrive

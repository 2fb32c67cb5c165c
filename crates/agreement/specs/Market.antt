-- The kiosks of one height. outs i is all that seat i put out; it means nothing for a seat that breaks the rules.
-- Assumes nothing.
use Rattle.std.specs.Prelude.{ℕ, ◌<◌, ◌≡◌, true, List}
use Rattle.agreement.specs.Weigh.{Scale, Seats, Few}
use Rattle.words.specs.Members.{In}
use Rattle.agreement.specs.Moves.{Out, settled}
use Rattle.agreement.specs.Honest.{Arrived, Honest}

-- no sender is forged: what arrived under a rule-keeping number this kiosk put out. One sheet a height needs it of votes alone
abbrev pub Unforged : Scale → Seats → (ℕ → List Out) → Arrived → Type 0
Unforged ps keeps outs A = (j : ℕ) → j < ps.kiosks → keeps j ≡ true → (o : Out) → A j o → In o (outs j)

pub record Member (ps : Scale) (keeps : Seats) (outs : ℕ → List Out) (i : ℕ) : Type 1 where
  pub arrived : Arrived
  pub honest : Honest ps i arrived (outs i)
  pub net : Unforged ps keeps outs arrived

pub record Market (ps : Scale) (keeps : Seats) (outs : ℕ → List Out) : Type 1 where
  pub few : Few ps keeps
  pub member : (i : ℕ) → i < ps.kiosks → keeps i ≡ true → Member ps keeps outs i

-- no two rule-keeping kiosks settle different sheets
abbrev pub OneSheet : Scale → Seats → (ℕ → List Out) → Type 0
OneSheet ps keeps outs =
    (i j r r' v w : ℕ) →
    i < ps.kiosks →
    keeps i ≡ true →
    j < ps.kiosks →
    keeps j ≡ true →
    In (settled r v) (outs i) →
    In (settled r' w) (outs j) →
    v ≡ w

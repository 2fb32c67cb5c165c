-- What one kiosk heard, and what a rule-keeping kiosk owes: `Kept`, where each large set that it went by is one that it heard.
-- Assumes nothing.
use Rattle.std.specs.Prelude.{ℕ, ◌<◌, ◌≡◌, ◌⊎◌, List, true}
use Rattle.words.specs.Members.{In}
use Rattle.agreement.specs.Weigh.{Scale, Seats, Large}
use Rattle.agreement.specs.Moves.{Out, prevote, precommit, View, Kept}

pub data Kind : Type 0 where
  pv pc : Kind

-- a vote as an output
abbrev pub said : Kind → ℕ → ℕ → Out
said pv r w = prevote r w
said pc r w = precommit r w

-- the messages that arrived: the sender's number, and what it said
abbrev pub Arrived : Type 1
Arrived = ℕ → Out → Type 0

-- the own vote is one it put out, another's is one that arrived
abbrev pub From : ℕ → Arrived → List Out → Kind → ℕ → ℕ → ℕ → Type 0
From own A os k r w j = ((j ≡ own) × In (said k r w) os) ⊎ A j (said k r w)

pub record Heard (ps : Scale) (own : ℕ) (A : Arrived) (os : List Out) (k : Kind) (r w : ℕ) : Type 0 where
  pub seats : Seats
  pub large : Large ps seats
  pub from : (j : ℕ) → j < ps.kiosks → seats j ≡ true → From own A os k r w j

-- a rule-keeping kiosk: what arrived, and what it put out
pub record Honest (ps : Scale) (own : ℕ) (A : Arrived) (os : List Out) : Type 0 where
  pub view : View
  pub kept : Kept (Heard ps own A os pv) (Heard ps own A os pc) view os

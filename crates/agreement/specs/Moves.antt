-- What one kiosk does, seen through its lock: every firing of every version of the rules is one of these moves.
-- PV r w says that large prevotes for w in r are backed, PC r w the same of precommits: what a log shows, told of the whole market.
-- Assumes nothing.
use Rattle.std.specs.Prelude.{ℕ, suc, ◌+◌, ◌*◌, ◌<◌, ◌≤◌, ◌≡◌, ◌≢◌, ◌⊎◌, List, [], ◌∷◌}
use Rattle.words.specs.Members.{In}

-- the outputs: a vote or a settling of a round, with a name; a proposal, whose form is left open; and what is no message
pub data Out : Type 0 where
  prevote precommit settled : ℕ → ℕ → Out
  proposal : List ℕ → Out
  other : Out

-- step: 0 propose, 1 prevote, 2 precommit. lr is the locked round plus one, 0 for none.
pub record View : Type 0 where
  pub round : ℕ
  pub step : ℕ
  pub lr : ℕ
  pub lv : ℕ

pub record SameLock (a b : View) : Type 0 where
  pub lr : b.lr ≡ a.lr
  pub lv : b.lv ≡ a.lv

abbrev pub NoVote : List Out → Type 0
NoVote o =
    (r w : ℕ) → (In (prevote r w) o → ⊥) × (In (precommit r w) o → ⊥) × (In (settled r w) o → ⊥)

pub data Move (PV PC : ℕ → ℕ → Type 0) (a : View) (o : List Out) (b : View) : Type 0 where
  -- 34, 47, a proposal heard late, start
  waits : NoVote o → b.round ≡ a.round → b.step ≡ a.step → SameLock a b → Move PV PC a o b
  -- 55, line 67
  enter : NoVote o → a.round < b.round → b.step ≡ 0 → SameLock a b → Move PV PC a o b
  -- 26, 32, 59
  prevote_nil : o ≡ prevote a.round 0 ∷ [] → a.step ≡ 0 → b.step ≡ 1 → b.round ≡ a.round → SameLock a b → Move PV PC a o b
  -- 24
  prevote_new :
      (w : ℕ) →
      o ≡ prevote a.round w ∷ [] →
      a.step ≡ 0 →
      b.step ≡ 1 →
      b.round ≡ a.round →
      SameLock a b →
      (a.lr ≡ 0) ⊎ (a.lv ≡ w) →
      Move PV PC a o b
  -- 30
  prevote_old :
      (w vr : ℕ) →
      o ≡ prevote a.round w ∷ [] →
      a.step ≡ 0 →
      b.step ≡ 1 →
      b.round ≡ a.round →
      SameLock a b →
      vr < a.round →
      PV vr w →
      (a.lr ≤ suc vr) ⊎ (a.lv ≡ w) →
      Move PV PC a o b
  -- 45, 63
  precommit_nil : o ≡ precommit a.round 0 ∷ [] → a.step ≡ 1 → b.step ≡ 2 → b.round ≡ a.round → SameLock a b → Move PV PC a o b
  -- 40
  precommit_sheet :
      (w : ℕ) →
      o ≡ precommit a.round w ∷ [] →
      a.step ≡ 1 →
      b.step ≡ 2 →
      b.round ≡ a.round →
      b.lr ≡ suc a.round →
      b.lv ≡ w →
      PV a.round w →
      Move PV PC a o b
  -- 51
  settle :
      (r w : ℕ) →
      o ≡ settled r w ∷ [] →
      w ≢ 0 →
      PC r w →
      b.round ≡ a.round →
      b.step ≡ a.step →
      SameLock a b →
      Move PV PC a o b

-- what holds of a kiosk and of all that it put out so far. 3 * round + step is its clock
pub record Kept (PV PC : ℕ → ℕ → Type 0) (a : View) (os : List Out) : Type 0 where
  pub step_ok : a.step ≤ 2
  pub lock_past : 3 * a.lr ≤ 3 * a.round + a.step + 1
  pub lock_backed : (l : ℕ) → a.lr ≡ suc l → PV l a.lv
  pub prevote_past : (r w : ℕ) → In (prevote r w) os → 3 * r + 1 ≤ 3 * a.round + a.step
  pub precommit_past : (r w : ℕ) → In (precommit r w) os → 3 * r + 2 ≤ 3 * a.round + a.step
  pub precommit_lock : (r w : ℕ) → w ≢ 0 → In (precommit r w) os → r < a.lr
  pub one_prevote : (r v w : ℕ) → In (prevote r v) os → In (prevote r w) os → v ≡ w
  pub one_precommit : (r v w : ℕ) → In (precommit r v) os → In (precommit r w) os → v ≡ w
  pub precommit_backed : (r w : ℕ) → w ≢ 0 → In (precommit r w) os → PV r w
  pub lock_kept :
      (r₀ r v w : ℕ) →
      v ≢ 0 →
      w ≢ 0 →
      r₀ < r →
      In (precommit r₀ v) os →
      In (prevote r w) os →
      (vr : ℕ) × (r₀ ≤ vr) × (vr < r) × PV vr w
  pub settled_backed : (r w : ℕ) → In (settled r w) os → (w ≢ 0) × PC r w

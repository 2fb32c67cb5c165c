-- The votes of a log as agreement has them, and what a message leaves beside them. Assumes nothing.
use Prim.Native.Nat.{ℕ, ◌<◌}
use mathlib.Core.Path.{◌≡◌, refl, ap}
use mathlib.Core.List.{List}
use mathlib.Core.Bool.{Bool, ◌&&◌}
use lib.ListN.{length, length-set, get_or}
use lib.Dec.{eqb}
use Rattle.words.specs.Marks.{marked}
use Rattle.roll.specs.declared.Roll.{Roll}
use Rattle.roll.specs.Weighing.{large, power_of, total_of}
use Rattle.rules.specs.declared.Votes.{Votes}
use Rattle.rules.specs.declared.Votes.TheVariants.{Prevotes, Precommits}
use Rattle.rules.specs.declared.Heard.{Heard}
use Rattle.rules.specs.State.{most_rounds, marks_of}
use Rattle.rules.specs.Log.{Desk, table_length, vote_place, told, heard, voted, logged, hear_proposal, hear_vote, power_for}
use Rattle.rules.specs.Rules.{is_large}
use Rattle.rules.proofs.Telling.{Sized, sized_tell}
use Rattle.rules.proofs.Hearing.{vote_within}
use Rattle.agreement.specs.Honest.{Kind, pv, pc}

-- ## By type

-- a type of vote, as agreement has it
abbrev pub kind_of : Votes → Kind
kind_of Prevotes = pv
kind_of Precommits = pc

-- votes for a name are large where the seats that sent them are
pub large_for : (v : Votes) (d : Desk) (r name : ℕ) {roll : Roll} → d.state.roll ≡ roll →
    is_large d (power_for v d r name) ≡ large (total_of roll) (power_of roll (λ i. marked (marks_of v (heard d r)) i && eqb (voted v d r i) name))
unfolding power_for
large_for v d r name e = ap (λ (x : Roll). large (total_of x) (power_of x (λ i. marked (marks_of v (heard d r)) i && eqb (voted v d r i) name))) e

-- the votes of a round are as they were where log and table are
pub log_same : (d u : Desk) → u.state.log ≡ d.state.log → u.table ≡ d.table → (v : Votes) (q j : ℕ) →
    (marks_of v (heard u q) ≡ marks_of v (heard d q)) × (voted v u q j ≡ voted v d q j)
log_same d u el et v q j = (ap (λ (l : List ℕ). marks_of v (told l q)) el, ap (λ (t : List ℕ). get_or t (vote_place v q j) 0) et)

-- the table has a place for each
pub vote_there : (v : Votes) (d : Desk) (r i : ℕ) → i < 32 → r < most_rounds → length d.table ≡ table_length → vote_place v r i < length d.table
vote_there v d r i hi less places = rw places (vote_within v most_rounds r i less hi)

-- ## What a message leaves as it is

pub record Beside (d u : Desk) : Type 0 where
  pub rounds_same : u.rounds ≡ d.rounds
  pub roll_same : u.state.roll ≡ d.state.roll
  pub phase_same : u.state.progress.phase ≡ d.state.progress.phase
  pub stand_same : u.state.progress.stand ≡ d.state.progress.stand
  pub locked_same : u.state.progress.locked ≡ d.state.progress.locked
  pub sent_same : u.sent ≡ d.sent
  pub length_same : length u.table ≡ length d.table
  pub sized_same : Sized most_rounds d.state.log → Sized most_rounds u.state.log

beside_logged : (d : Desk) (r : ℕ) (h : Heard) (place name : ℕ) → Beside d (logged d r h place name)
beside_logged d r h place name = record {
  rounds_same = refl;
  roll_same = refl;
  phase_same = refl;
  stand_same = refl;
  locked_same = refl;
  sent_same = refl;
  length_same = length-set d.table place name;
  sized_same = sized_tell d.state.log r h;
}

pub beside_vote : (v : Votes) (d : Desk) (r i name : ℕ) → Beside d (hear_vote v d r i name)
unfolding hear_vote
beside_vote v d r i name = beside_logged d r _ _ name

pub beside_proposal : (d : Desk) (r : ℕ) (good : Bool) (valid name : ℕ) → Beside d (hear_proposal d r good valid name)
unfolding hear_proposal
beside_proposal d r good valid name = beside_logged d r _ _ name

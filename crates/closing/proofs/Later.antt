-- From one desk to a later one in a good round: the record, and that every message leads to one. Assumes nothing.
use Prim.Native.Nat.{ℕ, ◌≤◌, ◌<◌}
use mathlib.Core.Path.{◌≡◌, ap, ◌∙◌}
use mathlib.Core.Bool.{Bool, true}
use native.Mathlib.Omega.{arith}
use Rattle.words.specs.Marks.{marked}
use Rattle.rules.specs.declared.Votes.{Votes}
use Rattle.rules.specs.declared.Stand.{Stand}
use Rattle.rules.specs.State.{marks_of, spoken}
use Rattle.rules.specs.Log.{Desk, heard, proposed, voted, hear_proposal, hear_vote}
use Rattle.rules.specs.Doing.{step}
use Rattle.rules.proofs.Hearing.{vote_other, vote_kept, vote_sheets, vote_names, proposal_votes, proposal_other, proposal_kept}
use Rattle.market.specs.Seat.{step_number}
use Rattle.market.proofs.Votes.{log_same, beside_vote, beside_proposal}

-- the rounds below r are as they were, what was heard of r stays heard, and the step is no lower
pub record Later (r : ℕ) (d u : Desk) : Type 0 where
  pub rounds : u.rounds ≡ d.rounds
  pub roll : u.state.roll ≡ d.state.roll
  pub below : (p : ℕ) → p < r → heard u p ≡ heard d p
  pub below_sheet : (p : ℕ) → p < r → proposed u p ≡ proposed d p
  pub below_votes : (v : Votes) (p j : ℕ) → p < r → j < 32 → voted v u p j ≡ voted v d p j
  pub votes : (v : Votes) (j : ℕ) → marked (marks_of v (heard d r)) j ≡ true → marked (marks_of v (heard u r)) j ≡ true
  pub spoke : spoken (heard d r) ≡ true → spoken (heard u r) ≡ true
  pub steps : step_number (step d) ≤ step_number (step u)

pub later_same : (r : ℕ) (d u : Desk) → u.rounds ≡ d.rounds → u.state.roll ≡ d.state.roll → u.state.log ≡ d.state.log → u.table ≡ d.table
    → step_number (step d) ≤ step_number (step u) → Later r d u
later_same r d u en er el et es = record {
  rounds = en;
  roll = er;
  below = λ p h. rw el;
  below_sheet = λ p h. rw et;
  below_votes = λ v p j h i. (log_same d u el et v p j).1;
  votes = λ v j h. rw (log_same d u el et v r j).0 h;
  spoke = λ h. rw el h;
  steps = es;
}

pub later_then : (r : ℕ) (d u w : Desk) → Later r d u → Later r u w → Later r d w
later_then r d u w a b = record {
  rounds = b.rounds ∙ a.rounds;
  roll = b.roll ∙ a.roll;
  below = λ p h. b.below p h ∙ a.below p h;
  below_sheet = λ p h. b.below_sheet p h ∙ a.below_sheet p h;
  below_votes = λ v p j h i. b.below_votes v p j h i ∙ a.below_votes v p j h i;
  votes = λ v j h. b.votes v j (a.votes v j h);
  spoke = λ h. b.spoke (a.spoke h);
  steps = omega (arith, a.steps, b.steps);
}

-- ## Messages

pub vote_later : (v : Votes) (d : Desk) (q i name r : ℕ) → r ≤ q → i < 32 → Later r d (hear_vote v d q i name)
vote_later v d q i name r low hi =
    let b = beside_vote v d q i name in
    record {
      rounds = b.rounds_same;
      roll = b.roll_same;
      below = λ p h. vote_other v d q i name p (λ e. omega arith);
      below_sheet = λ p h. (vote_sheets v d q i name hi p).2;
      below_votes = λ w p j h m. vote_names v d q i name hi w p j m (λ e. omega arith);
      votes = λ w j. vote_kept v d q i name w r j;
      spoke = λ h. rw (vote_sheets v d q i name hi r).0 h;
      steps = omega (arith, ap (λ (x : Stand). step_number x.step) b.stand_same);
    }

pub proposal_later : (d : Desk) (q : ℕ) (good : Bool) (valid name r : ℕ) → r ≤ q → Later r d (hear_proposal d q good valid name)
proposal_later d q good valid name r low =
    let b = beside_proposal d q good valid name in
    record {
      rounds = b.rounds_same;
      roll = b.roll_same;
      below = λ p h. (proposal_other d q good valid name p (λ e. omega arith)).0;
      below_sheet = λ p h. (proposal_other d q good valid name p (λ e. omega arith)).1;
      below_votes = λ v p j h m. (proposal_votes d q good valid name v p j m).1;
      votes = λ v j h. rw (proposal_votes d q good valid name v r 0 (omega arith)).0 h;
      spoke = proposal_kept d q good valid name r;
      steps = omega (arith, ap (λ (x : Stand). step_number x.step) b.stand_same);
    }

-- What holds of a rule-keeping kiosk in the middle of a call: each vote in its log is one that it put out or that arrived, and its
-- outputs are by its lock. Assumes nothing.
use Prim.Native.Nat.{ℕ, ◌≤◌, ◌<◌}
use mathlib.Core.Path.{◌≡◌, refl, sym, ap, ◌∙◌}
use mathlib.Core.Logic.{inl, inr, ⊎_elim}
use mathlib.Core.List.{List, [], ◌∷◌, ◌++◌, append_assoc}
use mathlib.Core.Bool.{Bool, true, ◌&&◌}
use native.Mathlib.Omega.{arith}
use lib.ListN.{length}
use lib.Dec.{eqb}
use borrow.Author.Tests.{eqb-true}
use Rattle.words.specs.Marks.{marked}
use Rattle.words.proofs.Choice.{and_left, and_right}
use Rattle.words.proofs.Members.{InLeft, InRight}
use Rattle.roll.specs.declared.Roll.{Roll}
use Rattle.rules.specs.declared.Votes.{Votes}
use Rattle.rules.specs.declared.Output.{Output}
use Rattle.rules.specs.State.{most_rounds, marks_of}
use Rattle.rules.specs.Log.{Desk, table_length, heard, voted, hear_proposal, hear_vote, power_for}
use Rattle.rules.specs.Doing.{current}
use Rattle.rules.specs.Rules.{is_large}
use Rattle.rules.proofs.Hearing.{vote_heard, proposal_votes}
use Rattle.agreement.specs.Weigh.{scale_of}
use Rattle.agreement.specs.Moves.{Out, View, Move, Kept}
use Rattle.agreement.specs.Honest.{Kind, pv, pc, said, Arrived, From, Heard}
use Rattle.agreement.proofs.Lock.{kept}
use Rattle.market.specs.Seat.{act, acts, view}
use Rattle.market.proofs.Votes.{kind_of, large_for, log_same, vote_there, Beside, beside_vote, beside_proposal}

-- ## Outputs

pub acts_append : (a b : List Output) → acts (a ++ b) ≡ acts a ++ acts b
acts_append [] b = refl
acts_append (x ∷ a) b = ap (λ (l : List Out). act x ∷ l) (acts_append a b)

-- more outputs, after others
pub acts_more : (before : List Out) (os new : List Output) → before ++ acts (os ++ new) ≡ (before ++ acts os) ++ acts new
acts_more before os new = ap (λ (l : List Out). before ++ l) (acts_append os new) ∙ sym (append_assoc before (acts os) (acts new))

-- more evidence keeps what is kept
weaker :
    {PV PC QV QC : ℕ → ℕ → Type 0} {a : View} {os : List Out} →
    ((r w : ℕ) → PV r w → QV r w) →
    ((r w : ℕ) → PC r w → QC r w) →
    Kept PV PC a os →
    Kept QV QC a os
weaker f g k = record {
  step_ok = k.step_ok;
  lock_past = k.lock_past;
  lock_backed = λ l e. f _ _ (k.lock_backed l e);
  prevote_past = k.prevote_past;
  precommit_past = k.precommit_past;
  precommit_lock = k.precommit_lock;
  one_prevote = k.one_prevote;
  one_precommit = k.one_precommit;
  precommit_backed = λ r w hw h. f r w (k.precommit_backed r w hw h);
  lock_kept = λ r₀ r v w hv hw hr h g.
      let m = k.lock_kept r₀ r v w hv hw hr h g in
      (m.0, m.1, m.2, f _ _ m.3);
  settled_backed = λ r w h. ((k.settled_backed r w h).0, g r w (k.settled_backed r w h).1);
}

-- ## The invariant

module _ (roll : Roll) (A : Arrived) where
  abbrev Said : List Out → Kind → ℕ → ℕ → ℕ → Type 0
  Said os = From roll.own A os

  abbrev pub Hears : List Out → Kind → ℕ → ℕ → Type 0
  Hears os = Heard (scale_of roll) roll.own A os

  -- the log and the table, where os is all that the kiosk put out
  pub record Logs (os : List Out) (d : Desk) : Type 0 where
    pub roll_is : d.state.roll ≡ roll
    pub rounds_are : d.rounds ≡ most_rounds
    pub round : current d < most_rounds
    pub places : length d.table ≡ table_length
    pub votes : (v : Votes) (r j : ℕ) → j < roll.kiosks → marked (marks_of v (heard d r)) j ≡ true → Said os (kind_of v) r (voted v d r j) j

  pub record Good (os : List Out) (d : Desk) : Type 0 where
    pub logs : Logs os d
    pub kept : Kept (Hears os pv) (Hears os pc) (view d) os

  from_more : (os o : List Out) (k : Kind) (r w j : ℕ) → Said os k r w j → Said (os ++ o) k r w j
  from_more os o k r w j (inl h) = inl (h.0, InLeft (said k r w) os o h.1)
  from_more os o k r w j (inr a) = inr a

  pub heard_more : (os o : List Out) (k : Kind) (r w : ℕ) → Hears os k r w → Hears (os ++ o) k r w
  heard_more os o k r w h = record { seats = h.seats; large = h.large; from = λ j l t. from_more os o k r w j (h.from j l t) }

  pub logs_more : (os o : List Out) (d : Desk) → Logs os d → Logs (os ++ o) d
  logs_more os o d l = record {
    roll_is = l.roll_is;
    rounds_are = l.rounds_are;
    round = l.round;
    places = l.places;
    votes = λ v r j hj t. from_more os o (kind_of v) r _ j (l.votes v r j hj t);
  }

  -- another stand, lock or phase, and outputs
  pub logs_same : (os : List Out) (d u : Desk) → Logs os d → u.rounds ≡ d.rounds → u.state.roll ≡ d.state.roll → current u < most_rounds
      → u.state.log ≡ d.state.log → u.table ≡ d.table → Logs os u
  logs_same os d u l er eo hc el et = record {
    roll_is = eo ∙ l.roll_is;
    rounds_are = er ∙ l.rounds_are;
    round = hc;
    places = rw et l.places;
    votes = λ v r j hj. let e = log_same d u el et v r j in rw (e.0, e.1) (l.votes v r j hj);
  }

  -- a move, and a log that grew by what was said or arrived
  pub advance : (os o : List Out) (d u : Desk) → Good os d → Logs (os ++ o) u → Move (Hears (os ++ o) pv) (Hears (os ++ o) pc) (view d) o (view u) → Good (os ++ o) u
  advance os o d u g l m = record {
    logs = l;
    kept = kept _ _ (view d) (view u) os o (weaker (heard_more os o pv) (heard_more os o pc) g.kept) m;
  }

  -- the own vote: said and logged
  pub own_vote : (os : List Out) (k : Kind) (r w : ℕ) → Said (os ++ (said k r w ∷ [])) k r w roll.own
  own_vote os k r w = inl (refl, InRight (said k r w) os (said k r w ∷ []) (inl refl))

  module _ (few : roll.kiosks ≤ 32) (os : List Out) (d : Desk) (l : Logs os d) where
    -- ## Messages heard

    heard_logs : (u : Desk) → Beside d u → ((v : Votes) (r j : ℕ) → j < roll.kiosks → marked (marks_of v (heard u r)) j ≡ true → Said os (kind_of v) r (voted v u r j) j) → Logs os u
    heard_logs u b votes = record {
      roll_is = b.roll_same ∙ l.roll_is;
      rounds_are = b.rounds_same ∙ l.rounds_are;
      round = rw b.stand_same l.round;
      places = b.length_same ∙ l.places;
      votes = votes;
    }

    pub vote_logs : (v : Votes) (r i name : ℕ) → r < most_rounds → i < 32 → Said os (kind_of v) r name i → Logs os (hear_vote v d r i name)
    vote_logs v r i name hr hi new = heard_logs (hear_vote v d r i name) (beside_vote v d r i name) (λ w q j hj t.
        ⊎_elim
        (λ h. rw (h.3, h.1, h.2, ← h.0) new)
        (λ h. rw h.1 (l.votes w q j hj h.0))
        (vote_heard v d r i name hi (vote_there v d r i hi hr l.places) w q j (omega (arith, few)) t))

    pub proposal_logs : (r : ℕ) (good : Bool) (valid name : ℕ) → Logs os (hear_proposal d r good valid name)
    proposal_logs r good valid name = heard_logs (hear_proposal d r good valid name) (beside_proposal d r good valid name) (λ v q j hj t.
        let e = proposal_votes d r good valid name v q j (omega (arith, few)) in
        rw e.1 (l.votes v q j hj (rw e.0 at t)))

    -- ## A large set in the log is heard

    pub votes_heard : (v : Votes) (r w : ℕ) → is_large d (power_for v d r w) ≡ true → Hears os (kind_of v) r w
    votes_heard v r w t = record {
      seats = λ j. marked (marks_of v (heard d r)) j && eqb (voted v d r j) w;
      large = sym (large_for v d r w l.roll_is) ∙ t;
      from = λ j hj s.
          let m = marked (marks_of v (heard d r)) j in
          let n = eqb (voted v d r j) w in
          rw (eqb-true (voted v d r j) w (and_right m n s)) at (l.votes v r j hj (and_left m n s));
    }

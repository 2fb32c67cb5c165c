-- What a message leaves in the log and the table: its own place, and no other. One law for both types of vote. Assumes nothing.
use Rattle.std.specs.Bool.{if◌then◌else◌}
use Prim.Native.Nat.{ℕ, ◌<◌}
use mathlib.Core.Path.{◌≡◌, refl, sym, ap, ◌∙◌}
use mathlib.Core.Logic.{◌⊎◌, inl, inr, ⊎_elim}
use mathlib.Core.List.{List}
use mathlib.Core.Bool.{Bool, true, false, not, true≢false, false≢true}
use native.Mathlib.Omega.{arith}
use native.Mathlib.Decide.{ℕ_discrete}
use lib.ListN.{length, get_or, set}
use lib.Seq.{get_or-set_same, get_or-set_other}
use lib.Dec.{eqb}
use borrow.Author.Tests.{eqb-true, eq-eqb}
use Rattle.words.specs.Marks.{marked, mark}
use Rattle.words.proofs.Choice.{by_cases, or_case, or_so}
use Rattle.words.proofs.MarkLaws.{marked_zero, mark_seats}
use Rattle.words.proofs.Places.{set_at, place_kept}
use Rattle.rules.specs.declared.Heard.{Heard}
use Rattle.rules.specs.declared.Votes.{Votes}
use Rattle.rules.specs.declared.Votes.TheVariants.{Prevotes, Precommits}
use Rattle.rules.specs.Kinds.{vote_out}
use Rattle.rules.specs.State.{marks_at, proposal_at, valid_at, marks_of, spoken}
use Rattle.rules.specs.Log.{Desk, proposal_place, vote_place, told, heard, proposed, voted, message, hear_proposal, hear_vote}
use Rattle.rules.specs.Doing.{current, own, step_of, output, send, at_step, vote}
use Rattle.rules.proofs.Telling.{Sized, marks_is, marks_apart, marks_proposal, marks_within, told_other, told_same, tell_marks, tell_proposal}

-- ## Places of the table

pub vote_apart : (v w : Votes) (r i q j : ℕ) → i < 32 → j < 32 → vote_place w q j ≡ vote_place v r i → (v ≡ w) × (q ≡ r) × (j ≡ i)
vote_apart Prevotes Prevotes r i q j hi hj e = (refl, omega (arith, e), omega (arith, e))
vote_apart Prevotes Precommits r i q j hi hj e = absurd (omega (arith, e))
vote_apart Precommits Prevotes r i q j hi hj e = absurd (omega (arith, e))
vote_apart Precommits Precommits r i q j hi hj e = (refl, omega (arith, e), omega (arith, e))

pub vote_proposal : (v : Votes) (r q i : ℕ) → i < 32 → vote_place v q i ≡ proposal_place r → ⊥
vote_proposal Prevotes r q i hi e = omega (arith, e)
vote_proposal Precommits r q i hi e = omega (arith, e)

pub vote_within : (v : Votes) (rounds r i : ℕ) → r < rounds → i < 32 → vote_place v r i < proposal_place rounds
vote_within Prevotes rounds r i less hi = omega (arith, less, hi)
vote_within Precommits rounds r i less hi = omega (arith, less, hi)

-- ## A mark set in a list

module _ (l : List ℕ) (p i : ℕ) where
  abbrev marked_at : List ℕ
  marked_at = set l p (mark (get_or l p 0) i)

  -- one mark more is that one, or was there
  marks_more : (q j : ℕ) → marked (get_or marked_at q 0) j ≡ true → ((q ≡ p) × (j ≡ i)) ⊎ (marked (get_or l q 0) j ≡ true)
  marks_more q j = go (ℕ_discrete q p)
    where
      go : Dec (q ≡ p) → marked (get_or marked_at q 0) j ≡ true → ((q ≡ p) × (j ≡ i)) ⊎ (marked (get_or l q 0) j ≡ true)
      go (yes e) =
          rw e
          (set_at (λ x. marked x j ≡ true → ((p ≡ p) × (j ≡ i)) ⊎ (marked (get_or l p 0) j ≡ true)) l p (mark (get_or l p 0) i)
          (λ t. ⊎_elim (λ s. inl (refl, sym (eqb-true i j s))) (λ s. inr s) (or_case (eqb i j) (marked (get_or l p 0) j) (sym (mark_seats (get_or l p 0) i j) ∙ t)))
          (λ t. absurd (false≢true (sym (marked_zero j) ∙ t))))
      go (no n) = λ t. inr (sym (ap (λ (x : ℕ). marked x j) (get_or-set_other l p q (mark (get_or l p 0) i) 0 n)) ∙ t)

  -- that one is there
  mark_set : p < length l → marked (get_or marked_at p 0) i ≡ true
  mark_set less =
      ap (λ (x : ℕ). marked x i) (get_or-set_same l p (mark (get_or l p 0) i) 0 less)
      ∙ mark_seats (get_or l p 0) i i ∙ or_so (eqb i i) (marked (get_or l p 0) i) (inl (eq-eqb i i refl))

  -- and none is lost
  mark_kept : (q j : ℕ) → marked (get_or l q 0) j ≡ true → marked (get_or marked_at q 0) j ≡ true
  mark_kept q j =
      place_kept (λ (x : ℕ). marked x j ≡ true) (λ x. mark x i) (λ x h. mark_seats x i j ∙ or_so (eqb i j) (marked x j) (inr h)) l p q

  -- so a mark that is not there is not that one, and was not there
  marks_less : p < length l → (q j : ℕ) → marked (get_or marked_at q 0) j ≡ false → ((q ≡ p) × (j ≡ i) → ⊥) × (marked (get_or l q 0) j ≡ false)
  marks_less less q j t = (
    λ h. true≢false (sym (mark_set less) ∙ (rw (h.0, h.1) at t)),
    by_cases (marked (get_or l q 0) j) (λ e. absurd (true≢false (sym (mark_kept q j e) ∙ t))) (λ e. e),
  )

-- ## A vote

module _ (v : Votes) (d : Desk) (r i name : ℕ) where
  abbrev heard_vote : Desk
  heard_vote = hear_vote v d r i name

  -- it is a mark in its place of the log
  vote_log : heard_vote.state.log ≡ marked_at d.state.log (marks_at v r) i
  unfolding hear_vote
  vote_log =
      tell_marks d.state.log r (mark (marks_of v (heard d r)) i) v
      ∙ ap (λ (x : ℕ). set d.state.log (marks_at v r) (mark x i)) (marks_is v d.state.log r)

  vote_marks : (w : Votes) (q : ℕ) → marks_of w (heard heard_vote q) ≡ get_or (marked_at d.state.log (marks_at v r) i) (marks_at w q) 0
  vote_marks w q = marks_is w heard_vote.state.log q ∙ ap (λ (l : List ℕ). get_or l (marks_at w q) 0) vote_log

  -- other rounds stay
  pub vote_other : (q : ℕ) → (q ≡ r → ⊥) → heard heard_vote q ≡ heard d q
  unfolding hear_vote
  vote_other q n = told_other d.state.log r _ n

  -- it is marked
  pub vote_marked : {rounds : ℕ} → Sized rounds d.state.log → r < rounds → marked (marks_of v (heard heard_vote r)) i ≡ true
  vote_marked {rounds} s less = ap (λ (x : ℕ). marked x i) (vote_marks v r) ∙ mark_set d.state.log (marks_at v r) i (marks_within v rounds r d.state.log s less)

  -- and no mark of either type is lost
  pub vote_kept : (w : Votes) (q j : ℕ) → marked (marks_of w (heard d q)) j ≡ true → marked (marks_of w (heard heard_vote q)) j ≡ true
  vote_kept w q j t =
      ap (λ (x : ℕ). marked x j) (vote_marks w q)
      ∙ mark_kept d.state.log (marks_at v r) i (marks_at w q) j (ap (λ (x : ℕ). marked x j) (sym (marks_is w d.state.log q)) ∙ t)

  module _ (hi : i < 32) where
    -- a name stays but in its own place
    vote_stays : (w : Votes) (q j : ℕ) → j < 32 → ((v ≡ w) × (q ≡ r) × (j ≡ i) → ⊥) → voted w heard_vote q j ≡ voted w d q j
    unfolding hear_vote
    vote_stays w q j hj n = get_or-set_other d.table (vote_place v r i) (vote_place w q j) name 0 (λ e. n (vote_apart v w r i q j hi hj e))

    -- so do proposals
    pub vote_sheets : (q : ℕ) →
        ((heard heard_vote q).proposal ≡ (heard d q).proposal) × ((heard heard_vote q).valid ≡ (heard d q).valid) × (proposed heard_vote q ≡ proposed d q)
    unfolding hear_vote told
    vote_sheets q =
        let l = d.state.log in
        let x = mark (get_or l (marks_at v r) 0) i in (
          ap (λ (m : List ℕ). get_or m (proposal_at q) 0) vote_log ∙ get_or-set_other l (marks_at v r) (proposal_at q) x 0 (λ e. (marks_proposal v q r).0 (sym e)),
          ap (λ (m : List ℕ). get_or m (valid_at q) 0) vote_log ∙ get_or-set_other l (marks_at v r) (valid_at q) x 0 (λ e. (marks_proposal v q r).1 (sym e)),
          get_or-set_other d.table (vote_place v r i) (proposal_place q) name 0 (λ e. vote_proposal v q r i hi (sym e)),
        )

    -- the names of other rounds
    pub vote_names : (w : Votes) (q j : ℕ) → j < 32 → (q ≡ r → ⊥) → voted w heard_vote q j ≡ voted w d q j
    vote_names w q j hj n = vote_stays w q j hj (λ h. n h.1)

    -- a vote that is heard is that one, or was heard with the name that it has
    pub vote_heard : vote_place v r i < length d.table → (w : Votes) (q j : ℕ) → j < 32 → marked (marks_of w (heard heard_vote q)) j ≡ true →
        ((v ≡ w) × (q ≡ r) × (j ≡ i) × (voted w heard_vote q j ≡ name)) ⊎ ((marked (marks_of w (heard d q)) j ≡ true) × (voted w heard_vote q j ≡ voted w d q j))
    unfolding hear_vote
    vote_heard at w q j hj t = go (ℕ_discrete (marks_at w q) (marks_at v r)) (ℕ_discrete j i)
      where
        old : ((marks_at w q ≡ marks_at v r) × (j ≡ i) → ⊥) → (marked (marks_of w (heard d q)) j ≡ true) × (voted w (hear_vote v d r i name) q j ≡ voted w d q j)
        old n = (
          ⊎_elim (λ h. absurd (n h)) (λ s. ap (λ (x : ℕ). marked x j) (marks_is w d.state.log q) ∙ s)
              (marks_more d.state.log (marks_at v r) i (marks_at w q) j (ap (λ (x : ℕ). marked x j) (sym (vote_marks w q)) ∙ t)),
          vote_stays w q j hj (λ h. n (rw (sym h.0, h.1) refl, h.2)),
        )

        go : Dec (marks_at w q ≡ marks_at v r) → Dec (j ≡ i) →
            ((v ≡ w) × (q ≡ r) × (j ≡ i) × (voted w (hear_vote v d r i name) q j ≡ name)) ⊎
            ((marked (marks_of w (heard d q)) j ≡ true) × (voted w (hear_vote v d r i name) q j ≡ voted w d q j))
        go (yes e) (yes f) =
            let same = marks_apart v w r q e in
            inl (same.0, same.1, f, rw (sym same.0, same.1, f) (get_or-set_same d.table (vote_place v r i) name 0 at))
        go (yes e) (no n) = inr (old (λ h. n h.1))
        go (no n) f = inr (old (λ h. n h.0))

    -- and one that is not heard was not, and its place holds what it held
    pub vote_unheard : {rounds : ℕ} → Sized rounds d.state.log → r < rounds → (w : Votes) (q j : ℕ) → j < 32 → marked (marks_of w (heard heard_vote q)) j ≡ false →
        (marked (marks_of w (heard d q)) j ≡ false) × (voted w heard_vote q j ≡ voted w d q j)
    vote_unheard {rounds} s less w q j hj t =
        let m =
        marks_less d.state.log (marks_at v r) i (marks_within v rounds r d.state.log s less) (marks_at w q) j
        (ap (λ (x : ℕ). marked x j) (sym (vote_marks w q)) ∙ t) in (
          ap (λ (x : ℕ). marked x j) (marks_is w d.state.log q) ∙ m.1,
          vote_stays w q j hj (λ h. m.0 (rw (sym h.0, h.1) refl, h.2)),
        )

-- an own vote is heard and sent, and it is a step
pub vote_is : (v : Votes) (name : ℕ) (d : Desk) →
    vote v name d ≡ at_step (step_of v) (send (output (vote_out v) (current d) 0 name) (hear_vote v d (current d) (own d) name))
unfolding vote message
vote_is Prevotes name d = refl
vote_is Precommits name d = refl

-- ## A proposal

-- with either verdict one is heard
verdict_some : (good : Bool) → not (eqb (if good then 2 else 1) 0) ≡ true
verdict_some true = refl
verdict_some false = refl

-- it changes no vote, and no other round's proposal
module _ (d : Desk) (r : ℕ) (good : Bool) (valid name : ℕ) where
  abbrev heard_proposal : Desk
  heard_proposal = hear_proposal d r good valid name

  proposal_log : heard_proposal.state.log ≡ set (set d.state.log (proposal_at r) (if good then 2 else 1)) (valid_at r) valid
  unfolding hear_proposal
  proposal_log = tell_proposal d.state.log r (if good then 2 else 1) valid

  pub proposal_votes : (v : Votes) (q j : ℕ) → j < 32 → (marks_of v (heard heard_proposal q) ≡ marks_of v (heard d q)) × (voted v heard_proposal q j ≡ voted v d q j)
  unfolding hear_proposal
  proposal_votes v q j hj =
      let l = d.state.log in
      let p : ℕ = if good then 2 else 1 in
      let off = marks_proposal v r q in (
        marks_is v (hear_proposal d r good valid name).state.log q
            ∙ ap (λ (m : List ℕ). get_or m (marks_at v q) 0) proposal_log
            ∙ get_or-set_other (set l (proposal_at r) p) (valid_at r) (marks_at v q) valid 0 off.1
            ∙ get_or-set_other l (proposal_at r) (marks_at v q) p 0 off.0
            ∙ sym (marks_is v l q),
        get_or-set_other d.table (proposal_place r) (vote_place v q j) name 0 (vote_proposal v r q j hj),
      )

  pub proposal_other : (q : ℕ) → (q ≡ r → ⊥) → (heard heard_proposal q ≡ heard d q) × (proposed heard_proposal q ≡ proposed d q)
  unfolding hear_proposal
  proposal_other q n = (told_other d.state.log r _ n, get_or-set_other d.table (proposal_place r) (proposal_place q) name 0 (λ e. n (omega (arith, e))))

  -- its own round's is it
  pub proposal_same : {rounds : ℕ} → Sized rounds d.state.log → r < rounds → proposal_place r < length d.table →
      let h = heard heard_proposal r in
      (h.proposal ≡ (if good then 2 else 1)) × (h.valid ≡ valid) × (proposed heard_proposal r ≡ name)
  unfolding hear_proposal
  proposal_same s less at =
      let h = heard d r in
      let e = told_same d.state.log r (record { prevotes = h.prevotes; precommits = h.precommits; proposal = if good then 2 else 1; valid = valid }) s less in
      (ap (λ (x : Heard). x.proposal) e, ap (λ (x : Heard). x.valid) e, get_or-set_same d.table (proposal_place r) name 0 at)

  -- and after it the round is spoken for
  pub proposal_spoken : {rounds : ℕ} → Sized rounds d.state.log → r < rounds → spoken (heard heard_proposal r) ≡ true
  unfolding hear_proposal
  proposal_spoken s less =
      let h = heard d r in
      ap spoken (told_same d.state.log r (record { prevotes = h.prevotes; precommits = h.precommits; proposal = if good then 2 else 1; valid = valid }) s less) ∙ verdict_some good

  -- as is each round that was
  pub proposal_kept : (q : ℕ) → spoken (heard d q) ≡ true → spoken (heard heard_proposal q) ≡ true
  unfolding told
  proposal_kept q t =
      let l = d.state.log in
      let p : ℕ = if good then 2 else 1 in
      ap (λ (m : List ℕ). not (eqb (get_or m (proposal_at q) 0) 0)) proposal_log
      ∙ ap (λ (x : ℕ). not (eqb x 0)) (get_or-set_other (set l (proposal_at r) p) (valid_at r) (proposal_at q) valid 0 (λ e. omega (arith, e)))
      ∙ place_kept (λ (x : ℕ). not (eqb x 0) ≡ true) (λ x. if good then 2 else 1) (λ x h. verdict_some good) l (proposal_at r) (proposal_at q) t

-- The log's laws: what it says of a round once it is told of one, and where a message is written in it. Assumes nothing.
use Prim.Native.Nat.{ℕ, ◌*◌, ◌≤◌, ◌<◌}
use mathlib.Core.Path.{◌≡◌, refl, ap, sym, ◌∙◌}
use mathlib.Core.List.{List}
use native.Mathlib.Omega.{arith}
use lib.ListN.{length, get_or, set, length-set}
use lib.Seq.{get_or-set_same, get_or-set_other, set-get_or}
use Rattle.words.proofs.Places.{set_at}
use Rattle.rules.specs.declared.Votes.{Votes}
use Rattle.rules.specs.declared.Votes.TheVariants.{Prevotes, Precommits}
use Rattle.rules.specs.declared.Heard.{Heard}
use Rattle.rules.specs.State.{log_per_round, marks_at, proposal_at, valid_at, marks_of, with_marks}
use Rattle.rules.specs.Log.{told, tell}

-- it has places for so many rounds
pub record Sized (n : ℕ) (l : List ℕ) : Type 0 where
  pub size : length l ≡ log_per_round * n

-- the marks that a log has are those in their place
pub marks_is : (v : Votes) (l : List ℕ) (r : ℕ) → marks_of v (told l r) ≡ get_or l (marks_at v r) 0
unfolding told
marks_is Prevotes l r = refl
marks_is Precommits l r = refl

-- those of each type and round have a place of their own, which no proposal has
pub marks_apart : (v w : Votes) (r q : ℕ) → marks_at w q ≡ marks_at v r → (v ≡ w) × (q ≡ r)
marks_apart Prevotes Prevotes r q e = (refl, omega (arith, e))
marks_apart Prevotes Precommits r q e = absurd (omega (arith, e))
marks_apart Precommits Prevotes r q e = absurd (omega (arith, e))
marks_apart Precommits Precommits r q e = (refl, omega (arith, e))

pub marks_proposal : (v : Votes) (r q : ℕ) → (marks_at v q ≡ proposal_at r → ⊥) × (marks_at v q ≡ valid_at r → ⊥)
marks_proposal Prevotes r q = (λ e. omega (arith, e), λ e. omega (arith, e))
marks_proposal Precommits r q = (λ e. omega (arith, e), λ e. omega (arith, e))

pub marks_within : (v : Votes) (n r : ℕ) (l : List ℕ) → Sized n l → r < n → marks_at v r < length l
marks_within Prevotes n r l s less = omega (arith, s.size, less)
marks_within Precommits n r l s less = omega (arith, s.size, less)

-- a place set to what it held is as it was, whatever another was set to
kept : (l : List ℕ) (a b x : ℕ) → (b ≡ a → ⊥) → set (set l a x) b (get_or l b 0) ≡ set l a x
kept l a b x off = ap (λ (n : ℕ). set (set l a x) b n) (sym (get_or-set_other l a b x 0 off)) ∙ set-get_or (set l a x) b 0

module _ (l : List ℕ) (r : ℕ) (h : Heard) where
  -- the log once the first number is told, the first two, and the first three
  abbrev one : List ℕ
  one = set l (marks_at Prevotes r) h.prevotes

  abbrev two : List ℕ
  two = set one (marks_at Precommits r) h.precommits

  abbrev three : List ℕ
  three = set two (proposal_at r) h.proposal

  -- it has as many places
  pub told_length : length (tell l r h) ≡ length l
  unfolding tell
  told_length =
      length-set three (valid_at r) h.valid
      ∙ length-set two (proposal_at r) h.proposal ∙ length-set one (marks_at Precommits r) h.precommits ∙ length-set l (marks_at Prevotes r) h.prevotes

  pub sized_tell : {n : ℕ} → Sized n l → Sized n (tell l r h)
  sized_tell s = record { size = told_length ∙ s.size }

  -- a place of no number of round r holds what it held
  other_place : (p : ℕ) → (marks_at Prevotes r ≤ p → p ≤ valid_at r → ⊥) → get_or (tell l r h) p 0 ≡ get_or l p 0
  unfolding tell
  other_place p off =
      get_or-set_other three (valid_at r) p h.valid 0 (λ e. off (omega arith) (omega arith))
      ∙ get_or-set_other two (proposal_at r) p h.proposal 0 (λ e. off (omega arith) (omega arith))
      ∙ get_or-set_other one (marks_at Precommits r) p h.precommits 0 (λ e. off (omega arith) (omega arith))
      ∙ get_or-set_other l (marks_at Prevotes r) p h.prevotes 0 (λ e. off (omega arith) (omega arith))

  -- so of another round the log says what it said
  pub told_other : {q : ℕ} → (q ≡ r → ⊥) → told (tell l r h) q ≡ told l q
  unfolding told
  told_other {q} off =
      rw (
        other_place (marks_at Prevotes q) (λ a b. off (omega arith)),
        other_place (marks_at Precommits q) (λ a b. off (omega arith)),
        other_place (proposal_at q) (λ a b. off (omega arith)),
        other_place (valid_at q) (λ a b. off (omega arith)),
      )

  -- what is put in the log of a round changes no round above
  pub same_above : {q : ℕ} → r < q → told (tell l r h) q ≡ told l q
  same_above less = told_other (λ e. omega arith)

  -- of round r it says what it is told; nothing, where it has no such place
  module _ (P : ℕ → Type 0) (none : P 0) where
    pub told_marks : (v : Votes) → P (marks_of v h) → P (marks_of v (told (tell l r h) r))
    unfolding told tell
    told_marks Prevotes f =
        rw (
          get_or-set_other three (valid_at r) (marks_at Prevotes r) h.valid 0 (λ e. omega arith),
          get_or-set_other two (proposal_at r) (marks_at Prevotes r) h.proposal 0 (λ e. omega arith),
          get_or-set_other one (marks_at Precommits r) (marks_at Prevotes r) h.precommits 0 (λ e. omega arith),
        )
        (set_at P l (marks_at Prevotes r) h.prevotes f none)
    told_marks Precommits f =
        rw (
          get_or-set_other three (valid_at r) (marks_at Precommits r) h.valid 0 (λ e. omega arith),
          get_or-set_other two (proposal_at r) (marks_at Precommits r) h.proposal 0 (λ e. omega arith),
        )
        (set_at P one (marks_at Precommits r) h.precommits f none)

    pub told_proposal : P h.proposal → P (told (tell l r h) r).proposal
    unfolding told tell
    told_proposal f =
        rw (get_or-set_other three (valid_at r) (proposal_at r) h.valid 0 (λ e. omega arith)) (set_at P two (proposal_at r) h.proposal f none)

    pub told_valid : P h.valid → P (told (tell l r h) r).valid
    unfolding told tell
    told_valid f = set_at P three (valid_at r) h.valid f none

  -- and what it is told, where it has the places
  pub told_same : {n : ℕ} → Sized n l → r < n → told (tell l r h) r ≡ h
  unfolding told tell
  told_same s less =
      let l1 = length-set l (marks_at Prevotes r) h.prevotes in
      let l2 = length-set one (marks_at Precommits r) h.precommits in
      let l3 = length-set two (proposal_at r) h.proposal in
      rw (
        get_or-set_same three (valid_at r) h.valid 0 (omega (arith, s.size, less, l1, l2, l3)),
        get_or-set_other three (valid_at r) (proposal_at r) h.valid 0 (λ e. omega arith),
        get_or-set_same two (proposal_at r) h.proposal 0 (omega (arith, s.size, less, l1, l2)),
        get_or-set_other three (valid_at r) (marks_at Precommits r) h.valid 0 (λ e. omega arith),
        get_or-set_other two (proposal_at r) (marks_at Precommits r) h.proposal 0 (λ e. omega arith),
        get_or-set_same one (marks_at Precommits r) h.precommits 0 (omega (arith, s.size, less, l1)),
        get_or-set_other three (valid_at r) (marks_at Prevotes r) h.valid 0 (λ e. omega arith),
        get_or-set_other two (proposal_at r) (marks_at Prevotes r) h.proposal 0 (λ e. omega arith),
        get_or-set_other one (marks_at Precommits r) (marks_at Prevotes r) h.precommits 0 (λ e. omega arith),
        get_or-set_same l (marks_at Prevotes r) h.prevotes 0 (omega (arith, s.size, less)),
      )

-- a round told anew in one part is written in that part alone
module _ (l : List ℕ) (r x : ℕ) where
  pub tell_marks : (v : Votes) → tell l r (with_marks v x (told l r)) ≡ set l (marks_at v r) x
  unfolding told tell
  tell_marks Prevotes =
      rw (
        kept l (marks_at Prevotes r) (marks_at Precommits r) x (λ e. omega arith),
        kept l (marks_at Prevotes r) (proposal_at r) x (λ e. omega arith),
        kept l (marks_at Prevotes r) (valid_at r) x (λ e. omega arith),
      )
  tell_marks Precommits =
      rw (
        set-get_or l (marks_at Prevotes r) 0,
        kept l (marks_at Precommits r) (proposal_at r) x (λ e. omega arith),
        kept l (marks_at Precommits r) (valid_at r) x (λ e. omega arith),
      )

  pub tell_proposal : (valid : ℕ) → let h = told l r in
      tell l r (record { prevotes = h.prevotes; precommits = h.precommits; proposal = x; valid = valid }) ≡ set (set l (proposal_at r) x) (valid_at r) valid
  unfolding told tell
  tell_proposal valid = rw (set-get_or l (marks_at Prevotes r) 0, set-get_or l (marks_at Precommits r) 0)

-- What a message says of the input that brings it. Assumes nothing.
use Prim.Native.Nat.{ℕ}
use mathlib.Core.Path.{◌≡◌}
use mathlib.Core.List.{[], ◌∷◌}
use mathlib.Core.Bool.{true, ◌||◌}
use lib.Dec.{eqb}
use borrow.Author.Tests.{eqb-true}
use Rattle.words.proofs.Choice.{by_cases}
use Rattle.rules.specs.declared.Votes.{Votes}
use Rattle.rules.specs.declared.Votes.TheVariants.{Prevotes, Precommits}
use Rattle.rules.specs.declared.Input.{Input}
use Rattle.rules.specs.Kinds.{vote_in}
use Rattle.refusals.specs.Refusals.{is_proposal, is_vote}
use Rattle.agreement.specs.Moves.{prevote, precommit, proposal}
use Rattle.agreement.specs.Honest.{said}
use Rattle.market.specs.Seat.{message}
use Rattle.market.proofs.Votes.{kind_of}

pub says_vote : (v : Votes) (x : Input) → x.kind ≡ vote_in v → message x ≡ said (kind_of v) x.round.0 x.name
says_vote Prevotes x e = rw e
says_vote Precommits x e = rw e

module _ (x : Input) (any : (is_proposal x || is_vote x) ≡ true) where
  pub brings_proposal : (r valid name : ℕ) → proposal (r ∷ valid ∷ name ∷ []) ≡ message x → (x.kind ≡ 2) × (x.round.0 ≡ r) × (x.valid.0 ≡ valid) × (x.name ≡ name)
  brings_proposal r valid name e =
      by_cases (eqb x.kind 2)
      (λ k. let f : proposal (r ∷ valid ∷ name ∷ []) ≡ proposal (x.round.0 ∷ x.valid.0 ∷ x.name ∷ []) = rw k at e in (eqb-true x.kind 2 k, cc, cc, cc))
      (λ k. by_cases (eqb x.kind 3)
      (λ l. let f : proposal (r ∷ valid ∷ name ∷ []) ≡ prevote x.round.0 x.name = rw (k, l) at e in absurd (cc))
      (λ l. let f : proposal (r ∷ valid ∷ name ∷ []) ≡ precommit x.round.0 x.name = rw (k, l) at e in absurd (cc)))

  pub brings_vote : (v : Votes) (r name : ℕ) → said (kind_of v) r name ≡ message x → (x.kind ≡ vote_in v) × (x.round.0 ≡ r) × (x.name ≡ name)
  brings_vote Prevotes r name e =
      by_cases (eqb x.kind 2)
      (λ k. let f : prevote r name ≡ proposal (x.round.0 ∷ x.valid.0 ∷ x.name ∷ []) = rw k at e in absurd (cc))
      (λ k. by_cases (eqb x.kind 3)
      (λ l. let f : prevote r name ≡ prevote x.round.0 x.name = rw (k, l) at e in (eqb-true x.kind 3 l, cc, cc))
      (λ l. let f : prevote r name ≡ precommit x.round.0 x.name = rw (k, l) at e in absurd (cc)))
  brings_vote Precommits r name e =
      by_cases (eqb x.kind 2)
      (λ k. let f : precommit r name ≡ proposal (x.round.0 ∷ x.valid.0 ∷ x.name ∷ []) = rw k at e in absurd (cc))
      (λ k. by_cases (eqb x.kind 3)
      (λ l. let f : precommit r name ≡ prevote x.round.0 x.name = rw (k, l) at e in absurd (cc))
      (λ l. let f : precommit r name ≡ precommit x.round.0 x.name = rw (k, l) at e in (eqb-true x.kind 4 (rw (k, l) at any), cc, cc)))

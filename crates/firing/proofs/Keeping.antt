-- What a call keeps: a round that there is. Assumes nothing.
use Rattle.std.specs.Prelude.{is_some}
use Prim.Native.Nat.{ℕ, suc, ◌≤◌, ◌<◌}
use mathlib.Core.Path.{◌≡◌}
use mathlib.Core.Bool.{true}
use native.Mathlib.Omega.{arith}
use Rattle.rules.specs.declared.Phase.TheVariants.{Running}
use Rattle.rules.specs.declared.Input.{Input}
use Rattle.rules.specs.State.{with_phase}
use Rattle.rules.specs.Log.{Desk, with_state, message, hear_vote}
use Rattle.rules.specs.Doing.{current, vote}
use Rattle.rules.specs.Rules.{first_rule, fire_found, fire_49}
use Rattle.rules.specs.Work.{take_in}
use Rattle.rules.proofs.Firing.{enters, by_firing}
use Rattle.rules.proofs.ByInput.{by_input}

pub fire_keeps : (offer : ℕ) (d : Desk) → current d < d.rounds → is_some (first_rule d) ≡ true → current (fire_found (first_rule d) offer d) < d.rounds
unfolding fire_49
fire_keeps offer d less =
    by_firing (λ u. current u < d.rounds) offer d
    (λ run loud u w. rw w.ahead.round less)
    (λ run r name. less)
    (λ run more there u e. rw e.ahead.round there)

-- an input goes to round 0, stays, or goes to the round after its own
pub take_in_keeps : (i : Input) (d : Desk) → 1 ≤ i.kind → current d < d.rounds → (7 ≤ i.kind → suc i.round.0 < d.rounds) → current (take_in i d) < d.rounds
unfolding vote message hear_vote
take_in_keeps i d kind less next =
    by_input (λ u. current u < d.rounds) i d
    (λ e. rw (enters i.offer 0 (with_state (with_phase Running d.state) d)).ahead.round (omega arith))
    (λ h place low. less)
    (λ e. less)
    (λ e. less)
    (λ late. rw (enters i.offer (suc i.round.0) d).ahead.round (next (late kind)))

-- What no call changes: the roll, with own number and height, and the number of rounds. Assumes nothing.
use Prim.Native.Nat.{ℕ, suc}
use mathlib.Core.Path.{◌≡◌, refl, ◌∙◌}
use mathlib.Core.List.{List}
use Rattle.rules.specs.declared.Step.{Step}
use Rattle.rules.specs.declared.Step.TheVariants.{Prevote, Precommit}
use Rattle.rules.specs.declared.Votes.{Votes}
use Rattle.rules.specs.declared.Votes.TheVariants.{Prevotes, Precommits}
use Rattle.rules.specs.declared.Input.{Input}
use Rattle.rules.specs.declared.Phase.TheVariants.{Running}
use Rattle.rules.specs.declared.State.{State}
use Rattle.rules.specs.State.{held, with_phase, with_locked}
use Rattle.rules.specs.Log.{Desk, desk, with_state, hear_vote}
use Rattle.rules.specs.Doing.{current, vote, ask, start_round}
use Rattle.rules.specs.Rules.{fire_49}
use Rattle.rules.specs.Work.{take_in, most_firings, worked, work}
use Rattle.rules.proofs.ByInput.{by_input}
use Rattle.rules.proofs.Hearing.{vote_is}
use Rattle.rules.proofs.Deeds.{holding, Deed, prevotes, precommits_nil, locks, holds, asks_prevote, asks_precommit, settles, enters, firing_keeps}
use Rattle.rules.proofs.Firing as firing

pub record Same (d u : Desk) : Type 0 where
  pub roll : u.state.roll ≡ d.state.roll
  pub rounds : u.rounds ≡ d.rounds

voted : (v : Votes) (name : ℕ) (d : Desk) → Same d (vote v name d)
unfolding hear_vote
voted v name d = rw (vote_is v name d) (record { roll = refl; rounds = refl })

asked : (p : Step) (d : Desk) → Same d (ask p d)
unfolding ask
asked p d = record { roll = refl; rounds = refl }

settled : (r name : ℕ) (d : Desk) → Same d (fire_49 r name d)
unfolding fire_49
settled r name d = record { roll = refl; rounds = refl }

entered : (offer r : ℕ) (d : Desk) → Same d (start_round offer r d)
entered offer r d = let a = (firing.enters offer r d).ahead in record { roll = a.roll; rounds = a.rounds }

then_same : (c d u : Desk) → Same c d → Same d u → Same c u
then_same c d u a b = record { roll = b.roll ∙ a.roll; rounds = b.rounds ∙ a.rounds }

deed_same : (offer : ℕ) (d u : Desk) → Deed offer d u → Same d u
deed_same offer d u (prevotes name s f e) = rw e (voted Prevotes name d)
deed_same offer d u (precommits_nil s e) = rw e (voted Precommits 0 d)
deed_same offer d u (locks name s f e) = rw e (let v = voted Precommits name (with_state (with_locked (held (current d) name) (holding name d)) d) in record { roll = v.roll; rounds = v.rounds })
deed_same offer d u (holds name p s f e) = rw e (record { roll = refl; rounds = refl })
deed_same offer d u (asks_prevote s a l e) = rw e (asked Prevote d)
deed_same offer d u (asks_precommit a l e) = rw e (asked Precommit d)
deed_same offer d u (settles r name f e) = rw e (settled r name d)
deed_same offer d u (enters r m l e) = rw e (entered offer r d)

pub take_in_same : (i : Input) (d : Desk) → Same d (take_in i d)
take_in_same i d =
    by_input (Same d) i d
    (λ e. let s = entered i.offer 0 (with_state (with_phase Running d.state) d) in record { roll = s.roll; rounds = s.rounds })
    (λ h place low. record { roll = refl; rounds = refl })
    (λ e. voted Prevotes 0 d)
    (λ e. voted Precommits 0 d)
    (λ e. entered i.offer (suc i.round.0) d)

pub worked_same : (i : Input) (d : Desk) → Same d (worked i d)
unfolding worked
worked_same i d =
    firing_keeps (Same d) i.offer (λ e u run did s. then_same d e u s (deed_same i.offer e u did)) (most_firings d.rounds) (take_in i d) (take_in_same i d)

pub work_roll : (i : Input) (s : State) (table : List ℕ) → (work i s table).state.roll ≡ s.roll
work_roll i s table = (worked_same i (desk s table)).roll

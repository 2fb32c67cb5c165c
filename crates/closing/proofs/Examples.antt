-- The statement is not empty: four kiosks of power 1, of which one breaks the rules; the three others settle in a good round of a new sheet,
-- and in one of a sheet that two of them are locked on. Assumes nothing.
use Prim.Native.Nat.{ℕ, ◌*◌, ◌<◌}
use mathlib.Core.Path.{◌≡◌, refl}
use mathlib.Core.List.{List, [], ◌∷◌, ◌++◌}
use mathlib.Core.Bool.{Bool, true, not}
use native.Mathlib.Omega.{arith}
use lib.Dec.{ltb}
use Rattle.words.specs.Choice.{the_choices}
use Rattle.roll.specs.Weighing.{power_of, total_of, roll_fits, the_weighing}
use Rattle.rules.specs.declared.Input.{Input}
use Rattle.rules.specs.declared.Phase.TheVariants.{Running}
use Rattle.rules.specs.State.{is_running}
use Rattle.agreement.specs.Weigh.{Seats}
use Rattle.agreement.specs.Moves.{proposal, prevote, precommit}
use Rattle.market.specs.Demand3.{roll_at, World, Reached}
use Rattle.closing.specs.Waves.{Delivery, Play}
use Rattle.closing.specs.Closing.{Proposal, GoodRound, MayArrive, ThreeWaves}
use Rattle.closing.proofs.Playing.{Market, On, world_of, Move, turn_on, hear, refuse, lose_power, say}
use Rattle.closing.proofs.Computed.{keepers, phase_of, all_running, arrive_test, arrive_so, HasSettled, closed_test, the_tales}
use Rattle.closing.proofs.Computed.{before_it, after_it, Tale, tale_reached, tale_good, tale_play, tale_waves, tale_closes}

-- ## Four kiosks of power 1 at height 0; seat 0 proposes in round 0 and seat 1 in round 1; seat 3 breaks the rules

abbrev pub powers : List ℕ
powers = 1 ∷ 1 ∷ 1 ∷ 1 ∷ []

abbrev pub keeps : Seats
keeps i = ltb i 3

pub fits : roll_fits (roll_at powers 0 0) ≡ true
unfolding the_choices the_weighing
fits = refl

pub few : 3 * power_of (roll_at powers 0 0) (λ i. not (keeps i)) < total_of (roll_at powers 0 0)
unfolding the_weighing
few = omega arith

abbrev pub four : Market
four = record { powers = powers; height = 0; keeps = keeps; terms = record { fits = fits; tall = omega arith; few = few } }

-- ## Inputs

abbrev pub input : ℕ → ℕ → ℕ → ℕ → ℕ → ℕ → ℕ → Input
input kind sender round valid verdict name offer =
    record { kind = kind; height = record { 0 = 0 }; sender = sender; round = record { 0 = round }; valid = record { 0 = valid }; verdict = verdict; name = name; offer = offer }

-- start with an offer; the timers
abbrev starts : ℕ → Input
starts offer = input 1 0 0 0 0 0 offer

abbrev timer : ℕ → ℕ → Input
timer kind round = input kind 0 round 0 0 0 0

-- a proposal of a round, with its valid round plus one, judged good; and votes
abbrev pub proposes : ℕ → ℕ → ℕ → ℕ → Input
proposes sender round valid name = input 2 sender round valid 1 name 0

abbrev pub prevotes : ℕ → ℕ → ℕ → Input
prevotes sender round name = input 3 sender round 0 0 name 0

abbrev pub precommits : ℕ → ℕ → ℕ → Input
precommits sender round name = input 4 sender round 0 0 name 0

-- ## A good round that closes

-- a market that is reached, where this round is good; what is played from there on, with its three waves; and then each has settled
pub record RoundCloses (g : Proposal) : Type 0 where
  pub v : World powers 0 keeps
  pub w : World powers 0 keeps
  pub ds : List Delivery
  pub reached : Reached powers 0 keeps v
  pub good : GoodRound (λ p. p ≡ Running) powers 0 keeps v g
  pub play : Play powers 0 keeps (MayArrive powers 0 keeps g) v w ds
  pub waves : ThreeWaves powers 0 keeps g w ds
  pub settle : (i : ℕ) → On four i → HasSettled four g w i

abbrev run_in : List Move → Bool
run_in opening = keepers four (λ i. is_running (phase_of ((before_it four opening).seat i)))

closes_so : (g : Proposal) (opening moves : List Move) → Tale four g opening moves (arrive_test four g) → run_in opening ≡ true
    → closed_test four g (after_it four opening moves) ≡ true → RoundCloses g
closes_so g opening moves t r c =
    let M = MayArrive powers 0 keeps g in
    record {
      v = world_of four (before_it four opening);
      w = world_of four (after_it four opening moves);
      ds = (after_it four opening moves).came;
      reached = tale_reached four g opening moves (arrive_test four g) t;
      good = tale_good four g opening moves (arrive_test four g) t (λ p. p ≡ Running) (all_running four (before_it four opening) r);
      play = tale_play four g opening moves (arrive_test four g) t M (arrive_so four g);
      waves = tale_waves four g opening moves (arrive_test four g) t M (arrive_so four g);
      settle = tale_closes four g opening moves (arrive_test four g) t M (arrive_so four g) c;
    }

-- ## A new sheet: seat 0 has proposed 5 in round 0, and prevoted it

abbrev pub new : Proposal
new = record { round = 0; valid = 0; name = 5 }

-- seat 2 has not started yet
abbrev pub two_started : List Move
two_started =
    turn_on 0 ∷ turn_on 1 ∷ turn_on 2 ∷
    hear 0 (starts 5) ∷ say 0 (proposal (0 ∷ 0 ∷ 5 ∷ [])) ∷ say 0 (prevote 0 5) ∷
    hear 1 (starts 0) ∷ []

abbrev pub all_started : List Move
all_started = two_started ++ (hear 2 (starts 0) ∷ [])

-- In between seat 3 says nil prevotes and precommits, and a proposal of round 3. Seat 2 loses power after 30 of the 38 bytes of the
-- group of the proposal, and opens its journal again. The proposal comes to seat 1 once more, and a precommit to seat 0 after it has settled
abbrev new_waves : List Move
new_waves =
    hear 0 (prevotes 3 0 0) ∷ hear 1 (proposes 3 3 0 9) ∷
    hear 1 (proposes 0 0 0 5) ∷ say 1 (prevote 0 5) ∷ refuse 1 (proposes 0 0 0 5) ∷
    lose_power 2 (proposes 0 0 0 5) 30 ∷ hear 2 (proposes 0 0 0 5) ∷ say 2 (prevote 0 5) ∷
    hear 0 (prevotes 1 0 5) ∷ hear 0 (prevotes 2 0 5) ∷ say 0 (precommit 0 5) ∷
    hear 1 (prevotes 0 0 5) ∷ hear 1 (prevotes 2 0 5) ∷ say 1 (precommit 0 5) ∷
    hear 2 (precommits 3 0 0) ∷ hear 2 (prevotes 0 0 5) ∷ hear 2 (prevotes 1 0 5) ∷ say 2 (precommit 0 5) ∷
    hear 0 (precommits 1 0 5) ∷ hear 0 (precommits 2 0 5) ∷ refuse 0 (precommits 1 0 5) ∷
    hear 1 (precommits 0 0 5) ∷ hear 1 (precommits 2 0 5) ∷
    hear 2 (precommits 0 0 5) ∷ hear 2 (precommits 1 0 5) ∷ []

new_tale : Tale four new all_started new_waves (arrive_test four new)
unfolding the_tales
new_tale = record { reaches = refl; good = refl; plays = refl; waves = refl }

pub good_round_closes : RoundCloses new
unfolding the_tales
good_round_closes = closes_so new all_started new_waves new_tale refl refl

-- ## A sheet that kiosks are locked on: in round 1 seat 1 has proposed 5 again, with valid round 0, and prevoted it

abbrev pub old : Proposal
old = record { round = 1; valid = 1; name = 5 }

-- round 0 left seats 0 and 1 locked on 5, and seat 2, which heard seat 1's prevote late, with a nil precommit
abbrev pub locked : List Move
locked =
    all_started ++ (
    hear 1 (proposes 0 0 0 5) ∷ say 1 (prevote 0 5) ∷ hear 2 (proposes 0 0 0 5) ∷ say 2 (prevote 0 5) ∷
    hear 2 (prevotes 3 0 0) ∷ hear 2 (prevotes 0 0 5) ∷ hear 2 (timer 6 0) ∷ say 2 (precommit 0 0) ∷
    hear 0 (prevotes 1 0 5) ∷ hear 0 (prevotes 2 0 5) ∷ say 0 (precommit 0 5) ∷
    hear 1 (prevotes 0 0 5) ∷ hear 1 (prevotes 2 0 5) ∷ say 1 (precommit 0 5) ∷
    hear 2 (precommits 0 0 5) ∷ hear 2 (precommits 1 0 5) ∷ hear 2 (timer 7 0) ∷ hear 2 (prevotes 1 0 5) ∷
    hear 0 (precommits 1 0 5) ∷ hear 0 (precommits 2 0 0) ∷ hear 0 (timer 7 0) ∷
    hear 1 (precommits 0 0 5) ∷ hear 1 (precommits 2 0 0) ∷ hear 1 (timer 7 0) ∷
    say 1 (proposal (1 ∷ 1 ∷ 5 ∷ [])) ∷ say 1 (prevote 1 5) ∷ [])

abbrev old_waves : List Move
old_waves =
    hear 0 (proposes 1 1 1 5) ∷ say 0 (prevote 1 5) ∷ hear 2 (proposes 1 1 1 5) ∷ say 2 (prevote 1 5) ∷
    hear 0 (prevotes 1 1 5) ∷ hear 0 (prevotes 3 1 9) ∷ hear 0 (prevotes 2 1 5) ∷ say 0 (precommit 1 5) ∷
    hear 1 (prevotes 0 1 5) ∷ hear 1 (prevotes 2 1 5) ∷ say 1 (precommit 1 5) ∷
    hear 2 (prevotes 0 1 5) ∷ hear 2 (prevotes 1 1 5) ∷ say 2 (precommit 1 5) ∷
    hear 0 (precommits 1 1 5) ∷ hear 0 (precommits 2 1 5) ∷
    hear 1 (precommits 0 1 5) ∷ hear 1 (precommits 2 1 5) ∷
    hear 2 (precommits 0 1 5) ∷ hear 2 (precommits 1 1 5) ∷ []

old_tale : Tale four old locked old_waves (arrive_test four old)
unfolding the_tales
old_tale = record { reaches = refl; good = refl; plays = refl; waves = refl }

pub locked_round_closes : RoundCloses old
unfolding the_tales
locked_round_closes = closes_so old locked old_waves old_tale refl refl

-- The statements are not empty: a market in which two kiosks settle, one after its power was cut in the middle of a group; and one in
-- which a rule-breaker tells two stories and nobody settles. Assumes nothing.
use Prim.Native.Nat.{ℕ, zero, suc, ◌*◌, ◌^◌, ◌<◌}
use mathlib.Core.Path.{◌≡◌, refl}
use mathlib.Core.Logic.{inl, inr}
use mathlib.Core.List.{List, [], ◌∷◌}
use mathlib.Core.Bool.{true, not}
use native.Mathlib.Omega.{arith}
use borrow.Author.Tests.{ne_eqb}
use lib.Dec.{eqb}
use Rattle.words.specs.Choice.{the_choices}
use Rattle.words.specs.Members.{In}
use Rattle.roll.specs.Weighing.{power_of, total_of, roll_fits, the_weighing}
use Rattle.rules.specs.declared.Input.{Input}
use Rattle.journal.specs.Layout.{group_length}
use Rattle.history.specs.Histories.{Creates, does}
use Rattle.agreement.specs.Weigh.{Seats}
use Rattle.agreement.specs.Moves.{Out, proposal, prevote, precommit, settled, other}
use Rattle.agreement.specs.System.{off, next}
use Rattle.market.specs.Demand3.{roll_at, World, Step, Reached, Leads, here, further, PutOut}
use Rattle.market.proofs.Schedule.{memory_after, cut_file, kiosk_after, Setting, ReachedWith, Keeper, Story, the_stories, first_part, creates, may_none, may_own, may_breaker, may_sent, begins, leads_on, powered, called, interrupted, recovers, spoke, story_out, out_story, says_nothing}

-- ## Inputs of height 2, all of round 0

abbrev pub input : ℕ → ℕ → ℕ → ℕ → ℕ → Input
input kind sender verdict name offer =
    record { kind = kind; height = record { 0 = 2 }; sender = sender; round = record { 0 = 0 }; valid = record { 0 = 0 }; verdict = verdict; name = name; offer = offer }

-- start with an offer; a proposal with verdict 1; the votes
abbrev pub starts : ℕ → Input
starts offer = input 1 0 0 0 offer

abbrev pub proposes : ℕ → ℕ → Input
proposes sender name = input 2 sender 1 name 0

abbrev pub prevotes : ℕ → ℕ → Input
prevotes sender name = input 3 sender 0 name 0

abbrev pub precommits : ℕ → ℕ → Input
precommits sender name = input 4 sender 0 name 0

-- the proposal of a new sheet in round 0, as it is sent
abbrev pub offered : ℕ → Out
offered name = proposal (0 ∷ 0 ∷ name ∷ [])

-- ## Two kiosks of powers 3 and 1, both rule-keeping; seat 0 proposes

abbrev pub two : List ℕ
two = 3 ∷ 1 ∷ []

abbrev pub all : Seats
all i = true

pub two_fits : roll_fits (roll_at two 2 0) ≡ true
unfolding the_choices the_weighing
two_fits = refl

pub tall : 2 < 2 ^ 32
tall = omega arith

pub two_few : 3 * power_of (roll_at two 2 0) (λ i. not (all i)) < total_of (roll_at two 2 0)
unfolding the_weighing
two_few = omega arith

-- with the honest steps, or more
abbrev pub two_by : (S : World two 2 all → World two 2 all → Type 0) → ((w w' : World two 2 all) → Step two 2 all w w' → S w w') → Setting
two_by S honest = record { powers = two; height = 2; keeps = all; fits = two_fits; tall = tall; came = ReachedWith two 2 all S; onward = λ w w' r s. next r (honest w w' s) }

-- or from a world on
abbrev two_from : World two 2 all → Setting
two_from v = record { powers = two; height = 2; keeps = all; fits = two_fits; tall = tall; came = Leads two 2 all v; onward = λ w w' l s. further l s }

pub seat_0 : Keeper two all 0
seat_0 = record { on_roll = omega arith; rule = refl }

pub seat_1 : Keeper two all 1
seat_1 = record { on_roll = omega arith; rule = refl }

pub two_creates : (i : ℕ) → i < 2 → Creates (roll_at two 2 i)
two_creates i on_roll = creates two 2 two_fits tall i on_roll

-- seat 0 settles 5 alone
pub zero_five : Story (roll_at two 2 0) (starts 5 ∷ []) (offered 5 ∷ prevote 0 5 ∷ other ∷ precommit 0 5 ∷ other ∷ settled 0 5 ∷ [])
unfolding the_stories
zero_five = record { created = two_creates 0 (omega arith); fit = refl; taken = refl; sent = refl }

-- seat 1 hears of 5 from seat 0
abbrev pub one_hears : List Input
one_hears = starts 0 ∷ proposes 0 5 ∷ prevotes 0 5 ∷ []

one_settles : Story (roll_at two 2 1) (starts 0 ∷ proposes 0 5 ∷ prevotes 0 5 ∷ precommits 0 5 ∷ []) (other ∷ prevote 0 5 ∷ other ∷ precommit 0 5 ∷ other ∷ settled 0 5 ∷ [])
unfolding the_stories
one_settles = record { created = two_creates 1 (omega arith); fit = refl; taken = refl; sent = refl }

-- the group that settles has over 30 bytes
pub over_30 : 30 < group_length (does (memory_after (roll_at two 2 1) one_hears) (precommits 0 5)).sent
unfolding the_stories
over_30 = omega arith

-- Seat 0 starts, settles, and sends its proposal and its votes. Seat 1 hears them; its power is cut after 30 bytes of the group that
-- settles, and this world is v; it opens its journal, hears the precommit again, and settles, and this world is w
pub two_settle : (v w : World two 2 all) × Reached two 2 all v × (v.board 1 ≡ off (cut_file (roll_at two 2 1) one_hears (precommits 0 5) 30)) × Leads two 2 all v w × Reached two 2 all w
    × PutOut two 2 all w 0 (settled 0 5) × PutOut two 2 all w 1 (settled 0 5)
two_settle =
    let m = two_by (Step two 2 all) (λ w w' s. s) in
    let r0 = powered m seat_0 (begins two 2 all) refl in
    let r1 = called m seat_0 [] r0 refl (starts 5) [] zero_five (may_own refl may_none) in
    let r2 = spoke m seat_0 (starts 5 ∷ []) zero_five r1 refl (offered 5) (inl refl) in
    let r3 = spoke m seat_0 (starts 5 ∷ []) zero_five r2 refl (prevote 0 5) (inr (inl refl)) in
    let r4 = spoke m seat_0 (starts 5 ∷ []) zero_five r3 refl (precommit 0 5) (inr (inr (inr (inl refl)))) in
    let r5 = powered m seat_1 r4 refl in
    let r6 = called m seat_1 [] r5 refl (starts 0) (proposes 0 5 ∷ prevotes 0 5 ∷ []) (first_part one_hears (precommits 0 5 ∷ []) one_settles) (may_own refl (may_sent (inr (inr (inl refl))) (may_sent (inr (inl refl)) may_none))) in
    let r7 = interrupted m seat_1 one_hears (precommits 0 5) one_settles 30 r6 refl (may_sent (inl refl) may_none) in
    let n : Setting = two_from _ in
    let r8 = recovers n seat_1 one_hears (precommits 0 5) one_settles 30 over_30 here refl in
    let r9 = called n seat_1 one_hears r8 refl (precommits 0 5) [] one_settles (may_sent (inl refl) may_none) in (
      _,
      _,
      r7,
      refl,
      r9,
      leads_on two 2 all r7 r9,
      story_out m _ seat_0 (starts 5 ∷ []) refl zero_five (inr (inr (inr (inr (inr (inl refl)))))),
      story_out m _ seat_1 (starts 0 ∷ proposes 0 5 ∷ prevotes 0 5 ∷ precommits 0 5 ∷ []) refl one_settles (inr (inr (inr (inr (inr (inl refl)))))),
    )

-- ## A rule-breaker tells two stories: seat 2 proposes and votes for 5 to seat 0, and for 6 to seat 1

abbrev pub story : ℕ → List Input
story name = starts 0 ∷ proposes 2 name ∷ prevotes 2 name ∷ precommits 2 name ∷ []

abbrev pub but_two : Seats
but_two i = not (eqb i 2)

-- both are told, no sender is forged, and power is never cut; the other seats have no journal
pub record ToldBoth (powers : List ℕ) (w : World powers 2 but_two) : Type 0 where
  pub reached : Reached powers 2 but_two w
  pub five : w.board 0 ≡ kiosk_after (roll_at powers 2 0) (story 5)
  pub six : w.board 1 ≡ kiosk_after (roll_at powers 2 1) (story 6)
  pub no_more : (i : ℕ) → 1 < i → w.board i ≡ off []

abbrev pub honest_at : (powers : List ℕ) → roll_fits (roll_at powers 2 0) ≡ true → Setting
honest_at powers fits = record { powers = powers; height = 2; keeps = but_two; fits = fits; tall = tall; came = Reached powers 2 but_two; onward = λ w w' r s. next r s }

pub tells : (powers : List ℕ) → roll_fits (roll_at powers 2 0) ≡ true → Keeper powers but_two 0 → Keeper powers but_two 1 → {os ps : List Out}
    → Story (roll_at powers 2 0) (story 5) os → Story (roll_at powers 2 1) (story 6) ps → (w : World powers 2 but_two) × ToldBoth powers w
tells powers fits seat_0 seat_1 five six =
    let m = honest_at powers fits in
    let r0 = powered m seat_0 (begins powers 2 but_two) refl in
    let r1 = called m seat_0 [] r0 refl (starts 0) (proposes 2 5 ∷ prevotes 2 5 ∷ precommits 2 5 ∷ []) five (may_own refl (may_breaker refl (may_breaker refl (may_breaker refl may_none)))) in
    let r2 = powered m seat_1 r1 refl in
    let r3 = called m seat_1 [] r2 refl (starts 0) (proposes 2 6 ∷ prevotes 2 6 ∷ precommits 2 6 ∷ []) six (may_own refl (may_breaker refl (may_breaker refl (may_breaker refl may_none)))) in
    (_, record { reached = r3; five = refl; six = refl; no_more = λ i l. rw (ne_eqb i 0 (λ e. omega arith), ne_eqb i 1 (λ e. omega arith)) })

-- ## Powers 1, 1, 1, 1: nobody settles

abbrev even : List ℕ
even = 1 ∷ 1 ∷ 1 ∷ 1 ∷ []

pub even_fits : roll_fits (roll_at even 2 0) ≡ true
unfolding the_choices the_weighing
even_fits = refl

pub even_few : 3 * power_of (roll_at even 2 0) (λ i. not (but_two i)) < total_of (roll_at even 2 0)
unfolding the_weighing
even_few = omega arith

even_five : Story (roll_at even 2 0) (story 5) (other ∷ prevote 0 5 ∷ [])
unfolding the_stories
even_five = record { created = creates even 2 even_fits tall 0 (omega arith); fit = refl; taken = refl; sent = refl }

even_six : Story (roll_at even 2 1) (story 6) (other ∷ prevote 0 6 ∷ [])
unfolding the_stories
even_six = record { created = creates even 2 even_fits tall 1 (omega arith); fit = refl; taken = refl; sent = refl }

not_settled : {r u v : ℕ} → In (settled r u) (other ∷ prevote 0 v ∷ []) → ⊥
not_settled (inl e) = cc
not_settled (inr (inl e)) = cc
not_settled {r = r} {u = u} {v = v} (inr (inr x)) = elim x [ ]

-- seat 0 prevotes 5, seat 1 prevotes 6, and no rule-keeping kiosk settles
pub nobody_settles : (w : World even 2 but_two) × ToldBoth even w × PutOut even 2 but_two w 0 (prevote 0 5) × PutOut even 2 but_two w 1 (prevote 0 6) ×
    ((i r u : ℕ) → i < 4 → but_two i ≡ true → PutOut even 2 but_two w i (settled r u) → ⊥)
nobody_settles =
    let m = honest_at even even_fits in
    let seat_0 : Keeper even but_two 0 = record { on_roll = omega arith; rule = refl } in
    let seat_1 : Keeper even but_two 1 = record { on_roll = omega arith; rule = refl } in
    let t = tells even even_fits seat_0 seat_1 even_five even_six in
    let w = t.0 in
    (w, t.1, story_out m w seat_0 (story 5) t.1.five even_five (inr (inl refl)), story_out m w seat_1 (story 6) t.1.six even_six (inr (inl refl)), no_one t)
  where
    no_one : (t : (w : World even 2 but_two) × ToldBoth even w) (i r u : ℕ) → i < 4 → but_two i ≡ true → PutOut even 2 but_two t.0 i (settled r u) → ⊥
    no_one t zero r u on_roll rule o = not_settled (out_story (honest_at even even_fits) t.0 (record { on_roll = on_roll; rule = rule }) (story 5) t.1.five even_five o)
    no_one t (suc zero) r u on_roll rule o = not_settled (out_story (honest_at even even_fits) t.0 (record { on_roll = on_roll; rule = rule }) (story 6) t.1.six even_six o)
    no_one t (suc (suc i)) r u on_roll rule o = says_nothing (honest_at even even_fits) t.0 (record { on_roll = on_roll; rule = rule }) (t.1.no_more (suc (suc i)) (omega arith)) o

-- What C-22's words are for: four readings that differ in one part each, and are false. Four kiosks of power 1; seat 3 breaks the rules.
-- Assumes nothing.
use Prim.Native.Nat.{ℕ}
use mathlib.Core.Path.{◌≡◌, refl}
use mathlib.Core.List.{List, [], ◌∷◌}
use mathlib.Core.Bool.{Bool, true, false, ◌&&◌, ◌||◌, not}
use native.Mathlib.Omega.{arith}
use borrow.Author.Tests.{leb-true, not-true}
use lib.Dec.{leb}
use Rattle.rules.specs.declared.Input.{Input}
use Rattle.rules.specs.declared.Phase.TheVariants.{Running}
use Rattle.rules.specs.State.{is_settled}
use Rattle.refusals.specs.Refusals.{is_vote, is_timer}
use Rattle.agreement.specs.Moves.{prevote, precommit}
use Rattle.agreement.specs.System.{Msg}
use Rattle.closing.specs.Waves.{Delivery}
use Rattle.closing.specs.Closing.{Unforged, NoTimer, NotEarlier, JudgedGood, InOrder, MayArrive, Arriving, ClosesWhere}
use Rattle.closing.proofs.Playing.{On, Move, hear, refuse, say}
use Rattle.closing.proofs.Computed.{implied, five_hold, all_running, all_unsettled, before_it, Tale, refutes, the_tales}
use Rattle.closing.proofs.Computed.{unforged_test, unforged_so, judged_test, judged_so, order_test, order_so, arrive_test, arrive_so}
use Rattle.closing.proofs.Examples.{four, proposes, prevotes, precommits, new, two_started, all_started, old, locked}

seat_0 : On four 0
seat_0 = (omega arith, refl)

seat_2 : On four 2
seat_2 = (omega arith, refl)

-- ## "nothing else of earlier rounds arrives", from rule-keeping kiosks alone

abbrev pub Earlier : Arriving
Earlier powers height keeps g air ds i x =
    Unforged powers height keeps g air i x × NoTimer powers height keeps g x × (keeps x.sender ≡ true → NotEarlier powers height keeps g x)
    × JudgedGood powers height keeps g x × InOrder powers height keeps g ds i x

abbrev earlier_test : List Msg → List Delivery → ℕ → Input → Bool
earlier_test air ds i x =
    unforged_test four air x && not (is_timer x) && (not (four.keeps x.sender) || leb old.round x.round.0) && judged_test four old x && order_test four old ds i x

earlier_so : (air : List Msg) (ds : List Delivery) (i : ℕ) (x : Input) → earlier_test air ds i x ≡ true → Earlier four.powers four.height four.keeps old air ds i x
earlier_so air ds i x e =
    let late = leb old.round x.round.0 in
    let t = five_hold (unforged_test four air x) (not (is_timer x)) (not (four.keeps x.sender) || late) (judged_test four old x) (order_test four old ds i x) e in (
      unforged_so four air ds i x t.0,
      not-true (is_timer x) t.1,
      λ k. leb-true old.round x.round.0 (implied (four.keeps x.sender) late t.2 k),
      judged_so four old x t.3,
      order_so four old ds i x t.4,
    )

-- seat 3's precommit of round 0 lets seat 2 settle there; it prevotes no more, and seats 0 and 1 are not large
abbrev earlier_waves : List Move
earlier_waves =
    hear 2 (precommits 3 0 5) ∷ refuse 2 (proposes 1 1 1 5) ∷ hear 0 (proposes 1 1 1 5) ∷ say 0 (prevote 1 5) ∷
    hear 0 (prevotes 1 1 5) ∷ hear 1 (prevotes 0 1 5) ∷ refuse 2 (prevotes 0 1 5) ∷ refuse 2 (prevotes 1 1 5) ∷ []

earlier_tale : Tale four old locked earlier_waves earlier_test
unfolding the_tales
earlier_tale = record { reaches = refl; good = refl; plays = refl; waves = refl }

pub earlier_rounds : ClosesWhere (λ p. p ≡ Running) Earlier → ⊥
unfolding the_tales
earlier_rounds = refutes four old locked earlier_waves earlier_test (λ p. p ≡ Running) Earlier earlier_so earlier_tale (all_running four (before_it four locked) refl) 0 seat_0 refl

-- ## "forges no sender", of votes alone

abbrev pub Forged : Arriving
Forged powers height keeps g air ds i x =
    (is_vote x ≡ true → Unforged powers height keeps g air i x) × NoTimer powers height keeps g x × NotEarlier powers height keeps g x
    × JudgedGood powers height keeps g x × InOrder powers height keeps g ds i x

abbrev forged_test : List Msg → List Delivery → ℕ → Input → Bool
forged_test air ds i x =
    (not (is_vote x) || unforged_test four air x) && not (is_timer x) && leb new.round x.round.0 && judged_test four new x && order_test four new ds i x

forged_so : (air : List Msg) (ds : List Delivery) (i : ℕ) (x : Input) → forged_test air ds i x ≡ true → Forged four.powers four.height four.keeps new air ds i x
forged_so air ds i x e =
    let sent = unforged_test four air x in
    let t = five_hold (not (is_vote x) || sent) (not (is_timer x)) (leb new.round x.round.0) (judged_test four new x) (order_test four new ds i x) e in (
      λ v. unforged_so four air ds i x (implied (is_vote x) sent t.0 v),
      not-true (is_timer x) t.1,
      leb-true new.round x.round.0 t.2,
      judged_so four new x t.3,
      order_so four new ds i x t.4,
    )

-- seat 3 prevotes in round 1, and a proposal of round 1 comes under the number of seat 1, which sent none: the two are some, and by rule 55
-- seat 2 leaves round 0
abbrev forged_waves : List Move
forged_waves =
    hear 2 (prevotes 3 1 0) ∷ hear 2 (proposes 1 1 0 9) ∷ hear 2 (proposes 0 0 0 5) ∷ hear 1 (proposes 0 0 0 5) ∷ say 1 (prevote 0 5) ∷
    hear 0 (prevotes 1 0 5) ∷ hear 1 (prevotes 0 0 5) ∷ hear 2 (prevotes 0 0 5) ∷ hear 2 (prevotes 1 0 5) ∷ []

forged_tale : Tale four new all_started forged_waves forged_test
unfolding the_tales
forged_tale = record { reaches = refl; good = refl; plays = refl; waves = refl }

pub forged_proposals : ClosesWhere (λ p. p ≡ Running) Forged → ⊥
unfolding the_tales
forged_proposals = refutes four new all_started forged_waves forged_test (λ p. p ≡ Running) Forged forged_so forged_tale (all_running four (before_it four all_started) refl) 2 seat_2 refl

-- ## "after it all their prevotes and after those all their precommits", in any order

abbrev pub AnyOrder : Arriving
AnyOrder powers height keeps g air ds i x =
    Unforged powers height keeps g air i x × NoTimer powers height keeps g x × NotEarlier powers height keeps g x × JudgedGood powers height keeps g x

abbrev any_order_test : List Msg → List Delivery → ℕ → Input → Bool
any_order_test air ds i x = unforged_test four air x && not (is_timer x) && leb new.round x.round.0 && judged_test four new x && true

any_order_so : (air : List Msg) (ds : List Delivery) (i : ℕ) (x : Input) → any_order_test air ds i x ≡ true → AnyOrder four.powers four.height four.keeps new air ds i x
any_order_so air ds i x e =
    let t = five_hold (unforged_test four air x) (not (is_timer x)) (leb new.round x.round.0) (judged_test four new x) true e in
    (unforged_so four air ds i x t.0, not-true (is_timer x) t.1, leb-true new.round x.round.0 t.2, judged_so four new x t.3)

-- seat 2 settles by the precommits of seats 0, 1 and 3 before it has heard a prevote; it precommits no more, and seats 0 and 1 are not large
abbrev early_waves : List Move
early_waves =
    hear 1 (proposes 0 0 0 5) ∷ say 1 (prevote 0 5) ∷ hear 2 (proposes 0 0 0 5) ∷ say 2 (prevote 0 5) ∷
    hear 0 (prevotes 1 0 5) ∷ hear 0 (prevotes 2 0 5) ∷ say 0 (precommit 0 5) ∷
    hear 1 (prevotes 0 0 5) ∷ hear 1 (prevotes 2 0 5) ∷ say 1 (precommit 0 5) ∷
    hear 2 (precommits 0 0 5) ∷ hear 2 (precommits 1 0 5) ∷ hear 2 (precommits 3 0 5) ∷ refuse 2 (prevotes 0 0 5) ∷ refuse 2 (prevotes 1 0 5) ∷
    hear 0 (precommits 1 0 5) ∷ hear 1 (precommits 0 0 5) ∷ []

early_tale : Tale four new all_started early_waves any_order_test
unfolding the_tales
early_tale = record { reaches = refl; good = refl; plays = refl; waves = refl }

pub precommits_first : ClosesWhere (λ p. p ≡ Running) AnyOrder → ⊥
unfolding the_tales
precommits_first =
    refutes four new all_started early_waves any_order_test (λ p. p ≡ Running) AnyOrder any_order_so early_tale (all_running four (before_it four all_started) refl) 0 seat_0 refl

-- ## "all stand in one round .. with nobody settled", started or not

-- before start seat 2 is in round 0 at the propose step, and refuses every message
abbrev idle_waves : List Move
idle_waves =
    hear 1 (proposes 0 0 0 5) ∷ say 1 (prevote 0 5) ∷ refuse 2 (proposes 0 0 0 5) ∷
    hear 0 (prevotes 1 0 5) ∷ hear 1 (prevotes 0 0 5) ∷ refuse 2 (prevotes 0 0 5) ∷ refuse 2 (prevotes 1 0 5) ∷ []

idle_tale : Tale four new two_started idle_waves (arrive_test four new)
unfolding the_tales
idle_tale = record { reaches = refl; good = refl; plays = refl; waves = refl }

pub not_started : ClosesWhere (λ p. is_settled p ≡ false) MayArrive → ⊥
unfolding the_tales
not_started =
    refutes four new two_started idle_waves (arrive_test four new) (λ p. is_settled p ≡ false) MayArrive (arrive_so four new) idle_tale
    (all_unsettled four (before_it four two_started) refl) 2 seat_2 refl

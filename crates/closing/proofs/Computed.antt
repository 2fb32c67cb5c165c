-- What a scene shows by computation: that no sender is forged, that a message was delivered, the three waves, and the good round.
-- Assumes nothing.
use Prim.Native.Nat.{ℕ, pred}
use mathlib.Core.Path.{◌≡◌, refl, ap, sym, subst, ◌∙◌}
use mathlib.Core.Logic.{◌≢◌, inl, inr, ⊎_elim}
use mathlib.Core.List.{List, [], ◌∷◌}
use mathlib.Core.Bool.{Bool, true, false, ◌&&◌, ◌||◌, not, false≢true}
use native.Mathlib.Omega.{arith}
use borrow.Author.Tests.{eq-eqb, ne_eqb, eqb-true, ltb-true, leb-true, not-true}
use lib.Dec.{eqb, ltb, leb}
use lib.ListN.{length}
use Rattle.words.specs.Choice.{all_below}
use Rattle.words.specs.Members.{In}
use Rattle.words.proofs.Choice.{by_cases, and_left, and_right, or_case, all_holds}
use Rattle.roll.specs.declared.Roll.{Roll}
use Rattle.rules.specs.declared.Votes.TheVariants.{Prevotes}
use Rattle.rules.specs.declared.Input.{Input}
use Rattle.rules.specs.declared.Phase.{Phase}
use Rattle.rules.specs.declared.Phase.TheVariants.{Fresh, Running, Settled}
use Rattle.rules.specs.declared.Step.{Step}
use Rattle.rules.specs.declared.Step.TheVariants.{Propose, Prevote, Precommit}
use Rattle.rules.specs.State.{most_rounds, is_running, is_settled, is_propose, is_prevote}
use Rattle.rules.specs.Log.{Desk, proposed, power_for}
use Rattle.rules.specs.Doing.{current, step}
use Rattle.rules.specs.Rules.{is_large}
use Rattle.refusals.specs.Refusals.{is_proposal, is_vote, is_timer, fields_fit}
use Rattle.history.specs.Histories.{Past, beginning, written, records, sent_in}
use Rattle.history.proofs.OneHistory.{spoken}
use Rattle.agreement.specs.Moves.{Out, proposal, prevote, precommit, settled, other}
use Rattle.agreement.specs.System.{off, on, Msg, by, awake, asleep}
use Rattle.agreement.specs.System.{begin as reach_begin}
use Rattle.market.specs.Seat.{acts, message}
use Rattle.market.specs.Demand3.{roll_at, Reached, PutOut}
use Rattle.market.proofs.Schedule.{the_stories}
use Rattle.closing.specs.Waves.{Delivery, to, Carries, Delivered, Play, begin}
use Rattle.closing.specs.Closing.{Proposal, offer_of, turn_of, desk_of, with_power, GoodRound, JudgedGood, TwoWaves, InOrder, MayArrive, ThreeWaves, Closed, Arriving, ClosesWhere}
use Rattle.closing.proofs.Playing.{same, same_out, same_out_so, among, among_in, Market, Seat, dark, lit, Scene, unbegun, afresh, Move, W, On}
use Rattle.closing.proofs.Playing.{board_of, world_of, next_scene, run, can, passes, Known, Plays, moves_so, UnforgedNow, play_reached}

-- where the first test holds, so does the second
pub implied : (a b : Bool) → (not a || b) ≡ true → a ≡ true → b ≡ true
implied true b e t = e
implied false b e t = absurd (false≢true t)

-- five tests, each of which holds
pub five_hold : (a b c d e : Bool) → (a && b && c && d && e) ≡ true → (a ≡ true) × (b ≡ true) × (c ≡ true) × (d ≡ true) × (e ≡ true)
five_hold a b c d e t₀ =
    let t₁ = and_left (a && b && c && d) e t₀ in
    let t₂ = and_left (a && b && c) d t₁ in
    let t₃ = and_left (a && b) c t₂ in
    (and_left a b t₃, and_right a b t₃, and_right (a && b) c t₂, and_right (a && b && c) d t₁, and_right (a && b && c && d) e t₀)

-- ## On the radio

unfoldable pub aired : ℕ → Out → List Msg → Bool
aired j o [] = false
aired j o (by i u ∷ air) = (eqb j i && same_out o u) || aired j o air

aired_in : (j : ℕ) (o : Out) (air : List Msg) → aired j o air ≡ true → In (by j o) air
unfolding aired
aired_in j o [] e = absurd (false≢true e)
aired_in j o (by i u ∷ air) e =
    let a = eqb j i in
    let b = same_out o u in
    by_cases (a && b)
    (λ t. inl (rw (eqb-true j i (and_left a b t), same_out_so o u (and_right a b t)) refl))
    (λ t. inr (aired_in j o air (rw t at e)))

-- ## What was delivered

-- one of some deliveries passes the test
unfoldable pub brought : (Input → Bool) → List Delivery → ℕ → Bool
brought test [] i = false
brought test (to k x ∷ ds) i = (eqb i k && test x) || brought test ds i

brought_so : (test : Input → Bool) (ds : List Delivery) (i : ℕ) → brought test ds i ≡ true → (x : Input) × In (to i x) ds × (test x ≡ true)
unfolding brought
brought_so test [] i e = absurd (false≢true e)
brought_so test (to k x ∷ ds) i e =
    let a = eqb i k in
    by_cases (a && test x)
    (λ t. (x, inl (rw (eqb-true i k (and_left a (test x) t)) refl), and_right a (test x) t))
    (λ t. let later = brought_so test ds i (rw t at e) in (later.0, inr later.1, later.2))

-- ## What a seat shows

abbrev is_lit : Seat → Bool
is_lit dark = false
is_lit (lit p cs) = true

abbrev outs_of : Seat → List Out
outs_of dark = []
outs_of (lit p cs) = acts (sent_in cs)

abbrev pub phase_of : Seat → Phase
phase_of dark = Fresh
phase_of (lit p cs) = p.kiosk.state.progress.phase

abbrev pub unsettled : Seat → Bool
unsettled dark = false
unsettled (lit p cs) = not (is_settled p.kiosk.state.progress.phase)

running_so : (p : Phase) → is_running p ≡ true → p ≡ Running
running_so Fresh e = absurd (false≢true e)
running_so Running e = refl
running_so (Settled r) e = absurd (false≢true e)

-- settled in this round
abbrev settled_at : ℕ → Phase → Bool
settled_at r Fresh = false
settled_at r Running = false
settled_at r (Settled q) = eqb q.0 r

settled_so : (r : ℕ) (p : Phase) → settled_at r p ≡ true → p ≡ Settled (record { 0 = r })
settled_so r Fresh e = absurd (false≢true e)
settled_so r Running e = absurd (false≢true e)
settled_so r (Settled q) e = ap (λ (k : ℕ). Settled (record { 0 = k })) (eqb-true q.0 r e)

prevote_so : (s : Step) → is_prevote s ≡ true → s ≡ Prevote
prevote_so Propose e = absurd (false≢true e)
prevote_so Prevote e = refl
prevote_so Precommit e = absurd (false≢true e)

propose_so : (s : Step) → is_propose s ≡ true → s ≡ Propose
propose_so Propose e = refl
propose_so Prevote e = absurd (false≢true e)
propose_so Precommit e = absurd (false≢true e)

-- a vote of this round
abbrev vote_in : ℕ → Out → Bool
vote_in r (prevote q name) = eqb q r
vote_in r (precommit q name) = eqb q r
vote_in r (settled q name) = false
vote_in r (proposal l) = false
vote_in r other = false

-- each vote of this round among some outputs passes the test
unfoldable pub each_vote : ℕ → (Out → Bool) → List Out → Bool
each_vote r test [] = true
each_vote r test (o ∷ os) = (not (vote_in r o) || test o) && each_vote r test os

each_vote_so : (r : ℕ) (test : Out → Bool) (os : List Out) → each_vote r test os ≡ true → (o : Out) → In o os → vote_in r o ≡ true → test o ≡ true
unfolding each_vote
each_vote_so r test [] e o a v = absurd a
each_vote_so r test (u ∷ os) e o (inl f) v =
    subst (λ (t : Out). test t ≡ true) (sym f) (implied (vote_in r u) (test u) (and_left (not (vote_in r u) || test u) (each_vote r test os) e) (subst (λ (t : Out). vote_in r t ≡ true) f v))
each_vote_so r test (u ∷ os) e o (inr a) v = each_vote_so r test os (and_right (not (vote_in r u) || test u) (each_vote r test os) e) o a v

module _ (m : Market) where
  abbrev n : ℕ
  n = length m.powers

  abbrev roll : ℕ → Roll
  roll i = roll_at m.powers m.height i

  -- "forges no sender"
  unfoldable pub unforged_test : List Msg → Input → Bool
  unforged_test air x = not ((is_proposal x || is_vote x) && m.keeps x.sender) || aired x.sender (message x) air

  pub unforged_so : (air : List Msg) (ds : List Delivery) (i : ℕ) (x : Input) → unforged_test air x ≡ true → UnforgedNow m air ds i x
  unfolding unforged_test
  unforged_so air ds i x e j o b hj kj =
      let message_is = is_proposal x || is_vote x in
      let rule : m.keeps x.sender ≡ true = rw b.1 kj in
      let both : (message_is && m.keeps x.sender) ≡ true = rw (b.0, rule) refl in
      rw (← b.1, b.2) (aired_in x.sender (message x) air (implied (message_is && m.keeps x.sender) (aired x.sender (message x) air) e both))

  -- an input that carries this output of seat j
  unfoldable pub carries : ℕ → Out → Input → Bool
  carries j o x = (is_proposal x || is_vote x) && eqb x.sender j && same_out o (message x) && eqb x.height.0 m.height && fields_fit n most_rounds x

  carries_so : (j : ℕ) (o : Out) (x : Input) → carries j o x ≡ true → Carries m.powers m.height j o x
  unfolding carries
  carries_so j o x e =
      let a = is_proposal x || is_vote x in
      let b = eqb x.sender j in
      let c = same_out o (message x) in
      let h = eqb x.height.0 m.height in
      let f = fields_fit n most_rounds x in
      let t = five_hold a b c h f e in
      record {
        brings_it = (t.0, eqb-true x.sender j t.1, same_out_so o (message x) t.2);
        height_is = eqb-true x.height.0 m.height t.3;
        fits = t.4;
      }

  abbrev delivered : List Delivery → ℕ → ℕ → Out → Bool
  delivered ds i j o = brought (carries j o) ds i

  delivered_so : (ds : List Delivery) (i j : ℕ) (o : Out) → delivered ds i j o ≡ true → Delivered m.powers m.height ds i j o
  delivered_so ds i j o e = let b = brought_so (carries j o) ds i e in (b.0, b.1, carries_so j o b.0 b.2)

  -- each rule-keeping seat passes the test
  abbrev pub keepers : (ℕ → Bool) → Bool
  keepers test = all_below n (λ i. not (m.keeps i) || test i)

  keepers_so : (test : ℕ → Bool) → keepers test ≡ true → (i : ℕ) → On m i → test i ≡ true
  keepers_so test e i k = implied (m.keeps i) (test i) (all_holds n (λ i. not (m.keeps i) || test i) e i k.0) k.1

  -- all have started, and none has settled
  pub all_running : (s : Scene) → keepers (λ i. is_running (phase_of (s.seat i))) ≡ true → (i : ℕ) → On m i → phase_of (s.seat i) ≡ Running
  all_running s e i k = running_so (phase_of (s.seat i)) (keepers_so (λ i. is_running (phase_of (s.seat i))) e i k)

  pub all_unsettled : (s : Scene) → keepers (λ i. not (is_settled (phase_of (s.seat i)))) ≡ true → (i : ℕ) → On m i → is_settled (phase_of (s.seat i)) ≡ false
  all_unsettled s e i k = not-true (is_settled (phase_of (s.seat i))) (keepers_so (λ i. not (is_settled (phase_of (s.seat i)))) e i k)

  -- ## What was put out

  abbrev past_of : ℕ → Seat → Past
  past_of i dark = beginning (roll i)
  past_of i (lit p cs) = p

  abbrev file_of : ℕ → Seat → List ℕ
  file_of i dark = []
  file_of i (lit p cs) = written (roll i) cs

  is_on : (i : ℕ) (q : Seat) → is_lit q ≡ true → board_of m i q ≡ on (past_of i q) (file_of i q)
  is_on i dark e = absurd (false≢true e)
  is_on i (lit p cs) e = refl

  phase_is : (i : ℕ) (q : Seat) → phase_of q ≡ (past_of i q).kiosk.state.progress.phase
  phase_is i dark = refl
  phase_is i (lit p cs) = refl

  outs_are : (i : ℕ) (q : Seat) → Known m i q → is_lit q ≡ true → acts (sent_in (records (file_of i q))) ≡ outs_of q
  outs_are i dark h e = absurd (false≢true e)
  outs_are i (lit p cs) h e = ap acts (spoken h)

  module _ (s : Scene) (known : (i : ℕ) → Known m i (s.seat i)) (i : ℕ) (l : is_lit (s.seat i) ≡ true) where
    put_out_so : (o : Out) → In o (outs_of (s.seat i)) → PutOut m.powers m.height m.keeps (world_of m s) i o
    put_out_so o a = awake (past_of i (s.seat i)) (file_of i (s.seat i)) (is_on i (s.seat i) l) (rw (outs_are i (s.seat i) (known i) l) a)

    put_out_only : (o : Out) → PutOut m.powers m.height m.keeps (world_of m s) i o → In o (outs_of (s.seat i))
    put_out_only o (awake p d e a) =
        let same : on p d ≡ on (past_of i (s.seat i)) (file_of i (s.seat i)) = sym e ∙ is_on i (s.seat i) l in
        let file : d ≡ file_of i (s.seat i) = cc in
        subst (λ (os : List Out). In o os) (ap (λ (f : List ℕ). acts (sent_in (records f))) file ∙ outs_are i (s.seat i) (known i) l) a
    put_out_only o (asleep d p used e op a) =
        let same : off d ≡ on (past_of i (s.seat i)) (file_of i (s.seat i)) = sym e ∙ is_on i (s.seat i) l in
        absurd (cc)

  module _ (g : Proposal) where
    abbrev turn : ℕ
    turn = turn_of m.powers m.height g

    -- the proposal was delivered to seat i, or it made it
    abbrev offered : List Delivery → ℕ → Bool
    offered ds i = eqb i turn || delivered ds i turn (offer_of g)

    offered_so : (ds : List Delivery) (i : ℕ) → offered ds i ≡ true → i ≢ turn → Delivered m.powers m.height ds i turn (offer_of g)
    offered_so ds i e n = delivered_so ds i turn (offer_of g) (rw (ne_eqb i turn n) at e)

    -- "the proposal, after it all their prevotes": where all are for it
    unfoldable pub two_test : List Delivery → ℕ → Bool
    two_test ds i = offered ds i && keepers (λ j. eqb j i || delivered ds i j (prevote g.round g.name))

    two_so : (ds : List Delivery) (i : ℕ) → two_test ds i ≡ true → TwoWaves m.powers m.height m.keeps g ds i
    unfolding two_test
    two_so ds i e =
        let vote : ℕ → Bool = λ j. eqb j i || delivered ds i j (prevote g.round g.name) in
        record {
          proposal_came = offered_so ds i (and_left (offered ds i) (keepers vote) e);
          prevotes_came = λ j k n.
              let t : vote j ≡ true = keepers_so vote (and_right (offered ds i) (keepers vote) e) j k in
              (g.name, delivered_so ds i j (prevote g.round g.name) (rw (ne_eqb j i n) at t));
        }

    -- all that the rule-keeping kiosks voted in the round was delivered to all of them
    unfoldable pub three_test : Scene → Bool
    three_test s =
        keepers (λ j. is_lit (s.seat j)) &&
        keepers (λ i. offered s.came i) &&
        keepers (λ i. keepers (λ j. eqb j i || each_vote g.round (delivered s.came i j) (outs_of (s.seat j))))

    three_so : (s : Scene) → ((i : ℕ) → Known m i (s.seat i)) → three_test s ≡ true
        → ThreeWaves m.powers m.height m.keeps g (world_of m s) s.came
    unfolding three_test
    three_so s known e =
        let ds = s.came in
        let votes : ℕ → ℕ → Bool = λ i j. each_vote g.round (delivered ds i j) (outs_of (s.seat j)) in
        let a = keepers (λ j. is_lit (s.seat j)) in
        let b = keepers (λ i. offered ds i) in
        let c = keepers (λ i. keepers (λ j. eqb j i || votes i j)) in
        let came : (i j : ℕ) (o : Out) → On m i → On m j → j ≢ i → vote_in g.round o ≡ true → PutOut m.powers m.height m.keeps (world_of m s) j o
        → Delivered m.powers m.height ds i j o =
        λ i j o ki kj n v put.
        let l = keepers_so (λ j. is_lit (s.seat j)) (and_left a b (and_left (a && b) c e)) j kj in
        let t : (eqb j i || votes i j) ≡ true = keepers_so (λ j. eqb j i || votes i j) (keepers_so (λ i. keepers (λ j. eqb j i || votes i j)) (and_right (a && b) c e) i ki) j kj in
        delivered_so ds i j o (each_vote_so g.round (delivered ds i j) (outs_of (s.seat j)) (rw (ne_eqb j i n) at t) o (put_out_only s known j l o put) v) in
        record {
          proposal_came = λ i k n. offered_so ds i (keepers_so (λ i. offered ds i) (and_right a b (and_left (a && b) c e)) i k) n;
          prevotes_came = λ i j name ki kj n put. came i j (prevote g.round name) ki kj n (eq-eqb g.round g.round refl) put;
          precommits_came = λ i j name ki kj n put. came i j (precommit g.round name) ki kj n (eq-eqb g.round g.round refl) put;
        }

    -- ## What may arrive, part by part

    unfoldable pub judged_test : Input → Bool
    judged_test x = not (is_proposal x && eqb x.round.0 g.round) || eqb x.verdict 1

    pub judged_so : (x : Input) → judged_test x ≡ true → JudgedGood m.powers m.height m.keeps g x
    unfolding judged_test
    judged_so x e p r =
        let both : (is_proposal x && eqb x.round.0 g.round) ≡ true = rw (p, eq-eqb x.round.0 g.round r) refl in
        eqb-true x.verdict 1 (implied (is_proposal x && eqb x.round.0 g.round) (eqb x.verdict 1) e both)

    unfoldable pub order_test : List Delivery → ℕ → Input → Bool
    order_test ds i x = not (eqb x.kind 4 && m.keeps x.sender) || two_test ds i

    pub order_so : (ds : List Delivery) (i : ℕ) (x : Input) → order_test ds i x ≡ true → InOrder m.powers m.height m.keeps g ds i x
    unfolding order_test
    order_so ds i x e four rule =
        let both : (eqb x.kind 4 && m.keeps x.sender) ≡ true = rw (eq-eqb x.kind 4 four, rule) refl in
        two_so ds i (implied (eqb x.kind 4 && m.keeps x.sender) (two_test ds i) e both)

    unfoldable pub arrive_test : List Msg → List Delivery → ℕ → Input → Bool
    arrive_test air ds i x = unforged_test air x && not (is_timer x) && leb g.round x.round.0 && judged_test x && order_test ds i x

    pub arrive_so : (air : List Msg) (ds : List Delivery) (i : ℕ) (x : Input) → arrive_test air ds i x ≡ true → MayArrive m.powers m.height m.keeps g air ds i x
    unfolding arrive_test
    arrive_so air ds i x e =
        let t = five_hold (unforged_test air x) (not (is_timer x)) (leb g.round x.round.0) (judged_test x) (order_test ds i x) e in
        (unforged_so air ds i x t.0, not-true (is_timer x) t.1, leb-true g.round x.round.0 t.2, judged_so x t.3, order_so ds i x t.4)

    -- ## The good round

    abbrev stand_at : Scene → ℕ → Desk
    stand_at s i = desk_of (past_of i (s.seat i))

    -- the proposer, and another
    abbrev has_led : Scene → ℕ → Bool
    has_led s i = is_prevote (step (stand_at s i)) && among (offer_of g) (outs_of (s.seat i)) && among (prevote g.round g.name) (outs_of (s.seat i))

    abbrev lock_fits : Scene → ℕ → Bool
    lock_fits s i = leb (past_of i (s.seat i)).kiosk.state.progress.locked.next.0 g.valid || eqb (past_of i (s.seat i)).kiosk.state.progress.locked.name g.name

    abbrev holds_old : Scene → ℕ → Bool
    holds_old s i = eqb g.valid 0 || is_large (stand_at s i) (power_for Prevotes (stand_at s i) (pred g.valid) g.name)

    abbrev stands_so : Scene → ℕ → Bool
    stands_so s i =
        is_lit (s.seat i) && eqb (current (stand_at s i)) g.round && (eqb i turn || is_propose (step (stand_at s i))) && lock_fits s i && holds_old s i

    unfoldable pub good_test : Scene → Bool
    good_test s = (ltb turn n && m.keeps turn && has_led s turn) && keepers (λ i. stands_so s i)

    module _ (s : Scene) (known : (i : ℕ) → Known m i (s.seat i)) (e : good_test s ≡ true) where
      -- the parts of the test
      led : (ltb turn n ≡ true) × (m.keeps turn ≡ true) × (has_led s turn ≡ true)
      unfolding good_test
      led =
          let a = ltb turn n in
          let b = m.keeps turn in
          let t = and_left (a && b && has_led s turn) (keepers (λ i. stands_so s i)) e in
          (and_left a b (and_left (a && b) (has_led s turn) t), and_right a b (and_left (a && b) (has_led s turn) t), and_right (a && b) (has_led s turn) t)

      led_so : (is_prevote (step (stand_at s turn)) ≡ true) × (among (offer_of g) (outs_of (s.seat turn)) ≡ true) × (among (prevote g.round g.name) (outs_of (s.seat turn)) ≡ true)
      led_so =
          let a = is_prevote (step (stand_at s turn)) in
          let b = among (offer_of g) (outs_of (s.seat turn)) in
          let c = among (prevote g.round g.name) (outs_of (s.seat turn)) in
          let t = led.2 in
          (and_left a b (and_left (a && b) c t), and_right a b (and_left (a && b) c t), and_right (a && b) c t)

      seat_so : (i : ℕ) → On m i
          → (is_lit (s.seat i) ≡ true) × (current (stand_at s i) ≡ g.round) × ((eqb i turn || is_propose (step (stand_at s i))) ≡ true) × (lock_fits s i ≡ true) × (holds_old s i ≡ true)
      unfolding good_test
      seat_so i k =
          let a = is_lit (s.seat i) in
          let b = eqb (current (stand_at s i)) g.round in
          let c = eqb i turn || is_propose (step (stand_at s i)) in
          let d = lock_fits s i in
          let f = holds_old s i in
          let t = five_hold a b c d f (keepers_so (λ i. stands_so s i) (and_right (ltb turn n && m.keeps turn && has_led s turn) (keepers (λ i. stands_so s i)) e) i k) in
          (t.0, eqb-true (current (stand_at s i)) g.round t.1, t.2, t.3, t.4)

      turn_on : On m turn
      turn_on = (ltb-true turn n led.0, led.1)

      good_so : (Stands : Phase → Type 0) → ((i : ℕ) → On m i → Stands (phase_of (s.seat i))) → GoodRound Stands m.powers m.height m.keeps (world_of m s) g
      good_so Stands stands = record {
        past = λ i. past_of i (s.seat i);
        recalls = λ i k. with_power (file_of i (s.seat i)) (is_on i (s.seat i) (seat_so i k).0);
        stands = λ i k. subst Stands (phase_is i (s.seat i)) (stands i k);
        one_round = λ i k. (seat_so i k).1;
        turn = turn_on;
        has_proposed = put_out_so s known turn (seat_so turn turn_on).0 (offer_of g) (among_in (offer_of g) (outs_of (s.seat turn)) led_so.1);
        has_prevoted =
            put_out_so s known turn (seat_so turn turn_on).0 (prevote g.round g.name) (among_in (prevote g.round g.name) (outs_of (s.seat turn)) led_so.2);
        at_prevote = prevote_so (step (stand_at s turn)) led_so.0;
        at_propose = λ i k other_seat. propose_so (step (stand_at s i)) (rw (ne_eqb i turn other_seat) at (seat_so i k).2);
        unlocked = λ i k.
            let l = (past_of i (s.seat i)).kiosk.state.progress.locked in
            ⊎_elim (λ t. inl (leb-true l.next.0 g.valid t)) (λ t. inr (eqb-true l.name g.name t)) (or_case (leb l.next.0 g.valid) (eqb l.name g.name) (seat_so i k).3);
        backed = λ i k some. rw (ne_eqb g.valid 0 (λ z. omega arith)) at (seat_so i k).4;
      }

    -- ## A round that has closed

    -- this kiosk has power, has put out that it settled, and is settled in that round, on that proposal
    pub record HasSettled (w : W m) (i : ℕ) : Type 0 where
      pub past : Past
      pub file : List ℕ
      pub powered : w.board i ≡ on past file
      pub put_out : PutOut m.powers m.height m.keeps w i (settled g.round g.name)
      pub phase : past.kiosk.state.progress.phase ≡ Settled (record { 0 = g.round })
      pub sheet : proposed (desk_of past) g.round ≡ g.name

    abbrev settled_test : Seat → Bool
    settled_test dark = false
    settled_test (lit p cs) =
        among (settled g.round g.name) (acts (sent_in cs)) && settled_at g.round p.kiosk.state.progress.phase && eqb (proposed (desk_of p) g.round) g.name

    unfoldable pub closed_test : Scene → Bool
    closed_test s = keepers (λ i. settled_test (s.seat i))

    closed_so : (s : Scene) → ((i : ℕ) → Known m i (s.seat i)) → closed_test s ≡ true → (i : ℕ) → On m i → HasSettled (world_of m s) i
    unfolding closed_test
    closed_so s known e i k = one (s.seat i) refl (keepers_so (λ i. settled_test (s.seat i)) e i k)
      where
        one : (q : Seat) → s.seat i ≡ q → settled_test q ≡ true → HasSettled (world_of m s) i
        one dark f t = absurd (false≢true t)
        one (lit p cs) f t =
            let o = settled g.round g.name in
            let a = among o (acts (sent_in cs)) in
            let b = settled_at g.round p.kiosk.state.progress.phase in
            let c = eqb (proposed (desk_of p) g.round) g.name in
            record {
              past = p;
              file = written (roll i) cs;
              powered = ap (board_of m i) f;
              put_out = put_out_so s known i (ap is_lit f) o (subst (λ (q : Seat). In o (outs_of q)) (sym f) (among_in o (acts (sent_in cs)) (and_left a b (and_left (a && b) c t))));
              phase = settled_so g.round p.kiosk.state.progress.phase (and_right a b (and_left (a && b) c t));
              sheet = eqb-true (proposed (desk_of p) g.round) g.name (and_right (a && b) c t);
            }

-- ## A good round, told by two tables: the market until then, and the play from then on

abbrev pub before_it : Market → List Move → Scene
before_it m opening = run m opening unbegun

abbrev pub after_it : Market → List Move → List Move → Scene
after_it m opening moves = run m moves (afresh (before_it m opening))

module _ (m : Market) (g : Proposal) (opening moves : List Move) (test : List Msg → List Delivery → ℕ → Input → Bool) where
  abbrev before : Scene
  before = before_it m opening

  abbrev end : Scene
  end = after_it m opening moves

  -- all of it is computed
  pub record Tale : Type 0 where
    pub reaches : passes m (λ air ds i x. unforged_test m air x) opening unbegun ≡ true
    pub good : good_test m g before ≡ true
    pub plays : passes m test moves (afresh before) ≡ true
    pub waves : three_test m g end ≡ true

  module _ (t : Tale) where
    market_plays : Plays m (UnforgedNow m) (world_of m unbegun) before
    market_plays =
        moves_so m (UnforgedNow m) (world_of m unbegun) (λ air ds i x. unforged_test m air x) (unforged_so m) (record { known = λ i. tt; play = begin }) opening t.reaches

    pub tale_reached : Reached m.powers m.height m.keeps (world_of m before)
    tale_reached = play_reached m (reach_begin (λ i. refl) refl) market_plays.play

    pub tale_good : (Stands : Phase → Type 0) → ((i : ℕ) → On m i → Stands (phase_of (before.seat i))) → GoodRound Stands m.powers m.height m.keeps (world_of m before) g
    tale_good = good_so m g before market_plays.known t.good

    module _ (May : List Msg → List Delivery → ℕ → Input → Type 0)
        (sound : (air : List Msg) (ds : List Delivery) (i : ℕ) (x : Input) → test air ds i x ≡ true → May air ds i x)
      where
        ends : Plays m May (world_of m before) end
        ends = moves_so m May (world_of m before) test sound (record { known = market_plays.known; play = begin }) moves t.plays

        pub tale_play : Play m.powers m.height m.keeps May (world_of m before) (world_of m end) end.came
        tale_play = ends.play

        pub tale_waves : ThreeWaves m.powers m.height m.keeps g (world_of m end) end.came
        tale_waves = three_so m g end ends.known t.waves

        pub tale_closes : closed_test m g end ≡ true → (i : ℕ) → On m i → HasSettled m g (world_of m end) i
        tale_closes = closed_so m g end ends.known

  -- and where a kiosk is not settled at its end, it refutes this reading
  pub refutes : (Stands : Phase → Type 0) (May : Arriving)
      → ((air : List Msg) (ds : List Delivery) (i : ℕ) (x : Input) → test air ds i x ≡ true → May m.powers m.height m.keeps g air ds i x)
      → Tale → ((i : ℕ) → On m i → Stands (phase_of (before.seat i))) → (i : ℕ) → On m i → unsettled (end.seat i) ≡ true → ClosesWhere Stands May → ⊥
  refutes Stands May sound t stands i k e closes =
      let M = May m.powers m.height m.keeps g in
      let c = closes m.powers m.height m.keeps m.terms.fits m.terms.tall m.terms.few (world_of m before) (tale_reached t) g (tale_good t Stands stands) (world_of m end) end.came
      (tale_play t M sound) (tale_waves t M sound) in
      open_still c (end.seat i) refl e
    where
      open_still : Closed m.powers m.height m.keeps g (world_of m end) → (q : Seat) → end.seat i ≡ q → unsettled q ≡ true → ⊥
      open_still c dark s u = false≢true u
      open_still c (lit p cs) s u =
          false≢true (sym (not-true (is_settled p.kiosk.state.progress.phase) u) ∙ ap is_settled (c.holds i k p (with_power (written (roll_at m.powers m.height i) cs) (ap (board_of m i) s))).0)

-- To compute a tale: `unfolding the_tales` opens all that it takes.
unfoldable pub the_tales : Unit {0}
unfolding the_stories same among next_scene run can passes aired brought each_vote unforged_test carries two_test three_test judged_test order_test arrive_test good_test closed_test
the_tales = tt

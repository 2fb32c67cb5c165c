-- Each rule that fires in a good round keeps the kiosk in it, or takes it on: from propose to prevote with the proposal's prevote, from
-- there to precommit with its precommit, from there to settled. Assumes nothing.
use Rattle.std.specs.Prelude.{is_some}
use Rattle.std.specs.Bool.{if◌then◌else◌}
use Prim.Native.Nat.{ℕ, zero, suc, pred, ◌≤◌, ◌<◌}
use mathlib.Core.Path.{◌≡◌, refl, sym, ap, subst, ◌∙◌}
use mathlib.Core.Logic.{◌⊎◌, inl, inr, ⊎_elim}
use mathlib.Core.List.{List, [], ◌∷◌, ◌++◌}
use mathlib.Core.Bool.{Bool, true, false, ◌&&◌, ◌||◌, not, true≢false, false≢true}
use native.Mathlib.Omega.{arith}
use lib.Dec.{eqb, ltb, leb}
use borrow.Author.Tests.{eqb-true, eqb-false, eq-eqb, le-leb, ltb-true, ltb-false, not-true}
use Rattle.words.specs.Marks.{marked}
use Rattle.words.proofs.Choice.{by_test, by_cases, and_left, and_right, and_false, or_case, or_so, first_passes, lowest_passes, highest_none}
use Rattle.words.proofs.Members.{InLeft, InRight, InLast, first_in}
use Rattle.roll.specs.declared.Roll.{Roll}
use Rattle.roll.specs.Weighing.{proposer}
use Rattle.rules.specs.declared.Votes.{Votes}
use Rattle.rules.specs.declared.Votes.TheVariants.{Prevotes, Precommits}
use Rattle.rules.specs.declared.Step.TheVariants.{Prevote, Precommit}
use Rattle.rules.specs.declared.Phase.TheVariants.{Running}
use Rattle.rules.specs.declared.Output.{Output}
use Rattle.rules.specs.State.{is_running, is_propose, is_prevote, marks_of, spoken, good, held, with_locked}
use Rattle.rules.specs.Log as log
use Rattle.rules.specs.Log.{Desk, with_state, heard, proposed, good_sheets, message, hear_vote, power_for, message_power}
use Rattle.rules.specs.Doing.{current, step, own, step_of, output, send, at_step, vote, ask}
use Rattle.rules.specs.Rules.{is_large, has_some, applies_22, applies_28, applies_36, applies_44, applies_49, applies_55}
use Rattle.rules.specs.Rules.{backed_sheet, closing_sheet, closing_round, calls, past_calling_round, first_rule, vote_22, vote_28, fire_36, fire_49, fire, fire_found}
use Rattle.rules.specs.Work.{fire_all}
use Rattle.rules.proofs.ByRule.{Runs, by_rule}
use Rattle.rules.proofs.Deeds.{sole, holding}
use Rattle.rules.proofs.Hearing.{vote_marked, vote_heard}
use Rattle.agreement.specs.Weigh.{Seats}
use Rattle.agreement.specs.Moves.{Out, settled, proposal, other}
use Rattle.agreement.specs.Moves.{prevote as prevotes, precommit as precommits}
use Rattle.agreement.specs.Honest.{Kind, pv, pc, said}
use Rattle.market.specs.Seat.{act, acts, step_number}
use Rattle.market.proofs.Votes.{kind_of, large_for, vote_there}
use Rattle.market.proofs.Steps.{step_most, at_propose, past_propose, at_prevote, past_prevote}
use Rattle.market.proofs.Good.{acts_more}
use Rattle.closing.specs.Closing.{Proposal}
use Rattle.closing.proofs.Situation.{Ground, Holds, Tells, Stands, Acts}
use Rattle.closing.proofs.Weights.{not_some, not_large}
use Rattle.closing.proofs.Later.{Later, later_same, later_then, vote_later}
use Rattle.closing.proofs.Holding.{holds_same, vote_holds}

-- ## Outputs

-- a vote is one of its round and name alone, and no proposal
one_vote : (k l : Kind) (q r name w : ℕ) → said k q name ≡ said l r w → (q ≡ r) × (name ≡ w)
one_vote pv pv q r name w e = (cc, cc)
one_vote pc pc q r name w e = (cc, cc)
one_vote pv pc q r name w e = absurd (cc)
one_vote pc pv q r name w e = absurd (cc)

vote_proposal : (k : Kind) (q name : ℕ) (l : List ℕ) → proposal l ≡ said k q name → ⊥
vote_proposal pv q name l e = cc
vote_proposal pc q name l e = cc

-- of the votes up to a step, each is the last or of an earlier step
up_to : (v w : Votes) (n : ℕ) → step_number (step_of v) ≤ suc n → step_number (step_of w) ≤ step_number (step_of v) → (step_number (step_of w) ≤ n) ⊎ (v ≡ w)
up_to Prevotes Prevotes n l m = inr refl
up_to Prevotes Precommits n l m = absurd (omega (arith, m))
up_to Precommits Prevotes n l m = inl (omega (arith, l))
up_to Precommits Precommits n l m = inr refl

-- whether an output is a vote or a proposal
abbrev speaks : Out → Bool
speaks (prevotes r w) = true
speaks (precommits r w) = true
speaks (settled r w) = false
speaks (proposal l) = true
speaks other = false

vote_speaks : (k : Kind) (q name : ℕ) → speaks (said k q name) ≡ true
vote_speaks pv q name = refl
vote_speaks pc q name = refl

module _ (roll : Roll) (keeps : Seats) (g : Proposal) where
  abbrev Telling : ℕ → List Out → Type 0
  Telling = Tells roll keeps g

  -- one output more, at this step or the next
  tells_more : (n m : ℕ) (os : List Out) (o : Out) → Telling n os →
      ((v : Votes) → step_number (step_of v) ≤ m → (step_number (step_of v) ≤ n) ⊎ (said (kind_of v) g.round g.name ≡ o)) →
      ((k : Kind) (q name : ℕ) → said k q name ≡ o → (q ≡ g.round) × (name ≡ g.name)) →
      ((l : List ℕ) → proposal l ≡ o → ⊥) →
      Telling m (os ++ (o ∷ []))
  tells_more n m os o t own vote none = record {
    said_votes = λ v l. ⊎_elim (λ h. InLeft _ os (o ∷ []) (t.said_votes v h)) (λ e. InRight _ os (o ∷ []) (inl e)) (own v l);
    votes = λ k q name h. ⊎_elim (λ i. t.votes k q name i) (λ e. inr (vote k q name e)) (InLast (said k q name) o os (o ∷ []) refl h);
    proposals = λ q valid name h.
        ⊎_elim (λ i. t.proposals q valid name i) (λ e. absurd (none (q ∷ valid ∷ name ∷ []) e)) (InLast (proposal (q ∷ valid ∷ name ∷ [])) o os (o ∷ []) refl h);
  }

  -- the proposal's vote of the next step, and what speaks not
  tells_vote : (v : Votes) (n : ℕ) (os : List Out) → step_number (step_of v) ≤ suc n → Telling n os → Telling (step_number (step_of v)) (os ++ (said (kind_of v) g.round g.name ∷ []))
  tells_vote v n os from t =
      tells_more n (step_number (step_of v)) os (said (kind_of v) g.round g.name) t
      (λ w l. ⊎_elim (λ h. inl h) (λ e. inr (ap (λ (x : Votes). said (kind_of x) g.round g.name) (sym e))) (up_to v w n from l))
      (λ k q name e. one_vote k (kind_of v) q g.round name g.name e) (vote_proposal (kind_of v) g.round g.name)

  tells_mute : (n : ℕ) (os : List Out) (o : Out) → speaks o ≡ false → Telling n os → Telling n (os ++ (o ∷ []))
  tells_mute n os o m t =
      tells_more n n os o t (λ v l. inl l)
      (λ k q name e. absurd (true≢false (sym (vote_speaks k q name) ∙ ap speaks e ∙ m))) (λ l e. true≢false (ap speaks e ∙ m))

-- ## Rules

module _ (roll : Roll) (keeps : Seats) (g : Proposal) (b : Ground roll keeps g) (before : List Out) where
  abbrev Next : Desk → Desk → Type 0
  Next d u = Acts roll keeps g before u × Later g.round d u

  module _ (d : Desk) (a : Acts roll keeps g before d) where
    s : Stands roll keeps g d
    s = a.stands

    h : Holds roll keeps g d
    h = s.holds

    own_is : own d ≡ roll.own
    own_is = ap (λ (x : Roll). x.own) h.roll_is

    own_low : roll.own < 32
    own_low = omega (arith, b.few_kiosks, b.own_seat)

    runs_so : Runs d → d.state.progress.phase ≡ Running
    runs_so run = ⊎_elim (λ e. e) (λ e. absurd (false≢true (sym (ap is_running e.0) ∙ run))) s.going

    -- the own votes up to the next step are heard once its own is
    own_next : (v : Votes) (u : Desk) → Later g.round d u → step_number (step_of v) ≤ suc (step_number (step d)) →
        marked (marks_of v (heard u g.round)) roll.own ≡ true →
        (w : Votes) → step_number (step_of w) ≤ step_number (step_of v) → marked (marks_of w (heard u g.round)) roll.own ≡ true
    own_next v u t from new w l =
        ⊎_elim (λ z. t.votes w roll.own (s.own_votes w z)) (λ e. subst (λ (x : Votes). marked (marks_of x (heard u g.round)) roll.own ≡ true) e new)
        (up_to v w (step_number (step d)) from l)

    -- ### 22 and 28: the proposal's prevote

    voted : Desk
    voted = at_step Prevote (send (output 2 g.round 0 g.name) (hear_vote Prevotes d g.round roll.own g.name))

    voted_is : (name : ℕ) → name ≡ g.name → vote Prevotes name d ≡ voted
    unfolding vote message voted
    voted_is name e = rw (s.round, own_is, e)

    voted_next : Runs d → step_number (step d) ≡ 0 → spoken (heard d g.round) ≡ true → Next d voted
    unfolding voted hear_vote
    voted_next run at said =
        let u = hear_vote Prevotes d g.round roll.own g.name in
        let t = vote_later Prevotes d g.round roll.own g.name g.round (omega arith) own_low in
        let k = vote_holds roll keeps g b.few_kiosks b.low d h g.round (omega arith) b.there Prevotes roll.own g.name b.own_seat (λ z. (refl, refl)) in
        let others : (j : ℕ) → j < roll.kiosks → marked (heard u g.round).precommits j ≡ true → marked (heard d g.round).precommits j ≡ true
        = λ j m z. ⊎_elim (λ y. absurd (cc)) (λ y. y.0) (vote_heard Prevotes d g.round roll.own g.name own_low (vote_there Prevotes d g.round roll.own own_low b.there h.places) Precommits g.round j (omega (arith, b.few_kiosks, m)) z) in (
          record {
            stands = record {
              holds = holds_same roll keeps g u voted refl refl refl refl k;
              round = s.round;
              going = inl (runs_so run);
              lock = s.lock;
              early = λ l j m z. s.early (omega (arith, at)) j m (others j m z);
              unbacked = λ l. s.unbacked (omega (arith, at));
              spoke = λ l. t.spoke said;
              own_votes = own_next Prevotes u t (omega (arith, at)) (vote_marked Prevotes d g.round roll.own g.name h.sized b.there);
            };
            tells = rw (acts_more before d.sent (output 2 g.round 0 g.name ∷ []))
                (tells_vote roll keeps g Prevotes (step_number (step d)) (before ++ acts d.sent) (omega (arith, at)) a.tells);
          },
          later_then g.round d u voted t (later_same g.round u voted refl refl refl refl (omega (arith, at))),
        )

    -- the round's proposal, where there is one
    here : spoken (heard d (current d)) ≡ true →
        (spoken (heard d g.round) ≡ true) × (good (heard d (current d)) ≡ true) × ((heard d (current d)).valid ≡ g.valid) × (proposed d (current d) ≡ g.name)
    here e =
        let e' : spoken (heard d g.round) ≡ true = rw s.round at e in
        let x = h.sheet e' in
        (e', rw (s.round, x.0), rw (s.round, x.1), rw (s.round, x.2))

    -- it is prevoted where the lock allows it
    votes_it : (free : Bool) → free ≡ true → Runs d → is_propose (step d) ≡ true → spoken (heard d (current d)) ≡ true →
        Next d (vote Prevotes (if good (heard d (current d)) && free then proposed d (current d) else 0) d)
    votes_it free e run at said =
        let x = here said in
        let both : (good (heard d (current d)) && free) ≡ true = rw (x.1, e) in
        let is : (if good (heard d (current d)) && free then proposed d (current d) else 0) ≡ g.name = rw both x.3 in
        subst (λ (u : Desk). Next d u) (sym (voted_is _ is)) (voted_next run (at_propose (step d) at) x.0)

    next_22 : Runs d → applies_22 d ≡ true → Next d (vote Prevotes (vote_22 d) d)
    unfolding applies_22 vote_22
    next_22 run t =
        let c = heard d (current d) in
        let p = is_propose (step d) in
        let ps = and_left (p && spoken c) (eqb c.valid 0) t in
        let said = and_right p (spoken c) ps in
        let x = here said in
        let none = eqb-true c.valid 0 (and_right (p && spoken c) (eqb c.valid 0) t) in
        let l = d.state.progress.locked in
        let free = or_so (eqb l.next.0 0) (eqb l.name (proposed d (current d)))
        (⊎_elim (λ k. inl (eq-eqb l.next.0 0 (omega (arith, k, x.2, none)))) (λ k. inr (eq-eqb l.name (proposed d (current d)) (k ∙ sym x.3))) s.lock) in
        votes_it (eqb l.next.0 0 || eqb l.name (proposed d (current d))) free run (and_left p (spoken c) ps) said

    next_28 : Runs d → applies_28 d ≡ true → Next d (vote Prevotes (vote_28 d) d)
    unfolding applies_28 vote_28
    next_28 run t =
        let r = current d in
        let c = heard d r in
        let p = is_propose (step d) in
        let big = is_large d (power_for Prevotes d (pred c.valid) (proposed d r)) in
        let t4 = and_left (p && spoken c && leb 1 c.valid && leb c.valid r) big t in
        let t3 = and_left (p && spoken c && leb 1 c.valid) (leb c.valid r) t4 in
        let ps = and_left (p && spoken c) (leb 1 c.valid) t3 in
        let said = and_right p (spoken c) ps in
        let x = here said in
        let l = d.state.progress.locked in
        let free = or_so (leb l.next.0 c.valid) (eqb l.name (proposed d r))
        (⊎_elim (λ k. inl (le-leb l.next.0 c.valid (omega (arith, k, x.2)))) (λ k. inr (eq-eqb l.name (proposed d r) (k ∙ sym x.3))) s.lock) in
        votes_it (leb l.next.0 c.valid || eqb l.name (proposed d r)) free run (and_left p (spoken c) ps) said

    -- ### 34 and 47: a timer is asked for

    -- the same round, step, phase, lock, rule 36's mark and log, and an output that speaks not
    asked_next : (u : Desk) (o : Output) → u.rounds ≡ d.rounds → u.state.roll ≡ d.state.roll → u.state.log ≡ d.state.log → u.table ≡ d.table →
        current u ≡ current d → step u ≡ step d → u.state.progress.phase ≡ d.state.progress.phase → u.state.progress.locked ≡ d.state.progress.locked →
        u.state.progress.stand.backed ≡ d.state.progress.stand.backed → u.sent ≡ d.sent ++ (o ∷ []) → speaks (act o) ≡ false → Next d u
    asked_next u o en er el et ec es ep ek eb eo m = (
      record {
        stands = record {
          holds = holds_same roll keeps g d u en er el et h;
          round = ec ∙ s.round;
          going = rw (ep, es) s.going;
          lock = rw ek s.lock;
          early = rw (es, el) s.early;
          unbacked = rw (es, eb) s.unbacked;
          spoke = rw (es, el) s.spoke;
          own_votes = λ v. rw (es, el) (s.own_votes v);
        };
        tells = rw (eo, es, acts_more before d.sent (o ∷ [])) (tells_mute roll keeps g (step_number (step d)) (before ++ acts d.sent) (act o) m a.tells);
      },
      later_same g.round d u en er el et (rw es (omega arith)),
    )

    next_34 : Next d (ask Prevote d)
    unfolding ask
    next_34 = asked_next (ask Prevote d) (output 5 (current d) 0 0) refl refl refl refl refl refl refl refl refl refl refl

    next_47 : Next d (ask Precommit d)
    unfolding ask
    next_47 = asked_next (ask Precommit d) (output 6 (current d) 0 0) refl refl refl refl refl refl refl refl refl refl refl

    -- ### 36: the proposal's precommit

    backed_is : applies_36 d ≡ true → (is_propose (step d) ≡ false) × (backed_sheet d ≡ g.name)
    unfolding applies_36 backed_sheet
    backed_is t =
        let p = is_propose (step d) in
        let m = d.state.progress.stand.backed in
        let f = backed_sheet d in
        let at = not-true p (and_left (not p) (not m) (and_left (not p && not m) (not (eqb f 0)) t)) in
        let some = eqb-false f 0 (not-true (eqb f 0) (and_right (not p && not m) (not (eqb f 0)) t)) in
        let sheet = first_in (good_sheets d (current d)) (λ name. is_large d (power_for Prevotes d (current d) name)) some in
        (at, sole d (current d) f sheet ∙ (here (rw s.round (s.spoke (past_propose (step d) at)))).3)

    -- the kiosk with the sheet locked and held as valid, before it precommits
    marked_36 : Desk
    marked_36 = with_state (with_locked (held (current d) g.name) (holding g.name d)) d

    locked_36 : Desk
    locked_36 = at_step Precommit (send (output 3 g.round 0 g.name) (hear_vote Precommits marked_36 g.round roll.own g.name))

    locked_is : vote Precommits g.name marked_36 ≡ locked_36
    unfolding vote message locked_36 marked_36
    locked_is = rw (s.round, own_is)

    locked_next : Runs d → step_number (step d) ≡ 1 → Next d locked_36
    unfolding locked_36 marked_36 hear_vote
    locked_next run at =
        let c = marked_36 in
        let hc = holds_same roll keeps g d c refl refl refl refl h in
        let u = hear_vote Precommits c g.round roll.own g.name in
        let t = later_then g.round d c u (later_same g.round d c refl refl refl refl (omega arith))
        (vote_later Precommits c g.round roll.own g.name g.round (omega arith) own_low) in
        let k = vote_holds roll keeps g b.few_kiosks b.low c hc g.round (omega arith) b.there Precommits roll.own g.name b.own_seat (λ z. (refl, refl)) in (
          record {
            stands = record {
              holds = holds_same roll keeps g u locked_36 refl refl refl refl k;
              round = s.round;
              going = inl (runs_so run);
              lock = inr refl;
              early = λ l. absurd (omega (arith, l));
              unbacked = λ l. absurd (omega (arith, l));
              spoke = λ l. t.spoke (s.spoke (omega (arith, at)));
              own_votes = own_next Precommits u t (omega (arith, at)) (vote_marked Precommits c g.round roll.own g.name hc.sized b.there);
            };
            tells = rw (acts_more before d.sent (output 3 g.round 0 g.name ∷ []))
                (tells_vote roll keeps g Precommits (step_number (step d)) (before ++ acts d.sent) (omega (arith, at)) a.tells);
          },
          later_then g.round d u locked_36 t (later_same g.round u locked_36 refl refl refl refl (omega (arith, at))),
        )

    -- at the precommit step rule 36 only holds the sheet as valid
    held_next : (name : ℕ) → step_number (step d) ≡ 2 → Next d (with_state (holding name d) d)
    held_next name at =
        let u = with_state (holding name d) d in (
          record {
            stands = record {
              holds = holds_same roll keeps g d u refl refl refl refl h;
              round = s.round;
              going = s.going;
              lock = s.lock;
              early = s.early;
              unbacked = λ l. absurd (omega (arith, l, at));
              spoke = s.spoke;
              own_votes = s.own_votes;
            };
            tells = a.tells;
          },
          later_same g.round d u refl refl refl refl (omega arith),
        )

    next_36 : Runs d → applies_36 d ≡ true → Next d (fire_36 (backed_sheet d) d)
    unfolding fire_36 marked_36
    next_36 run t =
        let x = backed_is t in
        rw x.1
        (by_test (λ (u : Desk). Next d u) (is_prevote (step d))
        (λ e. subst (λ (u : Desk). Next d u) (sym locked_is) (locked_next run (at_prevote (step d) e)))
        (λ e. held_next g.name (past_prevote (step d) x.0 e)))

    -- votes for a name that only rule-breakers sent are not large
    light : (v : Votes) (q name : ℕ) → ((j : ℕ) → j < roll.kiosks → marked (marks_of v (heard d q)) j ≡ true → log.voted v d q j ≡ name → keeps j ≡ false) →
        is_large d (power_for v d q name) ≡ true → ⊥
    light v q name breaks big =
        let small = not_large roll keeps b.few (λ i. marked (marks_of v (heard d q)) i && eqb (log.voted v d q i) name) (λ j seat z.
        let m = marked (marks_of v (heard d q)) j in
        let n = eqb (log.voted v d q j) name in
        breaks j seat (and_left m n z) (eqb-true (log.voted v d q j) name (and_right m n z))) in
        true≢false (sym big ∙ large_for v d q name h.roll_is ∙ small)

    -- ### 44: nil prevotes are never large, for none is a rule-keeping kiosk's

    no_44 : applies_44 d ≡ true → ⊥
    unfolding applies_44
    no_44 t =
        light Prevotes g.round 0 (λ j seat m e. by_cases (keeps j) (λ kj. absurd (b.some (sym (h.votes Prevotes j seat kj m) ∙ e))) (λ kj. kj))
        (subst (λ (r : ℕ). is_large d (power_for Prevotes d r 0) ≡ true) s.round (and_right (is_prevote (step d)) (is_large d (power_for Prevotes d (current d) 0)) t))

    -- ### 49: what settles does so in this round, once the kiosk has precommitted

    -- precommits that only rule-breakers sent close nothing
    weak : (q : ℕ) → ((j : ℕ) → j < roll.kiosks → marked (heard d q).precommits j ≡ true → keeps j ≡ false) → (closing_sheet d q ≡ 0 → ⊥) → ⊥
    unfolding closing_sheet
    weak q breaks some =
        light Precommits q (closing_sheet d q) (λ j seat m e. breaks j seat m) (first_passes (good_sheets d q) (λ name. is_large d (power_for Precommits d q name)) some)

    in_round : (q : ℕ) → (closing_sheet d q ≡ 0 → ⊥) → q ≡ g.round
    in_round q some =
        by_cases (ltb q g.round)
        (λ e. absurd (some (h.closed_below q (ltb-true q g.round e))))
        (λ e. by_cases (ltb g.round q)
        (λ f. absurd (weak q (λ j. h.ahead_votes Precommits q j (ltb-true g.round q f)) some))
        (λ f. omega (arith, ltb-false q g.round e, ltb-false g.round q f)))

    late_enough : (closing_sheet d g.round ≡ 0 → ⊥) → step_number (step d) ≡ 2
    late_enough some =
        by_cases (ltb (step_number (step d)) 2)
        (λ e. absurd (weak g.round (s.early (ltb-true (step_number (step d)) 2 e)) some))
        (λ e. omega (arith, ltb-false (step_number (step d)) 2 e, step_most (step d)))

    settled_next : (name : ℕ) → step_number (step d) ≡ 2 → Next d (fire_49 g.round name d)
    unfolding fire_49
    settled_next name at =
        let u = fire_49 g.round name d in (
          record {
            stands = record {
              holds = holds_same roll keeps g d u refl refl refl refl h;
              round = s.round;
              going = inr (refl, at);
              lock = s.lock;
              early = s.early;
              unbacked = s.unbacked;
              spoke = s.spoke;
              own_votes = s.own_votes;
            };
            tells = rw (acts_more before d.sent (output 7 g.round 0 name ∷ []))
                (tells_mute roll keeps g (step_number (step d)) (before ++ acts d.sent) (settled g.round name) refl a.tells);
          },
          later_same g.round d u refl refl refl refl (omega arith),
        )

    next_49 : applies_49 d ≡ true → Next d (fire_49 (closing_round d) (closing_sheet d (closing_round d)) d)
    unfolding applies_49 closing_round
    next_49 t =
        let r = closing_round d in
        let passes = lowest_passes d.rounds (λ q. not (eqb (closing_sheet d q) 0)) (ltb-true r d.rounds t) in
        let some = eqb-false (closing_sheet d r) 0 (not-true (eqb (closing_sheet d r) 0) passes) in
        let e = in_round r some in
        subst (λ (q : ℕ). Next d (fire_49 q (closing_sheet d r) d)) (sym e) (settled_next (closing_sheet d r) (late_enough (λ z. some (ap (closing_sheet d) e ∙ z))))

    -- ### 55: of later rounds only rule-breakers spoke, and they are not some

    no_55 : applies_55 d ≡ false
    unfolding applies_55 past_calling_round calls message_power
    no_55 =
        let off : past_calling_round d ≡ 0 = highest_none d.rounds (λ q. calls d q) (λ q l.
        and_false (ltb (current d) q) (has_some d (message_power d q)) (λ t.
        let more : g.round < q = rw s.round at (ltb-true (current d) q t) in
        let c = heard d q in
        let small = not_some roll keeps b.few (λ i. (spoken c && eqb (proposer roll q) i) || marked c.prevotes i || marked c.precommits i) (λ j k z.
        let p = spoken c in
        let turn = eqb (proposer roll q) j in
        ⊎_elim
        (λ y. ⊎_elim
        (λ w. rw (eqb-true (proposer roll q) j (and_right p turn w)) at (h.ahead_proposals q more (and_left p turn w)))
        (λ w. h.ahead_votes Prevotes q j more k w)
        (or_case (p && turn) (marked c.prevotes j) y))
        (λ y. h.ahead_votes Precommits q j more k y)
        (or_case ((p && turn) || marked c.prevotes j) (marked c.precommits j) z)) in
        rw h.roll_is small)) in
        rw off

    -- ### One rule

    still : Next d d
    still = (a, later_same g.round d d refl refl refl refl (omega arith))

    rule_next : (offer : ℕ) → Next d (fire_found (first_rule d) offer d)
    unfolding fire
    rule_next offer =
        by_rule (λ found. Next d (fire_found found offer d)) d
        (λ e. still)
        (λ run q x y. still)
        (λ run t. next_22 run t)
        (λ run t. next_28 run t)
        (λ run t. next_34)
        (λ run t. next_36 run t)
        (λ run t. absurd (no_44 t))
        (λ run t. next_47)
        (λ run q t. next_49 t)
        (λ run q n t. absurd (true≢false (sym t ∙ no_55)))

  -- and all the rules of a call
  pub fired_next : (n offer : ℕ) (d : Desk) → Acts roll keeps g before d → Acts roll keeps g before (fire_all n offer d) × Later g.round d (fire_all n offer d)
  unfolding fire_all
  fired_next zero offer d a = still d a
  fired_next (suc n) offer d a =
      let one = rule_next d a offer in
      let u = fire_found (first_rule d) offer d in
      by_test (Next d) (is_some (first_rule d))
      (λ e. let rest = fired_next n offer u one.0 in (rest.0, later_then g.round d u (fire_all n offer u) one.1 rest.1))
      (λ e. still d a)

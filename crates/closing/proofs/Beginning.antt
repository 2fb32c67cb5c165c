-- In a good round each rule-keeping kiosk stands as `Waits` says: by its history, by what the others put out, and since no rule applies.
-- Assumes nothing.
use Rattle.std.specs.Prelude.{None}
use Prim.Native.Nat.{ℕ, ◌+◌, ◌*◌, ◌≤◌, ◌<◌}
use mathlib.Core.Path.{◌≡◌, sym, ap, subst, ◌∙◌}
use mathlib.Core.Logic.{◌⊎◌, inl, inr, ⊎_elim}
use mathlib.Core.List.{List, [], ◌∷◌}
use mathlib.Core.Bool.{true, false, not, true≢false}
use native.Mathlib.Omega.{arith}
use native.Mathlib.Decide.{ℕ_discrete}
use native.Mathlib.Nat.{mod-lt}
use lib.Dec.{eqb}
use lib.ListN.{length}
use borrow.Author.Tests.{eqb-true, le-leb, ltb-false}
use Rattle.words.specs.Marks.{marked}
use Rattle.words.specs.Members.{In}
use Rattle.words.proofs.Choice.{by_cases, lowest_least}
use Rattle.roll.specs.declared.Roll.{Roll}
use Rattle.roll.specs.Weighing.{proposer}
use Rattle.roll.proofs.Weighing.{fits_count}
use Rattle.rules.specs.declared.Votes.{Votes}
use Rattle.rules.specs.declared.Votes.TheVariants.{Prevotes, Precommits}
use Rattle.rules.specs.declared.Phase.TheVariants.{Running}
use Rattle.rules.specs.declared.Step.TheVariants.{Propose}
use Rattle.rules.specs.State.{most_rounds, marks_of, is_running, spoken}
use Rattle.rules.specs.Log.{Desk, heard, proposed, voted, power_for}
use Rattle.rules.specs.Doing.{current, step, step_of}
use Rattle.rules.specs.Rules.{applies_22, applies_28, applies_49, closing_sheet, closing_round, first_rule}
use Rattle.rules.proofs.ByRule.{Idle, none_applies}
use Rattle.history.specs.Histories.{Call, Past, History, sent_in}
use Rattle.history.proofs.Unheard.{no_rule}
use Rattle.agreement.specs.Weigh.{Seats}
use Rattle.agreement.specs.Moves.{Out, prevote, precommit, proposal}
use Rattle.agreement.specs.Honest.{Kind, pv, pc, said, From}
use Rattle.agreement.specs.System.{Sound}
use Rattle.agreement.proofs.System.{on_so, opened_so}
use Rattle.market.specs.Seat.{acts, step_number}
use Rattle.market.specs.Demand3.{roll_at, World, Reached, PutOut}
use Rattle.market.proofs.Votes.{kind_of}
use Rattle.market.proofs.Good.{Good}
use Rattle.market.proofs.Honest.{at, arrivals, history_good}
use Rattle.market.proofs.Each.{Terms, law, sound, recalls, recalled_out, out_recalled}
use Rattle.closing.specs.Waves.{Keeps}
use Rattle.closing.specs.Closing.{Proposal, offer_of, turn_of, Recalls, with_power, without_power, GoodRound}
use Rattle.closing.proofs.Situation.{Ground, Holds, Tells, Stands, Waits}
use Rattle.closing.proofs.Owning.{Owns, owns, sheet_fits}

-- where 49 does not apply, no round has a sheet to settle
none_closing : (d : Desk) → applies_49 d ≡ false → (q : ℕ) → q < d.rounds → closing_sheet d q ≡ 0
unfolding applies_49 closing_round
none_closing d off q l =
    by_cases (eqb (closing_sheet d q) 0)
    (λ e. eqb-true (closing_sheet d q) 0 e)
    (λ e. absurd (omega (arith, ltb-false (closing_round d) d.rounds off, lowest_least d.rounds (λ r. not (eqb (closing_sheet d r) 0)) q l (rw e), l)))

-- what a kiosk has is what its history left
pub recalls_so : {powers : List ℕ} {height : ℕ} {keeps : Seats} (m : Terms powers height keeps) {w : World powers height keeps} (i : ℕ) (hi : i < length powers)
    (q : Sound (law m i hi) keeps (w.board i) w.air) {p : Past} → Recalls powers height keeps w i p → p ≡ (law m i hi).memory q.history
recalls_so m i hi q (with_power d e) = (on_so (law m i hi) q.holds e).0
recalls_so m i hi q (without_power d n e op) = (opened_so (law m i hi) q.holds e op).0

module _ {powers : List ℕ} {height : ℕ} {keeps : Seats} (m : Terms powers height keeps) {w : World powers height keeps} (reach : Reached powers height keeps w) {g : Proposal}
    (s : GoodRound (λ p. p ≡ Running) powers height keeps w g) where
  abbrev turn : ℕ
  turn = turn_of powers height g

  abbrev roll : ℕ → Roll
  roll i = roll_at powers height i

  abbrev Is : ℕ → Type 0
  Is i = Keeps powers keeps i

  -- seat j put this out
  abbrev Said : ℕ → Out → Type 0
  Said j o = PutOut powers height keeps w j o

  abbrev d : ℕ → Desk
  d i = at (s.past i)

  -- ## One kiosk by its history

  module _ (i : ℕ) (ki : Is i) where
    abbrev pub q : Sound (law m i ki.0) keeps (w.board i) w.air
    q = sound m w reach i ki.0 ki.1

    -- it has the memory of that history
    past_is : s.past i ≡ (law m i ki.0).memory q.history
    past_is = recalls_so m i ki.0 q (s.recalls i ki)

    abbrev said_so : (cs : List Call) × History (roll i) cs ((law m i ki.0).memory q.history) ×
        ((law m i ki.0).outs q.history ≡ acts (sent_in cs)) ×
        ((j : ℕ) (o : Out) → arrivals cs j o → (law m i ki.0).arrived q.history j o)
    said_so = recalls m i ki.0 q.history

    abbrev pub calls : List Call
    calls = said_so.0

    abbrev pub outs : List Out
    outs = acts (sent_in calls)

    told : History (roll i) calls (s.past i)
    told = subst (λ (p : Past). History (roll i) calls p) (sym past_is) said_so.1

    out_of : (o : Out) → Said i o → In o outs
    out_of o p = rw said_so.2 at (out_recalled m i ki.0 w o q p)

    put_of : (o : Out) → In o outs → Said i o
    put_of o a = recalled_out m i ki.0 w o q (rw said_so.2 a)

    good : Good (roll i) (arrivals calls) outs (d i)
    good = history_good told

    own : Owns (roll i) (arrivals calls) outs (d i)
    own = owns told

    run : is_running (d i).state.progress.phase ≡ true
    run = rw (s.stands i ki)

    calm : first_rule (d i) ≡ None
    calm = no_rule told (rw (s.stands i ki))

    idle : Idle (d i) × (applies_49 (d i) ≡ false)
    idle = let n = none_applies (d i) run calm in (n.0, n.1)

    -- the step, as a number
    first_step : (i ≡ turn → ⊥) → step_number (step (d i)) ≡ 0
    first_step n = ap step_number (s.at_propose i ki n)

    low_step : step_number (step (d i)) ≤ 1
    low_step = go (ℕ_discrete i turn)
      where
        go : Dec (i ≡ turn) → step_number (step (d i)) ≤ 1
        go (yes e) = let z : step_number (step (d i)) ≡ 1 = rw e (ap step_number s.at_prevote) in omega (arith, z)
        go (no n) = omega (arith, first_step n)

  -- what came from a rule-keeping kiosk, it put out
  came : (i : ℕ) (ki : Is i) (j : ℕ) (kj : Is j) (o : Out) → arrivals (calls i ki) j o → Said j o
  came i ki j kj o a = recalled_out m j kj.0 w o (q j kj) ((q j kj).sent o ((q i ki).took j o ((said_so i ki).3 j o a) kj.0 kj.1))

  -- ## What each put out: no vote ahead, and of this round the proposer's prevote alone

  one_prevote : (u : ℕ) → Said turn (prevote g.round u) → u ≡ g.name
  one_prevote u a =
      (good turn s.turn).kept.one_prevote g.round u g.name (out_of turn s.turn _ a) (out_of turn s.turn _ s.has_prevoted)

  module _ (j : ℕ) (kj : Is j) where
    old_precommit : (r u : ℕ) → Said j (precommit r u) → r < g.round
    old_precommit r u a = omega (arith, (good j kj).kept.precommit_past r u (out_of j kj _ a), s.one_round j kj, low_step j kj)

    prevote_so : (r u : ℕ) → Said j (prevote r u) → (r < g.round) ⊎ ((r ≡ g.round) × (u ≡ g.name))
    prevote_so r u a = go (ℕ_discrete j turn) (ℕ_discrete r g.round)
      where
        there : 3 * r + 1 ≤ 3 * current (d j) + step_number (step (d j))
        there = (good j kj).kept.prevote_past r u (out_of j kj _ a)

        go : Dec (j ≡ turn) → Dec (r ≡ g.round) → (r < g.round) ⊎ ((r ≡ g.round) × (u ≡ g.name))
        go (no n) z = inl (omega (arith, there, s.one_round j kj, first_step j kj n))
        go (yes e) (no z) = inl (omega (arith, there, s.one_round j kj, low_step j kj, z))
        go (yes e) (yes z) = inr (z, one_prevote u (subst (λ (m : ℕ). Said m (prevote g.round u)) e (subst (λ (m : ℕ). Said j (prevote m u)) z a)))

    vote_so : (k : Kind) (r u : ℕ) → Said j (said k r u) → (r < g.round) ⊎ ((r ≡ g.round) × (u ≡ g.name))
    vote_so pv r u a = prevote_so r u a
    vote_so pc r u a = inl (old_precommit r u a)

  -- ## What each holds

  module _ (i : ℕ) (ki : Is i) where
    -- a vote of a rule-keeping kiosk it put out
    held_vote : (v : Votes) (r j : ℕ) → Is j → marked (marks_of v (heard (d i) r)) j ≡ true → Said j (said (kind_of v) r (voted v (d i) r j))
    held_vote v r j kj t = go ((good i ki).logs.votes v r j kj.0 t)
      where
        go : From i (arrivals (calls i ki)) (outs i ki) (kind_of v) r (voted v (d i) r j) j → Said j (said (kind_of v) r (voted v (d i) r j))
        go (inl h) = subst (λ (m : ℕ). Said m (said (kind_of v) r (voted v (d i) r j))) (sym h.0) (put_of i ki _ h.1)
        go (inr a) = came i ki j kj _ a

    -- and a proposal, its proposer
    held_proposal : (r : ℕ) → Is (proposer (roll i) r) → spoken (heard (d i) r) ≡ true → Said (proposer (roll i) r) (proposal (r ∷ (heard (d i) r).valid ∷ proposed (d i) r ∷ []))
    held_proposal r kr t =
        ⊎_elim
        (λ h. subst (λ (m : ℕ). Said m (proposal (r ∷ (heard (d i) r).valid ∷ proposed (d i) r ∷ []))) (sym h.1) (put_of i ki _ h.2))
        (λ h. came i ki (proposer (roll i) r) kr _ h.1)
        ((own i ki).sheets r t)

  -- ## The round's proposal

  offered : ((heard (d turn) g.round).proposal ≡ 2) × ((heard (d turn) g.round).valid ≡ g.valid) × (proposed (d turn) g.round ≡ g.name)
  offered =
      let o = (own turn s.turn).offers g.round g.valid g.name (out_of turn s.turn (offer_of g) s.has_proposed) in
      (o.2, o.3, o.4)

  one_offer : (valid name : ℕ) → Said turn (proposal (g.round ∷ valid ∷ name ∷ [])) → (valid ≡ g.valid) × (name ≡ g.name)
  one_offer valid name a =
      let o = (own turn s.turn).offers g.round valid name (out_of turn s.turn _ a) in
      (sym o.3 ∙ offered.1, sym o.4 ∙ offered.2)

  spoken_there : spoken (heard (d turn) g.round) ≡ true
  spoken_there = rw offered.0

  there : g.round < most_rounds
  there = omega (arith, (good turn s.turn).logs.round, s.one_round turn s.turn)

  low : g.valid ≤ g.round
  low = omega (arith, (sheet_fits (told turn s.turn) g.round there spoken_there).1, offered.1)

  some : g.name ≡ 0 → ⊥
  some e = (sheet_fits (told turn s.turn) g.round there spoken_there).0 (offered.2 ∙ e)

  pub ground : (i : ℕ) → Is i → Ground (roll i) keeps g
  ground i ki = record {
    few_kiosks = (fits_count (roll_at powers height 0) m.fits).1;
    own_seat = ki.0;
    own_keeps = ki.1;
    turn_keeps = s.turn.1;
    there = there;
    low = low;
    some = some;
    few = m.few;
  }

  module _ (i : ℕ) (ki : Is i) where
    seat_there : (r : ℕ) → proposer (roll i) r < length powers
    seat_there r = mod-lt (height + r) {m = length powers} (omega (arith, ki.0))

    -- where the round's proposal is held, it is the one
    the_one : spoken (heard (d i) g.round) ≡ true → ((heard (d i) g.round).valid ≡ g.valid) × (proposed (d i) g.round ≡ g.name)
    the_one t = one_offer (heard (d i) g.round).valid (proposed (d i) g.round) (held_proposal i ki g.round s.turn t)

    at_22 : step (d i) ≡ Propose → spoken (heard (d i) g.round) ≡ true → g.valid ≡ 0 → applies_22 (d i) ≡ true
    unfolding applies_22
    at_22 e t z = rw (s.one_round i ki, e, t, (the_one t).0, z)

    at_28 : step (d i) ≡ Propose → spoken (heard (d i) g.round) ≡ true → 1 ≤ g.valid → applies_28 (d i) ≡ true
    unfolding applies_28 power_for
    at_28 e t z =
        let x = the_one t in
        rw (s.one_round i ki, e, t, x.0, x.1, le-leb 1 g.valid z, le-leb g.valid g.round low) (s.backed i ki z)

    -- a kiosk at the propose step does not hold it yet
    unheard : (i ≡ turn → ⊥) → spoken (heard (d i) g.round) ≡ true → ⊥
    unheard n t = go (ℕ_discrete g.valid 0)
      where
        go : Dec (g.valid ≡ 0) → ⊥
        go (yes z) = true≢false (sym (at_22 (s.at_propose i ki n) t z) ∙ (idle i ki).0.no_22)
        go (no z) = true≢false (sym (at_28 (s.at_propose i ki n) t (omega (arith, z))) ∙ (idle i ki).0.no_28)

    -- no precommit of the round, no vote and no proposal of a later one, is a rule-keeping kiosk's
    early : (j : ℕ) → j < length powers → marked (heard (d i) g.round).precommits j ≡ true → keeps j ≡ false
    early j hj t = by_cases (keeps j) (λ kj. absurd (omega (arith, old_precommit j (hj, kj) g.round _ (held_vote i ki Precommits g.round j (hj, kj) t)))) (λ kj. kj)

    ahead_vote : (v : Votes) (r j : ℕ) → g.round < r → j < length powers → marked (marks_of v (heard (d i) r)) j ≡ true → keeps j ≡ false
    ahead_vote v r j h hj t =
        by_cases (keeps j)
        (λ kj. absurd (⊎_elim (λ z. omega (arith, z, h)) (λ z. omega (arith, z.0, h)) (vote_so j (hj, kj) (kind_of v) r _ (held_vote i ki v r j (hj, kj) t))))
        (λ kj. kj)

    ahead_proposal : (r : ℕ) → g.round < r → spoken (heard (d i) r) ≡ true → keeps (proposer (roll i) r) ≡ false
    ahead_proposal r h t =
        by_cases (keeps (proposer (roll i) r))
        (λ kr.
        let j = proposer (roll i) r in
        let k : Is j = (seat_there r, kr) in
        let z = (own j k).offers r (heard (d i) r).valid (proposed (d i) r) (out_of j k _ (held_proposal i ki r k t)) in
        absurd (omega (arith, z.0, s.one_round j k, h)))
        (λ kr. kr)

    this_vote : (v : Votes) (j : ℕ) → j < length powers → keeps j ≡ true → marked (marks_of v (heard (d i) g.round)) j ≡ true → voted v (d i) g.round j ≡ g.name
    this_vote v j hj kj t = ⊎_elim (λ z. absurd (omega (arith, z))) (λ z. z.1) (vote_so j (hj, kj) (kind_of v) g.round _ (held_vote i ki v g.round j (hj, kj) t))

    this_sheet : Dec (i ≡ turn) → spoken (heard (d i) g.round) ≡ true →
        ((heard (d i) g.round).proposal ≡ 2) × ((heard (d i) g.round).valid ≡ g.valid) × (proposed (d i) g.round ≡ g.name)
    this_sheet (no n) t = absurd (unheard n t)
    this_sheet (yes e) t = rw e offered

    holds : Holds (roll i) keeps g (d i)
    holds =
        let l = (good i ki).logs in
        record {
          roll_is = l.roll_is;
          rounds_are = l.rounds_are;
          places = l.places;
          sized = (own i ki).sized;
          closed_below = λ r h. none_closing (d i) (idle i ki).1 r (omega (arith, l.rounds_are, there, h));
          old = s.backed i ki;
          ahead_proposals = ahead_proposal;
          ahead_votes = ahead_vote;
          sheet = this_sheet (ℕ_discrete i turn);
          votes = this_vote;
        }

    is_turn : 1 ≤ step_number (step (d i)) → i ≡ turn
    is_turn h = go (ℕ_discrete i turn)
      where
        go : Dec (i ≡ turn) → i ≡ turn
        go (yes e) = e
        go (no n) = absurd (omega (arith, h, first_step i ki n))

    -- its own votes: none is a precommit
    own_voted : (v : Votes) → step_number (step_of v) ≤ step_number (step (d i)) → marked (marks_of v (heard (d i) g.round)) i ≡ true
    own_voted Prevotes h = subst (λ (r : ℕ). marked (heard (d i) r).prevotes i ≡ true) (s.one_round i ki) ((own i ki).own_prevote h)
    own_voted Precommits h = absurd (omega (arith, h, low_step i ki))

    own_said : (v : Votes) → step_number (step_of v) ≤ step_number (step (d i)) → In (said (kind_of v) g.round g.name) (outs i ki)
    own_said Prevotes h = out_of i ki _ (subst (λ (m : ℕ). Said m (prevote g.round g.name)) (sym (is_turn h)) s.has_prevoted)
    own_said Precommits h = absurd (omega (arith, h, low_step i ki))

    stands : Stands (roll i) keeps g (d i)
    stands = record {
      holds = holds;
      round = s.one_round i ki;
      going = inl (s.stands i ki);
      lock = ⊎_elim (λ l. inl (omega (arith, l))) (λ e. inr e) (s.unlocked i ki);
      early = λ h. early;
      unbacked = (own i ki).unbacked;
      spoke = λ h. rw (is_turn h) spoken_there;
      own_votes = own_voted;
    }

    proposal_so : (r valid name : ℕ) → In (proposal (r ∷ valid ∷ name ∷ [])) (outs i ki) → (r < g.round) ⊎ ((r ≡ g.round) × (valid ≡ g.valid) × (name ≡ g.name))
    proposal_so r valid name a = go (ℕ_discrete r g.round)
      where
        go : Dec (r ≡ g.round) → (r < g.round) ⊎ ((r ≡ g.round) × (valid ≡ g.valid) × (name ≡ g.name))
        go (no n) = inl (omega (arith, n, ((own i ki).offers r valid name a).0, s.one_round i ki))
        go (yes e) =
            let o = (own i ki).offers g.round valid name (rw e at a) in
            let x = the_one (rw o.2) in
            inr (e, sym o.3 ∙ x.0, sym o.4 ∙ x.1)

    tells : Tells (roll i) keeps g (step_number (step (d i))) (outs i ki)
    tells = record {
      said_votes = own_said;
      votes = λ k r u a. vote_so i ki k r u (put_of i ki _ a);
      proposals = proposal_so;
    }

    pub waits : Waits (roll i) keeps g ((law m i ki.0).outs (q i ki).history) ((law m i ki.0).memory (q i ki).history)
    waits = rw ((said_so i ki).2, ← (past_is i ki)) (record { stands = stands; tells = tells; rest = calm i ki })

    -- and the proposer holds its own proposal
    pub own_offer : i ≡ turn → spoken (heard (at ((law m i ki.0).memory (q i ki).history)) g.round) ≡ true
    own_offer e = rw (← (past_is i ki)) (subst (λ (j : ℕ). spoken (heard (d j) g.round) ≡ true) (sym e) spoken_there)

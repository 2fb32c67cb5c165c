-- What the log of a rule-keeping kiosk holds through a good round (`Holds`), each message leaves so. Assumes nothing.
use Rattle.std.specs.Bool.{if◌then◌else◌}
use Prim.Native.Nat.{ℕ, pred, ◌≤◌, ◌<◌}
use mathlib.Core.Path.{◌≡◌, sym, ap, ◌∙◌}
use mathlib.Core.Logic.{⊎_elim}
use mathlib.Core.Bool.{Bool, true, false}
use native.Mathlib.Omega.{arith}
use native.Mathlib.Decide.{ℕ_discrete}
use Rattle.words.proofs.Choice.{by_cases}
use Rattle.roll.specs.declared.Roll.{Roll}
use Rattle.roll.specs.Weighing.{proposer}
use Rattle.rules.specs.declared.Votes.{Votes}
use Rattle.rules.specs.declared.Votes.TheVariants.{Prevotes, Precommits}
use Rattle.rules.specs.State.{most_rounds, spoken}
use Rattle.rules.specs.Log.{Desk, heard, proposed, hear_proposal, hear_vote, power_for}
use Rattle.rules.specs.Rules.{is_large, closing_sheet}
use Rattle.rules.proofs.Hearing.{vote_heard, vote_sheets, proposal_votes, proposal_other, proposal_same}
use Rattle.agreement.specs.Weigh.{Seats}
use Rattle.market.proofs.Votes.{log_same, vote_there, beside_vote, beside_proposal}
use Rattle.closing.specs.Closing.{Proposal}
use Rattle.closing.proofs.Situation.{Holds}
use Rattle.closing.proofs.Later.{Later, vote_later, proposal_later}
use Rattle.closing.proofs.Weights.{votes_same, closing_same}

module _ (roll : Roll) (keeps : Seats) (g : Proposal) where
  -- the same log and table
  pub holds_same : (d u : Desk) → u.rounds ≡ d.rounds → u.state.roll ≡ d.state.roll → u.state.log ≡ d.state.log → u.table ≡ d.table → Holds roll keeps g d → Holds roll keeps g u
  holds_same d u en er el et h = record {
    roll_is = er ∙ h.roll_is;
    rounds_are = en ∙ h.rounds_are;
    places = rw et h.places;
    sized = rw el h.sized;
    closed_below = λ q l. closing_same d u q er (rw el) (rw et) (λ j k. rw et) ∙ h.closed_below q l;
    old = λ l. rw (votes_same d u (pred g.valid) er (rw el) Prevotes g.name (λ j k. rw et), er) (h.old l);
    ahead_proposals = λ q l. rw el (h.ahead_proposals q l);
    ahead_votes = λ v q j l m. rw (log_same d u el et v q j).0 (h.ahead_votes v q j l m);
    sheet = rw (el, et) h.sheet;
    votes = λ v j m. let e = log_same d u el et v g.round j in rw (e.0, e.1) (h.votes v j m);
  }

  module _ (few : roll.kiosks ≤ 32) (low : g.valid ≤ g.round) where
    -- what is said of earlier rounds stays so
    below_kept : (d u : Desk) → Holds roll keeps g d → Later g.round d u →
        ((q : ℕ) → q < g.round → closing_sheet u q ≡ 0) × (1 ≤ g.valid → is_large u (power_for Prevotes u (pred g.valid) g.name) ≡ true)
    below_kept d u h l =
        let seat : (j : ℕ) → j < d.state.roll.kiosks → j < 32 = λ j k. let k' : j < roll.kiosks = rw h.roll_is at k in omega (arith, few, k') in (
          λ q m. closing_same d u q l.roll (l.below q m) (l.below_sheet q m) (λ j k. l.below_votes Precommits q j m (seat j k)) ∙ h.closed_below q m,
          λ m. let p : pred g.valid < g.round = omega (arith, m, low) in
              rw (votes_same d u (pred g.valid) l.roll (l.below (pred g.valid) p) Prevotes g.name (λ j k. l.below_votes Prevotes (pred g.valid) j p (seat j k)), l.roll) (h.old m),
        )

    module _ (d : Desk) (h : Holds roll keeps g d) (q : ℕ) (from : g.round ≤ q) (there : q < most_rounds) where
      -- a vote of this round or a later one; a rule-keeping kiosk's is of this round and for the proposal
      module _ (v : Votes) (i name : ℕ) (seat : i < roll.kiosks) (fair : keeps i ≡ true → (q ≡ g.round) × (name ≡ g.name)) where
        hi : i < 32
        hi = omega (arith, few, seat)

        not_ahead : (p : ℕ) → g.round < p → p ≡ q → keeps i ≡ false
        not_ahead p l e = by_cases (keeps i) (λ k. absurd (omega (arith, (fair k).0))) (λ k. k)

        pub vote_holds : Holds roll keeps g (hear_vote v d q i name)
        vote_holds =
            let u = hear_vote v d q i name in
            let t = vote_later v d q i name g.round from hi in
            let b = below_kept d u h t in
            let e = beside_vote v d q i name in
            let new = vote_heard v d q i name hi (vote_there v d q i hi there h.places) in
            let sheets = vote_sheets v d q i name hi in
            record {
              roll_is = t.roll ∙ h.roll_is;
              rounds_are = t.rounds ∙ h.rounds_are;
              places = e.length_same ∙ h.places;
              sized = e.sized_same h.sized;
              closed_below = b.0;
              old = b.1;
              ahead_proposals = λ p l s. h.ahead_proposals p l (rw (sheets p).0 at s);
              ahead_votes = λ m p j l seat s. ⊎_elim (λ y. rw y.2 (not_ahead p l y.1)) (λ y. h.ahead_votes m p j l seat y.0) (new m p j (omega (arith, few, seat)) s);
              sheet = λ s. let z = sheets g.round in rw (z.0, z.1, z.2) (h.sheet (rw z.0 at s));
              votes = λ m j seat kj s.
                  ⊎_elim (λ y. y.3 ∙ (fair (rw y.2 at kj)).1) (λ y. y.1 ∙ h.votes m j seat kj y.0) (new m g.round j (omega (arith, few, seat)) s);
            }

      -- a proposal: of this round the one, of a later one a rule-breaker's
      module _ (good : Bool) (valid name : ℕ)
          (same : q ≡ g.round → (good ≡ true) × (valid ≡ g.valid) × (name ≡ g.name))
          (breaks : g.round < q → keeps (proposer roll q) ≡ false) where
        pub proposal_holds : Holds roll keeps g (hear_proposal d q good valid name)
        proposal_holds =
            let u = hear_proposal d q good valid name in
            let t = proposal_later d q good valid name g.round from in
            let b = below_kept d u h t in
            let e = beside_proposal d q good valid name in
            let v = proposal_votes d q good valid name in
            record {
              roll_is = t.roll ∙ h.roll_is;
              rounds_are = t.rounds ∙ h.rounds_are;
              places = e.length_same ∙ h.places;
              sized = e.sized_same h.sized;
              closed_below = b.0;
              old = b.1;
              ahead_proposals = λ p l s. later_sheet p l s (ℕ_discrete p q);
              ahead_votes = λ k p j l m s. h.ahead_votes k p j l m (rw (v k p j (omega (arith, few, m))).0 at s);
              sheet = λ s. this_sheet s (ℕ_discrete g.round q);
              votes = λ k j m kj s. let z = v k g.round j (omega (arith, few, m)) in z.1 ∙ h.votes k j m kj (rw z.0 at s);
            }
          where
            later_sheet : (p : ℕ) → g.round < p → spoken (heard (hear_proposal d q good valid name) p) ≡ true → Dec (p ≡ q) → keeps (proposer roll p) ≡ false
            later_sheet p l s (yes e) = rw e (breaks (rw e at l))
            later_sheet p l s (no n) = h.ahead_proposals p l (rw (proposal_other d q good valid name p n).0 at s)

            this_sheet : spoken (heard (hear_proposal d q good valid name) g.round) ≡ true → Dec (g.round ≡ q) →
                let u = hear_proposal d q good valid name in
                ((heard u g.round).proposal ≡ 2) × ((heard u g.round).valid ≡ g.valid) × (proposed u g.round ≡ g.name)
            this_sheet s (yes e) =
                let x = same (sym e) in
                let y = proposal_same d q good valid name h.sized there (omega (arith, there, h.places)) in (
                  ap (λ (p : ℕ). (heard (hear_proposal d q good valid name) p).proposal) e ∙ y.0 ∙ ap (λ (b : Bool). if b then 2 else 1) x.0,
                  ap (λ (p : ℕ). (heard (hear_proposal d q good valid name) p).valid) e ∙ y.1 ∙ x.1,
                  ap (λ (p : ℕ). proposed (hear_proposal d q good valid name) p) e ∙ y.2 ∙ x.2,
                )
            this_sheet s (no n) = let o = proposal_other d q good valid name g.round n in rw (o.0, o.1) (h.sheet (rw o.0 at s))

-- A kiosk of a good round at rest, with no rule that applies, has come as far as what it holds can take it. So progress need not be
-- traced: each call ends at rest. Assumes nothing.
use Rattle.std.specs.Prelude.{None}
use Prim.Native.Nat.{ℕ, ◌≤◌, ◌<◌}
use mathlib.Core.Path.{◌≡◌, refl, sym, ◌∙◌}
use mathlib.Core.Bool.{true, false, ◌&&◌, not, true≢false}
use native.Mathlib.Omega.{arith}
use native.Mathlib.Decide.{ℕ_discrete}
use lib.Dec.{eqb}
use borrow.Author.Tests.{eq-eqb, ne_eqb, le-leb, lt-ltb}
use Rattle.words.specs.Choice.{first_of}
use Rattle.words.specs.Marks.{marked}
use Rattle.words.proofs.Choice.{lowest_least}
use Rattle.roll.specs.declared.Roll.{Roll}
use Rattle.rules.specs.declared.Votes.{Votes}
use Rattle.rules.specs.declared.Votes.TheVariants.{Prevotes, Precommits}
use Rattle.rules.specs.declared.Phase.TheVariants.{Running}
use Rattle.rules.specs.State.{marks_of, spoken, good}
use Rattle.rules.specs.Log.{Desk, heard, proposed, voted, good_sheets, power_for}
use Rattle.rules.specs.Doing.{step}
use Rattle.rules.specs.Rules.{is_large, applies_22, applies_28, applies_36, applies_49, applies_55, backed_sheet, closing_sheet, closing_round, first_rule}
use Rattle.rules.proofs.ByRule.{Idle, none_applies}
use Rattle.agreement.specs.Weigh.{Seats}
use Rattle.market.specs.Seat.{step_number}
use Rattle.market.proofs.Votes.{large_for}
use Rattle.market.proofs.Steps.{step_most, propose_at, prevote_at}
use Rattle.closing.specs.Closing.{Proposal}
use Rattle.closing.proofs.Situation.{Ground, Holds, Stands}
use Rattle.closing.proofs.Weights.{holding_large, sole_found}

module _ (roll : Roll) (keeps : Seats) (g : Proposal) (b : Ground roll keeps g) (d : Desk) (s : Stands roll keeps g d) (rest : first_rule d ≡ None)
    (running : d.state.progress.phase ≡ Running) where
  h : Holds roll keeps g d
  h = s.holds

  idle : Idle d × (applies_49 d ≡ false) × (applies_55 d ≡ false)
  idle = none_applies d (rw running) rest

  -- ## Rules 22 and 28

  now_22 : step_number (step d) ≡ 0 → spoken (heard d g.round) ≡ true → g.valid ≡ 0 → applies_22 d ≡ true
  unfolding applies_22
  now_22 e sp z = rw (s.round, propose_at (step d) e, sp, (h.sheet sp).1, z)

  now_28 : step_number (step d) ≡ 0 → spoken (heard d g.round) ≡ true → 1 ≤ g.valid → applies_28 d ≡ true
  unfolding applies_28 power_for
  now_28 e sp z =
      let x = h.sheet sp in
      rw (s.round, propose_at (step d) e, sp, x.1, x.2, le-leb 1 g.valid z, le-leb g.valid g.round b.low) (h.old z)

  -- a kiosk at rest that holds the proposal has prevoted
  pub past_proposal : spoken (heard d g.round) ≡ true → 1 ≤ step_number (step d)
  past_proposal sp = go (ℕ_discrete (step_number (step d)) 0) (ℕ_discrete g.valid 0)
    where
      go : Dec (step_number (step d) ≡ 0) → Dec (g.valid ≡ 0) → 1 ≤ step_number (step d)
      go (no n) z = omega (arith, n)
      go (yes e) (yes z) = absurd (true≢false (sym (now_22 e sp z) ∙ idle.0.no_22))
      go (yes e) (no z) = absurd (true≢false (sym (now_28 e sp (omega (arith, z))) ∙ idle.0.no_28))

  -- ## Rules 36 and 49

  -- every rule-keeping kiosk's vote of the round is held
  abbrev AllIn : Votes → Type 0
  AllIn v = (j : ℕ) → j < roll.kiosks → keeps j ≡ true → marked (marks_of v (heard d g.round)) j ≡ true

  -- what both look for is the proposal then
  found : (v : Votes) → 1 ≤ step_number (step d) → AllIn v → first_of (good_sheets d g.round) (λ name. is_large d (power_for v d g.round name)) ≡ g.name
  unfolding good_sheets
  found v l all =
      let x = h.sheet (s.spoke l) in
      let r = g.round in
      let big = holding_large roll keeps b.few (λ i. marked (marks_of v (heard d r)) i && eqb (voted v d r i) (proposed d r))
      (λ j m kj. rw (all j m kj, h.votes v j m kj (all j m kj), x.2, eq-eqb g.name g.name refl)) in
      sole_found (good (heard d r)) (proposed d r) (λ name. is_large d (power_for v d r name)) (rw x.0) (large_for v d r (proposed d r) h.roll_is ∙ big) ∙ x.2

  now_36 : step_number (step d) ≡ 1 → AllIn Prevotes → applies_36 d ≡ true
  unfolding applies_36 backed_sheet good_sheets power_for
  now_36 e all = rw (s.round, prevote_at (step d) e, s.unbacked (omega (arith, e)), found Prevotes (omega (arith, e)) all, ne_eqb g.name 0 b.some)

  -- one that holds all rule-keeping kiosks' prevotes has precommitted
  pub past_prevotes : 1 ≤ step_number (step d) → ((j : ℕ) → j < roll.kiosks → keeps j ≡ true → marked (heard d g.round).prevotes j ≡ true) → step_number (step d) ≡ 2
  past_prevotes l all = go (ℕ_discrete (step_number (step d)) 1)
    where
      go : Dec (step_number (step d) ≡ 1) → step_number (step d) ≡ 2
      go (no n) = omega (arith, n, l, step_most (step d))
      go (yes e) = absurd (true≢false (sym (now_36 e all) ∙ idle.0.no_36))

  now_49 : 1 ≤ step_number (step d) → AllIn Precommits → closing_sheet d g.round ≡ g.name
  unfolding closing_sheet
  now_49 l all = found Precommits l all

  -- and one that holds all their precommits does not run on
  pub past_precommits : 1 ≤ step_number (step d) → ((j : ℕ) → j < roll.kiosks → keeps j ≡ true → marked (heard d g.round).precommits j ≡ true) → ⊥
  unfolding applies_49 closing_round
  past_precommits l all =
      let t : not (eqb (closing_sheet d g.round) 0) ≡ true = rw (now_49 l all, ne_eqb g.name 0 b.some) in
      let m = lowest_least d.rounds (λ r. not (eqb (closing_sheet d r) 0)) g.round (rw h.rounds_are b.there) t in
      let now : applies_49 d ≡ true = lt-ltb (closing_round d) d.rounds (omega (arith, m, h.rounds_are, b.there)) in
      true≢false (sym now ∙ idle.1)

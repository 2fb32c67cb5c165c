-- What each rule does to a desk: one that stays in its round pays for its output with room, and a round entered has room for five.
-- Assumes nothing.
use Rattle.std.specs.Prelude.{is_some}
use Prim.Native.Nat.{ℕ, suc, ◌+◌, ◌≤◌, ◌<◌, pred}
use mathlib.Core.Path.{◌≡◌, refl, sym, ◌∙◌}
use mathlib.Core.Bool.{true, ◌&&◌, not, false≢true}
use native.Mathlib.Omega.{arith}
use lib.ListN.{length}
use lib.Dec.{eqb}
use borrow.Author.Tests.{ltb-true, leb-true}
use Rattle.words.proofs.Choice.{by_test, and_left, and_right, highest_passes}
use Rattle.roll.specs.Weighing.{proposer}
use Rattle.rules.specs.declared.Step.TheVariants.{Propose, Prevote, Precommit}
use Rattle.rules.specs.declared.Votes.{Votes}
use Rattle.rules.specs.declared.Votes.TheVariants.{Prevotes, Precommits}
use Rattle.rules.specs.State.{is_running, is_propose, is_prevote, held, entered, with_stand, with_locked, with_valid, with_backed}
use Rattle.rules.specs.Log.{Desk, with_state, message, hear_proposal, hear_vote}
use Rattle.rules.specs.Doing.{current, step, own, step_of, sheet_to_propose, propose, vote, ask, start_round}
use Rattle.rules.specs.Rules.{applies_22, applies_28, applies_34, applies_36, applies_44, applies_47, vote_22, vote_28, fire_36, fire_49}
use Rattle.rules.specs.Rules.{applies_55, calls, past_calling_round, backed_sheet, closing_sheet, closing_round, first_rule, fire, fire_found}
use Rattle.rules.proofs.ByRule.{Runs, Idle, by_rule}
use Rattle.rules.specs.InContracts.Room.{room, steps_left, unless, run_left}
use Rattle.rules.proofs.Room.{propose_left, prevote_left, unless_not, running_left}
use Rattle.rules.proofs.Sends.{one_more}
use Rattle.rules.proofs.Ahead.{Ahead}
use Rattle.rules.proofs.Telling.{same_above}
use Rattle.rules.proofs.Hearing.{vote_is}

-- from d to u within the round: the rounds ahead are as they were, an output is paid for with room, and room or rule 36's mark falls
pub record Within (d u : Desk) : Type 0 where
  pub ahead : Ahead (current d) d u
  pub pays : length u.sent + room u ≤ length d.sent + room d
  pub falls : room u + unless u.state.progress.stand.backed < room d + unless d.state.progress.stand.backed

-- the rounds ahead are as they were where the log is
same : {d u : Desk} →
    u.rounds ≡ d.rounds → u.state.roll ≡ d.state.roll → current u ≡ current d → u.state.log ≡ d.state.log → Ahead (current d) d u
same a b c e = record { rounds = a; roll = b; round = c; above = λ q h. rw e }

-- a vote, at the step before it
pub within_vote : (v : Votes) (name : ℕ) (d : Desk) → steps_left (step d) ≡ suc (steps_left (step_of v)) → Within d (vote v name d)
unfolding hear_vote
within_vote v name d left =
    rw (vote_is v name d)
    (record {
      ahead = record { rounds = refl; roll = refl; round = refl; above = λ q h. same_above d.state.log (current d) _ h };
      pays = rw one_more (omega arith);
      falls = omega arith;
    })

pub within_prevote : (name : ℕ) (d : Desk) → is_propose (step d) ≡ true → Within d (vote Prevotes name d)
within_prevote name d e = within_vote Prevotes name d (propose_left (step d) e)

pub within_precommit : (name : ℕ) (d : Desk) → is_prevote (step d) ≡ true → Within d (vote Precommits name d)
within_precommit name d e = within_vote Precommits name d (prevote_left (step d) e)

-- the rules, each where it applies
pub within_22 : (d : Desk) → applies_22 d ≡ true → Within d (vote Prevotes (vote_22 d) d)
unfolding applies_22
within_22 d e = within_prevote _ d (and_left _ _ (and_left _ _ e))

pub within_28 : (d : Desk) → applies_28 d ≡ true → Within d (vote Prevotes (vote_28 d) d)
unfolding applies_28
within_28 d e = within_prevote _ d (and_left _ _ (and_left _ _ (and_left _ _ (and_left _ _ e))))

pub within_34 : (d : Desk) → applies_34 d ≡ true → Within d (ask Prevote d)
unfolding applies_34 ask
within_34 d e =
    let a = is_prevote (step d) in
    let b = not d.state.progress.stand.asked.prevote in
    let left = unless_not d.state.progress.stand.asked.prevote (and_right a b (and_left (a && b) _ e)) in
    record { ahead = same refl refl refl refl; pays = rw one_more (omega arith); falls = omega arith }

pub within_36 : (name : ℕ) (d : Desk) → applies_36 d ≡ true → Within d (fire_36 name d)
unfolding applies_36 fire_36
within_36 name d e =
    let a = not (is_propose (step d)) in
    let b = not d.state.progress.stand.backed in
    let left = unless_not d.state.progress.stand.backed (and_right a b (and_left (a && b) _ e)) in
    let sheet = held (current d) name in
    let s = with_valid sheet (with_stand (with_backed d.state.progress.stand) d.state) in
    by_test (Within d) (is_prevote (step d))
    (λ p.
    let w = within_precommit name (with_state (with_locked sheet s) d) p in
    record {
      ahead = record { rounds = w.ahead.rounds; roll = w.ahead.roll; round = w.ahead.round; above = w.ahead.above };
      pays = w.pays;
      falls = omega (arith, w.falls);
    })
    (λ p. record { ahead = same refl refl refl refl; pays = omega arith; falls = omega arith })

pub within_44 : (d : Desk) → applies_44 d ≡ true → Within d (vote Precommits 0 d)
unfolding applies_44
within_44 d e = within_precommit 0 d (and_left _ _ e)

pub within_47 : (d : Desk) → applies_47 d ≡ true → Within d (ask Precommit d)
unfolding applies_47 ask
within_47 d e =
    let left = unless_not d.state.progress.stand.asked.precommit (and_left _ _ e) in
    record { ahead = same refl refl refl refl; pays = rw one_more (omega arith); falls = omega arith }

pub within_49 : (r name : ℕ) (d : Desk) → is_running d.state.progress.phase ≡ true → Within d (fire_49 r name d)
unfolding fire_49
within_49 r name d e =
    let left = running_left d.state.progress.phase e in
    record { ahead = same refl refl refl refl; pays = rw one_more (omega arith); falls = omega arith }

-- from d to u into round r: the rounds above r are as they were, one output is sent, and all of the round is still to do
pub record Enters (r : ℕ) (d u : Desk) : Type 0 where
  pub ahead : Ahead r d u
  pub sent : length u.sent ≡ length d.sent + 1
  pub full : room u ≡ 4 + run_left d.state.progress.phase
  pub unbacked : unless u.state.progress.stand.backed ≡ 1

-- so does a round begin, whether the kiosk proposes or asks for the timer
pub enters : (offer r : ℕ) (d : Desk) → Enters r d (start_round offer r d)
unfolding start_round propose ask message hear_proposal
enters offer r d =
    let e = with_state (with_stand (entered r) d.state) d in
    let sheet = sheet_to_propose offer d in
    by_test (Enters r d) (eqb (proposer d.state.roll r) (own d) && not (eqb sheet 0)) {x = propose d.state.progress.valid.next.0 sheet e} {y = ask Propose e}
    (λ t. record {
      ahead = record { rounds = refl; roll = refl; round = refl; above = λ q h. same_above d.state.log r _ h };
      sent = rw one_more;
      full = omega arith;
      unbacked = refl;
    })
    (λ t. record {
      ahead = record { rounds = refl; roll = refl; round = refl; above = λ q h. refl };
      sent = rw one_more;
      full = omega arith;
      unbacked = refl;
    })

-- a statement about a firing is proved for the six rules that stay in the round, for settling, and for rule 55, which enters the
-- highest round that calls
pub by_firing : (P : Desk → Type 0) (offer : ℕ) (d : Desk) →
    (Runs d → (Idle d → ⊥) → (u : Desk) → Within d u → P u) →
    (Runs d → (r name : ℕ) → P (fire_49 r name d)) →
    (Runs d →
    current d < pred (past_calling_round d) →
    pred (past_calling_round d) < d.rounds →
    (u : Desk) → Enters (pred (past_calling_round d)) d u → P u) →
    is_some (first_rule d) ≡ true → P (fire_found (first_rule d) offer d)
unfolding fire applies_55 past_calling_round calls
by_firing P offer d stays settles goes =
    by_rule (λ found. is_some found ≡ true → P (fire_found found offer d)) d
    (λ stopped t. absurd (false≢true t)) (λ run idle n49 n55 t. absurd (false≢true t))
    (λ run e t. stays run (λ idle. false≢true (sym idle.no_22 ∙ e)) _ (within_22 d e))
    (λ run e t. stays run (λ idle. false≢true (sym idle.no_28 ∙ e)) _ (within_28 d e))
    (λ run e t. stays run (λ idle. false≢true (sym idle.no_34 ∙ e)) _ (within_34 d e))
    (λ run e t. stays run (λ idle. false≢true (sym idle.no_36 ∙ e)) _ (within_36 (backed_sheet d) d e))
    (λ run e t. stays run (λ idle. false≢true (sym idle.no_44 ∙ e)) _ (within_44 d e))
    (λ run e t. stays run (λ idle. false≢true (sym idle.no_47 ∙ e)) _ (within_47 d e))
    (λ run idle e t. settles run (closing_round d) (closing_sheet d (closing_round d)))
    (λ run idle n49 e t.
    let r = pred (past_calling_round d) in
    let h = highest_passes d.rounds (λ q. calls d q) (leb-true 1 (past_calling_round d) e) in
    goes run (ltb-true (current d) r (and_left _ _ h.0)) h.1 _ (enters offer r d))

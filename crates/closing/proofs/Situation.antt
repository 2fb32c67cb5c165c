-- Where a rule-keeping kiosk stands in a good round: what its log holds, what it put out, how far it has come, and which messages are fair
-- to it. Assumes nothing.
use Rattle.std.specs.Prelude.{None}
use Prim.Native.Nat.{ℕ, pred, ◌*◌, ◌≤◌, ◌<◌}
use mathlib.Core.Path.{◌≡◌}
use mathlib.Core.Logic.{◌⊎◌}
use mathlib.Core.List.{List, [], ◌∷◌, ◌++◌}
use mathlib.Core.Bool.{true, false, not}
use lib.ListN.{length}
use Rattle.words.specs.Marks.{marked}
use Rattle.words.specs.Members.{In}
use Rattle.roll.specs.declared.Roll.{Roll}
use Rattle.roll.specs.Weighing.{power_of, total_of, proposer}
use Rattle.rules.specs.declared.Votes.{Votes}
use Rattle.rules.specs.declared.Votes.TheVariants.{Prevotes}
use Rattle.rules.specs.declared.Input.{Input}
use Rattle.rules.specs.declared.Phase.TheVariants.{Running, Settled}
use Rattle.rules.specs.State.{most_rounds, marks_of, spoken}
use Rattle.rules.specs.Log.{Desk, table_length, heard, proposed, voted, power_for}
use Rattle.rules.specs.Doing.{current, step, step_of}
use Rattle.rules.specs.Rules.{is_large, closing_sheet, first_rule}
use Rattle.rules.proofs.Telling.{Sized}
use Rattle.refusals.specs.Refusals.{is_proposal, is_vote, is_timer}
use Rattle.history.specs.Histories.{Past}
use Rattle.agreement.specs.Weigh.{Seats}
use Rattle.agreement.specs.Moves.{Out, proposal}
use Rattle.agreement.specs.Honest.{Kind, said}
use Rattle.market.specs.Seat.{acts, step_number}
use Rattle.market.proofs.Votes.{kind_of}
use Rattle.market.proofs.Honest.{at}
use Rattle.closing.specs.Closing.{Proposal}

module _ (roll : Roll) (keeps : Seats) (g : Proposal) where
  -- what holds of the round throughout; roll is this kiosk's
  pub record Ground : Type 0 where
    pub few_kiosks : roll.kiosks ≤ 32
    pub own_seat : roll.own < roll.kiosks
    pub own_keeps : keeps roll.own ≡ true
    pub turn_keeps : keeps (proposer roll g.round) ≡ true
    pub there : g.round < most_rounds
    pub low : g.valid ≤ g.round
    pub some : g.name ≡ 0 → ⊥
    pub few : 3 * power_of roll (λ i. not (keeps i)) < total_of roll

  -- what the log holds: of the round rule-keeping kiosks' messages for its proposal alone; of later rounds rule-breakers' alone
  pub record Holds (d : Desk) : Type 0 where
    pub roll_is : d.state.roll ≡ roll
    pub rounds_are : d.rounds ≡ most_rounds
    pub places : length d.table ≡ table_length
    pub sized : Sized most_rounds d.state.log
    -- earlier rounds: no sheet can be settled there, and large prevotes of the valid round, if any, are held
    pub closed_below : (q : ℕ) → q < g.round → closing_sheet d q ≡ 0
    pub old : 1 ≤ g.valid → is_large d (power_for Prevotes d (pred g.valid) g.name) ≡ true
    -- later rounds
    pub ahead_proposals : (q : ℕ) → g.round < q → spoken (heard d q) ≡ true → keeps (proposer roll q) ≡ false
    pub ahead_votes : (v : Votes) (q j : ℕ) → g.round < q → j < roll.kiosks → marked (marks_of v (heard d q)) j ≡ true → keeps j ≡ false
    -- the round
    pub sheet : spoken (heard d g.round) ≡ true → ((heard d g.round).proposal ≡ 2) × ((heard d g.round).valid ≡ g.valid) × (proposed d g.round ≡ g.name)
    pub votes : (v : Votes) (j : ℕ) → j < roll.kiosks → keeps j ≡ true → marked (marks_of v (heard d g.round)) j ≡ true → voted v d g.round j ≡ g.name

  -- all that the kiosk put out, where it stands at step n: of the round its proposal and votes for it, and nothing of later rounds
  pub record Tells (n : ℕ) (os : List Out) : Type 0 where
    pub said_votes : (v : Votes) → step_number (step_of v) ≤ n → In (said (kind_of v) g.round g.name) os
    pub votes : (k : Kind) (q name : ℕ) → In (said k q name) os → (q < g.round) ⊎ ((q ≡ g.round) × (name ≡ g.name))
    pub proposals : (q valid name : ℕ) → In (proposal (q ∷ valid ∷ name ∷ [])) os → (q < g.round) ⊎ ((q ≡ g.round) × (valid ≡ g.valid) × (name ≡ g.name))

  -- how far it has come
  pub record Stands (d : Desk) : Type 0 where
    pub holds : Holds d
    pub round : current d ≡ g.round
    pub going : (d.state.progress.phase ≡ Running) ⊎ ((d.state.progress.phase ≡ Settled (record { 0 = g.round })) × (step_number (step d) ≡ 2))
    pub lock : (d.state.progress.locked.next.0 ≤ g.valid) ⊎ (d.state.progress.locked.name ≡ g.name)
    pub early : step_number (step d) < 2 → (j : ℕ) → j < roll.kiosks → marked (heard d g.round).precommits j ≡ true → keeps j ≡ false
    pub unbacked : step_number (step d) < 2 → d.state.progress.stand.backed ≡ false
    pub spoke : 1 ≤ step_number (step d) → spoken (heard d g.round) ≡ true
    pub own_votes : (v : Votes) → step_number (step_of v) ≤ step_number (step d) → marked (marks_of v (heard d g.round)) roll.own ≡ true

  -- in the middle of a call, where `before` was put out before it
  pub record Acts (before : List Out) (d : Desk) : Type 0 where
    pub stands : Stands d
    pub tells : Tells (step_number (step d)) (before ++ acts d.sent)

  -- between two calls, where os is all that was put out
  pub record Waits (os : List Out) (p : Past) : Type 0 where
    pub stands : Stands (at p)
    pub tells : Tells (step_number (step (at p))) os
    pub rest : first_rule (at p) ≡ None

  -- a message that a rule-keeping kiosk can hear in the round and stay in it
  pub record Fair (d : Desk) (x : Input) : Type 0 where
    pub no_timer : is_timer x ≡ false
    pub not_earlier : g.round ≤ x.round.0
    pub proposal_now : is_proposal x ≡ true → x.round.0 ≡ g.round → (x.verdict ≡ 1) × (x.valid.0 ≡ g.valid) × (x.name ≡ g.name)
    pub proposal_ahead : is_proposal x ≡ true → g.round < x.round.0 → keeps (proposer roll x.round.0) ≡ false
    pub vote_now : is_vote x ≡ true → keeps x.sender ≡ true → (x.round.0 ≡ g.round) × (x.name ≡ g.name)
    pub late : x.kind ≡ 4 → keeps x.sender ≡ true → step_number (step d) ≡ 2

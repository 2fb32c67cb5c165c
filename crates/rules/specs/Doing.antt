-- What a kiosk does on its own: sends, asks for timers, proposes, votes, enters a round. 003, lines 11 to 21 and the `broadcast` and
-- `schedule` lines, with 01's house rules. Assumes nothing.
use Rattle.std.specs.Prelude.{ℕ, [], ◌∷◌, ◌++◌, true, ◌&&◌, not, eqb, if◌then◌else◌}
use Rattle.roll.specs.Weighing.{proposer}
use Rattle.rules.specs.declared.Step.{Step}
use Rattle.rules.specs.declared.Step.TheVariants.{Propose, Prevote, Precommit}
use Rattle.rules.specs.declared.Votes.{Votes}
use Rattle.rules.specs.declared.Votes.TheVariants.{Prevotes, Precommits}
use Rattle.rules.specs.declared.Asked.{Asked}
use Rattle.rules.specs.declared.Output.{Output}
use Rattle.rules.specs.Kinds.{proposal_out, vote_out, ask_out}
use Rattle.rules.specs.State.{entered, with_stand, with_step, with_asked}
use Rattle.rules.specs.Log.{Desk, with_state, message}

abbrev pub own : Desk → ℕ
own d = d.state.roll.own

abbrev pub current : Desk → ℕ
current d = d.state.progress.stand.round.0

abbrev pub step : Desk → Step
step d = d.state.progress.stand.step

-- the step that a vote is
abbrev pub step_of : Votes → Step
step_of Prevotes = Prevote
step_of Precommits = Precommit

-- an output: kind, round, valid round plus one, name; "fields not carried are 0"
abbrev pub output : ℕ → ℕ → ℕ → ℕ → Output
output kind r valid name = record { kind = kind; round = record { 0 = r }; valid = record { 0 = valid }; name = name }

abbrev pub send : Output → Desk → Desk
send o d = record { rounds = d.rounds; state = d.state; table = d.table; sent = d.sent ++ (o ∷ []) }

-- "Own messages go in the own log at once, .. an own proposal with verdict 1": a desk that has heard the kiosk's own output, and one
-- that has sent it too
abbrev pub own_heard : Output → Desk → Desk
own_heard o d = message o (own d) true d

abbrev pub say : Output → Desk → Desk
say o d = send o (own_heard o d)

abbrev pub at_step : Step → Desk → Desk
at_step p d = with_state (with_stand (with_step p d.state.progress.stand) d.state) d

-- lines 21, 35 and 48: ask for a timer of the current round
abbrev pub asking : Step → Asked → Asked
asking Propose a = record { propose = true; prevote = a.prevote; precommit = a.precommit }
asking Prevote a = record { propose = a.propose; prevote = true; precommit = a.precommit }
asking Precommit a = record { propose = a.propose; prevote = a.prevote; precommit = true }

unfoldable pub ask : Step → Desk → Desk
ask p d =
    let s = d.state.progress.stand in
    send (output (ask_out p) s.round.0 0 0) (with_state (with_stand (with_asked (asking p s.asked) s) d.state) d)

-- lines 19, 24, 26, 30, 32, 40 and 45, in the current round; a vote is also a step
unfoldable pub propose : ℕ → ℕ → Desk → Desk
propose valid name d = say (output proposal_out (current d) valid name) d

unfoldable pub vote : Votes → ℕ → Desk → Desk
vote v name d = at_step (step_of v) (say (output (vote_out v) (current d) 0 name) d)

-- lines 15 to 18: the sheet to propose is the valid one, or else the offer
abbrev pub sheet_to_propose : ℕ → Desk → ℕ
sheet_to_propose offer d = if eqb d.state.progress.valid.name 0 then offer else d.state.progress.valid.name

-- lines 11 to 21. "A proposer with no valid sheet and offer 0 asks for the propose timer, as others do"
unfoldable pub start_round : ℕ → ℕ → Desk → Desk
start_round offer r d =
    let e = with_state (with_stand (entered r) d.state) d in
    let sheet = sheet_to_propose offer d in
    if eqb (proposer d.state.roll r) (own d) && not (eqb sheet 0) then propose d.state.progress.valid.next.0 sheet e else ask Propose e

-- To compute with this file: `unfolding the_doing` opens the above.
unfoldable pub the_doing : Unit {0}
unfolding ask propose vote start_round
the_doing = tt

-- A kiosk of the rules as agreement sees it: its outputs, where it stands and what it is locked on, and the message that an input brings.
-- Assumes nothing.
use Rattle.std.specs.Prelude.{ℕ, ◌≡◌, List, [], ◌∷◌, true, ◌||◌, eqb, if◌then◌else◌}
use Rattle.rules.specs.declared.Step.{Step}
use Rattle.rules.specs.declared.Step.TheVariants.{Propose, Prevote, Precommit}
use Rattle.rules.specs.declared.Input.{Input}
use Rattle.rules.specs.declared.Output.{Output}
use Rattle.rules.specs.Log.{Desk}
use Rattle.rules.specs.Doing.{current, step}
use Rattle.refusals.specs.Refusals.{is_proposal, is_vote}
use Rattle.agreement.specs.Moves.{Out, prevote, precommit, settled, proposal, other, View}

-- "Outputs: 1 proposal, 2 prevote, 3 precommit, 4/5/6 ask for a timer of propose/prevote/precommit, 7 settled."
abbrev pub act : Output → Out
act o =
    if eqb o.kind 1 then proposal (o.round.0 ∷ o.valid.0 ∷ o.name ∷ [])
    else if eqb o.kind 2 then prevote o.round.0 o.name
    else if eqb o.kind 3 then precommit o.round.0 o.name
    else if eqb o.kind 7 then settled o.round.0 o.name
    else other

abbrev pub acts : List Output → List Out
acts [] = []
acts (o ∷ os) = act o ∷ acts os

-- "Inputs: 1 start, 2 proposal, 3 prevote, 4 precommit": what a message says
abbrev pub message : Input → Out
message i =
    if eqb i.kind 2 then proposal (i.round.0 ∷ i.valid.0 ∷ i.name ∷ [])
    else if eqb i.kind 3 then prevote i.round.0 i.name
    else precommit i.round.0 i.name

-- "what arrives under its number": the message that an input brings, under its sender's number; start and timers bring none
abbrev pub brings : Input → ℕ → Out → Type 0
brings i j o = ((is_proposal i || is_vote i) ≡ true) × (i.sender ≡ j) × (o ≡ message i)

abbrev pub step_number : Step → ℕ
step_number Propose = 0
step_number Prevote = 1
step_number Precommit = 2

abbrev pub view : Desk → View
view d = record { round = current d; step = step_number (step d); lr = d.state.progress.locked.next.0; lv = d.state.progress.locked.name }

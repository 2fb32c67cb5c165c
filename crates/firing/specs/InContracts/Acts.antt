-- An act: the progress after it and at most one output; and what it does to a desk. Assumes nothing.
use Rattle.std.specs.Prelude.{ℕ, ◌<◌, ◌≡◌, List, get_or, Option, Some, None}
use Rattle.roll.specs.declared.Roll.{Roll}
use Rattle.rules.specs.declared.Heard.{Heard}
use Rattle.rules.specs.declared.Held.{Held}
use Rattle.rules.specs.declared.Progress.{Progress}
use Rattle.rules.specs.declared.Rule.{Rule}
use Rattle.rules.specs.declared.Rule.TheVariants.{Line22, Line28, Line34, Line36, Line44, Line47, Line49, Line55}
use Rattle.rules.specs.declared.Output.{Output}
use Rattle.rules.specs.State.{most_rounds, state_of, with_progress, standing, validating, with_backed}
use Rattle.rules.specs.Log.{Desk, with_state, proposal_place, told}
use Rattle.rules.specs.Doing.{output, say}
use Rattle.rules.specs.InContracts.Ready.{midway}
use Rattle.firing.specs.declared.Act.{Act}

-- a desk after an output, where there is one, and after an act
abbrev pub says : Option Output → Desk → Desk
says None d = d
says (Some o) d = say o d

abbrev pub done : Act → Desk → Desk
done a d = says a.output (with_state (with_progress a.progress d.state) d)

-- an act does this to every desk of this roll with this progress; with this log and table; whatever the roll is; and where this is
-- heard of the current round and this is its sheet
abbrev pub does_for : Act → Roll → Progress → (Desk → Desk) → Type 0
does_for a roll p f = (l t : List ℕ) (os : List Output) → done a (midway (state_of roll p l) t os) ≡ f (midway (state_of roll p l) t os)

abbrev pub does_at : Act → Roll → Progress → List ℕ → List ℕ → (Desk → Desk) → Type 0
does_at a roll p l t f = (os : List Output) → done a (midway (state_of roll p l) t os) ≡ f (midway (state_of roll p l) t os)

abbrev pub does : Act → Progress → (Desk → Desk) → Type 0
does a p f = (roll : Roll) → does_for a roll p f

abbrev pub does_hearing : Act → Roll → Progress → Heard → ℕ → (Desk → Desk) → Type 0
does_hearing a roll p h sheet f =
    let r = p.stand.round.0 in
    (l t : List ℕ) (os : List Output) → h ≡ told l r → sheet ≡ get_or t (proposal_place r) 0 →
    done a (midway (state_of roll p l) t os) ≡ f (midway (state_of roll p l) t os)

-- a rule that names a round names one there is
abbrev pub rule_fits : Rule → Type 0
rule_fits Line22 = Unit
rule_fits Line28 = Unit
rule_fits Line34 = Unit
rule_fits (Line36 name) = Unit
rule_fits Line44 = Unit
rule_fits Line47 = Unit
rule_fits (Line49 r name) = r.0 < most_rounds
rule_fits (Line55 r) = r.0 < most_rounds

-- rule 36 has fired, and the sheet is valid
abbrev pub backing : Held → Progress → Progress
backing h v = validating h (standing (with_backed v.stand) v)

-- an act that sends an output of this kind in the current round, and one that sends nothing
abbrev pub saying : Progress → ℕ → ℕ → ℕ → Act
saying v kind valid name = record { progress = v; output = Some (output kind v.stand.round.0 valid name) }

abbrev pub moving : Progress → Act
moving v = record { progress = v; output = None }

-- The eight rules of Algorithm 1, by 003's line numbers: when each applies, which is the first, and what it does. "2f+1 is read as
-- large, f+1 as some." Assumes nothing.
use Rattle.std.specs.Prelude.{ℕ, pred, Bool, ◌&&◌, ◌||◌, not, ltb, leb, eqb, if◌then◌else◌, Option, Some, None}
use Rattle.words.specs.Choice.{lowest_below, past_highest_below, first_of}
use Rattle.roll.specs.Weighing.{large, some, total_of}
use Rattle.rules.specs.declared.Phase.TheVariants.{Settled}
use Rattle.rules.specs.declared.Step.TheVariants.{Prevote, Precommit}
use Rattle.rules.specs.declared.Votes.TheVariants.{Prevotes, Precommits}
use Rattle.rules.specs.declared.Rule.{Rule}
use Rattle.rules.specs.declared.Rule.TheVariants.{Line22, Line28, Line34, Line36, Line44, Line47, Line49, Line55}
use Rattle.rules.specs.Kinds.{settled_out}
use Rattle.rules.specs.State.{is_running, is_propose, is_prevote, spoken, good, held, with_phase, with_stand, with_locked, with_valid, with_backed}
use Rattle.rules.specs.Log.{Desk, with_state, heard, proposed, good_sheets}
use Rattle.rules.specs.Log.{power, power_for, message_power}
use Rattle.rules.specs.Doing.{current, step, output, send, ask, vote, start_round}

abbrev pub is_large : Desk → ℕ → Bool
is_large d power = large (total_of d.state.roll) power

abbrev pub has_some : Desk → ℕ → Bool
has_some d power = some (total_of d.state.roll) power

-- ## When each rule applies

-- line 22: the round's proposal, with valid round -1
unfoldable pub applies_22 : Desk → Bool
applies_22 d =
    let h = heard d (current d) in
    is_propose (step d) && spoken h && eqb h.valid 0

-- line 28: the round's proposal, with a valid round before this one whose prevotes for it are large
unfoldable pub applies_28 : Desk → Bool
applies_28 d =
    let r = current d in
    let h = heard d r in
    is_propose (step d) &&
    spoken h &&
    leb 1 h.valid &&
    leb h.valid r &&
    is_large d (power_for Prevotes d (pred h.valid) (proposed d r))

-- line 34
unfoldable pub applies_34 : Desk → Bool
applies_34 d = is_prevote (step d) && not d.state.progress.stand.asked.prevote && is_large d (power Prevotes d (current d))

-- line 36: the sheet of the round's proposals that large prevotes back; 0 where there is none
unfoldable pub backed_sheet : Desk → ℕ
backed_sheet d =
    let r = current d in
    first_of (good_sheets d r) (λ name. is_large d (power_for Prevotes d r name))

unfoldable pub applies_36 : Desk → Bool
applies_36 d = not (is_propose (step d)) && not d.state.progress.stand.backed && not (eqb (backed_sheet d) 0)

-- line 44
unfoldable pub applies_44 : Desk → Bool
applies_44 d = is_prevote (step d) && is_large d (power_for Prevotes d (current d) 0)

-- line 47
unfoldable pub applies_47 : Desk → Bool
applies_47 d = not d.state.progress.stand.asked.precommit && is_large d (power Precommits d (current d))

-- line 49 with line 50: the sheet that can be settled in round r, 0 for none. "It looks at every round, lowest first"
unfoldable pub closing_sheet : Desk → ℕ → ℕ
closing_sheet d r = first_of (good_sheets d r) (λ name. is_large d (power_for Precommits d r name))

unfoldable pub closing_round : Desk → ℕ
closing_round d = lowest_below d.rounds (λ r. not (eqb (closing_sheet d r) 0))

unfoldable pub applies_49 : Desk → Bool
applies_49 d = ltb (closing_round d) d.rounds

-- line 55: round r is ahead, with messages of some power. "55 goes to the highest round with some power"
unfoldable pub calls : Desk → ℕ → Bool
calls d r = ltb (current d) r && has_some d (message_power d r)

unfoldable pub past_calling_round : Desk → ℕ
past_calling_round d = past_highest_below d.rounds (λ r. calls d r)

unfoldable pub applies_55 : Desk → Bool
applies_55 d = leb 1 (past_calling_round d)

-- "the first rule that applies": "22, 28, 34, 36, 44, 47, 49, 55", from its end: the first from 49 on, from 47 on, from 34 on, and of
-- all. None applies before start, and none once settled
unfoldable pub from_49 : Desk → Option Rule
from_49 d =
    if applies_49 d then Some (Line49 (record { 0 = closing_round d }) (closing_sheet d (closing_round d)))
    else if applies_55 d then Some (Line55 (record { 0 = pred (past_calling_round d) }))
    else None

unfoldable pub from_47 : Desk → Option Rule
from_47 d = if applies_47 d then Some Line47 else from_49 d

unfoldable pub from_34 : Desk → Option Rule
from_34 d =
    if applies_34 d then Some Line34
    else if applies_36 d then Some (Line36 (backed_sheet d))
    else if applies_44 d then Some Line44
    else from_47 d

unfoldable pub first_rule : Desk → Option Rule
first_rule d =
    if not (is_running d.state.progress.phase) then None
    else if applies_22 d then Some Line22
    else if applies_28 d then Some Line28
    else from_34 d

-- ## What each rule does

-- lines 23 to 26: the proposal where it is good and the lock allows it, and else nil
unfoldable pub vote_22 : Desk → ℕ
vote_22 d =
    let r = current d in
    let locked = d.state.progress.locked in
    if good (heard d r) && (eqb locked.next.0 0 || eqb locked.name (proposed d r)) then proposed d r else 0

-- lines 29 to 32: the lock allows it also where lockedRound ≤ vr
unfoldable pub vote_28 : Desk → ℕ
vote_28 d =
    let r = current d in
    let locked = d.state.progress.locked in
    if good (heard d r) && (leb locked.next.0 (heard d r).valid || eqb locked.name (proposed d r)) then proposed d r else 0

-- lines 37 to 43: at step prevote, lock the sheet and precommit it; at either step, hold it as valid
unfoldable pub fire_36 : ℕ → Desk → Desk
fire_36 name d =
    let sheet = held (current d) name in
    let s = with_valid sheet (with_stand (with_backed d.state.progress.stand) d.state) in
    if is_prevote (step d) then vote Precommits name (with_state (with_locked sheet s) d) else with_state s d

-- line 51: "Settling outputs 7 with that round and ends the height"
unfoldable pub fire_49 : ℕ → ℕ → Desk → Desk
fire_49 r name d = send (output settled_out r 0 name) (with_state (with_phase (Settled (record { 0 = r })) d.state) d)

unfoldable pub fire : Rule → ℕ → Desk → Desk
fire Line22 offer d = vote Prevotes (vote_22 d) d
fire Line28 offer d = vote Prevotes (vote_28 d) d
fire Line34 offer d = ask Prevote d
fire (Line36 name) offer d = fire_36 name d
fire Line44 offer d = vote Precommits 0 d
fire Line47 offer d = ask Precommit d
fire (Line49 r name) offer d = fire_49 r.0 name d
fire (Line55 r) offer d = start_round offer r.0 d

-- what the rule that was found does; nothing where none was
abbrev pub fire_found : Option Rule → ℕ → Desk → Desk
fire_found None offer d = d
fire_found (Some rule) offer d = fire rule offer d

-- To compute with this file: `unfolding the_rules` opens the above.
unfoldable pub the_rules : Unit {0}
unfolding applies_22 applies_28 applies_34 backed_sheet applies_36 applies_44 applies_47 closing_sheet closing_round applies_49 calls past_calling_round applies_55 from_49 from_47 from_34 first_rule vote_22 vote_28 fire_36 fire_49 fire
the_rules = tt

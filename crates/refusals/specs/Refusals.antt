-- The refusals 2 to 11 of a call, "Checked in this order; the first that applies is given". 01, "Inputs and outputs" and "What is
-- refused". Assumes nothing.
use Rattle.std.specs.Prelude.{ℕ, suc, Bool, false, ◌&&◌, ◌||◌, not, ltb, leb, eqb, if◌then◌else◌}
use Rattle.words.specs.Marks.{marked}
use Rattle.roll.specs.Weighing.{proposer}
use Rattle.rules.specs.declared.Votes.TheVariants.{Prevotes, Precommits}
use Rattle.rules.specs.declared.Step.TheVariants.{Propose, Prevote, Precommit}
use Rattle.rules.specs.declared.Input.{Input}
use Rattle.rules.specs.Kinds.{start_in, proposal_in, vote_in, timer_in}
use Rattle.rules.specs.State.{marks_of, is_fresh, is_settled, is_propose, is_prevote, spoken}
use Rattle.rules.specs.Log.{Desk, heard, proposed, voted}
use Rattle.rules.specs.Doing.{current, step, own}
use Rattle.refusals.specs.declared.Answer.{Answer}
use Rattle.refusals.specs.declared.Answer.TheVariants.{Accepted, AlreadySettled, OutOfOrder, OtherHeight, BadField, OwnNumber, NotProposer, HeardSame, HeardOther, TimerNotDue, LastRound}

-- what an input is, by its kind
abbrev pub is_start : Input → Bool
is_start i = eqb i.kind start_in

abbrev pub is_proposal : Input → Bool
is_proposal i = eqb i.kind proposal_in

abbrev pub is_vote : Input → Bool
is_vote i = eqb i.kind (vote_in Prevotes) || eqb i.kind (vote_in Precommits)

abbrev pub is_timer : Input → Bool
is_timer i = leb (timer_in Propose) i.kind && leb i.kind (timer_in Precommit)

-- "Proposal: name not 0, valid round field 0 to its round, verdict 0 or 1."
unfoldable pub proposal_fits : Input → Bool
proposal_fits i = not (eqb i.name 0) && leb i.valid.0 i.round.0 && leb i.verdict 1

-- "Votes: valid round field and verdict 0."
unfoldable pub vote_fits : Input → Bool
vote_fits i = eqb i.valid.0 0 && eqb i.verdict 0

-- "Start and timers: sender, name, valid round field and verdict 0." "Start: round 0."
unfoldable pub timer_fits : Input → Bool
timer_fits i = eqb i.sender 0 && eqb i.name 0 && eqb i.valid.0 0 && eqb i.verdict 0

unfoldable pub start_fits : Input → Bool
start_fits i = timer_fits i && eqb i.round.0 0

unfoldable pub kind_fits : Input → Bool
kind_fits i =
    if is_proposal i then proposal_fits i
    else if is_vote i then vote_fits i
    else if is_timer i then timer_fits i
    else start_fits i

-- 5: "kind not 1 to 7, sender not on the roll, round over 15, a field outside the rules above"; by the number of kiosks and of rounds
unfoldable pub fields_fit : ℕ → ℕ → Input → Bool
fields_fit n rounds i =
    leb start_in i.kind &&
    leb i.kind (timer_in Precommit) &&
    ltb i.sender n &&
    ltb i.round.0 rounds &&
    kind_fits i

-- 8 and 9: "place already heard", and there "same name (and valid round)"
unfoldable pub place_heard : Desk → Input → Bool
place_heard d i =
    let h = heard d i.round.0 in
    if is_proposal i then spoken h
    else if eqb i.kind (vote_in Prevotes) then marked (marks_of Prevotes h) i.sender
    else if eqb i.kind (vote_in Precommits) then marked (marks_of Precommits h) i.sender
    else false

unfoldable pub same_heard : Desk → Input → Bool
same_heard d i =
    let r = i.round.0 in
    if is_proposal i then eqb (proposed d r) i.name && eqb (heard d r).valid i.valid.0
    else if eqb i.kind (vote_in Prevotes) then eqb (voted Prevotes d r i.sender) i.name
    else eqb (voted Precommits d r i.sender) i.name

-- 10: "timer whose round or step is not current (5 needs step propose, 6 step prevote, 7 none), or not asked for in this round"
unfoldable pub timer_due : Desk → Input → Bool
timer_due d i =
    let asked = d.state.progress.stand.asked in
    eqb i.round.0 (current d) &&
    (if eqb i.kind (timer_in Propose) then is_propose (step d) && asked.propose
    else if eqb i.kind (timer_in Prevote) then is_prevote (step d) && asked.prevote
    else asked.precommit)

-- the answer to a timer that is not due
abbrev pub wrong_timer : Desk → Input → Answer
wrong_timer d i = TimerNotDue

-- refusals 6 to 11, of an input whose fields are within the rules
unfoldable pub refused_from_6 : Desk → Input → Answer
refused_from_6 d i =
    if (is_proposal i || is_vote i) && eqb i.sender (own d) then OwnNumber
    else if is_proposal i && not (eqb i.sender (proposer d.state.roll i.round.0)) then NotProposer
    else if place_heard d i && same_heard d i then HeardSame
    else if place_heard d i then HeardOther
    else if is_timer i && not (timer_due d i) then wrong_timer d i
    else if eqb i.kind (timer_in Precommit) && eqb (suc i.round.0) d.rounds then LastRound
    else Accepted

-- refusals 2 to 11: those that look at the voting state, the table and the input
unfoldable pub refused_input : Desk → Input → Answer
refused_input d i =
    if is_settled d.state.progress.phase then AlreadySettled
    else if (if is_fresh d.state.progress.phase then not (is_start i) else is_start i) then OutOfOrder
    else if not (eqb i.height.0 d.state.roll.height.0) then OtherHeight
    else if not (fields_fit d.state.roll.kiosks d.rounds i) then BadField
    else refused_from_6 d i

-- To compute with this file: `unfolding the_refusals` opens the above.
unfoldable pub the_refusals : Unit {0}
unfolding proposal_fits vote_fits timer_fits start_fits kind_fits fields_fit place_heard same_heard timer_due refused_from_6 refused_input
the_refusals = tt

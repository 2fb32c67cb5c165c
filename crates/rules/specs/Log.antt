-- The log: what a kiosk has heard, in the marks of its state and the names of the lent table; a message put in it; and what it weighs.
-- 01, "Lent table and state", "Weighing", and the house rules on own messages and on rule 55. Assumes nothing.
use Rattle.std.specs.Prelude.{ℕ, ◌+◌, ◌*◌, List, [], ◌∷◌, Bool, ◌&&◌, ◌||◌, get_or, set, replicate, eqb, if◌then◌else◌}
use Rattle.words.specs.Marks.{marked, mark}
use Rattle.roll.specs.Weighing.{power_of, proposer}
use Rattle.rules.specs.declared.Votes.{Votes}
use Rattle.rules.specs.declared.Votes.TheVariants.{Prevotes, Precommits}
use Rattle.rules.specs.declared.Heard.{Heard}
use Rattle.rules.specs.declared.State.{State}
use Rattle.rules.specs.declared.Output.{Output}
use Rattle.rules.specs.Kinds.{proposal_out, vote_out}
use Rattle.rules.specs.State.{most_rounds, rounds_of, marks_at, proposal_at, valid_at, marks_of, with_marks, with_log, spoken, good}

-- What a call works on: how many rounds there are, the state, the lent table, and the outputs so far
pub record Desk : Type 0 where
  pub rounds : ℕ
  pub state : State
  pub table : List ℕ
  pub sent : List Output

-- the desk as a call begins
abbrev pub desk : State → List ℕ → Desk
desk s table = record { rounds = rounds_of s; state = s; table = table; sent = [] }

abbrev pub with_state : State → Desk → Desk
with_state s d = record { rounds = d.rounds; state = s; table = d.table; sent = d.sent }

-- "1,040 64-bit numbers, 65 per round: the proposal's name, 32 prevotes, 32 precommits": where round r's proposal stands, where its
-- votes of a type begin, and where seat i's stands
abbrev pub per_round : ℕ
per_round = 65

abbrev pub table_length : ℕ
table_length = per_round * most_rounds

abbrev pub proposal_place : ℕ → ℕ
proposal_place r = per_round * r

abbrev pub votes_place : Votes → ℕ → ℕ
votes_place Prevotes r = per_round * r + 1
votes_place Precommits r = per_round * r + 33

abbrev pub vote_place : Votes → ℕ → ℕ → ℕ
vote_place v r i = votes_place v r + i

-- a table in which nothing is heard
abbrev pub empty_table : List ℕ
empty_table = replicate table_length 0

-- "It says which places are heard": what a log says of round r, and the log that says this of round r
unfoldable pub told : List ℕ → ℕ → Heard
told l r = record {
  prevotes = get_or l (marks_at Prevotes r) 0;
  precommits = get_or l (marks_at Precommits r) 0;
  proposal = get_or l (proposal_at r) 0;
  valid = get_or l (valid_at r) 0;
}

unfoldable pub tell : List ℕ → ℕ → Heard → List ℕ
tell l r h =
    set (set (set (set l (marks_at Prevotes r) h.prevotes) (marks_at Precommits r) h.precommits) (proposal_at r) h.proposal) (valid_at r) h.valid

-- what is heard of round r
abbrev pub heard : Desk → ℕ → Heard
heard d r = told d.state.log r

-- the names of round r's proposal, and of seat i's votes in it
abbrev pub proposed : Desk → ℕ → ℕ
proposed d r = get_or d.table (proposal_place r) 0

abbrev pub voted : Votes → Desk → ℕ → ℕ → ℕ
voted v d r i = get_or d.table (vote_place v r i) 0

-- the sheets of round r's proposals with verdict 1, in the order in which rules 36 and 49 look at them
unfoldable pub good_sheets : Desk → ℕ → List ℕ
good_sheets d r =
    let h = heard d r in
    if good h then proposed d r ∷ [] else []

-- the desk once a message is put in the log, "over anything a made-up state holds there"
abbrev pub logged : Desk → ℕ → Heard → ℕ → ℕ → Desk
logged d r h place name = record {
  rounds = d.rounds;
  state = with_log (tell d.state.log r h) d.state;
  table = set d.table place name;
  sent = d.sent;
}

unfoldable pub hear_proposal : Desk → ℕ → Bool → ℕ → ℕ → Desk
hear_proposal d r good valid name =
    let h = heard d r in
    logged d r (record { prevotes = h.prevotes; precommits = h.precommits; proposal = if good then 2 else 1; valid = valid }) (proposal_place r) name

unfoldable pub hear_vote : Votes → Desk → ℕ → ℕ → ℕ → Desk
hear_vote v d r i name =
    let h = heard d r in
    logged d r (with_marks v (mark (marks_of v h) i) h) (vote_place v r i) name

-- an output of seat i put in the log, where it is a message, a proposal with this verdict
unfoldable pub message : Output → ℕ → Bool → Desk → Desk
message o i good d =
    let r = o.round.0 in
    if eqb o.kind proposal_out then hear_proposal d r good o.valid.0 o.name
    else if eqb o.kind (vote_out Prevotes) then hear_vote Prevotes d r i o.name
    else if eqb o.kind (vote_out Precommits) then hear_vote Precommits d r i o.name
    else d

-- the powers that the rules weigh: votes of round r under any name, and under one
unfoldable pub power : Votes → Desk → ℕ → ℕ
power v d r =
    let marks = marks_of v (heard d r) in
    power_of d.state.roll (λ i. marked marks i)

unfoldable pub power_for : Votes → Desk → ℕ → ℕ → ℕ
power_for v d r name =
    let marks = marks_of v (heard d r) in
    power_of d.state.roll (λ i. marked marks i && eqb (voted v d r i) name)

-- "A sender's proposal, prevote and precommit count once together": the power of the senders of any message of round r
unfoldable pub message_power : Desk → ℕ → ℕ
message_power d r =
    let h = heard d r in
    let turn = proposer d.state.roll r in
    power_of d.state.roll (λ i. (spoken h && eqb turn i) || marked h.prevotes i || marked h.precommits i)

-- To compute with this file: `unfolding the_log` opens the above.
unfoldable pub the_log : Unit {0}
unfolding told tell good_sheets hear_proposal hear_vote message power power_for message_power
the_log = tt

-- Made-up calls: each clause of refusal 1, each of the refusals 2 to 15 and the order of any two that both apply, timers at each step,
-- damage at each place, and a whole height. Each with its whole reply; one list. Assumes nothing.
use Rattle.std.specs.Prelude.{ℕ, List, [], ◌∷◌, ◌++◌, Bool, true, false, length, take, set, replicate}
use Rattle.roll.specs.declared.Roll.{Roll}
use Rattle.rules.specs.declared.Phase.{Phase}
use Rattle.rules.specs.declared.Phase.TheVariants.{Fresh, Running, Settled}
use Rattle.rules.specs.declared.Step.{Step}
use Rattle.rules.specs.declared.Step.TheVariants.{Propose, Prevote, Precommit}
use Rattle.rules.specs.declared.Held.{Held}
use Rattle.rules.specs.declared.Stand.{Stand}
use Rattle.rules.specs.declared.State.{State}
use Rattle.rules.specs.declared.Input.{Input}
use Rattle.rules.proofs.Whole.{at, spread, table, roll, held, log, stand, state, input, out}
use Rattle.rules.proofs.Stories.{four, none, fresh, starts, proposes, prevotes, precommits, timer}
use Rattle.journal.proofs.Journals.{journal_107}
use Rattle.refusals.specs.declared.Answer.{Answer}
use Rattle.refusals.specs.declared.Answer.TheVariants.{Accepted, Impossible, AlreadySettled, OutOfOrder, OtherHeight, BadField, OwnNumber, NotProposer, HeardSame, HeardOther, TimerNotDue, LastRound, NoRoom, HeaderShort, Damaged, BadRoll}
use Rattle.kiosk.specs.declared.Kiosk.{Kiosk}
use Rattle.kiosk.specs.declared.Reply.{Reply}
use Rattle.kiosk.specs.declared.Made.{Made}
use Rattle.examples.specs.Cases.{Call, puts, Opening, opens, Creating, creates, Showing, shows}
use Rattle.examples.specs.Whole.{kiosk, unopened, reply, made, refuses, Calls, Telling, tells, filled}
use Rattle.journal.proofs.Journals.{header, height, call_13}
use Rattle.journal.proofs.Journals as bytes

abbrev pub Put : Type 0
Put = Call Input Kiosk Reply

-- ## A kiosk that has started, heard proposal 50 and prevoted it; in an area of 43 sevens, of which 15 are used

abbrev pub sevens : ℕ → List ℕ
sevens n = replicate n 7

abbrev pub voting : Stand
voting = stand 0 Prevote true false false false

-- its roll, phase, stand, locked and valid sheet
abbrev pub stands : Roll → Phase → Stand → Held → Held → State
stands roll phase stand locked valid = state roll phase stand locked valid (log (at 0 1 ∷ []) [] (at 0 2 ∷ []) [])

abbrev pub base : State
base = stands four Running voting none none

abbrev pub fifty : List ℕ
fifty = table (at 0 50 ∷ at 1 50 ∷ [])

-- the prevote of 1 for 50, and its group
abbrev pub vote : Input
vote = prevotes 1 0 50

abbrev pub voted : List ℕ
voted = 24 ∷ 3 ∷ 1 ∷ 0 ∷ 0 ∷ 0 ∷ 0 ∷ 0 ∷ 0 ∷ 50 ∷ 0 ∷ 0 ∷ 0 ∷ 0 ∷ 0 ∷ 0 ∷ 0 ∷ 9 ∷ 0 ∷ 0 ∷ 0 ∷ 0 ∷ 0 ∷ 0 ∷ 0 ∷ 0 ∷ []

-- this state refuses the vote, or takes it: seat 1 has its mark and its name then, and nothing else changes
abbrev pub denies : Answer → State → Put
denies answer s = refuses answer vote (kiosk s 15 15) fifty (sevens 43)

abbrev pub takes : Roll → Stand → Held → Held → Put
takes roll stand locked valid =
    puts vote (kiosk (stands roll Running stand locked valid) 15 15) fifty (sevens 43)
    (reply Accepted [] (kiosk (state roll Running stand locked valid (log (at 0 3 ∷ []) [] (at 0 2 ∷ []) [])) 41 15))
    (table (at 0 50 ∷ at 1 50 ∷ at 2 50 ∷ []))
    (sevens 15 ++ voted ++ sevens 2)

-- the base with this heard of round 5: marks of prevotes and of precommits, proposal, its valid round plus one. It refuses the vote, or
-- takes it, where the table has this name of the proposal
abbrev pub round_5 : ℕ → ℕ → ℕ → ℕ → State
round_5 prevoted precommitted proposal valid =
    state four Running voting none none (log (at 0 1 ∷ at 5 prevoted ∷ []) (at 5 precommitted ∷ []) (at 0 2 ∷ at 5 proposal ∷ []) (at 5 valid ∷ []))

abbrev pub denies_5 : ℕ → ℕ → ℕ → ℕ → ℕ → Put
denies_5 prevoted precommitted proposal valid name =
    refuses Impossible vote (kiosk (round_5 prevoted precommitted proposal valid) 15 15) (table (at 0 50 ∷ at 1 50 ∷ at 325 name ∷ [])) (sevens 43)

abbrev pub takes_5 : ℕ → ℕ → ℕ → ℕ → ℕ → Put
takes_5 prevoted precommitted proposal valid name =
    puts vote (kiosk (round_5 prevoted precommitted proposal valid) 15 15) (table (at 0 50 ∷ at 1 50 ∷ at 325 name ∷ [])) (sevens 43)
    (reply Accepted []
    (kiosk
    (state four Running voting none none (log (at 0 3 ∷ at 5 prevoted ∷ []) (at 5 precommitted ∷ []) (at 0 2 ∷ at 5 proposal ∷ []) (at 5 valid ∷ [])))
    41 15))
    (table (at 0 50 ∷ at 1 50 ∷ at 2 50 ∷ at 325 name ∷ []))
    (sevens 15 ++ voted ++ sevens 2)

-- the base refuses this input
abbrev pub declines : Answer → Input → Put
declines answer i = refuses answer i (kiosk base 15 15) fifty (sevens 43)

-- ## A kiosk that has not started refuses to start

abbrev pub does_not_start : State → List ℕ → Put
does_not_start s t = refuses Impossible starts (kiosk s 15 15) t (sevens 60)

-- its state with this round, locked and valid sheet, and this heard of round 15
abbrev pub unstarted : ℕ → Held → Held → ℕ → ℕ → ℕ → State
unstarted r locked valid prevoted precommitted proposal =
    state four Fresh (stand r Propose false false false false) locked valid
    (log (at 15 prevoted ∷ []) (at 15 precommitted ∷ []) (at 15 proposal ∷ []) [])

-- ## A kiosk in round 1 that has heard nothing, at a step, with timers asked for

abbrev pub waits : Step → Bool → Bool → Bool → Kiosk
waits step propose prevote precommit = kiosk (state four Running (stand 1 step propose prevote precommit false) none none (log [] [] [] [])) 15 15

-- "timer whose round or step is not current .., or not asked for in this round"
abbrev pub not_due : ℕ → ℕ → Step → Bool → Bool → Bool → Put
not_due kind r step propose prevote precommit = refuses TimerNotDue (timer kind r) (waits step propose prevote precommit) (table []) (sevens 60)

-- lines 57 to 67: nil is prevoted, nil is precommitted, the next round begins
abbrev pub timed : ℕ → List ℕ → List ℕ
timed kind output =
    sevens 15 ++
    (24 ∷ kind ∷ 0 ∷ 1 ∷ 0 ∷ 0 ∷ 0 ∷ 0 ∷ 0 ∷ 0 ∷ 0 ∷ 0 ∷ 0 ∷ 0 ∷ 0 ∷ 0 ∷ 0 ∷ 9 ∷ 0 ∷ 0 ∷ 0 ∷ 0 ∷ 0 ∷ 0 ∷ 0 ∷ 1 ∷ []) ++
    output ++
    (0 ∷ 0 ∷ 0 ∷ 0 ∷ 0 ∷ 0 ∷ 0 ∷ 0 ∷ 0 ∷ 0 ∷ []) ++
    sevens 7

abbrev pub next_round : Step → Bool → Bool → Put
next_round step propose prevote =
    puts (timer 7 1) (waits step propose prevote true) (table []) (sevens 60)
    (reply Accepted (out 4 2 0 0 ∷ []) (kiosk (state four Running (stand 2 Propose true false false false) none none (log [] [] [] [])) 53 15))
    (table [])
    (timed 7 (4 ∷ 2 ∷ []))

-- round 15, its precommit timer asked for or not
abbrev pub last_round : Bool → Kiosk
last_round precommit = kiosk (state four Running (stand 15 Propose true false precommit false) none none (log [] [] [] [])) 15 15

-- ## All calls

unfoldable pub calls : List Put
calls =
    takes four voting none none ∷
    -- 1: "the roll is outside the numbers; own number not on it"
    denies Impossible (stands (roll 0 [] 0 1) Running voting none none) ∷
    denies Impossible (stands (roll 33 (1 ∷ 1 ∷ 1 ∷ 1 ∷ []) 0 1) Running voting none none) ∷
    takes (roll 4 (1 ∷ 1 ∷ 1 ∷ 1000 ∷ []) 0 1) voting none none ∷
    denies Impossible (stands (roll 4 (1 ∷ 1 ∷ 1 ∷ 1001 ∷ []) 0 1) Running voting none none) ∷
    denies Impossible (stands (roll 4 [] 0 1) Running voting none none) ∷
    takes (roll 4 (1 ∷ 1 ∷ 1 ∷ 1 ∷ []) 3 1) voting none none ∷
    denies Impossible (stands (roll 4 (1 ∷ 1 ∷ 1 ∷ 1 ∷ []) 4 1) Running voting none none) ∷
    -- 1: "table not 1,040 long; used length below the header or over the area; last group's start over the used length"
    refuses Impossible vote (kiosk base 15 15) (spread 0 1039 (at 0 50 ∷ at 1 50 ∷ [])) (sevens 43) ∷
    refuses Impossible vote (kiosk base 15 15) (spread 0 1041 (at 0 50 ∷ at 1 50 ∷ [])) (sevens 43) ∷
    refuses Impossible vote (kiosk base 14 14) fifty (sevens 43) ∷
    refuses Impossible vote (kiosk base 44 15) fifty (sevens 43) ∷
    refuses Impossible vote (kiosk base 15 16) fifty (sevens 43) ∷
    -- 1: "round or settled round over 15"
    takes four (stand 15 Prevote true false false false) none none ∷
    denies Impossible (stands four Running (stand 16 Prevote true false false false) none none) ∷
    denies AlreadySettled (stands four (Settled (record { 0 = 15 })) voting none none) ∷
    -- 1: "a mark for a seat not on the roll"
    takes_5 8 0 0 0 0 ∷
    denies_5 16 0 0 0 0 ∷
    takes_5 0 8 0 0 0 ∷
    denies_5 0 16 0 0 0 ∷
    -- 1: "locked or valid round outside -1 to the current round, or -1 without name 0 or the reverse"
    takes four voting (held 1 50) none ∷
    denies Impossible (stands four Running voting (held 2 50) none) ∷
    denies Impossible (stands four Running voting (held 1 0) none) ∷
    denies Impossible (stands four Running voting (held 0 50) none) ∷
    takes four voting none (held 1 50) ∷
    denies Impossible (stands four Running voting none (held 2 50)) ∷
    denies Impossible (stands four Running voting none (held 1 0)) ∷
    denies Impossible (stands four Running voting none (held 0 50)) ∷
    -- not 1, whatever number says that a proposal is heard: 1 is a bad one, and every other a good one, which prevotes can lock
    takes_5 0 0 1 0 7 ∷
    takes_5 0 0 2 0 7 ∷
    takes_5 0 0 3 0 7 ∷
    puts (prevotes 2 0 50) (kiosk (state four Running voting none none (log (at 0 3 ∷ []) [] (at 0 3 ∷ []) [])) 15 15)
    (table (at 0 50 ∷ at 1 50 ∷ at 2 50 ∷ []))
    (sevens 65)
    (reply Accepted (out 5 0 0 0 ∷ out 3 0 0 50 ∷ [])
    (kiosk (state four Running (stand 0 Precommit true true false true) (held 1 50) (held 1 50) (log (at 0 7 ∷ []) (at 0 1 ∷ []) (at 0 3 ∷ []) [])) 65 15))
    (table (at 0 50 ∷ at 1 50 ∷ at 2 50 ∷ at 3 50 ∷ at 33 50 ∷ []))
    (sevens 15 ++ bytes.prevoted_by_2) ∷
    -- 1: "a heard proposal with name 0 or a valid round below -1 or not below its own"
    takes_5 0 0 2 5 7 ∷
    denies_5 0 0 2 6 7 ∷
    denies_5 0 0 2 0 0 ∷
    -- 1: "not started yet with anything heard, a table place not 0, a round not 0, or a lock or valid sheet held"
    does_not_start (unstarted 0 none none 0 0 2) (table (at 975 7 ∷ [])) ∷
    does_not_start (unstarted 0 none none 1 0 0) (table []) ∷
    does_not_start (unstarted 0 none none 0 1 0) (table []) ∷
    does_not_start (fresh four) (table (at 1039 1 ∷ [])) ∷
    does_not_start (unstarted 1 none none 0 0 0) (table []) ∷
    does_not_start (unstarted 0 (held 1 5) none 0 0 0) (table []) ∷
    does_not_start (unstarted 0 none (held 1 5) 0 0 0) (table []) ∷
    -- 1: "started, not settled and some rule already applies"
    denies Impossible (stands four Running (stand 0 Propose true false false false) none none) ∷
    -- 1 before 2; 2 before 3; 3 before 4, at a start and at anything else; 4 before 5; 5 before 6; 6 before 7; 7 before 8 and 9
    denies Impossible (stands four (Settled (record { 0 = 16 })) voting none none) ∷
    refuses AlreadySettled starts (kiosk (stands four (Settled (record { 0 = 0 })) voting none none) 15 15) fifty (sevens 43) ∷
    declines OutOfOrder (input 1 0 0 0 0 0 9 2) ∷
    refuses OutOfOrder (input 9 9 99 9 9 9 9 2) (kiosk (fresh four) 15 15) (table []) (sevens 43) ∷
    declines OtherHeight (input 9 9 99 9 9 9 9 2) ∷
    declines BadField (input 4 0 0 1 0 50 9 1) ∷
    declines OwnNumber (proposes 0 0 50) ∷
    declines NotProposer (proposes 3 0 50) ∷
    declines NotProposer (proposes 3 0 51) ∷
    -- 4 alone; 5: kind, sender, round; then the fields of a vote, a proposal, a timer, a start
    declines OtherHeight (input 3 1 0 0 0 50 9 0) ∷
    declines BadField (input 0 0 0 0 0 0 9 1) ∷
    declines BadField (input 8 0 0 0 0 0 9 1) ∷
    declines BadField (prevotes 4 0 50) ∷
    declines BadField (prevotes 1 16 50) ∷
    declines BadField (input 3 1 0 1 0 50 9 1) ∷
    declines BadField (input 4 1 0 0 1 50 9 1) ∷
    declines BadField (proposes 2 1 0) ∷
    declines BadField (input 2 2 1 2 1 60 9 1) ∷
    declines BadField (input 2 2 1 0 2 60 9 1) ∷
    declines BadField (input 7 1 0 0 0 0 9 1) ∷
    declines BadField (input 7 0 0 0 0 1 9 1) ∷
    declines BadField (input 7 0 0 1 0 0 9 1) ∷
    declines BadField (input 7 0 0 0 1 0 9 1) ∷
    refuses BadField (input 1 0 1 0 0 0 9 1) (kiosk (fresh four) 15 15) (table []) (sevens 60) ∷
    -- 6 for each message; 8 and 9 at each kind of place: same name, other name, other valid round, other verdict
    declines OwnNumber (prevotes 0 5 50) ∷
    declines OwnNumber (precommits 0 0 50) ∷
    declines HeardSame (proposes 1 0 50) ∷
    declines HeardSame (input 2 1 0 0 0 50 9 1) ∷
    declines HeardOther (proposes 1 0 51) ∷
    refuses HeardSame vote (kiosk (state four Running voting none none (log (at 0 3 ∷ []) [] (at 0 2 ∷ []) [])) 15 15) (table (at 0 50 ∷ at 1 50 ∷ at 2 50 ∷ [])) (sevens 43) ∷
    refuses HeardOther vote (kiosk (state four Running voting none none (log (at 0 3 ∷ []) [] (at 0 2 ∷ []) [])) 15 15) fifty (sevens 43) ∷
    refuses HeardSame (precommits 1 0 50)
    (kiosk (state four Running voting none none (log (at 0 1 ∷ []) (at 0 2 ∷ []) (at 0 2 ∷ []) [])) 15 15) (table (at 0 50 ∷ at 1 50 ∷ at 34 50 ∷ [])) (sevens 43) ∷
    refuses HeardOther (precommits 1 0 0)
    (kiosk (state four Running voting none none (log (at 0 1 ∷ []) (at 0 2 ∷ []) (at 0 2 ∷ []) [])) 15 15) (table (at 0 50 ∷ at 1 50 ∷ at 34 50 ∷ [])) (sevens 43) ∷
    refuses HeardOther (proposes 2 5 7)
    (kiosk (round_5 0 0 2 5) 15 15) (table (at 0 50 ∷ at 1 50 ∷ at 325 7 ∷ [])) (sevens 43) ∷
    refuses HeardSame (input 2 2 5 5 1 7 9 1)
    (kiosk (round_5 0 0 2 5) 15 15) (table (at 0 50 ∷ at 1 50 ∷ at 325 7 ∷ [])) (sevens 43) ∷
    -- a name in a place that is not heard is no message
    puts vote (kiosk base 15 15) (table (at 0 50 ∷ at 1 50 ∷ at 2 51 ∷ [])) (sevens 43)
    (reply Accepted [] (kiosk (state four Running voting none none (log (at 0 3 ∷ []) [] (at 0 2 ∷ []) [])) 41 15))
    (table (at 0 50 ∷ at 1 50 ∷ at 2 50 ∷ []))
    (sevens 15 ++ voted ++ sevens 2) ∷
    -- 10: each timer at each step, asked for and not
    not_due 5 1 Propose false true true ∷
    not_due 5 1 Prevote true true true ∷
    not_due 5 1 Prevote false true true ∷
    not_due 5 1 Precommit true true true ∷
    not_due 5 1 Precommit false true true ∷
    not_due 6 1 Propose true true true ∷
    not_due 6 1 Propose true false true ∷
    not_due 6 1 Prevote true false true ∷
    not_due 6 1 Precommit true true true ∷
    not_due 6 1 Precommit true false true ∷
    not_due 7 1 Propose true true false ∷
    not_due 7 1 Prevote true true false ∷
    not_due 7 1 Precommit true true false ∷
    -- of the round before and the round after
    not_due 5 0 Propose true true true ∷
    not_due 5 2 Propose true true true ∷
    not_due 6 0 Prevote true true true ∷
    not_due 6 2 Prevote true true true ∷
    not_due 7 0 Precommit true true true ∷
    not_due 7 2 Precommit true true true ∷
    -- those that are due
    puts (timer 5 1) (waits Propose true false false) (table []) (sevens 60)
    (reply Accepted (out 2 1 0 0 ∷ []) (kiosk (state four Running (stand 1 Prevote true false false false) none none (log (at 1 1 ∷ []) [] [] [])) 53 15))
    (table [])
    (timed 5 (2 ∷ 1 ∷ [])) ∷
    puts (timer 6 1) (waits Prevote false true false) (table []) (sevens 60)
    (reply Accepted (out 3 1 0 0 ∷ []) (kiosk (state four Running (stand 1 Precommit false true false false) none none (log [] (at 1 1 ∷ []) [] [])) 53 15))
    (table [])
    (timed 6 (3 ∷ 1 ∷ [])) ∷
    next_round Propose true true ∷
    next_round Prevote false true ∷
    next_round Precommit true false ∷
    -- 10 before 11; 11; 11 before 12; 9 and 10 before 12; 12: room exact, and one short
    refuses TimerNotDue (timer 7 15) (last_round false) (table []) (sevens 60) ∷
    refuses LastRound (timer 7 15) (last_round true) (table []) (sevens 60) ∷
    refuses LastRound (timer 7 15) (last_round true) (table []) (sevens 15) ∷
    refuses HeardOther (proposes 1 0 51) (kiosk base 15 15) fifty (sevens 15) ∷
    refuses TimerNotDue (timer 7 0) (kiosk base 15 15) fifty (sevens 15) ∷
    refuses NoRoom vote (kiosk base 15 15) fifty (sevens 40) ∷
    puts vote (kiosk base 15 15) fifty (sevens 41)
    (reply Accepted [] (kiosk (state four Running voting none none (log (at 0 3 ∷ []) [] (at 0 2 ∷ []) [])) 41 15))
    (table (at 0 50 ∷ at 1 50 ∷ at 2 50 ∷ []))
    (sevens 15 ++ voted) ∷
    -- 12 takes back what the rules wrote: the start of a kiosk alone, one byte short of its 98
    refuses NoRoom (input 1 0 0 0 0 0 5 7) (kiosk (fresh (roll 1 (1 ∷ []) 0 7)) 9 9) (table []) (sevens 106) ∷
    []

-- ## Openings

-- a journal whose opening fails: the table, which held sevens, is then all 0
abbrev pub fails : Answer → List ℕ → Opening Reply
fails answer b = opens b (length b) (sevens 1040) (reply answer [] unopened) (table [])

-- four kiosks, nothing put yet; and started
abbrev pub begun : Kiosk
begun = kiosk (fresh four) 15 15

abbrev pub running : Kiosk
running = kiosk (state four Running (stand 0 Propose true false false false) none none (log [] [] [] [])) 53 15

abbrev pub opens_as : Kiosk → List ℕ → Opening Reply
opens_as k b = opens b (length b) (sevens 1040) (reply Accepted [] k) (table [])

-- the header with all powers 0
abbrev pub powers_0 : List ℕ
powers_0 = 4 ∷ 0 ∷ 0 ∷ 0 ∷ 0 ∷ 0 ∷ 0 ∷ 0 ∷ 0 ∷ 5 ∷ 0 ∷ 1 ∷ 0 ∷ 0 ∷ 0 ∷ []

-- what the whole height leaves
abbrev pub settled : Kiosk
settled =
    kiosk
    (state four (Settled (record { 0 = 3 })) (stand 3 Precommit false true true true) (held 4 18446744073709551615) (held 4 18446744073709551615)
    (log (at 0 7 ∷ at 1 1 ∷ at 3 7 ∷ []) (at 0 7 ∷ at 3 7 ∷ []) (at 1 2 ∷ at 3 2 ∷ []) []))
    509 459

abbrev pub settled_table : List ℕ
settled_table =
    table
    (at 3 18446744073709551613 ∷
    at 65 18446744073709551614 ∷
    at 66 18446744073709551614 ∷
    at 195 18446744073709551615 ∷
    at 196 18446744073709551615 ∷
    at 197 18446744073709551615 ∷
    at 198 18446744073709551615 ∷
    at 228 18446744073709551615 ∷
    at 229 18446744073709551615 ∷
    at 230 18446744073709551615 ∷
    [])

unfoldable pub openings : List (Opening Reply)
openings =
    -- 1 before 13: a table of another length, a used length over the area; the table stays
    opens [] 0 (sevens 1039) (reply Impossible [] unopened) (sevens 1039) ∷
    opens [] 0 (sevens 1041) (reply Impossible [] unopened) (sevens 1041) ∷
    opens header 16 (sevens 1040) (reply Impossible [] unopened) (sevens 1040) ∷
    -- "Header order: no first byte 13; n not 1 to 32, 14 at 0; too short 13; a bad power or total 14 at 1; a bad second section 14 at 1 + 2n"
    fails HeaderShort [] ∷
    fails (Damaged 0) (0 ∷ []) ∷
    fails (Damaged 0) (33 ∷ []) ∷
    fails HeaderShort (32 ∷ []) ∷
    fails (Damaged 0) (set header 0 0) ∷
    fails HeaderShort (set header 0 32) ∷
    fails HeaderShort (take 14 (set header 1 255)) ∷
    fails HeaderShort (take 14 header) ∷
    opens_as (kiosk (fresh (roll 4 (1 ∷ 1 ∷ 1 ∷ 1000 ∷ []) 0 1)) 15 15) (set (set header 7 232) 8 3) ∷
    fails (Damaged 1) (set (set header 7 233) 8 3) ∷
    fails (Damaged 1) powers_0 ∷
    fails (Damaged 1) (set powers_0 9 6) ∷
    fails (Damaged 9) (set header 9 6) ∷
    fails (Damaged 9) (set header 9 4) ∷
    fails (Damaged 9) (set header 10 4) ∷
    opens_as (kiosk (fresh (roll 4 (1 ∷ 1 ∷ 1 ∷ 1 ∷ []) 3 1)) 15 15) (set header 10 3) ∷
    opens_as begun header ∷
    -- "Bytes past the used length are no part of the journal."
    opens (header ++ sevens 3) 15 (sevens 1040) (reply Accepted [] begun) (table []) ∷
    -- "Fewer than 25 bytes left: unfinished if the first is 24. Otherwise the first must be 24"
    opens_as begun (header ++ take 1 bytes.starts) ∷
    opens_as begun (header ++ take 24 (set bytes.starts 1 99)) ∷
    fails (Damaged 15) (header ++ (25 ∷ [])) ∷
    fails (Damaged 15) (header ++ (23 ∷ [])) ∷
    fails (Damaged 15) (header ++ set bytes.starts 0 23) ∷
    -- "the input one that, room aside, is accepted there with its zeros 0": each of the three, and inputs that are refused
    fails (Damaged 15) (header ++ set bytes.starts 6 1) ∷
    fails (Damaged 15) (header ++ set bytes.starts 7 1) ∷
    fails (Damaged 15) (header ++ set bytes.starts 8 1) ∷
    fails (Damaged 15) (header ++ take 25 (set bytes.starts 1 99)) ∷
    fails (Damaged 15) (header ++ set bytes.starts 3 1) ∷
    fails (Damaged 53) (header ++ bytes.starts ++ bytes.starts) ∷
    fails (Damaged 53) (header ++ bytes.starts ++ bytes.timed_out) ∷
    fails (Damaged 79) (header ++ bytes.starts ++ bytes.prevote_ahead ++ bytes.prevote_ahead) ∷
    -- "the following bytes must equal the expected ones as far as they go; too few means unfinished"
    opens_as begun (header ++ take 25 bytes.starts) ∷
    opens_as begun (header ++ take 26 bytes.starts) ∷
    opens_as begun (header ++ take 37 bytes.starts) ∷
    fails (Damaged 15) (header ++ take 26 (set bytes.starts 25 2)) ∷
    fails (Damaged 15) (header ++ take 30 (set bytes.starts 26 5)) ∷
    fails (Damaged 15) (header ++ set bytes.starts 37 1) ∷
    opens_as running (header ++ bytes.starts) ∷
    opens_as running (header ++ bytes.starts ++ (24 ∷ [])) ∷
    fails (Damaged 53) (header ++ bytes.starts ++ (0 ∷ [])) ∷
    -- the whole height; "Nothing may follow settling: any byte there is damage."
    opens height 509 (sevens 1040) (reply Accepted [] settled) settled_table ∷
    fails (Damaged 509) (height ++ (24 ∷ [])) ∷
    fails (Damaged 459) (set height 508 0) ∷
    fails (Damaged 107) (journal_107 ++ (24 ∷ [])) ∷
    []

-- ## Creatings: 15 in each clause and before 12, room exact and one short; the bytes after the header stay

abbrev pub thirty_two : List ℕ
thirty_two = replicate 32 1000

unfoldable pub creatings : List (Creating Made)
creatings =
    creates (1 ∷ 1 ∷ 1 ∷ 1 ∷ []) 0 1 (sevens 20) (made Accepted 15) (header ++ sevens 5) ∷
    creates (1 ∷ 1 ∷ 1 ∷ 1 ∷ []) 3 1 (sevens 15) (made Accepted 15) (set header 10 3) ∷
    creates (1 ∷ 1 ∷ 1 ∷ 1 ∷ []) 3 1 (sevens 14) (made NoRoom 0) (sevens 14) ∷
    creates (1 ∷ 1 ∷ 1 ∷ 1 ∷ []) 4 1 (sevens 14) (made BadRoll 0) (sevens 14) ∷
    creates (1 ∷ 1 ∷ 1 ∷ 1 ∷ []) 4 1 (sevens 20) (made BadRoll 0) (sevens 20) ∷
    creates [] 0 1 (sevens 9) (made BadRoll 0) (sevens 9) ∷
    creates (1001 ∷ []) 0 1 (sevens 9) (made BadRoll 0) (sevens 9) ∷
    creates (0 ∷ 0 ∷ []) 0 1 (sevens 11) (made BadRoll 0) (sevens 11) ∷
    creates (0 ∷ 1 ∷ []) 0 1 (sevens 11) (made Accepted 11) (2 ∷ 0 ∷ 0 ∷ 1 ∷ 0 ∷ 5 ∷ 0 ∷ 1 ∷ 0 ∷ 0 ∷ 0 ∷ []) ∷
    creates (1000 ∷ []) 0 4294967295 (sevens 9) (made Accepted 9) (1 ∷ 232 ∷ 3 ∷ 5 ∷ 0 ∷ 255 ∷ 255 ∷ 255 ∷ 255 ∷ []) ∷
    creates thirty_two 31 67305985 (sevens 72) (made Accepted 71)
    (32 ∷ 232 ∷ 3 ∷ 232 ∷ 3 ∷ 232 ∷ 3 ∷ 232 ∷ 3 ∷ 232 ∷ 3 ∷ 232 ∷ 3 ∷ 232 ∷ 3 ∷ 232 ∷ 3 ∷ 232 ∷ 3 ∷ 232 ∷ 3 ∷ 232 ∷ 3 ∷ 232 ∷ 3 ∷ 232 ∷ 3 ∷ 232 ∷ 3 ∷ 232 ∷ 3 ∷ 232 ∷ 3 ∷ 232 ∷ 3 ∷ 232 ∷ 3 ∷ 232 ∷ 3 ∷ 232 ∷ 3 ∷ 232 ∷ 3 ∷ 232 ∷ 3 ∷ 232 ∷ 3 ∷ 232 ∷ 3 ∷ 232 ∷ 3 ∷ 232 ∷ 3 ∷ 232 ∷ 3 ∷ 232 ∷ 3 ∷ 232 ∷ 3 ∷ 232 ∷ 3 ∷ 232 ∷ 3 ∷ 232 ∷ 3 ∷
    5 ∷ 31 ∷ 1 ∷ 2 ∷ 3 ∷ 4 ∷ 7 ∷ []) ∷
    creates (replicate 33 1) 0 1 (sevens 99) (made BadRoll 0) (sevens 99) ∷
    []

-- ## The last whole group

unfoldable pub showings : List (Showing Kiosk (List ℕ) (List ℕ))
showings =
    shows (kiosk (fresh four) 5 2) (1 ∷ 2 ∷ 3 ∷ 4 ∷ 5 ∷ 6 ∷ []) (3 ∷ 4 ∷ 5 ∷ []) ∷
    shows (kiosk (fresh four) 6 0) (1 ∷ 2 ∷ 3 ∷ 4 ∷ 5 ∷ 6 ∷ []) (1 ∷ 2 ∷ 3 ∷ 4 ∷ 5 ∷ 6 ∷ []) ∷
    shows (kiosk (fresh four) 5 5) (1 ∷ 2 ∷ 3 ∷ 4 ∷ 5 ∷ 6 ∷ []) [] ∷
    shows (kiosk (fresh four) 4 5) (1 ∷ 2 ∷ 3 ∷ 4 ∷ 5 ∷ 6 ∷ []) [] ∷
    shows (kiosk (fresh four) 7 2) (1 ∷ 2 ∷ 3 ∷ 4 ∷ 5 ∷ 6 ∷ []) [] ∷
    []

unfoldable pub made_up : Calls
unfolding calls openings creatings showings
made_up = record { calls = calls; openings = openings; creatings = creatings; showings = showings }

-- ## A whole height, told input by input

abbrev pub whole_height : Telling
whole_height =
    tells
    (starts ∷
    timer 5 0 ∷
    prevotes 1 0 0 ∷
    prevotes 2 0 18446744073709551613 ∷
    timer 6 0 ∷
    precommits 1 0 0 ∷
    precommits 2 0 0 ∷
    timer 7 0 ∷
    proposes 2 1 18446744073709551614 ∷
    prevotes 1 3 18446744073709551615 ∷
    input 3 2 3 0 0 18446744073709551615 18446744073709551615 1 ∷
    precommits 1 3 18446744073709551615 ∷
    precommits 2 3 18446744073709551615 ∷
    [])
    (reply Accepted (out 6 3 0 0 ∷ out 7 3 0 18446744073709551615 ∷ []) settled)
    settled_table
    (filled height)
    call_13

-- The voting state: tests on its enums, the state before start, and the state with a part of it changed. 01, "Lent table and state".
-- Assumes nothing.
use Rattle.std.specs.Prelude.{ℕ, suc, ◌+◌, ◌*◌, List, Bool, true, false, ◌&&◌, not, eqb, leb, replicate}
use Rattle.roll.specs.declared.Roll.{Roll}
use Rattle.rules.specs.declared.Phase.{Phase}
use Rattle.rules.specs.declared.Phase.TheVariants.{Fresh, Running, Settled}
use Rattle.rules.specs.declared.Step.{Step}
use Rattle.rules.specs.declared.Step.TheVariants.{Propose, Prevote, Precommit}
use Rattle.rules.specs.declared.Votes.{Votes}
use Rattle.rules.specs.declared.Votes.TheVariants.{Prevotes, Precommits}
use Rattle.rules.specs.declared.Asked.{Asked}
use Rattle.rules.specs.declared.Stand.{Stand}
use Rattle.rules.specs.declared.Held.{Held}
use Rattle.rules.specs.declared.Heard.{Heard}
use Rattle.rules.specs.declared.Progress.{Progress}
use Rattle.rules.specs.declared.State.{State}

-- "rounds 0 to 15": how many rounds the table and the log have places for, and how many a kiosk in this state may enter. Every
-- other definition asks here
abbrev pub most_rounds : ℕ
most_rounds = 16

abbrev pub rounds_of : State → ℕ
rounds_of s = most_rounds

-- the log: four numbers a round, those of `Heard` in their order; where each stands
abbrev pub log_per_round : ℕ
log_per_round = 4

abbrev pub log_length : ℕ
log_length = log_per_round * most_rounds

abbrev pub marks_at : Votes → ℕ → ℕ
marks_at Prevotes r = log_per_round * r
marks_at Precommits r = log_per_round * r + 1

abbrev pub proposal_at : ℕ → ℕ
proposal_at r = log_per_round * r + 2

abbrev pub valid_at : ℕ → ℕ
valid_at r = log_per_round * r + 3

-- tests on the two enums
abbrev pub is_fresh : Phase → Bool
is_fresh Fresh = true
is_fresh Running = false
is_fresh (Settled r) = false

abbrev pub is_running : Phase → Bool
is_running Fresh = false
is_running Running = true
is_running (Settled r) = false

abbrev pub is_settled : Phase → Bool
is_settled Fresh = false
is_settled Running = false
is_settled (Settled r) = true

abbrev pub settled_round : Phase → ℕ
settled_round Fresh = 0
settled_round Running = 0
settled_round (Settled r) = r.0

abbrev pub is_propose : Step → Bool
is_propose Propose = true
is_propose Prevote = false
is_propose Precommit = false

abbrev pub is_prevote : Step → Bool
is_prevote Propose = false
is_prevote Prevote = true
is_prevote Precommit = false

-- the seats whose votes of a type are heard of a round, and a round with other such seats
abbrev pub marks_of : Votes → Heard → ℕ
marks_of Prevotes h = h.prevotes
marks_of Precommits h = h.precommits

abbrev pub with_marks : Votes → ℕ → Heard → Heard
with_marks Prevotes m h = record { prevotes = m; precommits = h.precommits; proposal = h.proposal; valid = h.valid }
with_marks Precommits m h = record { prevotes = h.prevotes; precommits = m; proposal = h.proposal; valid = h.valid }

-- nothing is heard of a round
abbrev pub unheard : Heard → Bool
unheard h = eqb h.proposal 0 && eqb h.prevotes 0 && eqb h.precommits 0

-- the round's proposal is heard; and it is heard good: "a verdict on the sheet (1 good, 0 bad)". 0 is none, 1 a bad one, and every other
-- number a good one
abbrev pub spoken : Heard → Bool
spoken h = not (eqb h.proposal 0)

abbrev pub good : Heard → Bool
good h = leb 2 h.proposal

-- the log in which nothing is heard
abbrev pub empty_log : List ℕ
empty_log = replicate log_length 0

-- no sheet is held: 003's nil and -1
abbrev pub nothing : Held
nothing = record { next = record { 0 = 0 }; name = 0 }

-- the sheet of this name, held from round r
abbrev pub held : ℕ → ℕ → Held
held r name = record { next = record { 0 = suc r }; name = name }

-- lines 12 and 13, a round as it is entered. '"For the first time" (34, 36, 47) means once per round entered'
abbrev pub entered : ℕ → Stand
entered r = record {
  round = record { 0 = r };
  step = Propose;
  asked = record { propose = false; prevote = false; precommit = false };
  backed = false;
}

-- lines 1 to 9: the state before start
abbrev pub before_start : Roll → State
before_start roll = record {
  roll = roll;
  progress = record { phase = Fresh; stand = entered 0; locked = nothing; valid = nothing };
  log = empty_log;
}

-- the progress with one part changed
abbrev pub in_phase : Phase → Progress → Progress
in_phase p v = record { phase = p; stand = v.stand; locked = v.locked; valid = v.valid }

abbrev pub standing : Stand → Progress → Progress
standing t v = record { phase = v.phase; stand = t; locked = v.locked; valid = v.valid }

abbrev pub locking : Held → Progress → Progress
locking h v = record { phase = v.phase; stand = v.stand; locked = h; valid = v.valid }

abbrev pub validating : Held → Progress → Progress
validating h v = record { phase = v.phase; stand = v.stand; locked = v.locked; valid = h }

-- the state with one part changed
abbrev pub with_progress : Progress → State → State
with_progress v s = record { roll = s.roll; progress = v; log = s.log }

abbrev pub with_log : List ℕ → State → State
with_log l s = record { roll = s.roll; progress = s.progress; log = l }

abbrev pub with_phase : Phase → State → State
with_phase p s = with_progress (in_phase p s.progress) s

abbrev pub with_stand : Stand → State → State
with_stand t s = with_progress (standing t s.progress) s

abbrev pub with_locked : Held → State → State
with_locked h s = with_progress (locking h s.progress) s

abbrev pub with_valid : Held → State → State
with_valid h s = with_progress (validating h s.progress) s

-- a state of its parts, as the steps of a call have it: the log is lent to them
abbrev pub state_of : Roll → Progress → List ℕ → State
state_of roll v l = record { roll = roll; progress = v; log = l }

-- the same round at another step, with other timers asked for, and after rule 36
abbrev pub with_step : Step → Stand → Stand
with_step p t = record { round = t.round; step = p; asked = t.asked; backed = t.backed }

abbrev pub with_asked : Asked → Stand → Stand
with_asked a t = record { round = t.round; step = t.step; asked = a; backed = t.backed }

abbrev pub with_backed : Stand → Stand
with_backed t = record { round = t.round; step = t.step; asked = t.asked; backed = true }

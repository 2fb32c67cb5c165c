-- How many bytes a journal can still take: the count behind "In an area of 1,811 + 834n bytes .. never refused for room". 01, "Journal".
-- Assumes nothing.
use Rattle.std.specs.Prelude.{ℕ, zero, suc, ◌+◌, ◌*◌, ◌-◌, List, ◌||◌, eqb, if◌then◌else◌}
use Rattle.words.specs.Marks.{marked}
use Rattle.roll.specs.declared.Roll.{Roll}
use Rattle.rules.specs.declared.Heard.{Heard}
use Rattle.rules.specs.declared.Phase.{Phase}
use Rattle.rules.specs.declared.Phase.TheVariants.{Fresh, Running, Settled}
use Rattle.rules.specs.declared.Stand.{Stand}
use Rattle.rules.specs.State.{spoken}
use Rattle.rules.specs.Log.{Desk, told}
use Rattle.rules.specs.InContracts.Room.{steps_left, unless}

unfoldable pub sum_below : ℕ → (ℕ → ℕ) → ℕ
sum_below zero f = 0
sum_below (suc n) f = sum_below n f + f n

-- the other seats that have no mark yet
unfoldable pub unmarked : ℕ → ℕ → ℕ → ℕ
unmarked n own marks = sum_below n (λ i. if marked marks i || eqb own i then 0 else 1)

-- the messages of a round that can still be put: a vote of each type from each other seat, and the proposal
unfoldable pub messages_left : Roll → Heard → ℕ
messages_left roll h = unmarked roll.kiosks roll.own h.prevotes + unmarked roll.kiosks roll.own h.precommits + unless (spoken h)

unfoldable pub all_messages_left : ℕ → Roll → List ℕ → ℕ
all_messages_left rounds roll l = sum_below rounds (λ r. messages_left roll (told l r))

-- Bytes that the timers and the outputs can still take. A round ahead: three timers of 26 and five outputs of 12. The current round: a
-- timer and a vote for each step, and the two timers not asked for yet
unfoldable pub stand_left : ℕ → Stand → ℕ
stand_left rounds s =
    138 * (rounds - suc s.round.0) + 38 * steps_left s.step + 12 * (unless s.asked.prevote + unless s.asked.precommit)

-- and settling; before start: start, and all rounds
unfoldable pub phase_left : Phase → ℕ → Stand → ℕ
phase_left Fresh rounds s = 138 * rounds + 12
phase_left Running rounds s = 12 + stand_left rounds s
phase_left (Settled r) rounds s = 0

-- all of it: a message takes 26, and its outputs are counted above
unfoldable pub bytes_left : Desk → ℕ
bytes_left d = phase_left d.state.progress.phase d.rounds d.state.progress.stand + 26 * all_messages_left d.rounds d.state.roll d.state.log

-- What a journal of n kiosks can take in all, for any number of rounds: the header, settling, and for each round 26 * (2n - 1) bytes of
-- messages from others and 138 of timers (or start) and outputs
abbrev pub room_for : ℕ → ℕ → ℕ
room_for n rounds = 19 + 2 * n + 112 * rounds + 52 * (n * rounds)

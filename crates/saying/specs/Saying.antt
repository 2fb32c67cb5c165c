-- What a run says first, of a record, of a new journal, and of a line that is no input. Assumes nothing.
use Rattle.std.specs.Prelude.{ℕ, ◌≤◌, ◌≡◌, List, [], ◌∷◌, ◌++◌, length}
use Rattle.words.specs.Bytes.{in_order}
use Rattle.rules.specs.declared.Output.{Output}
use Rattle.rules.specs.declared.Sent.{Sent}
use Rattle.rules.specs.Log.{empty_table}
use Rattle.rules.specs.Sent.{packed}
use Rattle.journal.specs.Readback.{count_of}
use Rattle.again.specs.Again.{Waking, wake}
use Rattle.listing.specs.Text.{decimal, line}
use Rattle.listing.specs.Listing.{out_line, out_lines}

-- `again`, `accepted`, `created`, `bad`, `line`
abbrev pub again_word : List ℕ
again_word = 97 ∷ 103 ∷ 97 ∷ 105 ∷ 110 ∷ []

abbrev pub accepted_word : List ℕ
accepted_word = 97 ∷ 99 ∷ 99 ∷ 101 ∷ 112 ∷ 116 ∷ 101 ∷ 100 ∷ []

abbrev pub created_word : List ℕ
created_word = 99 ∷ 114 ∷ 101 ∷ 97 ∷ 116 ∷ 101 ∷ 100 ∷ []

abbrev pub bad_word : List ℕ
bad_word = 98 ∷ 97 ∷ 100 ∷ []

abbrev pub line_word : List ℕ
line_word = 108 ∷ 105 ∷ 110 ∷ 101 ∷ []

abbrev pub again_line : ℕ → ℕ → List ℕ
again_line messages timers = line (again_word ∷ decimal messages ∷ decimal timers ∷ [])

abbrev pub accepted_line : ℕ → List ℕ
accepted_line count = line (accepted_word ∷ decimal count ∷ [])

abbrev pub created_line : ℕ → List ℕ
created_line size = line (created_word ∷ decimal size ∷ [])

abbrev pub bad_line : ℕ → List ℕ
bad_line n = line (bad_word ∷ line_word ∷ decimal n ∷ [])

-- how many messages and how many timers follow, and a line for each, as accepted calls have them
unfoldable pub again_said : List Output → List Output → List ℕ
again_said messages timers = again_line (length messages) (length timers) ++ (in_order out_line messages ++ in_order out_line timers)

-- waking by a journal's bytes; both lists are the same by any table
abbrev pub woken : List ℕ → Waking
woken b = wake b (length b) empty_table

-- what a run says first: both lists of its journal
abbrev pub first_said : List ℕ → List ℕ
first_said b = again_said (woken b).messages (woken b).timers

-- these are both lists of a journal, and few
pub record Lists (b : List ℕ) (messages timers : Sent) : Type 0 where
  pub messages_are : messages ≡ packed (woken b).messages
  pub timers_are : timers ≡ packed (woken b).timers
  pub few_messages : messages.count ≤ 6
  pub few_timers : timers.count ≤ 2

-- the answer to an accepted call, read out of the group that records it: how many outputs follow, and their lines as the lister has them
unfoldable pub said : List ℕ → List ℕ
said group = accepted_line (count_of group) ++ out_lines (count_of group) group

-- the room that every answer fits: 8 out lines of at most 81 bytes, and a first line of at most 48
abbrev pub said_room : ℕ
said_room = 1024

-- A list that grows in six places, and what both lists rely on. Assumes nothing.
use Rattle.std.specs.Prelude.{ℕ, ◌≤◌, ◌≡◌, Bool, true, not, List, ◌++◌, length, ltb, if◌then◌else◌}
use Rattle.words.specs.Bytes.{overwrite}
use Rattle.roll.specs.Weighing.{most_kiosks}
use Rattle.rules.specs.declared.Output.{Output}
use Rattle.rules.specs.declared.Sent.{Sent}
use Rattle.rules.specs.Log.{desk}
use Rattle.rules.specs.declared.desk.Desk as lent
use Rattle.rules.specs.InContracts.Lent.{shown}
use Rattle.rules.specs.Sent.{packed}
use Rattle.rules.specs.InContracts.Ready.{so_far}
use Rattle.journal.specs.Layout.{header_length}
use Rattle.refusals.specs.Possible.{desk_fits}
use Rattle.kiosk.specs.declared.Kiosk.{Kiosk}
use Rattle.kiosk.specs.declared.Course.{Course}
use Rattle.again.specs.Again.{messages}

-- a list has room for these outputs after its own
abbrev pub Takes : Sent → List Output → Type 0
Takes s os = (s ≡ packed (so_far s)) × (length (so_far s ++ os) ≤ 6)

-- both lists are laid over the start of an area that they fit; else it is as it was
abbrev pub LaysBoth : List ℕ → List ℕ → Bool → List ℕ → Type 0
LaysBoth lists before fits after =
    (fits ≡ not (ltb (length before) (length lists))) × (after ≡ (if fits then overwrite before 0 lists else before))

-- what opening some bytes gave: the groups are there, their messages are few, and the state and the table are possible
pub record Awake (k : Kiosk) (b table : List ℕ) : Type 0 where
  pub few_kiosks : k.state.roll.kiosks ≤ most_kiosks
  pub after_header : header_length k.state.roll ≤ k.used
  pub there : k.used ≤ length b
  pub few : length (messages k b) ≤ 6
  pub possible : desk_fits (desk k.state table) ≡ true

-- the questions of a call are asked of this course, in a state and a table that are possible
abbrev pub Asks : lent.Desk → Course → Type 0
Asks d course = (desk_fits (shown d) ≡ true) × (d.progress.now ≡ course.progress)

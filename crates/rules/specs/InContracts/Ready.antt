-- What the code of a call relies on and hands on: a state and an input that it can work with, a desk in the middle of a call, and the
-- outputs so far. Assumes nothing.
use Rattle.std.specs.Prelude.{ℕ, suc, ◌≤◌, ◌<◌, ◌≡◌, List, length, take}
use Rattle.roll.specs.Weighing.{most_kiosks}
use Rattle.rules.specs.declared.State.{State}
use Rattle.rules.specs.declared.Input.{Input}
use Rattle.rules.specs.declared.Output.{Output}
use Rattle.rules.specs.declared.Sent.{Sent}
use Rattle.rules.specs.State.{most_rounds, rounds_of}
use Rattle.rules.specs.Log.{Desk, table_length}

-- what the rules rely on: refusal 1 has looked at each
pub record Ready (s : State) (table : List ℕ) : Type 0 where
  pub some_kiosks : 1 ≤ s.roll.kiosks
  pub few_kiosks : s.roll.kiosks ≤ most_kiosks
  pub own : s.roll.own < s.roll.kiosks
  pub round : s.progress.stand.round.0 < most_rounds
  pub places : length table ≡ table_length

-- what taking an input in relies on: refusal 5 and 11 have looked at each
pub record Readable (i : Input) : Type 0 where
  pub kind : 1 ≤ i.kind
  pub sender : i.sender < most_kiosks
  pub round : i.round.0 < most_rounds
  pub next : 7 ≤ i.kind → suc i.round.0 < most_rounds

-- a desk in the middle of a call
abbrev pub midway : State → List ℕ → List Output → Desk
midway s table sent = record { rounds = rounds_of s; state = s; table = table; sent = sent }

-- the outputs so far
abbrev pub so_far : Sent → List Output
so_far s = take s.count s.list

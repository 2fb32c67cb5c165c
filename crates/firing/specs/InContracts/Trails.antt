-- The trail of table places by which a call can be taken back, an own message as the code puts it in the log, what firing relies on,
-- and what a call leaves. Assumes nothing.
use Rattle.std.specs.Prelude.{ℕ, zero, suc, ◌+◌, ◌-◌, ◌≤◌, ◌<◌, ◌≡◌, List, true, length, set, get_or, replicate, Option, Some, None}
use Rattle.roll.specs.declared.Roll.{Roll}
use Rattle.roll.specs.Weighing.{total_of}
use Rattle.rules.specs.declared.Progress.{Progress}
use Rattle.rules.specs.declared.Given.{Given}
use Rattle.rules.specs.declared.State.{State}
use Rattle.rules.specs.declared.Input.{Input}
use Rattle.rules.specs.declared.Output.{Output}
use Rattle.rules.specs.declared.Sent.{Sent}
use Rattle.rules.specs.State.{most_rounds, state_of}
use Rattle.rules.specs.Log.{Desk, table_length, message}
use Rattle.rules.specs.Work.{fire_all, most_firings, work}
use Rattle.rules.specs.Sent.{packed}
use Rattle.rules.specs.InContracts.Ready.{Ready, Readable, midway, so_far}
use Rattle.firing.specs.declared.Trail.{Trail}
use Rattle.firing.specs.declared.Lent.{Lent}
use Rattle.firing.specs.declared.Worked.{Worked}

-- no place is written
abbrev pub no_trail : Trail
no_trail = record { count = 0; places = replicate 7 (0, 0) }

-- with one place more, and the name that it held
abbrev pub longer : Trail → ℕ → ℕ → Trail
longer trail place name = record { count = trail.count + 1; places = set trail.places trail.count (place, name) }

-- the table with the first n writes of a trail taken back, the last first
unfoldable pub undone_to : ℕ → List (ℕ × ℕ) → List ℕ → List ℕ
undone_to zero places table = table
undone_to (suc n) places table =
    let last = get_or places n (0, 0) in
    undone_to n places (set table last.0 last.1)

abbrev pub undone : Trail → List ℕ → List ℕ
undone trail table = undone_to trail.count trail.places table

-- an own output, where there is one and it is a message, as its sender hears it; and how many places of the table it writes at most
unfoldable pub own_message : Option Output → ℕ → Desk → Desk
own_message None seat d = d
own_message (Some o) seat d = message o seat true d

abbrev pub writes : Option Output → ℕ
writes None = 0
writes (Some o) = 1

-- a message that is put in, as the output that it was
abbrev pub message_of : Input → Output
message_of i = record { kind = i.kind - 1; round = i.round; valid = i.valid; name = i.name }

-- what a lent log, table and trail hold
pub record Loan : Type 0 where
  pub log : List ℕ
  pub table : List ℕ
  pub trail : Trail

abbrev pub loan : List ℕ → List ℕ → Trail → Loan
loan l t trail = record { log = l; table = t; trail = trail }

abbrev pub seen : Lent → Loan
seen b = loan b.log.now b.table.now b.trail

-- the log and the table are those that were lent
abbrev pub same_loans : Lent → Lent → Type 0
same_loans b a = (a.log.ghost_name ≡ b.log.ghost_name) × (a.table.ghost_name ≡ b.table.ghost_name)

-- the desk of this roll with this progress and these outputs, over what is lent
abbrev pub over : Loan → Roll → Progress → List Output → Desk
over b roll p os = midway (state_of roll p b.log) b.table os

-- there is room to write once more, in a table with every place
pub record Writable (trail : Trail) (table : List ℕ) : Type 0 where
  pub room : trail.count < 7
  pub long : length trail.places ≡ 7
  pub places : length table ≡ table_length

-- what is lent, after a step that takes a desk to `f` of it and writes at most `most` places of the table: the trail leads back to
-- the same table
pub record Puts (f : Desk → Desk) (most : ℕ) (b a : Loan) : Type 0 where
  pub desk : (roll : Roll) (p : Progress) (os : List Output) → over a roll p os ≡ f (over b roll p os)
  pub places : length a.table ≡ length b.table
  pub back : undone a.trail a.table ≡ undone b.trail b.table
  pub count : a.trail.count ≤ b.trail.count + most
  pub long : length a.trail.places ≡ 7

-- what firing relies on: the outputs to come fit, and so does the trail, with a write for each output and one for the input
pub record Firing (left offer : ℕ) (s : State) (sent : Sent) (trail : Trail) (table : List ℕ) : Type 0 where
  pub ready : Ready s table
  pub packs : sent ≡ packed (so_far sent)
  pub few : length (fire_all left offer (midway s table (so_far sent))).sent ≤ 6
  pub short : trail.count ≤ length (so_far sent) + 1
  pub long : length trail.places ≡ 7

-- the firings left as a call begins
abbrev pub all_firings : ℕ
all_firings = most_firings most_rounds

-- the total is the roll's
abbrev pub Sums : Given → Type 0
Sums g = g.total.0 ≡ total_of g.roll

abbrev pub CanFire : ℕ → Given → Progress → Sent → Loan → Type 0
CanFire left g p sent b = Firing left g.offer (state_of g.roll p b.log) sent b.trail b.table × Sums g

-- what the work of a call relies on
pub record Workable (i : Input) (g : Given) (p : Progress) (l t : List ℕ) : Type 0 where
  pub ready : Ready (state_of g.roll p l) t
  pub readable : Readable i
  pub few : length (work i (state_of g.roll p l) t).sent ≤ 6
  pub sums : Sums g
  pub offered : g.offer ≡ i.offer

-- a state, outputs and a table are those of a desk, and the trail leads back to the table that the call began with
pub record Leaves (d : Desk) (before : List ℕ) (s : State) (sent : Sent) (trail : Trail) (table : List ℕ) : Type 0 where
  pub state : s ≡ d.state
  pub outputs : sent ≡ packed d.sent
  pub names : table ≡ d.table
  pub back : undone trail table ≡ before
  pub short : trail.count ≤ 7

-- so they are after the whole work of an input, from an empty trail
abbrev pub LeavesWork : Input → Given → Progress → List ℕ → List ℕ → Worked → Loan → Type 0
LeavesWork i g p l t w a =
    Leaves (work i (state_of g.roll p l) t) t (state_of g.roll w.progress a.log) w.sent a.trail a.table

-- and after a step that takes a desk to `f` of it
abbrev pub LeavesAfter : (Desk → Desk) → Given → Progress → Sent → Loan → Worked → Loan → Type 0
LeavesAfter f g p sent b w a =
    Leaves (f (over b g.roll p (so_far sent))) (undone b.trail b.table) (state_of g.roll w.progress a.log) w.sent a.trail a.table

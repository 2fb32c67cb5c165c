-- How a whole state, a whole table and an input are written down in a list of cases: numbers by their places, and 0 in every other
-- place. No definition of the rules is used. Assumes nothing.
use Prim.Native.Nat.{ℕ, suc, ◌-◌}
use mathlib.Core.List.{List, [], ◌∷◌, ◌++◌}
use mathlib.Core.Bool.{Bool}
use lib.ListN.{length, replicate, get_or, drop}
use Rattle.roll.specs.declared.Roll.{Roll}
use Rattle.rules.specs.declared.Phase.{Phase}
use Rattle.rules.specs.declared.Step.{Step}
use Rattle.rules.specs.declared.Stand.{Stand}
use Rattle.rules.specs.declared.Held.{Held}
use Rattle.rules.specs.declared.State.{State}
use Rattle.rules.specs.declared.Input.{Input}
use Rattle.rules.specs.declared.Output.{Output}

-- a number that stands at a place
pub record Spot : Type 0 where
  pub place : ℕ
  pub number : ℕ

abbrev pub at : ℕ → ℕ → Spot
at place number = record { place = place; number = number }

-- the numbers of the places `from` up to `to`: those that are given, by rising place, and 0 in every other
unfoldable pub spread : ℕ → ℕ → List Spot → List ℕ
spread from to [] = replicate (to - from) 0
spread from to (s ∷ ss) = replicate (s.place - from) 0 ++ (s.number ∷ spread (suc s.place) to ss)

-- a lent table of 1,040 numbers
abbrev pub table : List Spot → List ℕ
table spots = spread 0 1040 spots

-- so many kiosks, the first powers, the own number, the height
abbrev pub roll : ℕ → List ℕ → ℕ → ℕ → Roll
roll kiosks powers own height = record { kiosks = kiosks; powers = powers ++ replicate (32 - length powers) 0; own = own; height = record { 0 = height } }

-- round plus one, name
abbrev pub held : ℕ → ℕ → Held
held next name = record { next = record { 0 = next }; name = name }

-- the numbers of four lists by turns
unfoldable pub woven : List ℕ → List ℕ → List ℕ → List ℕ → List ℕ
woven [] bs cs ds = []
woven (a ∷ as') bs cs ds = a ∷ get_or bs 0 0 ∷ get_or cs 0 0 ∷ get_or ds 0 0 ∷ woven as' (drop 1 bs) (drop 1 cs) (drop 1 ds)

-- by round: the marks of prevotes, the marks of precommits, what is heard of the proposal (1 bad, 2 good), its valid round plus one
abbrev pub log : List Spot → List Spot → List Spot → List Spot → List ℕ
log prevotes precommits proposals valids = woven (spread 0 16 prevotes) (spread 0 16 precommits) (spread 0 16 proposals) (spread 0 16 valids)

-- round, step; the timers of propose, prevote and precommit asked for; rule 36 has fired
abbrev pub stand : ℕ → Step → Bool → Bool → Bool → Bool → Stand
stand round step propose prevote precommit backed = record {
  round = record { 0 = round };
  step = step;
  asked = record { propose = propose; prevote = prevote; precommit = precommit };
  backed = backed;
}

abbrev pub state : Roll → Phase → Stand → Held → Held → List ℕ → State
state roll phase stand locked valid log = record { roll = roll; progress = record { phase = phase; stand = stand; locked = locked; valid = valid }; log = log }

-- kind, sender, round, valid round plus one, verdict, name, offer, as in a journal; and the height
abbrev pub input : ℕ → ℕ → ℕ → ℕ → ℕ → ℕ → ℕ → ℕ → Input
input kind sender round valid verdict name offer height = record {
  kind = kind;
  height = record { 0 = height };
  sender = sender;
  round = record { 0 = round };
  valid = record { 0 = valid };
  verdict = verdict;
  name = name;
  offer = offer;
}

-- kind, round, valid round plus one, name, as in a journal
abbrev pub out : ℕ → ℕ → ℕ → ℕ → Output
out kind round valid name = record { kind = kind; round = record { 0 = round }; valid = record { 0 = valid }; name = name }

-- What is weighed of a round's votes for a name is what `power_for` weighs, whose names are read in the part of the table that is
-- the round's. Assumes nothing.
use Prim.Native.Nat.{ℕ, ◌≤◌}
use mathlib.Core.Path.{◌≡◌, refl}
use mathlib.Core.Bool.{◌&&◌}
use native.Mathlib.Omega.{arith}
use lib.Dec.{eqb}
use lib.ListN.{get_or, take, drop}
use Rattle.std.proofs.lemmas.List.{get_or-take, get_or-drop}
use Rattle.words.specs.Marks.{marked}
use Rattle.roll.specs.Weighing.{power_of}
use Rattle.roll.proofs.Weighing.{power_ext}
use Rattle.rules.specs.declared.Votes.{Votes}
use Rattle.rules.specs.State.{marks_of}
use Rattle.rules.specs.Log.{Desk, heard, votes_place, power_for}

pub names_weigh : (v : Votes) (d : Desk) (r name : ℕ) → d.state.roll.kiosks ≤ 32 →
    power_of d.state.roll (λ i. marked (marks_of v (heard d r)) i && eqb (get_or (take 32 (drop (votes_place v r) d.table)) i 0) name)
    ≡ power_for v d r name
unfolding power_for
names_weigh v d r name few =
    power_ext _ _ _ _
    (λ i l. rw (get_or-take 32 (drop (votes_place v r) d.table) i 0 (omega arith), get_or-drop (votes_place v r) d.table i 0) refl)

-- The stories, told to the rules: what they leave is the whole of what the stories say. One list and one statement, which antt
-- computes. Assumes nothing.
use Prim.Native.Nat.{ℕ}
use mathlib.Core.Path.{◌≡◌, refl}
use mathlib.Core.List.{List, [], ◌∷◌, map}
use Rattle.words.specs.Choice.{the_choices}
use Rattle.roll.specs.Weighing.{the_weighing}
use Rattle.rules.specs.declared.State.{State}
use Rattle.rules.specs.declared.Input.{Input}
use Rattle.rules.specs.declared.Output.{Output}
use Rattle.rules.specs.Log.{Desk, desk, the_log}
use Rattle.rules.specs.Doing.{the_doing}
use Rattle.rules.specs.Rules.{the_rules}
use Rattle.rules.specs.Work.{worked, the_work}
use Rattle.rules.proofs.Whole.{spread, woven}
use Rattle.rules.proofs.Stories.{Story, stories}

-- each call begins with the state and the table that the last left, and no outputs
unfoldable pub told : List Input → Desk → Desk
told [] d = d
told (i ∷ is) d = told is (worked i (desk d.state d.table))

unfoldable pub leaves : Story → List Output × State × List ℕ
leaves s =
    let d = told s.inputs (desk s.before s.table_before) in
    (d.sent, d.state, d.table)

abbrev pub says : Story → List Output × State × List ℕ
says s = (s.sends, s.after, s.table_after)

pub stories_end_so : map leaves stories ≡ map says stories
unfolding the_choices the_weighing the_log the_doing the_rules the_work spread woven stories told leaves
stories_end_so = refl

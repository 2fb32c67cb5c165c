-- The goals of `firing::Trail::take_back`.
use Prim.Native.Nat.{ℕ, ◌-◌}
use mathlib.Core.List.{List}
use mathlib.Core.Path.{ap, sym, ◌∙◌}
use native.Mathlib.Omega.{arith}
use Rattle.firing.specs.InContracts.Trails.{undone_to}
use Rattle.firing.proofs.Handover.{undone_less, undone_none}
use Rattle.firing.proofs.Trail.take_back.Goals as goal

pub loop-last-preserved : goal.loop-last-preserved
loop-last-preserved c =
    let l = c.loop-last in
    let less = undone_less l.last c.args.self.now.places l.table (omega arith) in record {
      back = ap (λ (z : List ℕ). undone_to (l.last - 1) c.args.self.now.places z) c.write.ensures ∙ sym less ∙ l.invariant.back;
    }

pub returns : goal.returns
returns c =
    let l = c.loop-last in
    sym (undone_none l.last c.args.self.now.places l.table (omega arith)) ∙ l.invariant.back

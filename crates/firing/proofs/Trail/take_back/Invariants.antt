-- `firing::Trail::take_back` meets its contract: taking back what is left gives what taking back all gives. Assumes nothing.
use mathlib.Core.Path.{◌≡◌}
use Rattle.firing.specs.InContracts.Trails.{undone_to, undone}
use Rattle.firing.proofs.Trail.take_back.Given as goal

abbrev pub invariant-loop-last : goal.invariant-loop-last
invariant-loop-last l = record {
  back : undone_to l.last l.fn.self.places l.table ≡ undone l.fn.self l.fn.table;
}

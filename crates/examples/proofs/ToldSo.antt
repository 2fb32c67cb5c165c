-- The definitions give the replies that the second program gives: one statement, which antt computes. Assumes nothing.
use mathlib.Core.Path.{refl}
use Rattle.examples.specs.Board.{Replied}
use Rattle.examples.proofs.Board.{calls_so, openings_so, creatings_so, showings_so, the_computed}
use Rattle.examples.proofs.Told.{told, the_told}

pub told_so : Replied told
unfolding the_computed the_told
told_so = record {
  calls_so = calls_so told.calls refl;
  openings_so = openings_so told.openings refl;
  creatings_so = creatings_so told.creatings refl;
  showings_so = showings_so told.showings refl;
}

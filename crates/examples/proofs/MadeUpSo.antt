-- The made_up calls give the replies that their list says, and so does a whole height: one statement, which antt
-- computes. Assumes nothing.
use mathlib.Core.Path.{refl}
use mathlib.Core.List.{[], ◌∷◌}
use Rattle.journal.proofs.Journals.{journal_107}
use Rattle.examples.specs.Cases.{All}
use Rattle.examples.specs.Kiosk.{Replied, TellingSo}
use Rattle.journal.proofs.Journals.{height}
use Rattle.examples.specs.MadeUp.{calls, openings, creatings, showings, made_up, whole_height}
use Rattle.examples.proofs.Kiosk.{calls_so, openings_so, creatings_so, showings_so}
use Rattle.examples.proofs.ExamplesHold.{tellings_so, the_tellings}

pub made_up_calls_right : Replied made_up × All TellingSo (whole_height ∷ [])
unfolding the_tellings journal_107 height calls openings creatings showings made_up
made_up_calls_right = (
  record {
    calls_so = calls_so calls refl;
    openings_so = openings_so openings refl;
    creatings_so = creatings_so creatings refl;
    showings_so = showings_so showings refl;
  },
  tellings_so (whole_height ∷ []) refl,
)

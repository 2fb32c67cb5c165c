-- The parts of a twin that its functions hand on. Assumes nothing.
use Rattle.std.specs.Prelude.{ℕ, List}
use Rattle.roll.specs.declared.Roll.{Roll}
use Rattle.kiosk.specs.declared.Course.{Course}
use Rattle.flat.specs.declared.FlatKiosk.{FlatKiosk}
use Rattle.twins.specs.Twins.{kiosk_of}

-- how far it has come, as the calls hand it on
abbrev pub course_of : FlatKiosk → Course
course_of f = record { progress = (kiosk_of f).state.progress; used = f.used; last = f.last }

-- a twin with this roll and log; its other numbers are 0
abbrev pub bare : Roll → List ℕ → FlatKiosk
bare roll l = record {
  kiosks = roll.kiosks;
  own = roll.own;
  used = 0;
  last = 0;
  locked_name = 0;
  valid_name = 0;
  height = roll.height.0;
  powers = roll.powers;
  phase = 0;
  settled = 0;
  round = 0;
  step = 0;
  asked_propose = 0;
  asked_prevote = 0;
  asked_precommit = 0;
  backed = 0;
  locked_next = 0;
  valid_next = 0;
  log = l;
}

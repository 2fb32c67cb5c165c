-- How a call of the board's library and its whole reply are written down, number by number. No definition is used. Assumes nothing.
use Rattle.std.specs.Prelude.{ℕ, ◌-◌, List, [], ◌++◌, length, replicate}
use Rattle.roll.specs.declared.Roll.{Roll}
use Rattle.rules.specs.declared.Held.{Held}
use Rattle.flat.specs.declared.FlatKiosk.{FlatKiosk}
use Rattle.flat.specs.declared.FlatInput.{FlatInput}
use Rattle.flat.specs.declared.FlatOutput.{FlatOutput}
use Rattle.flat.specs.declared.FlatReply.{FlatReply}
use Rattle.flat.specs.declared.FlatMade.{FlatMade}
use Rattle.flat.specs.declared.FlatPart.{FlatPart}
use Rattle.examples.specs.Cases.{Call, puts, Opening, Creating, Showing, Cases}

-- kind, sender, round, valid round plus one, verdict, name, offer, as in a journal; and the height
abbrev pub input : ℕ → ℕ → ℕ → ℕ → ℕ → ℕ → ℕ → ℕ → FlatInput
input kind sender round valid verdict name offer height = record {
  name = name;
  offer = offer;
  height = height;
  kind = kind;
  sender = sender;
  round = round;
  valid = valid;
  verdict = verdict;
}

-- kind, round, valid round plus one, name, as in a journal
abbrev pub out : ℕ → ℕ → ℕ → ℕ → FlatOutput
out kind round valid name = record { name = name; kind = kind; round = round; valid = valid }

-- the roll; phase, settled round; round, step; whether the timers of propose, prevote and precommit are asked for, whether rule 36 has
-- fired; the locked and the valid sheet; the log; the used length, and where the last group starts
abbrev pub kiosk : Roll → ℕ → ℕ → ℕ → ℕ → ℕ → ℕ → ℕ → ℕ → Held → Held → List ℕ → ℕ → ℕ → FlatKiosk
kiosk roll phase settled round step propose prevote precommit backed locked valid log used last = record {
  kiosks = roll.kiosks;
  own = roll.own;
  used = used;
  last = last;
  locked_name = locked.name;
  valid_name = valid.name;
  height = roll.height.0;
  powers = roll.powers;
  phase = phase;
  settled = settled;
  round = round;
  step = step;
  asked_propose = propose;
  asked_prevote = prevote;
  asked_precommit = precommit;
  backed = backed;
  locked_next = locked.next.0;
  valid_next = valid.next.0;
  log = log;
}

-- number, place, outputs, state: six places for outputs, zeros in those that none has come to
abbrev pub reply : ℕ → ℕ → List FlatOutput → FlatKiosk → FlatReply
reply number place outputs k = record {
  number = number;
  place = place;
  count = length outputs;
  sent = outputs ++ replicate (6 - length outputs) (out 0 0 0 0);
  kiosk = k;
}

-- "A refusal returns its number .. and leaves state, table and journal unchanged"
abbrev pub refuses : ℕ → FlatInput → FlatKiosk → List ℕ → List ℕ → Call FlatInput FlatKiosk FlatReply
refuses number i k table journal = puts i k table journal (reply number 0 [] k) table journal

-- number and used length; where the last group starts, and how many bytes it has
abbrev pub made : ℕ → ℕ → FlatMade
made number used = record { number = number; used = used }

abbrev pub part : ℕ → ℕ → FlatPart
part from count = record { from = from; count = count }

abbrev pub Calls : Type 0
Calls = Cases (Call FlatInput FlatKiosk FlatReply) (Opening FlatReply) (Creating FlatMade) (Showing FlatKiosk ℕ FlatPart)

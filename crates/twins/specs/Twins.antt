-- The flat twins of a kiosk's state, inputs and replies: what each number means, and which numbers the state's types can hold.
-- Assumes nothing.
use Rattle.std.specs.Prelude.{ℕ, map, Bool, true, false, ◌&&◌, ◌||◌, replicate, leb, eqb, if◌then◌else◌}
use Rattle.roll.specs.declared.Roll.{Roll}
use Rattle.rules.specs.declared.Phase.{Phase}
use Rattle.rules.specs.declared.Phase.TheVariants.{Fresh, Running, Settled}
use Rattle.rules.specs.declared.Step.{Step}
use Rattle.rules.specs.declared.Step.TheVariants.{Propose, Prevote, Precommit}
use Rattle.rules.specs.declared.Stand.{Stand}
use Rattle.rules.specs.declared.Input.{Input}
use Rattle.rules.specs.declared.Output.{Output}
use Rattle.rules.specs.State.{settled_round}
use Rattle.kiosk.specs.declared.Kiosk.{Kiosk}
use Rattle.kiosk.specs.declared.Reply.{Reply}
use Rattle.refusals.specs.Answers.{number_of, place_of}
use Rattle.flat.specs.declared.FlatKiosk.{FlatKiosk}
use Rattle.flat.specs.declared.FlatInput.{FlatInput}
use Rattle.flat.specs.declared.FlatOutput.{FlatOutput}
use Rattle.flat.specs.declared.FlatReply.{FlatReply}

-- a truth as 0 or 1
abbrev pub flag : Bool → ℕ
flag true = 1
flag false = 0

-- ## The state

-- 0 not started yet, 1 running, 2 settled
abbrev pub phase_number : Phase → ℕ
phase_number Fresh = 0
phase_number Running = 1
phase_number (Settled r) = 2

abbrev pub phase_of : ℕ → ℕ → Phase
phase_of phase settled = if eqb phase 0 then Fresh else if eqb phase 1 then Running else Settled (record { 0 = settled })

-- 0 propose, 1 prevote, 2 precommit
abbrev pub step_number : Step → ℕ
step_number Propose = 0
step_number Prevote = 1
step_number Precommit = 2

abbrev pub step_of : ℕ → Step
step_of step = if eqb step 0 then Propose else if eqb step 1 then Prevote else Precommit

-- a phase and a step that there are, a settled round only where settled, and each 0 or 1 one of them
unfoldable pub holds : FlatKiosk → Bool
holds f =
    leb f.phase 2 &&
    (eqb f.phase 2 || eqb f.settled 0) &&
    leb f.step 2 &&
    leb f.asked_propose 1 &&
    leb f.asked_prevote 1 &&
    leb f.asked_precommit 1 &&
    leb f.backed 1

abbrev pub stand_of : FlatKiosk → Stand
stand_of f = record {
  round = record { 0 = f.round };
  step = step_of f.step;
  asked = record { propose = eqb f.asked_propose 1; prevote = eqb f.asked_prevote 1; precommit = eqb f.asked_precommit 1 };
  backed = eqb f.backed 1;
}

abbrev pub roll_of : FlatKiosk → Roll
roll_of f = record { kiosks = f.kiosks; powers = f.powers; own = f.own; height = record { 0 = f.height } }

abbrev pub kiosk_of : FlatKiosk → Kiosk
kiosk_of f = record {
  state = record {
    roll = roll_of f;
    progress = record {
      phase = phase_of f.phase f.settled;
      stand = stand_of f;
      locked = record { next = record { 0 = f.locked_next }; name = f.locked_name };
      valid = record { next = record { 0 = f.valid_next }; name = f.valid_name };
    };
    log = f.log;
  };
  used = f.used;
  last = f.last;
}

abbrev pub flat_kiosk : Kiosk → FlatKiosk
flat_kiosk k = record {
  kiosks = k.state.roll.kiosks;
  own = k.state.roll.own;
  used = k.used;
  last = k.last;
  locked_name = k.state.progress.locked.name;
  valid_name = k.state.progress.valid.name;
  height = k.state.roll.height.0;
  powers = k.state.roll.powers;
  phase = phase_number k.state.progress.phase;
  settled = settled_round k.state.progress.phase;
  round = k.state.progress.stand.round.0;
  step = step_number k.state.progress.stand.step;
  asked_propose = flag k.state.progress.stand.asked.propose;
  asked_prevote = flag k.state.progress.stand.asked.prevote;
  asked_precommit = flag k.state.progress.stand.asked.precommit;
  backed = flag k.state.progress.stand.backed;
  locked_next = k.state.progress.locked.next.0;
  valid_next = k.state.progress.valid.next.0;
  log = k.state.log;
}

-- ## Inputs, outputs, replies

abbrev pub input_of : FlatInput → Input
input_of i = record {
  kind = i.kind;
  height = record { 0 = i.height };
  sender = i.sender;
  round = record { 0 = i.round };
  valid = record { 0 = i.valid };
  verdict = i.verdict;
  name = i.name;
  offer = i.offer;
}

abbrev pub flat_output : Output → FlatOutput
flat_output o = record { name = o.name; kind = o.kind; round = o.round.0; valid = o.valid.0 }

-- what stands in a place that no output has come to
abbrev pub empty_output : FlatOutput
empty_output = record { name = 0; kind = 0; round = 0; valid = 0 }

abbrev pub flat_reply : Reply → FlatReply
flat_reply r = record {
  number = number_of r.answer;
  place = place_of r.answer;
  count = r.sent.count;
  sent = map flat_output r.sent.list;
  kiosk = flat_kiosk r.kiosk;
}

-- refusal 1: no output, and the state that was given
abbrev pub impossible : FlatKiosk → FlatReply
impossible f = record { number = 1; place = 0; count = 0; sent = replicate 6 empty_output; kiosk = f }

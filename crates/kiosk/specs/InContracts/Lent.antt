-- What the contracts of a kiosk's inner code are written in: a kiosk whose log is lent. No promise speaks of it. Assumes nothing.
use Rattle.std.specs.Prelude.{ℕ, List}
use Rattle.roll.specs.declared.Roll.{Roll}
use Rattle.rules.specs.State.{state_of}
use Rattle.kiosk.specs.declared.Kiosk.{Kiosk}
use Rattle.kiosk.specs.declared.Course.{Course}
use Rattle.kiosk.specs.declared.Done.{Done}
use Rattle.kiosk.specs.declared.Reply.{Reply}

-- a kiosk, by its roll, its course and its log
abbrev pub kiosk_of : Roll → Course → List ℕ → Kiosk
kiosk_of roll c l = record { state = state_of roll c.progress l; used = c.used; last = c.last }

-- a reply where the log was lent: the roll, the log after the call, and what the call gives
abbrev pub reply_of : Roll → List ℕ → Done → Reply
reply_of roll l d = record { answer = d.answer; sent = d.sent; kiosk = kiosk_of roll d.course l }

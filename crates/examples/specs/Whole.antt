-- How a call of a kiosk and its whole reply are written down. No definition is used, so that none can be wrong on both sides. Assumes
-- nothing.
use Rattle.std.specs.Prelude.{ℕ, ◌-◌, List, [], ◌++◌, length, replicate, false}
use Rattle.rules.specs.declared.Phase.TheVariants.{Fresh}
use Rattle.rules.specs.declared.Step.TheVariants.{Propose}
use Rattle.rules.specs.declared.State.{State}
use Rattle.rules.specs.declared.Input.{Input}
use Rattle.rules.specs.declared.Output.{Output}
use Rattle.rules.proofs.Whole.{roll, held, log, stand, state, out}
use Rattle.refusals.specs.declared.Answer.{Answer}
use Rattle.kiosk.specs.declared.Kiosk.{Kiosk}
use Rattle.kiosk.specs.declared.Reply.{Reply}
use Rattle.kiosk.specs.declared.Made.{Made}
use Rattle.examples.specs.Cases.{Call, puts, Opening, Creating, Showing, Cases}

-- a voting state, the used length, and where the last group starts
abbrev pub kiosk : State → ℕ → ℕ → Kiosk
kiosk s used last = record { state = s; used = used; last = last }

-- "There is one unopened state (0 kiosks)", to its last field
abbrev pub unopened : Kiosk
unopened = kiosk (state (roll 0 [] 0 0) Fresh (stand 0 Propose false false false false) (held 0 0) (held 0 0) (log [] [] [] [])) 0 0

-- six places for outputs, zeros in those that none has come to
abbrev pub reply : Answer → List Output → Kiosk → Reply
reply answer outputs k = record {
  answer = answer;
  sent = record { count = length outputs; list = outputs ++ replicate (6 - length outputs) (out 0 0 0 0) };
  kiosk = k;
}

abbrev pub made : Answer → ℕ → Made
made answer used = record { answer = answer; used = used }

-- "A refusal returns its number .. and leaves state, table and journal unchanged"
abbrev pub refuses : Answer → Input → Kiosk → List ℕ → List ℕ → Call Input Kiosk Reply
refuses answer i k table journal = puts i k table journal (reply answer [] k) table journal

abbrev pub Calls : Type 0
Calls = Cases (Call Input Kiosk Reply) (Opening Reply) (Creating Made) (Showing Kiosk (List ℕ) (List ℕ))

-- ## Inputs told one after the other

-- the inputs; of the last, the whole reply, the table, the journal, and the last group that it then shows
pub record Telling : Type 0 where
  pub inputs : List Input
  pub reply : Reply
  pub table_after : List ℕ
  pub journal_after : List ℕ
  pub last : List ℕ

abbrev pub tells : List Input → Reply → List ℕ → List ℕ → List ℕ → Telling
tells is r table_after journal_after last = record { inputs = is; reply = r; table_after = table_after; journal_after = journal_after; last = last }

-- an area of 520 bytes with these first, and 255 in every other
abbrev pub filled : List ℕ → List ℕ
filled b = b ++ replicate (520 - length b) 255

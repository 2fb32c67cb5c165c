-- A call of a kiosk gives the whole reply that a list says. Assumes nothing.
use Prim.Native.Nat.{ℕ}
use mathlib.Core.Path.{◌≡◌, ap, sym}
use mathlib.Core.List.{List, [], map}
use Rattle.words.specs.Choice.{the_choices}
use Rattle.words.specs.Bytes.{compared}
use Rattle.roll.specs.Weighing.{the_weighing}
use Rattle.rules.specs.declared.Input.{Input}
use Rattle.rules.specs.declared.Output.{Output}
use Rattle.rules.specs.Log.{the_log}
use Rattle.rules.specs.Doing.{the_doing}
use Rattle.rules.specs.Rules.{the_rules}
use Rattle.rules.specs.Work.{the_work}
use Rattle.rules.specs.Sent.{packed}
use Rattle.rules.proofs.Whole.{spread, woven}
use Rattle.journal.specs.Layout.{the_layout}
use Rattle.journal.specs.Readback.{the_readback}
use Rattle.refusals.specs.declared.Answer.{Answer}
use Rattle.refusals.specs.Possible.{the_possible}
use Rattle.refusals.specs.Refusals.{the_refusals}
use Rattle.kiosk.specs.declared.Kiosk.{Kiosk}
use Rattle.kiosk.specs.declared.Reply.{Reply}
use Rattle.kiosk.specs.declared.Made.{Made}
use Rattle.kiosk.specs.Judged.{the_judged}
use Rattle.kiosk.specs.Calls.{Called, create, put, last_group, the_calls}
use Rattle.kiosk.specs.Opening.{open_journal, the_opening}
use Rattle.kiosk.specs.Promises.{Says}
use Rattle.examples.specs.Cases.{All, Call, Opening, Creating, Showing}
use Rattle.examples.specs.Kiosk.{CallSo, OpeningSo, CreatingSo, ShowingSo}
use Rattle.examples.proofs.Each.{all_so, call_given, opening_given, creating_given, showing_given}

-- everything that a kiosk's calls compute by
unfoldable pub the_kiosk : Unit {0}
unfolding the_choices compared the_weighing the_log the_doing the_rules the_work the_layout the_readback the_possible the_refusals the_judged the_calls the_opening spread woven
the_kiosk = tt

-- the reply that an answer, outputs and a state are
abbrev pub replied : Answer → List Output → Kiosk → Reply
replied answer os k = record { answer = answer; sent = packed os; kiosk = k }

abbrev pub called : Called → Reply × List ℕ × List ℕ
called o = (replied o.answer o.sent o.kiosk, o.table, o.journal)

pub said : (o : Called) (r : Reply) (table journal : List ℕ) → (r, table, journal) ≡ called o → Says o r table journal
said o r table journal e = record {
  answer = ap (λ w. w.0.answer) e;
  sent = ap (λ w. w.0.sent) e;
  kiosk = ap (λ w. w.0.kiosk) e;
  table_is = ap (λ w. w.1) e;
  journal_is = ap (λ w. w.2) e;
}

-- ## One call, opening, creating, the last group

unfoldable pub call_computed : Call Input Kiosk Reply → Reply × List ℕ × List ℕ
call_computed c = called (put c.input c.kiosk c.table c.journal)

call_so : (c : Call Input Kiosk Reply) → call_given c ≡ call_computed c → CallSo c
unfolding call_computed
call_so c e = said (put c.input c.kiosk c.table c.journal) c.reply c.table_after c.journal_after e

unfoldable pub opening_computed : Opening Reply → Reply × List ℕ
opening_computed c =
    let o = open_journal c.journal c.used c.table in
    (replied o.answer [] o.kiosk, o.table)

opening_so : (c : Opening Reply) → opening_given c ≡ opening_computed c → OpeningSo c
unfolding opening_computed
opening_so c e = record { answer = ap (λ w. w.0.answer) e; sent = ap (λ w. w.0.sent) e; kiosk = ap (λ w. w.0.kiosk) e; table_is = ap (λ w. w.1) e }

unfoldable pub creating_computed : Creating Made → Made × List ℕ
creating_computed c =
    let o = create c.powers c.own c.height c.journal in
    (record { answer = o.answer; used = o.used }, o.journal)

creating_so : (c : Creating Made) → creating_given c ≡ creating_computed c → CreatingSo c
unfolding creating_computed
creating_so c e = record { answer = ap (λ w. w.0.answer) e; used = ap (λ w. w.0.used) e; journal_is = ap (λ w. w.1) e }

unfoldable pub showing_computed : Showing Kiosk (List ℕ) (List ℕ) → List ℕ
showing_computed c = last_group c.kiosk c.journal

showing_so : (c : Showing Kiosk (List ℕ) (List ℕ)) → showing_given c ≡ showing_computed c → ShowingSo c
unfolding showing_computed
showing_so c e = sym e

-- ## Lists

pub calls_so : (cs : List (Call Input Kiosk Reply)) → map call_given cs ≡ map call_computed cs → All CallSo cs
calls_so = all_so call_given call_computed call_so

pub openings_so : (cs : List (Opening Reply)) → map opening_given cs ≡ map opening_computed cs → All OpeningSo cs
openings_so = all_so opening_given opening_computed opening_so

pub creatings_so : (cs : List (Creating Made)) → map creating_given cs ≡ map creating_computed cs → All CreatingSo cs
creatings_so = all_so creating_given creating_computed creating_so

pub showings_so : (cs : List (Showing Kiosk (List ℕ) (List ℕ))) → map showing_given cs ≡ map showing_computed cs → All ShowingSo cs
showings_so = all_so showing_given showing_computed showing_so

-- To compute with this file: `unfolding the_computed` opens the above.
unfoldable pub the_computed : Unit {0}
unfolding the_kiosk call_computed opening_computed creating_computed showing_computed
the_computed = tt

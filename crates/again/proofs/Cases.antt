-- Waking and saying it again, case by case, each with its whole replies, table and area as they are written down; antt computes them.
-- Assumes nothing.
use Prim.Native.Nat.{ℕ, ◌-◌}
use mathlib.Core.Path.{◌≡◌, refl, ap}
use mathlib.Core.List.{List, [], ◌∷◌, ◌++◌, map}
use mathlib.Core.Bool.{true, false}
use lib.ListN.{length, take, replicate}
use Rattle.words.specs.Choice.{the_choices}
use Rattle.words.specs.Bytes.{compared}
use Rattle.roll.specs.Weighing.{the_weighing}
use Rattle.rules.specs.declared.Phase.TheVariants.{Running, Settled}
use Rattle.rules.specs.declared.Step.TheVariants.{Propose, Prevote, Precommit}
use Rattle.rules.specs.declared.State.{State}
use Rattle.rules.specs.declared.Output.{Output}
use Rattle.rules.specs.declared.Sent.{Sent}
use Rattle.rules.specs.Log.{the_log}
use Rattle.rules.specs.Doing.{the_doing}
use Rattle.rules.specs.Rules.{the_rules}
use Rattle.rules.specs.Work.{the_work}
use Rattle.rules.specs.Sent.{packed}
use Rattle.rules.proofs.Whole.{Spot, at, spread, table, woven, log, roll, held, stand, state, out}
use Rattle.rules.proofs.Stories.{four, none, fresh}
use Rattle.journal.specs.Layout.{the_layout}
use Rattle.journal.specs.Readback.{the_readback}
use Rattle.journal.proofs.Journals.{journal_107, header, starts, proposed_50, prevoted_by_1, prevoted_by_2, nil_from_1, nil_from_2, timed_out, proposed_60}
use Rattle.refusals.specs.declared.Answer.{Answer}
use Rattle.refusals.specs.declared.Answer.TheVariants.{Accepted, Impossible, NoRoom, HeaderShort, Damaged}
use Rattle.refusals.specs.Possible.{the_possible}
use Rattle.refusals.specs.Refusals.{the_refusals}
use Rattle.kiosk.specs.declared.Kiosk.{Kiosk}
use Rattle.kiosk.specs.declared.Reply.{Reply}
use Rattle.kiosk.specs.Judged.{the_judged}
use Rattle.kiosk.specs.Calls.{the_calls}
use Rattle.kiosk.specs.Opening.{unopened, the_opening}
use Rattle.again.specs.declared.Woken.{Woken}
use Rattle.again.specs.Again.{wake, Wakes, say_again, SaysAgain, the_again}

-- ## How a case is written down

-- what is lent, and all that waking and saying it again give
pub record Case : Type 0 where
  pub journal : List ℕ
  pub used : ℕ
  pub table : List ℕ
  pub area : List ℕ
  pub woken : Woken
  pub reply : Reply
  pub table_after : List ℕ
  pub area_after : List ℕ

abbrev sevens : ℕ → List ℕ
sevens n = replicate n 7

-- a list of six places, zeros in those that none has come to
abbrev six : List Output → Sent
six os = record { count = length os; list = os ++ replicate (6 - length os) (out 0 0 0 0) }

abbrev gives : List ℕ → ℕ → List ℕ → List ℕ → Kiosk → Answer → List Output → List Output → Answer → List ℕ → List ℕ → Case
gives journal used table area k answer messages timers said table_after area_after = record {
  journal = journal;
  used = used;
  table = table;
  area = area;
  woken = record { answer = answer; kiosk = k; messages = six messages; timers = six timers };
  reply = record { answer = said; sent = six []; kiosk = k };
  table_after = table_after;
  area_after = area_after;
}

-- the kiosk that a whole journal leaves: the voting state, the used length, and where the last group starts
abbrev kept : State → ℕ → ℕ → Kiosk
kept s used last = record { state = s; used = used; last = last }

-- an output of a name below 256, and such outputs one after the other
abbrev image : Output → List ℕ
image o = o.kind ∷ o.round.0 ∷ o.valid.0 ∷ 0 ∷ o.name ∷ 0 ∷ 0 ∷ 0 ∷ 0 ∷ 0 ∷ 0 ∷ 0 ∷ []

unfoldable images : List Output → List ℕ
images [] = []
images (o ∷ os) = image o ++ images os

-- a whole journal and an area of so many bytes: the kiosk and the table that are opened, the messages, the timers, and how many bytes of the
-- area stay
abbrev says : List ℕ → ℕ → Kiosk → List Spot → List Output → List Output → ℕ → Case
says journal size k spots messages timers others =
    gives journal (length journal) (sevens 1040) (sevens size) k Accepted messages timers Accepted (table spots)
    ((length messages ∷ images messages) ++ (length timers ∷ images timers) ++ sevens others)

-- the same where the area is too small
abbrev no_room : List ℕ → ℕ → Kiosk → List Spot → List Output → List Output → Case
no_room journal size k spots messages timers =
    gives journal (length journal) (sevens 1040) (sevens size) k Accepted messages timers NoRoom (table spots) (sevens size)

-- a refusal of opening, with the area's size and the table before and after it
abbrev fails : Answer → List ℕ → ℕ → ℕ → List ℕ → List ℕ → Case
fails answer journal used size before after = gives journal used before (sevens size) unopened answer [] [] answer after (sevens size)

-- ## The journals

-- a message heard with name 0: kind, sender, round; and a timer, with sender 0. The offer is 9
abbrev heard : ℕ → ℕ → ℕ → List ℕ
heard kind sender round =
    24 ∷ kind ∷ sender ∷ round ∷ 0 ∷ 0 ∷ 0 ∷ 0 ∷ 0 ∷ 0 ∷ 0 ∷ 0 ∷ 0 ∷ 0 ∷ 0 ∷ 0 ∷ 0 ∷ 9 ∷ 0 ∷ 0 ∷ 0 ∷ 0 ∷ 0 ∷ 0 ∷ 0 ∷ []

abbrev started : Kiosk
started = kept (state four Running (stand 0 Propose true false false false) none none (log [] [] [] [])) 53 15

-- prevoted, and cut in the middle of the group that precommits
abbrev prevoted : List ℕ
prevoted = header ++ starts ++ proposed_50 ++ prevoted_by_1 ++ take 45 prevoted_by_2

abbrev prevoted_kiosk : Kiosk
prevoted_kiosk = kept (state four Running (stand 0 Prevote true false false false) none none (log (at 0 3 ∷ []) [] (at 0 2 ∷ []) [])) 117 91

abbrev prevoted_table : List Spot
prevoted_table = at 0 50 ∷ at 1 50 ∷ at 2 50 ∷ []

-- prevoted, the others nil: the prevote timer is asked for, and after three precommits the precommit timer too
abbrev two_timers : List ℕ
two_timers =
    header ++ starts ++ proposed_50 ++ heard 3 1 0 ++ (0 ∷ []) ++ heard 3 2 0 ++ (1 ∷ image (out 5 0 0 0)) ++ heard 4 1 0 ++ (0 ∷ []) ++ heard 4 2 0 ++ (0 ∷ []) ++
    heard 4 3 0 ++ (1 ∷ image (out 6 0 0 0))

abbrev two_timers_kiosk : Kiosk
two_timers_kiosk =
    kept (state four Running (stand 0 Prevote true true true false) none none (log (at 0 7 ∷ []) (at 0 14 ∷ []) (at 0 2 ∷ []) [])) 245 207

-- precommitted, and the precommit timer asked for; the prevote timer was asked for too, and is open no more
abbrev precommitted : List ℕ
precommitted = header ++ starts ++ proposed_50 ++ prevoted_by_1 ++ prevoted_by_2 ++ nil_from_1 ++ nil_from_2

abbrev precommitted_kiosk : Kiosk
precommitted_kiosk =
    kept (state four Running (stand 0 Precommit true true true true) (held 1 50) (held 1 50) (log (at 0 7 ∷ []) (at 0 7 ∷ []) (at 0 2 ∷ []) [])) 231 193

-- 01's story of the lock up to a nil prevote of round 1, and then called to round 2
abbrev called : List ℕ
called =
    precommitted ++ timed_out ++ proposed_60 ++ heard 3 1 2 ++ (0 ∷ []) ++ heard 3 2 2 ++ (1 ∷ image (out 4 2 0 0))

abbrev called_kiosk : Kiosk
called_kiosk =
    kept
    (state four Running (stand 2 Propose true false false false) (held 1 50) (held 1 50)
    (log (at 0 7 ∷ at 1 1 ∷ at 2 6 ∷ []) (at 0 7 ∷ []) (at 0 2 ∷ at 1 2 ∷ []) []))
    371 333

abbrev called_table : List Spot
called_table = at 0 50 ∷ at 1 50 ∷ at 2 50 ∷ at 3 50 ∷ at 33 50 ∷ at 65 60 ∷ []

-- messages of three rounds: the propose timer of round 2 runs out
abbrev three_rounds : List ℕ
three_rounds = called ++ heard 5 0 2 ++ (3 ∷ image (out 2 2 0 0)) ++ image (out 5 2 0 0) ++ image (out 3 2 0 0)

abbrev three_rounds_kiosk : Kiosk
three_rounds_kiosk =
    kept
    (state four Running (stand 2 Precommit true true false false) (held 1 50) (held 1 50)
    (log (at 0 7 ∷ at 1 1 ∷ at 2 7 ∷ []) (at 0 7 ∷ at 2 1 ∷ []) (at 0 2 ∷ at 1 2 ∷ []) []))
    433 371

-- a kiosk alone, settled
abbrev alone : Kiosk
alone =
    kept
    (state (roll 1 (1 ∷ []) 0 7) (Settled (record { 0 = 0 })) (stand 0 Precommit false true true true) (held 1 5) (held 1 5)
    (log (at 0 1 ∷ []) (at 0 1 ∷ []) (at 0 2 ∷ []) []))
    107 9

-- ## The cases

unfoldable pub cases : List Case
unfolding images journal_107
cases =
    -- nothing was put yet: two empty lists, in an area of two bytes, of more, and of fewer
    says header 2 (kept (fresh four) 15 15) [] [] [] 0 ∷
    says header 5 (kept (fresh four) 15 15) [] [] [] 3 ∷
    no_room header 1 (kept (fresh four) 15 15) [] [] [] ∷
    -- started: the propose timer
    says (header ++ starts) 98 started [] [] (out 4 0 0 0 ∷ []) 84 ∷
    -- cut between prevote and precommit: the prevote; the area of exactly its size, and one byte short
    says prevoted 14 prevoted_kiosk prevoted_table (out 2 0 0 50 ∷ []) [] 0 ∷
    no_room prevoted 13 prevoted_kiosk prevoted_table (out 2 0 0 50 ∷ []) [] ∷
    -- two timers, by kind
    says two_timers 98 two_timers_kiosk (at 0 50 ∷ at 1 50 ∷ []) (out 2 0 0 50 ∷ []) (out 5 0 0 0 ∷ out 6 0 0 0 ∷ []) 60 ∷
    says precommitted 98 precommitted_kiosk (at 0 50 ∷ at 1 50 ∷ at 2 50 ∷ at 3 50 ∷ at 33 50 ∷ []) (out 2 0 0 50 ∷ out 3 0 0 50 ∷ []) (out 6 0 0 0 ∷ []) 60 ∷
    -- a timer of a later round, and the message of the round before
    says called 98 called_kiosk called_table (out 2 1 0 0 ∷ []) (out 4 2 0 0 ∷ []) 72 ∷
    -- of three rounds the oldest is not said
    says three_rounds 98 three_rounds_kiosk called_table (out 2 1 0 0 ∷ out 2 2 0 0 ∷ out 3 2 0 0 ∷ []) [] 60 ∷
    -- settled: its messages, and no timer
    says journal_107 98 alone (at 0 5 ∷ at 1 5 ∷ at 33 5 ∷ []) (out 1 0 0 5 ∷ out 2 0 0 5 ∷ out 3 0 0 5 ∷ []) [] 60 ∷
    -- 1: a used length over the journal, a wrong table
    fails Impossible header 16 98 (sevens 1040) (sevens 1040) ∷
    fails Impossible header 15 98 (sevens 1039) (sevens 1039) ∷
    -- 13 and 14, in an area that is too small too
    fails HeaderShort [] 0 98 (sevens 1040) (table []) ∷
    fails HeaderShort header 14 1 (sevens 1040) (table []) ∷
    fails (Damaged 0) (33 ∷ []) 1 0 (sevens 1040) (table []) ∷
    fails (Damaged 107) (journal_107 ++ (24 ∷ [])) 108 98 (sevens 1040) (table []) ∷
    []

-- ## What is given and what is computed

abbrev pub given : Case → (Woken × List ℕ) × (Reply × List ℕ × List ℕ)
given c = ((c.woken, c.table_after), (c.reply, c.table_after, c.area_after))

unfoldable pub computed : Case → (Woken × List ℕ) × (Reply × List ℕ × List ℕ)
computed c =
    let w = wake c.journal c.used c.table in
    let o = say_again c.journal c.used c.table c.area in (
      (record { answer = w.answer; kiosk = w.kiosk; messages = packed w.messages; timers = packed w.timers }, w.table),
      (record { answer = o.answer; sent = packed []; kiosk = o.kiosk }, o.table, o.area),
    )

-- a case that is computed as it is given meets both promises
pub meets : (c : Case) → given c ≡ computed c
    → Wakes (wake c.journal c.used c.table) c.woken c.table_after
    × SaysAgain (say_again c.journal c.used c.table c.area) c.reply c.table_after c.area_after
unfolding computed
meets c e = (
  record {
    answer = ap (λ x. x.0.0.answer) e;
    kiosk = ap (λ x. x.0.0.kiosk) e;
    messages = ap (λ x. x.0.0.messages) e;
    timers = ap (λ x. x.0.0.timers) e;
    table_is = ap (λ x. x.0.1) e;
  },
  record {
    answer = ap (λ x. x.1.0.answer) e;
    sent = ap (λ x. x.1.0.sent) e;
    kiosk = ap (λ x. x.1.0.kiosk) e;
    table_is = ap (λ x. x.1.1) e;
    area_is = ap (λ x. x.1.2) e;
  },
)

pub cases_right : map given cases ≡ map computed cases
unfolding the_choices compared the_weighing the_log the_doing the_rules the_work the_layout the_readback the_possible the_refusals the_judged the_calls the_opening the_again spread woven journal_107 images cases computed
cases_right = refl

-- Laws of one call, for any reply that meets its promise: what a refusal leaves, when 12 is given, and what an accepted call leaves. State,
-- table and journal are any: no history is assumed. Assumes nothing.
use Rattle.std.specs.Bool.{if◌then◌else◌}
use Prim.Native.Nat.{ℕ, suc, ◌+◌, ◌≤◌, ◌<◌}
use mathlib.Core.Path.{◌≡◌, refl, ap, sym, ◌∙◌}
use mathlib.Core.List.{List, [], ◌++◌}
use mathlib.Core.Logic.{◌↔◌}
use mathlib.Core.Bool.{Bool, true, false, ◌&&◌, ◌||◌, not, true≢false, false≢true}
use native.Mathlib.Omega.{arith}
use borrow.Author.Tests.{le-leb, lt-ltb, ltb-true, not-false}
use lib.Dec.{eqb, ltb}
use lib.ListN.{length, take}
use lib.Seq.{length-take-le}
use Rattle.words.specs.Bytes.{overwrite}
use Rattle.words.proofs.Choice.{by_test}
use Rattle.roll.specs.Weighing.{proposer}
use Rattle.rules.specs.declared.Input.{Input}
use Rattle.rules.specs.declared.Output.{Output}
use Rattle.rules.specs.Log.{Desk, desk}
use Rattle.rules.specs.State.{is_fresh, is_settled}
use Rattle.rules.specs.Doing.{own}
use Rattle.rules.specs.Sent.{packed}
use Rattle.rules.specs.Work.{work}
use Rattle.rules.proofs.Same.{work_roll}
use Rattle.journal.specs.Layout.{header_length, group_bytes, group_length}
use Rattle.journal.specs.Readback.{outputs_of}
use Rattle.journal.proofs.Roundtrip.{length_group}
use Rattle.refusals.specs.declared.Answer.{Answer}
use Rattle.refusals.specs.declared.Answer.TheVariants.{Accepted, Impossible, NoRoom}
use Rattle.refusals.specs.Answers.{number_of, is_accepted}
use Rattle.refusals.specs.Possible.{desk_fits}
use Rattle.refusals.specs.Refusals.{is_start, is_proposal, is_vote, is_timer, fields_fit, place_heard, same_heard, timer_due, refused_from_6, refused_input}
use Rattle.kiosk.specs.declared.Kiosk.{Kiosk}
use Rattle.kiosk.specs.declared.Reply.{Reply}
use Rattle.kiosk.specs.Judged.{used_fits, judged}
use Rattle.kiosk.specs.Calls.{Called, put, last_group}
use Rattle.kiosk.specs.Promises.{Says}
use Rattle.kiosk.proofs.Accepted.{accepted_used}
use Rattle.history.specs.Histories.{Call, Past, after, Wide, WideNames, call_of}
use Rattle.history.specs.Remembering.{Writes}
use Rattle.history.proofs.Images.{length_overwrite, take_overwrite, drop_overwrite}
use Rattle.history.proofs.Finding.{taken_height}
use Rattle.history.proofs.Steady.{possible_after}
use Rattle.history.proofs.Puts.{Puts, put_accepts}
use Rattle.history.proofs.Readback.{wide_after, call_back, last_shown}

-- ## Neither 1 nor 12

abbrev one_or_twelve : Answer → Bool
one_or_twelve a = eqb (number_of a) 1 || eqb (number_of a) 12

record Other (a : Answer) : Type 0 where
  off : one_or_twelve a ≡ false

-- the refusals of an input, 2 to 11, are neither
inputs_other : (d : Desk) (i : Input) → Other (refused_input d i)
unfolding refused_input refused_from_6
inputs_other d i =
    by_test Other (is_settled d.state.progress.phase) (λ t. record { off = refl }) (λ f.
    by_test Other (if is_fresh d.state.progress.phase then not (is_start i) else is_start i) (λ t. record { off = refl }) (λ f.
    by_test Other (not (eqb i.height.0 d.state.roll.height.0)) (λ t. record { off = refl }) (λ f.
    by_test Other (not (fields_fit d.state.roll.kiosks d.rounds i)) (λ t. record { off = refl }) (λ f.
    by_test Other ((is_proposal i || is_vote i) && eqb i.sender (own d)) (λ t. record { off = refl }) (λ f.
    by_test Other (is_proposal i && not (eqb i.sender (proposer d.state.roll i.round.0))) (λ t. record { off = refl }) (λ f.
    by_test Other (place_heard d i && same_heard d i) (λ t. record { off = refl }) (λ f.
    by_test Other (place_heard d i) (λ t. record { off = refl }) (λ f.
    by_test Other (is_timer i && not (timer_due d i)) (λ t. record { off = refl }) (λ f.
    by_test Other (eqb i.kind 7 && eqb (suc i.round.0) d.rounds) (λ t. record { off = refl }) (λ f. record { off = refl }))))))))))

pub input_never_impossible : (d : Desk) (i : Input) → refused_input d i ≡ Impossible → ⊥
input_never_impossible d i e = false≢true (sym (inputs_other d i).off ∙ ap one_or_twelve e)

pub input_never_no_room : (d : Desk) (i : Input) → refused_input d i ≡ NoRoom → ⊥
input_never_no_room d i e = false≢true (sym (inputs_other d i).off ∙ ap one_or_twelve e)

-- the refusals 1 to 11 are not 12
pub judged_never_no_room : (area : ℕ) (k : Kiosk) (d : Desk) (i : Input) → judged area k d i ≡ NoRoom → ⊥
unfolding judged
judged_never_no_room area k d i =
    by_test (λ (a : Answer). a ≡ NoRoom → ⊥) (not (desk_fits d && used_fits area k))
    (λ t e. true≢false (ap (λ (a : Answer). eqb (number_of a) 1) e))
    (λ t. input_never_no_room d i)

-- ## Any reply of a call

module _ (i : Input) (k : Kiosk) (t j : List ℕ) {r : Reply} {t' j' : List ℕ} (says : Says (put i k t j) r t' j') where
  -- "A refusal .. leaves state, table and journal unchanged", and sends nothing
  pub refused_changes_nothing : is_accepted r.answer ≡ false → (r.sent ≡ packed []) × (r.kiosk ≡ k) × (t' ≡ t) × (j' ≡ j)
  unfolding put
  refused_changes_nothing off =
      let os = (work i k.state t).sent in
      let on = is_accepted (judged (length j) k (desk k.state t) i) in
      let P : Called → Type 0 = λ o. is_accepted o.answer ≡ false → (o.sent ≡ []) × (o.kiosk ≡ k) × (o.table ≡ t) × (o.journal ≡ j) in
      let all : P (put i k t j) =
      by_test P (not on) (λ e h. (refl, refl, refl, refl)) (λ e.
      by_test P (ltb (length j) (k.used + group_length os)) (λ f h. (refl, refl, refl, refl)) (λ f h. absurd (true≢false h))) in
      let x = all (sym (ap is_accepted says.answer) ∙ off) in
      (says.sent ∙ ap packed x.0, says.kiosk ∙ x.1, says.table_is ∙ x.2, says.journal_is ∙ x.3)

  -- 12, "group does not fit the journal area", is given to an input that is accepted, room aside, and to no other
  pub no_room_exactly : (r.answer ≡ NoRoom) ↔
      ((is_accepted (judged (length j) k (desk k.state t) i) ≡ true) × (length j < k.used + group_length (work i k.state t).sent))
  unfolding put
  no_room_exactly =
      let n = k.used + group_length (work i k.state t).sent in
      let on = is_accepted (judged (length j) k (desk k.state t) i) in
      let P : Called → Type 0 = λ o. o.answer ≡ NoRoom → (on ≡ true) × (length j < n) in
      let only : P (put i k t j) =
      by_test P (not on) (λ e h. absurd (judged_never_no_room (length j) k (desk k.state t) i h)) (λ e.
      by_test P (ltb (length j) n) (λ f h. (not-false on e, ltb-true (length j) n f)) (λ f h. absurd (true≢false (ap is_accepted h)))) in
      (λ e. only (sym says.answer ∙ e), λ h. says.answer ∙ rw (h.0, lt-ltb (length j) n h.1))

-- ## Any reply of an accepted call

module _ (i : Input) (k : Kiosk) (t j : List ℕ) {r : Reply} {t' j' : List ℕ} (says : Says (put i k t j) r t' j') (yes_to : r.answer ≡ Accepted) where
  abbrev p : Past
  p = record { kiosk = k; table = t }

  abbrev os : List Output
  os = (work i k.state t).sent

  abbrev g : List ℕ
  g = group_bytes i os

  puts : Puts p i j
  puts = put_accepts p i j (ap is_accepted (sym says.answer ∙ yes_to))

  long : length g ≡ group_length os
  long = length_group i os

  within : k.used ≤ length j
  within = omega (arith, puts.room)

  kiosk_is : r.kiosk ≡ (after p i).kiosk
  kiosk_is = says.kiosk ∙ ap (λ (o : Called). o.kiosk) puts.gives

  journal_is : j' ≡ overwrite j k.used g
  journal_is = says.journal_is ∙ ap (λ (o : Called). o.journal) puts.gives

  used_is : r.kiosk.used ≡ k.used + length g
  used_is = ap (λ (x : Kiosk). x.used) kiosk_is ∙ ap (λ (n : ℕ). k.used + n) (sym long)

  -- the area stays as long, and the used length is within it
  pub accepted_within : (length j' ≡ length j) × (r.kiosk.used ≤ length j')
  accepted_within =
      let same : length j' ≡ length j = ap length journal_is ∙ length_overwrite j k.used g within (omega (arith, puts.room, long)) in
      (same, omega (arith, used_is, long, puts.room))

  -- its group is in the journal from the old used length on, and nothing else is changed there
  pub accepted_written : Writes i (work i k.state t).sent k j r j'
  accepted_written =
      let front : take r.kiosk.used j' ≡ take k.used j ++ g = rw (used_is, journal_is) (take_overwrite j k.used g within) in
      record {
        sent = says.sent ∙ ap (λ (o : Called). packed o.sent) puts.gives;
        used = ap (λ (x : Kiosk). x.used) kiosk_is;
        last = ap (λ (x : Kiosk). x.last) kiosk_is;
        written_after = front;
        beyond = rw (used_is, journal_is) (drop_overwrite j k.used g within);
        shown = ap (λ (x : Kiosk). last_group x j') kiosk_is
            ∙ last_shown k.used os (work i k.state t).state (take k.used j) g j' (length-take-le k.used j within)
            (omega (arith, puts.room, accepted_within.0)) (sym (ap (λ (x : Kiosk). take x.used j') kiosk_is) ∙ front);
      }

  -- what it leaves refusal 1 lets in, used length and last group's start included
  pub accepted_possible : (desk_fits (desk r.kiosk.state t') ≡ true) × (used_fits (length j') r.kiosk ≡ true)
  unfolding used_fits
  accepted_possible =
      let n : ℕ = k.used + group_length os in
      let head = header_length k.state.roll in
      let low = (accepted_used k.used k t i puts.taken).1 in (
        rw (kiosk_is, says.table_is ∙ ap (λ (o : Called). o.table) puts.gives) (possible_after p i puts.taken),
        rw (kiosk_is, accepted_within.0, work_roll i k.state t, le-leb head n (omega arith), le-leb n (length j) puts.room, le-leb k.used n (omega arith)),
      )

  -- where names have 64 bits, its group says its input and its outputs again
  module _ (w : Wide i) (names : WideNames (record { kiosk = k; table = t })) where
    pub group_says : let os = (work i k.state t).sent in call_of k.state.roll.height (group_bytes i os) ≡ record { input = i; sent = os }
    group_says =
        call_back k.state.roll.height (record { input = i; sent = os })
        (record { wide = w; height_is = taken_height p i puts.taken; names = (wide_after p i puts.taken w names).1 })

    pub outputs_said : let os = (work i k.state t).sent in let g = group_bytes i os in outputs_of g ≡ os
    outputs_said = ap (λ (c : Call). c.sent) group_says

-- "In an area of 1,811 + 834n bytes .. a state that opening, or accepted calls from there, give is never refused for room": each call
-- takes no more bytes than the bytes left fall by. Assumes nothing.
use Prim.Native.Nat.{ℕ, suc, ◌+◌, ◌*◌, ◌-◌, ◌≤◌, ◌<◌}
use mathlib.Core.Path.{◌≡◌, refl, ap, sym, ◌∙◌}
use mathlib.Core.List.{List, []}
use mathlib.Core.Bool.{true, false, ◌&&◌, not, false≢true}
use native.Mathlib.Omega.{arith}
use borrow.Author.Tests.{ltb-true, eqb-false, ne_eqb, le-ltb, not-false}
use lib.Dec.{eqb}
use lib.ListN.{length}
use Rattle.words.specs.Marks.{mark}
use Rattle.words.proofs.Choice.{by_test, by_cases}
use Rattle.roll.specs.declared.Roll.{Roll}
use Rattle.roll.specs.Weighing.{proposer}
use Rattle.rules.specs.declared.Votes.{Votes}
use Rattle.rules.specs.declared.Votes.TheVariants.{Prevotes, Precommits}
use Rattle.rules.specs.declared.Heard.{Heard}
use Rattle.rules.specs.declared.Input.{Input}
use Rattle.rules.specs.declared.Phase.{Phase}
use Rattle.rules.specs.declared.Phase.TheVariants.{Fresh, Running, Settled}
use Rattle.rules.specs.declared.Stand.{Stand}
use Rattle.rules.specs.declared.Step.TheVariants.{Prevote, Precommit, Propose}
use Rattle.rules.specs.Kinds.{vote_out}
use Rattle.rules.specs.State.{most_rounds, rounds_of, is_fresh, is_running, is_propose, is_prevote, marks_of, with_marks, spoken, empty_log, held}
use Rattle.rules.specs.State.{entered, before_start, with_phase, with_stand, with_locked, with_backed, with_step}
use Rattle.rules.specs.Log.{Desk, desk, with_state, logged, told, tell, heard, message, hear_proposal, hear_vote}
use Rattle.rules.specs.Doing.{current, step, own, step_of, output, propose, vote, ask, sheet_to_propose, start_round}
use Rattle.rules.specs.Rules.{fire_49}
use Rattle.rules.specs.Work.{take_in, most_firings, worked}
use Rattle.rules.proofs.ByRule.{Runs}
use Rattle.rules.proofs.Telling.{Sized, sized_tell}
use Rattle.rules.proofs.Hearing.{vote_is}
use Rattle.rules.proofs.Deeds.{holding, Deed, prevotes, precommits_nil, locks, holds, asks_prevote, asks_precommit, settles, enters, firing_keeps}
use Rattle.rules.specs.InContracts.Room.{steps_left, unless}
use Rattle.rules.proofs.Room.{propose_left, prevote_left}
use Rattle.rules.proofs.Same.{worked_same}
use Rattle.rules.proofs.Sends.{one_more}
use Rattle.journal.specs.Layout.{header_length, group_length, roomy}
use Rattle.refusals.specs.Answers.{is_accepted}
use Rattle.refusals.specs.Refusals.{refused_input}
use Rattle.kiosk.specs.Calls.{Called, put}
use Rattle.kiosk.specs.Judged.{judged}
use Rattle.kiosk.proofs.Accepted.{Passes, accepted_is, accepted_passes}
use Rattle.kiosk.proofs.Taken.{Message, Taken, starts, hears_proposal, hears_vote, timer, taken, timer_current, timer_propose, timer_prevote, timer_next}
use Rattle.kiosk.proofs.Replays.{nothing_told}
use Rattle.history.specs.Histories.{Call, Past, does, after, takes, History}
use Rattle.history.specs.Counting.{sum_below, messages_left, all_messages_left, stand_left, phase_left, bytes_left, room_for}
use Rattle.history.proofs.Counting.{own_marked, other_marked, none_marked, sum_ext, sum_const, votes_left, tells}
use Rattle.history.proofs.Finding.{judged_area}
use Rattle.history.proofs.Telling.{history_keeps}
use Rattle.history.proofs.Steady.{never_impossible}

-- ## What the count needs of a desk

-- a current round that there is, and a log with a place for each
pub record RoomySo (rounds round : ℕ) (l : List ℕ) : Type 0 where
  pub there : round < rounds
  pub sized : Sized rounds l

abbrev Roomy : Desk → Type 0
Roomy d = RoomySo d.rounds (current d) d.state.log

-- bytes of the outputs sent so far, and the bytes left
abbrev weight : Desk → ℕ
weight d = 12 * length d.sent + bytes_left d

-- from d to u, for c bytes at least
record Pays (c : ℕ) (d u : Desk) : Type 0 where
  still : Roomy u
  pays : weight u + c ≤ weight d

less_pays : {c : ℕ} {d u : Desk} → Pays c d u → Pays 0 d u
less_pays p = record { still = p.still; pays = omega (arith, p.pays) }

and_pays : {c : ℕ} {d u v : Desk} → Pays c d u → Pays 0 u v → Pays c d v
and_pays p q = record { still = q.still; pays = omega (arith, p.pays, q.pays) }

runs_left : (p : Phase) (n : ℕ) (s : Stand) → is_running p ≡ true → phase_left p n s ≡ phase_left Running n s
runs_left Fresh n s e = absurd (false≢true e)
runs_left Running n s e = refl
runs_left (Settled r) n s e = absurd (false≢true e)

fresh_left : (p : Phase) (n : ℕ) (s : Stand) → is_fresh p ≡ true → phase_left p n s ≡ phase_left Fresh n s
fresh_left Fresh n s e = refl
fresh_left Running n s e = absurd (false≢true e)
fresh_left (Settled r) n s e = absurd (false≢true e)

-- ## Each thing that a kiosk does, where it runs

module _ (d : Desk) (ok : Roomy d) where
  abbrev cur : ℕ
  cur = current d

  abbrev R : ℕ
  R = d.rounds

  abbrev rl : Roll
  rl = d.state.roll

  -- an own vote takes no message of another seat
  own_vote : (v : Votes) → let h = heard d cur in
      all_messages_left R rl (tell d.state.log cur (with_marks v (mark (marks_of v h) (own d)) h)) + 0 ≤ all_messages_left R rl d.state.log
  own_vote v =
      let h = heard d cur in
      tells R rl d.state.log ok.sized cur _ 0 ok.there
      (omega (arith, votes_left v rl h (mark (marks_of v h) (own d)) 0 (let e = own_marked rl.kiosks rl.own (marks_of v h) in omega (arith, e))))

  module _ (run : Runs d) where
    vote_pays : (v : Votes) (name : ℕ) → steps_left (step d) ≡ suc (steps_left (step_of v)) → Pays 26 d (vote v name d)
    unfolding hear_vote bytes_left phase_left stand_left
    vote_pays v name one =
        let s = d.state.progress.stand in
        let a = runs_left d.state.progress.phase R s run in
        let b = runs_left d.state.progress.phase R (with_step (step_of v) s) run in
        rw (vote_is v name d)
        (record {
          still = record { there = ok.there; sized = sized_tell d.state.log cur _ ok.sized };
          pays = omega (arith, one_more d.sent (output (vote_out v) cur 0 name), own_vote v);
        })

    prevote_pays : (name : ℕ) → is_propose (step d) ≡ true → Pays 26 d (vote Prevotes name d)
    prevote_pays name e = vote_pays Prevotes name (propose_left (step d) e)

    precommit_pays : (name : ℕ) → is_prevote (step d) ≡ true → Pays 26 d (vote Precommits name d)
    precommit_pays name e = vote_pays Precommits name (prevote_left (step d) e)

    -- to mark the round and hold a sheet takes no bytes
    hold_pays : (name : ℕ) → Pays 0 d (with_state (holding name d) d) × Pays 0 d (with_state (with_locked (held cur name) (holding name d)) d)
    unfolding bytes_left phase_left stand_left
    hold_pays name =
        let a = runs_left d.state.progress.phase R d.state.progress.stand run in
        let b = runs_left d.state.progress.phase R (with_backed d.state.progress.stand) run in
        (record { still = ok; pays = omega arith }, record { still = ok; pays = omega arith })

    ask_prevote_pays : d.state.progress.stand.asked.prevote ≡ false → Pays 0 d (ask Prevote d)
    unfolding ask bytes_left phase_left stand_left
    ask_prevote_pays e =
        let s = d.state.progress.stand in
        let a = runs_left d.state.progress.phase R s run in
        let b = runs_left d.state.progress.phase R (ask Prevote d).state.progress.stand run in
        let one : unless s.asked.prevote ≡ 1 = rw e in
        record { still = ok; pays = omega (arith, one_more d.sent (output 5 cur 0 0)) }

    ask_precommit_pays : d.state.progress.stand.asked.precommit ≡ false → Pays 0 d (ask Precommit d)
    unfolding ask bytes_left phase_left stand_left
    ask_precommit_pays e =
        let s = d.state.progress.stand in
        let a = runs_left d.state.progress.phase R s run in
        let b = runs_left d.state.progress.phase R (ask Precommit d).state.progress.stand run in
        let one : unless s.asked.precommit ≡ 1 = rw e in
        record { still = ok; pays = omega (arith, one_more d.sent (output 6 cur 0 0)) }

    settle_pays : (r name : ℕ) → Pays 0 d (fire_49 r name d)
    unfolding fire_49 bytes_left phase_left
    settle_pays r name =
        let a = runs_left d.state.progress.phase R d.state.progress.stand run in
        record { still = ok; pays = omega (arith, one_more d.sent (output 7 r 0 name)) }

-- a round entered: one output, and all of the round is left
entered_weighs : (d : Desk) → Sized d.rounds d.state.log → Runs d → (offer r : ℕ) → r < d.rounds
    → Roomy (start_round offer r d)
    × (weight (start_round offer r d) ≤ 12 * length d.sent + 124 + 138 * (d.rounds - suc r) + 26 * all_messages_left d.rounds d.state.roll d.state.log)
unfolding start_round propose ask message hear_proposal bytes_left phase_left stand_left messages_left
entered_weighs d sized run offer r less =
    let n = d.rounds in
    let e = with_state (with_stand (entered r) d.state) d in
    let sheet = sheet_to_propose offer d in
    let h = heard d r in
    let P : Desk → Type 0 = λ u. Roomy u × (weight u ≤ 12 * length d.sent + 124 + 138 * (n - suc r) + 26 * all_messages_left n d.state.roll d.state.log) in
    let a = runs_left d.state.progress.phase n (entered r) run in
    by_test P (eqb (proposer d.state.roll r) (own d) && not (eqb sheet 0)) {x = propose d.state.progress.valid.next.0 sheet e} {y = ask Propose e}
    (λ t. (
      record { there = less; sized = sized_tell d.state.log r _ sized },
      omega (
        arith,
        one_more d.sent (output 1 r d.state.progress.valid.next.0 sheet),
        tells n d.state.roll d.state.log sized r (record { prevotes = h.prevotes; precommits = h.precommits; proposal = 2; valid = d.state.progress.valid.next.0 }) 0 less (omega arith),
      ),
    ))
    (λ t.
    let b = runs_left d.state.progress.phase n (ask Propose e).state.progress.stand run in
    (record { there = less; sized = sized }, omega (arith, one_more d.sent (output 4 r 0 0))))

goes_pays : (d : Desk) → Roomy d → Runs d → (offer r : ℕ) → current d < r → r < d.rounds → Pays 26 d (start_round offer r d)
unfolding bytes_left phase_left stand_left
goes_pays d ok run offer r more less =
    let e = entered_weighs d ok.sized run offer r less in
    let a = runs_left d.state.progress.phase d.rounds d.state.progress.stand run in
    record { still = e.0; pays = omega (arith, e.1) }

-- so each deed pays for its outputs
deed_pays : (offer : ℕ) (d u : Desk) → Runs d → Deed offer d u → Roomy d → Pays 0 d u
deed_pays offer d u run (prevotes name s f e) ok = rw e (less_pays (prevote_pays d ok run name s))
deed_pays offer d u run (precommits_nil s e) ok = rw e (less_pays (precommit_pays d ok run 0 s))
deed_pays offer d u run (locks name s f e) ok = let p = (hold_pays d ok run name).1 in rw e (and_pays p (less_pays (precommit_pays _ p.still run name s)))
deed_pays offer d u run (holds name p s f e) ok = rw e (hold_pays d ok run name).0
deed_pays offer d u run (asks_prevote s a l e) ok = rw e (ask_prevote_pays d ok run a)
deed_pays offer d u run (asks_precommit a l e) ok = rw e (ask_precommit_pays d ok run a)
deed_pays offer d u run (settles r name f e) ok = rw e (settle_pays d ok run r name)
deed_pays offer d u run (enters r m l e) ok = rw e (less_pays (goes_pays d ok run offer r m l))

-- ## An input that is accepted pays for its 26 bytes

module _ (d : Desk) (i : Input) (ok : Roomy d) (p : Passes d i) where
  -- a message whose place was left
  message_pays : Message d i → (h : Heard) (place : ℕ) → messages_left d.state.roll h + 1 ≤ messages_left d.state.roll (heard d i.round.0)
      → Pays 26 d (logged d i.round.0 h place i.name)
  unfolding bytes_left
  message_pays m h place fewer =
      let r = i.round.0 in
      record {
        still = record { there = ok.there; sized = sized_tell d.state.log r h ok.sized };
        pays = omega (arith, tells d.rounds d.state.roll d.state.log ok.sized r h 1 m.round fewer);
      }

  -- a timer votes nil, or goes to the next round: of a deed alone 26 bytes are not to be had, so the kind is looked at
  timer_pays : Runs d → 5 ≤ i.kind → Pays 26 d (take_in i d)
  unfolding take_in
  timer_pays run late =
      let off : (n : ℕ) → n < 5 → eqb i.kind n ≡ false = λ n l. ne_eqb i.kind n (λ e. omega arith) in
      rw (off 1 (omega arith), off 2 (omega arith), off 3 (omega arith), off 4 (omega arith))
      (by_test (Pays 26 d) (eqb i.kind 5) (λ e. prevote_pays d ok run 0 (timer_propose d i p e)) (λ e5.
      by_test (Pays 26 d) (eqb i.kind 6) (λ e. precommit_pays d ok run 0 (timer_prevote d i p e5 e)) (λ e6.
      let seven : 7 ≤ i.kind = omega (arith, eqb-false i.kind 5 e5, eqb-false i.kind 6 e6) in
      goes_pays d ok run i.offer (suc i.round.0) (omega (arith, timer_current d i p late)) (timer_next d i p seven))))

  taken_pays : (u : Desk) → u ≡ take_in i d → Taken d i u → Pays 26 d u
  unfolding hear_proposal hear_vote messages_left bytes_left phase_left
  taken_pays u is (starts f k e) =
      let v = with_state (with_phase Running d.state) d in
      let w = entered_weighs v ok.sized refl i.offer 0 (omega (arith, ok.there)) in
      let a = fresh_left d.state.progress.phase d.rounds d.state.progress.stand f in
      rw e (record { still = w.0; pays = omega (arith, w.1, ok.there) })
  taken_pays u is (hears_proposal m k t z v s e) =
      let one : unless (spoken (heard d i.round.0)) ≡ 1 = rw s in
      rw e (message_pays m _ _ (by_cases (eqb i.verdict 1) (λ b. rw b (omega arith)) (λ b. rw b (omega arith))))
  taken_pays u is (hears_vote v m k s e) =
      let h = heard d i.round.0 in
      rw e
      (message_pays m _ _
      (omega (arith, votes_left v d.state.roll h (mark (marks_of v h) i.sender) 1 (other_marked d.state.roll.kiosks (own d) (marks_of v h) i.sender m.seat (λ same. m.other (sym same)) s))))
  taken_pays u is (timer run late did) = rw is (timer_pays run late)

  -- and for its outputs
  work_pays : Pays 26 d (worked i d)
  unfolding worked
  work_pays =
      firing_keeps (Pays 26 d) i.offer (λ e u run did q. and_pays q (deed_pays i.offer e u run did q.still))
      (most_firings d.rounds) (take_in i d) (taken_pays (take_in i d) refl (taken d i p))

-- ## From creation on

nothing_left : (roll : Roll) → roll.own < roll.kiosks → (r : ℕ) → messages_left roll (told empty_log r) + 1 ≡ 2 * roll.kiosks
unfolding messages_left
nothing_left roll l r = rw (nothing_told r) (omega (arith, none_marked roll.kiosks roll.own l))

-- where nothing is heard: start; for each round, however many there are, its messages, timers and outputs; and settling
begun_left : (roll : Roll) (rounds : ℕ) (l : List ℕ) (s : Stand) → ((r : ℕ) → messages_left roll (told l r) + 1 ≡ 2 * roll.kiosks)
    → header_length roll + (phase_left Fresh rounds s + 26 * all_messages_left rounds roll l) ≡ room_for roll.kiosks rounds
unfolding all_messages_left phase_left
begun_left roll rounds l s left =
    let n = roll.kiosks in
    let c = messages_left roll (told l 0) in
    let e : sum_below rounds (λ r. messages_left roll (told l r)) ≡ rounds * c
    = sum_ext rounds (λ r. messages_left roll (told l r)) (λ r. c) (λ r less. omega (arith, left r, left 0)) ∙ sum_const rounds c in
    let m : rounds * (c + 1) ≡ rounds * (2 * n) = ap (λ (x : ℕ). rounds * x) (left 0) in
    omega arith

-- In every state that opening, or accepted calls from there, give: the bytes used and those left are no more than the room for its rounds.
-- How many those are is said in one place, `rounds_of` (rules/specs/State), and 01's bytes for them in `roomy`, which `roomy_is` ties to it:
-- those two would vary
record Rooms (roll : Roll) (p : Past) : Type 0 where
  ok : Roomy (desk p.kiosk.state p.table)
  room : p.kiosk.used + bytes_left (desk p.kiosk.state p.table) ≤ room_for roll.kiosks (rounds_of p.kiosk.state)

-- no call changes their number
pub rounds_stay : (p : Past) (i : Input) → (does p i).rounds ≡ rounds_of (after p i).kiosk.state
rounds_stay p i = (worked_same i (desk p.kiosk.state p.table)).rounds

-- 01's bytes are those for all rounds that there are
pub roomy_is : (n : ℕ) → roomy n ≡ room_for n most_rounds
roomy_is n = omega arith

same_left : (n : ℕ) (u : Desk) → u.rounds ≡ n → bytes_left (record { rounds = n; state = u.state; table = u.table; sent = [] }) ≡ bytes_left u
unfolding bytes_left
same_left n u e = rw e

call_pays : (p : Past) (i : Input) → takes p i ≡ true → Roomy (desk p.kiosk.state p.table) → Pays 26 (desk p.kiosk.state p.table) (does p i)
call_pays p i t ok = work_pays (desk p.kiosk.state p.table) i ok (accepted_passes p.kiosk.used p.kiosk p.table i t)

rooms_after : {roll : Roll} (p : Past) (i : Input) → takes p i ≡ true → Rooms roll p → Rooms roll (after p i)
rooms_after p i t r =
    let u = does p i in
    let n = rounds_of (after p i).kiosk.state in
    let e : u.rounds ≡ n = rounds_stay p i in
    let w = call_pays p i t r.ok in
    record { ok = rw e at w.still; room = omega (arith, r.room, w.pays, same_left n u e) }

rooms : {roll : Roll} {cs : List Call} {p : Past} → History roll cs p → Rooms roll p
unfolding bytes_left
rooms {roll} h =
    let own : roll.own < roll.kiosks = ltb-true roll.own roll.kiosks h.created.own in
    let n = rounds_of (before_start roll) in
    history_keeps (Rooms roll) rooms_after h
    (record {
      ok = record { there = omega arith; sized = record { size = refl } };
      room = omega (arith, begun_left roll n empty_log (entered 0) (nothing_left roll own));
    })

-- the room, for as many rounds as there are
pub used_left : {roll : Roll} {cs : List Call} {p : Past} → History roll cs p
    → p.kiosk.used + bytes_left (desk p.kiosk.state p.table) ≤ room_for roll.kiosks (rounds_of p.kiosk.state)
used_left h = (rooms h).room

-- one further call that is accepted, room aside, has room
pub call_left : {roll : Roll} {cs : List Call} {p : Past} → History roll cs p → (i : Input) → takes p i ≡ true
    → p.kiosk.used + group_length (does p i).sent ≤ room_for roll.kiosks (rounds_of p.kiosk.state)
call_left {p = p} h i t = let r = rooms h in omega (arith, r.room, (call_pays p i t r.ok).pays)

-- ## In 01's bytes

-- the used length stays within the room
pub used_room : {roll : Roll} {cs : List Call} {p : Past} → History roll cs p → p.kiosk.used ≤ roomy roll.kiosks
used_room {roll} h = omega (arith, used_left h, roomy_is roll.kiosks)

pub call_room : {roll : Roll} {cs : List Call} {p : Past} → History roll cs p → (i : Input) → takes p i ≡ true
    → p.kiosk.used + group_length (does p i).sent ≤ roomy roll.kiosks
call_room {roll} h i t = omega (arith, call_left h i t, roomy_is roll.kiosks)

-- so in a roomy area the answer of a call is one of the refusals 2 to 11, or none: never 1, and never 12
pub put_answers : {roll : Roll} {cs : List Call} {p : Past} → History roll cs p → (journal : List ℕ) → roomy roll.kiosks ≤ length journal → (i : Input)
    → (put i p.kiosk p.table journal).answer ≡ refused_input (desk p.kiosk.state p.table) i
unfolding put
put_answers {p = p} h journal wide i =
    let k = p.kiosk in
    let d = desk k.state p.table in
    let within : k.used ≤ length journal = omega (arith, used_room h) in
    let a : judged (length journal) k d i ≡ refused_input d i = never_impossible h (length journal) within i in
    let P : Called → Type 0 = λ r. r.answer ≡ refused_input d i in
    by_test P (not (is_accepted (judged (length journal) k d i))) (λ e. a)
    (λ e.
    let on : is_accepted (judged (length journal) k d i) ≡ true = not-false _ e in
    let t : takes p i ≡ true = rw (judged_area (length journal) k d i within) at on in
    let fits : k.used + group_length (does p i).sent ≤ length journal = omega (arith, call_room h i t) in
    rw (le-ltb (length journal) (k.used + group_length (does p i).sent) fits) (sym (accepted_is (judged (length journal) k d i) on) ∙ a))

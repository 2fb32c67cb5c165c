-- What refusal 1 asks is kept: an accepted call leaves a state and a table that refusal 1 lets in. Assumes nothing.
use Rattle.std.specs.Prelude.{None}
use Rattle.std.specs.Bool.{if◌then◌else◌}
use Prim.Native.Nat.{ℕ, suc, ◌^◌, ◌≤◌, ◌<◌}
use mathlib.Core.Path.{◌≡◌, refl, sym, ap, ◌∙◌}
use mathlib.Core.List.{List, []}
use mathlib.Core.Bool.{Bool, true, false, ◌&&◌, ◌||◌, not, false≢true}
use native.Mathlib.Omega.{arith}
use lib.ListN.{length, get_or, set, length-set}
use lib.Seq.{get_or-set_same, get_or-set_other}
use lib.Dec.{ltb, leb, eqb}
use lib.Pow.{pow_mono}
use borrow.Author.Tests.{ltb-true, leb-true, eqb-true, eqb-false, not-true, lt-ltb, le-leb, eq-eqb, ne_eqb}
use Rattle.words.specs.Marks.{mark}
use Rattle.words.proofs.Choice.{by_test, by_cases, and_left, and_right, all_holds, all_so}
use Rattle.words.proofs.MarkLaws.{mark_below}
use Rattle.roll.specs.Weighing.{roll_fits, proposer}
use Rattle.rules.specs.declared.Step.{Step}
use Rattle.rules.specs.declared.Step.TheVariants.{Prevote, Precommit}
use Rattle.rules.specs.declared.Votes.{Votes}
use Rattle.rules.specs.declared.Votes.TheVariants.{Prevotes, Precommits}
use Rattle.rules.specs.declared.Heard.{Heard}
use Rattle.rules.specs.declared.Held.{Held}
use Rattle.rules.specs.declared.Input.{Input}
use Rattle.rules.specs.declared.Phase.{Phase}
use Rattle.rules.specs.declared.Phase.TheVariants.{Fresh, Running, Settled}
use Rattle.rules.specs.declared.State.{State}
use Rattle.rules.specs.declared.Stand.{Stand}
use Rattle.rules.specs.declared.Output.{Output}
use Rattle.rules.specs.State.{most_rounds, marks_of, with_marks, spoken, held, settled_round, is_fresh, is_running, entered, with_phase, with_stand, with_locked}
use Rattle.rules.specs.Log.{the_log, Desk, desk, with_state, table_length, proposal_place, vote_place, told, tell, heard, proposed, logged, message, hear_proposal, hear_vote}
use Rattle.rules.specs.Doing.{current, own, vote, propose, ask, sheet_to_propose, start_round}
use Rattle.rules.specs.Rules.{the_rules, first_rule, fire_49}
use Rattle.rules.specs.Work.{worked, work}
use Rattle.rules.proofs.ByRule.{Runs}
use Rattle.rules.proofs.Telling.{told_other, told_marks, told_proposal, told_valid}
use Rattle.rules.proofs.Hearing.{vote_proposal, vote_is}
use Rattle.rules.proofs.Deeds.{holding, Deed, prevotes, precommits_nil, locks, holds, asks_prevote, asks_precommit, settles, enters}
use Rattle.rules.proofs.Ends.{work_ends}
use Rattle.refusals.specs.Answers.{is_accepted}
use Rattle.refusals.specs.Possible.{the_possible, held_fits, round_fits, at_rest, desk_fits}
use Rattle.refusals.specs.Refusals.{refused_input}
use Rattle.kiosk.proofs.Accepted.{Fits, fits, unstarted, Passes, passes}
use Rattle.kiosk.proofs.Taken.{Taken, starts, hears_proposal, hears_vote, timer, call_keeps}

-- ---- what is heard of a round and the name of its proposal, as refusal 1 asks it

pub record HeardFits (n r : ℕ) (h : Heard) (name : ℕ) : Type 0 where
  pub votes : (v : Votes) → marks_of v h < 2 ^ n
  pub sheet : spoken h ≡ true → (name ≡ 0 → ⊥) × (h.valid ≤ r)

both_votes : (n : ℕ) (h : Heard) → h.prevotes < 2 ^ n → h.precommits < 2 ^ n → (v : Votes) → marks_of v h < 2 ^ n
both_votes n h a b Prevotes = a
both_votes n h a b Precommits = b

pub round_told : (d : Desk) (r : ℕ) → round_fits d r ≡ true → HeardFits d.state.roll.kiosks r (heard d r) (proposed d r)
unfolding round_fits
round_told d r e =
    let h = heard d r in
    let n = d.state.roll.kiosks in
    let a = ltb h.prevotes (2 ^ n) in
    let b = ltb h.precommits (2 ^ n) in
    let s = not (eqb (proposed d r) 0) in
    let v = leb h.valid r in
    let ab = and_left (a && b) (not (spoken h) || (s && v)) e in
    let sheets = and_right (a && b) (not (spoken h) || (s && v)) e in
    record {
      votes = both_votes n h (ltb-true h.prevotes (2 ^ n) (and_left a b ab)) (ltb-true h.precommits (2 ^ n) (and_right a b ab));
      sheet = λ p.
          let sv : (s && v) ≡ true = rw p at sheets in
          (eqb-false (proposed d r) 0 (not-true (eqb (proposed d r) 0) (and_left s v sv)), leb-true h.valid r (and_right s v sv));
    }

holds_so : (n r : ℕ) (h : Heard) (name : ℕ) → HeardFits n r h name →
    (ltb h.prevotes (2 ^ n) && ltb h.precommits (2 ^ n) && (not (spoken h) || (not (eqb name 0) && leb h.valid r))) ≡ true
holds_so n r h name f =
    rw (lt-ltb h.prevotes (2 ^ n) (f.votes Prevotes), lt-ltb h.precommits (2 ^ n) (f.votes Precommits))
    (by_cases (spoken h)
    (λ p. rw (p, ne_eqb name 0 (f.sheet p).0, le-leb h.valid r (f.sheet p).1))
    (λ p. rw p))

pub round_holds : (d : Desk) (r : ℕ) → HeardFits d.state.roll.kiosks r (heard d r) (proposed d r) → round_fits d r ≡ true
unfolding round_fits
round_holds d r f = holds_so d.state.roll.kiosks r (heard d r) (proposed d r) f

-- ---- a locked or a valid sheet

pub held_low : (r : ℕ) (h : Held) → held_fits r h ≡ true → h.next.0 ≤ suc r
held_low r h e = leb-true h.next.0 (suc r) (and_left (leb h.next.0 (suc r)) (if eqb h.next.0 0 then eqb h.name 0 else not (eqb h.name 0)) e)

pub held_at : (r q : ℕ) (h : Held) → held_fits r h ≡ true → h.next.0 ≤ suc q → held_fits q h ≡ true
held_at r q h e l =
    let c = if eqb h.next.0 0 then eqb h.name 0 else not (eqb h.name 0) in
    rw (le-leb h.next.0 (suc q) l) (and_right (leb h.next.0 (suc r)) c e)

pub held_here : (r name : ℕ) → (name ≡ 0 → ⊥) → held_fits r (held r name) ≡ true
held_here r name some = rw (le-leb (suc r) (suc r) (omega arith), ne_eqb (suc r) 0 (λ e. omega (arith, e)), ne_eqb name 0 some)

-- ---- a desk that refusal 1 lets in, apart from rest

pub record Sound (d : Desk) : Type 0 where
  pub roll : roll_fits d.state.roll ≡ true
  pub few : d.state.roll.kiosks ≤ 32
  pub own_seat : own d < d.state.roll.kiosks
  pub rounds_are : d.rounds ≡ most_rounds
  pub started : is_fresh d.state.progress.phase ≡ false
  pub places : length d.table ≡ table_length
  pub round : current d < d.rounds
  pub settled : settled_round d.state.progress.phase < d.rounds
  pub all_heard : (r : ℕ) → r < d.rounds → HeardFits d.state.roll.kiosks r (heard d r) (proposed d r)
  pub locked : held_fits (current d) d.state.progress.locked ≡ true
  pub valid : held_fits (current d) d.state.progress.valid ≡ true

-- what a log says of a round once it is told it
told_fits : (l : List ℕ) (n r name : ℕ) (h : Heard) → HeardFits n r h name → HeardFits n r (told (tell l r h) r) name
told_fits l n r name h f = record {
  votes = λ v. told_marks l r h (λ x. x < 2 ^ n) (omega (arith, pow_mono {i = 0} {j = n} (omega arith))) v (f.votes v);
  sheet =
      told_proposal l r h (λ x. not (eqb x 0) ≡ true → (name ≡ 0 → ⊥) × ((told (tell l r h) r).valid ≤ r))
      (λ p. absurd (false≢true p))
      (λ p. ((f.sheet p).0, told_valid l r h (λ x. x ≤ r) (omega arith) (f.sheet p).1));
}

-- a message in the log of a round, and the names that a table has then
told_kept : (d : Desk) → (r : ℕ) (h : Heard) (t : List ℕ) → HeardFits d.state.roll.kiosks r h (get_or t (proposal_place r) 0)
    → (q : ℕ) → ((q ≡ r → ⊥) → HeardFits d.state.roll.kiosks q (heard d q) (get_or t (proposal_place q) 0))
    → HeardFits d.state.roll.kiosks q (told (tell d.state.log r h) q) (get_or t (proposal_place q) 0)
told_kept d r h t new q old =
    by_cases (eqb q r)
    (λ e. rw (eqb-true q r e) (told_fits d.state.log d.state.roll.kiosks r (get_or t (proposal_place r) 0) h new))
    (λ e. rw (told_other d.state.log r h (eqb-false q r e)) (old (eqb-false q r e)))

-- a message in the log changes what is heard, and no other part
logged_kept : (d : Desk) → Sound d → (r : ℕ) (h : Heard) (place name : ℕ)
    → ((q : ℕ) → q < d.rounds → HeardFits d.state.roll.kiosks q (heard (logged d r h place name) q) (proposed (logged d r h place name) q))
    → Sound (logged d r h place name)
logged_kept d s r h place name all = record {
  roll = s.roll;
  few = s.few;
  own_seat = s.own_seat;
  rounds_are = s.rounds_are;
  started = s.started;
  places = length-set d.table place name ∙ s.places;
  round = s.round;
  settled = s.settled;
  all_heard = all;
  locked = s.locked;
  valid = s.valid;
}

-- a proposal, with a name and a valid round before its own
proposal_logged : (d : Desk) → Sound d → (r : ℕ) (good : Bool) (valid name : ℕ) → r < d.rounds → valid ≤ r → (name ≡ 0 → ⊥) → Sound (hear_proposal d r good valid name)
unfolding hear_proposal
proposal_logged d s r good valid name l v some =
    let t = d.table in
    let at : proposal_place r < length t = rw s.places (omega (arith, s.rounds_are)) in
    let h = heard d r in
    let new : Heard = record { prevotes = h.prevotes; precommits = h.precommits; proposal = if good then 2 else 1; valid = valid } in
    let old = (s.all_heard r l).votes in
    logged_kept d s r new (proposal_place r) name
    (λ q m.
    told_kept d r new (set t (proposal_place r) name)
    (record {
      votes = both_votes d.state.roll.kiosks new (old Prevotes) (old Precommits);
      sheet = λ p. (rw (get_or-set_same t (proposal_place r) name 0 at) some, v);
    })
    q
    (λ e. rw (get_or-set_other t (proposal_place r) (proposal_place q) name 0 (λ z. e (omega (arith, z)))) (s.all_heard q m)))

-- a vote, of a seat on the roll: a round with one mark more
more_marks : (v w : Votes) (n : ℕ) (h : Heard) (i : ℕ) → i < n → ((x : Votes) → marks_of x h < 2 ^ n) → marks_of w (with_marks v (mark (marks_of v h) i) h) < 2 ^ n
more_marks Prevotes Prevotes n h i l f = mark_below n i h.prevotes l (f Prevotes)
more_marks Prevotes Precommits n h i l f = f Precommits
more_marks Precommits Prevotes n h i l f = f Prevotes
more_marks Precommits Precommits n h i l f = mark_below n i h.precommits l (f Precommits)

marked_fits : (v : Votes) (n r : ℕ) (h : Heard) (name i : ℕ) → i < n → HeardFits n r h name → HeardFits n r (with_marks v (mark (marks_of v h) i) h) name
marked_fits Prevotes n r h name i l f = record { votes = λ w. more_marks Prevotes w n h i l f.votes; sheet = f.sheet }
marked_fits Precommits n r h name i l f = record { votes = λ w. more_marks Precommits w n h i l f.votes; sheet = f.sheet }

vote_logged : (v : Votes) (d : Desk) → Sound d → (r i name : ℕ) → r < d.rounds → i < d.state.roll.kiosks → Sound (hear_vote v d r i name)
unfolding hear_vote
vote_logged v d s r i name l m =
    let t = d.table in
    let stays : (q : ℕ) → get_or (set t (vote_place v r i) name) (proposal_place q) 0 ≡ proposed d q
    = λ q. get_or-set_other t (vote_place v r i) (proposal_place q) name 0 (λ e. vote_proposal v q r i (omega (arith, m, s.few)) (sym e)) in
    logged_kept d s r _ (vote_place v r i) name
    (λ q k.
    told_kept d r _ (set t (vote_place v r i) name)
    (rw (stays r) (marked_fits v d.state.roll.kiosks r (heard d r) (proposed d r) i m (s.all_heard r l)))
    q
    (λ e. rw (stays q) (s.all_heard q k)))

-- ---- what a kiosk does on its own

-- the same log and table with other votes, as far as refusal 1 asks
votes_kept : (d : Desk) {p : Phase} {t : Stand} {l v : Held} {sent : List Output} → Sound d → is_fresh p ≡ false → settled_round p < d.rounds
    → t.round.0 < d.rounds → held_fits t.round.0 l ≡ true → held_fits t.round.0 v ≡ true
    → Sound (record { rounds = d.rounds; state = record { roll = d.state.roll; progress = record { phase = p; stand = t; locked = l; valid = v }; log = d.state.log }; table = d.table; sent = sent })
votes_kept d s started settled round locked valid = record {
  roll = s.roll;
  few = s.few;
  own_seat = s.own_seat;
  rounds_are = s.rounds_are;
  started = started;
  places = s.places;
  round = round;
  settled = settled;
  all_heard = s.all_heard;
  locked = locked;
  valid = valid;
}

-- another step, timers or marks in the same round, and outputs
stands : (d : Desk) → Sound d → (t : Stand) (sent : List Output) → t.round.0 ≡ current d
    → Sound (record { rounds = d.rounds; state = with_stand t d.state; table = d.table; sent = sent })
stands d s t sent e = votes_kept d s s.started s.settled (rw e s.round) (rw e s.locked) (rw e s.valid)

vote_kept : (v : Votes) (name : ℕ) (d : Desk) → Sound d → Sound (vote v name d)
vote_kept v name d s =
    rw (vote_is v name d) (stands (hear_vote v d (current d) (own d) name) (vote_logged v d s (current d) (own d) name s.round s.own_seat) _ _ refl)

ask_kept : (p : Step) (d : Desk) → Sound d → Sound (ask p d)
unfolding ask
ask_kept p d s = stands d s _ _ refl

-- a round entered: no sheet is held from it or a later one
start_kept : (offer r : ℕ) (d : Desk) → Sound d → r < d.rounds → d.state.progress.locked.next.0 ≤ r → d.state.progress.valid.next.0 ≤ r → Sound (start_round offer r d)
unfolding start_round propose ask message hear_proposal
start_kept offer r d s l a b =
    let e = with_state (with_stand (entered r) d.state) d in
    let f : Sound e =
    votes_kept d s s.started s.settled l
    (held_at (current d) r d.state.progress.locked s.locked (omega arith))
    (held_at (current d) r d.state.progress.valid s.valid (omega arith)) in
    let sheet = sheet_to_propose offer d in
    let t = eqb (proposer d.state.roll r) (own d) in
    by_test Sound (t && not (eqb sheet 0))
    (λ h. let p = proposal_logged e f r true d.state.progress.valid.next.0 sheet l b (eqb-false sheet 0 (not-true (eqb sheet 0) (and_right t (not (eqb sheet 0)) h))) in
    stands (hear_proposal e r true d.state.progress.valid.next.0 sheet) p _ _ refl)
    (λ h. stands e f _ _ refl)

settle_kept : (r name : ℕ) (d : Desk) → Sound d → r < d.rounds → Sound (fire_49 r name d)
unfolding fire_49
settle_kept r name d s l = votes_kept d s refl l s.round s.locked s.valid

-- a round ahead is above every sheet that is held
enter_kept : (offer r : ℕ) (d : Desk) → Sound d → current d < r → r < d.rounds → Sound (start_round offer r d)
enter_kept offer r d s more l =
    start_kept offer r d s l
    (omega (arith, more, held_low (current d) d.state.progress.locked s.locked))
    (omega (arith, more, held_low (current d) d.state.progress.valid s.valid))

deed_kept : (offer : ℕ) (d u : Desk) → Deed offer d u → Sound d → Sound u
deed_kept offer d u (prevotes name at f e) s = rw e (vote_kept Prevotes name d s)
deed_kept offer d u (precommits_nil at e) s = rw e (vote_kept Precommits 0 d s)
deed_kept offer d u (locks name at f e) s =
    let h = held_here (current d) name f.some in
    rw e (vote_kept Precommits name (with_state (with_locked (held (current d) name) (holding name d)) d) (votes_kept d s s.started s.settled s.round h h))
deed_kept offer d u (holds name p v f e) s = rw e (votes_kept d s s.started s.settled s.round s.locked (held_here (current d) name f.some))
deed_kept offer d u (asks_prevote at a f e) s = rw e (ask_kept Prevote d s)
deed_kept offer d u (asks_precommit a f e) s = rw e (ask_kept Precommit d s)
deed_kept offer d u (settles r name f e) s = rw e (settle_kept r name d s f.there)
deed_kept offer d u (enters r more l e) s = rw e (enter_kept offer r d s more l)

-- ---- the input

-- what refusal 1 has looked at, of a kiosk that has started or starts now
sound : (d : Desk) (p : Phase) → Fits d → d.rounds ≡ most_rounds → is_fresh p ≡ false → settled_round p < d.rounds → Sound (with_state (with_phase p d.state) d)
sound d p f e started settled = record {
  roll = f.roll;
  few = f.few_kiosks;
  own_seat = f.own_on_roll;
  rounds_are = e;
  started = started;
  places = f.places;
  round = f.round;
  settled = settled;
  all_heard = λ r l. round_told d r (all_holds d.rounds (λ k. round_fits d k) f.rounds_fit r l);
  locked = f.locked;
  valid = f.valid;
}

-- a kiosk that runs has started
not_fresh : (p : Phase) → is_running p ≡ true → is_fresh p ≡ false
not_fresh Fresh e = absurd (false≢true e)
not_fresh Running e = refl
not_fresh (Settled r) e = refl

module _ (d : Desk) (i : Input) (f : Fits d) (p : Passes d i) (rounds : d.rounds ≡ most_rounds) where
  running_sound : Runs d → Sound d
  running_sound run = sound d d.state.progress.phase f rounds (not_fresh d.state.progress.phase run) f.settled

  taken_kept : (u : Desk) → Taken d i u → Sound u
  taken_kept u (starts fresh k e) =
      let n = unstarted d f.rest fresh in
      let low : 0 < d.rounds = omega (arith, f.round) in
      rw e (start_kept i.offer 0 (with_state (with_phase Running d.state) d) (sound d Running f rounds refl low) low (omega (arith, n.locked)) (omega (arith, n.valid)))
  taken_kept u (hears_proposal m k by some low unheard e) =
      rw e (proposal_logged d (running_sound m.runs) i.round.0 (eqb i.verdict 1) i.valid.0 i.name m.round low some)
  taken_kept u (hears_vote v m k unheard e) = rw e (vote_logged v d (running_sound m.runs) i.round.0 i.sender i.name m.round m.seat)
  taken_kept u (timer run k did) = deed_kept i.offer d u did (running_sound run)

  pub worked_sound : Sound (worked i d)
  worked_sound = call_keeps d i p Sound taken_kept (λ e u run did. deed_kept i.offer e u did)

-- ---- and so refusal 1 lets it in

-- a desk at rest that is sound is let in
let_in : (d : Desk) → Sound d → first_rule d ≡ None → desk_fits d ≡ true
unfolding desk_fits at_rest
let_in d s none =
    rw (
      s.roll,
      lt-ltb (own d) d.state.roll.kiosks s.own_seat,
      eq-eqb (length d.table) table_length s.places,
      lt-ltb (current d) d.rounds s.round,
      lt-ltb (settled_round d.state.progress.phase) d.rounds s.settled,
      all_so d.rounds (λ r. round_fits d r) (λ r l. round_holds d r (s.all_heard r l)),
      s.locked,
      s.valid,
      s.started,
      none,
    )

-- what was sent does not matter to it
sent_free : (n : ℕ) (s : State) (t : List ℕ) (x y : List Output)
    → desk_fits (record { rounds = n; state = s; table = t; sent = x }) ≡ desk_fits (record { rounds = n; state = s; table = t; sent = y })
unfolding the_possible the_rules the_log
sent_free n s t x y = refl

-- "refusal 1 lets in" is kept: the state and the table that an accepted input leaves are possible
pub desk_kept : (s : State) (t : List ℕ) (i : Input) → desk_fits (desk s t) ≡ true → is_accepted (refused_input (desk s t) i) ≡ true
    → desk_fits (desk (work i s t).state (work i s t).table) ≡ true
desk_kept s t i e a =
    let u = work i s t in
    let k = worked_sound (desk s t) i (fits (desk s t) e) (passes (desk s t) i a) refl in
    let w : desk_fits u ≡ true = let_in u k (work_ends i (desk s t)) in
    ap (λ (n : ℕ). desk_fits (record { rounds = n; state = u.state; table = u.table; sent = [] })) (sym k.rounds_are)
    ∙ sent_free u.rounds u.state u.table [] u.sent ∙ w

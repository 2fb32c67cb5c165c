-- What an accepted input guarantees: refusal 1 has let the state in, the fields are within the rules, and the call has at most six
-- outputs. Assumes nothing.
use Rattle.std.specs.Prelude.{None, is_some}
use Rattle.std.specs.Bool.{if◌then◌else◌}
use Prim.Native.Nat.{ℕ, suc, ◌≤◌, ◌<◌}
use mathlib.Core.Path.{◌≡◌, refl, sym, ◌∙◌}
use mathlib.Core.List.{List}
use mathlib.Core.Bool.{Bool, true, false, ◌&&◌, ◌||◌, not, true≢false, false≢true}
use native.Mathlib.Omega.{arith}
use lib.ListN.{length}
use lib.Dec.{eqb, ltb, leb}
use borrow.Author.Tests.{not-true, not-false, ltb-true, leb-true, eqb-true, eqb-false, eq-eqb}
use Rattle.words.specs.Choice.{all_below, all_zero}
use Rattle.words.proofs.Choice.{and_left, and_right}
use Rattle.roll.specs.Weighing.{roll_fits, own_fits, proposer}
use Rattle.roll.proofs.Weighing.{fits_count}
use Rattle.rules.specs.declared.Input.{Input}
use Rattle.rules.specs.State.{is_fresh, is_settled, settled_round, most_rounds, unheard}
use Rattle.rules.specs.Log.{Desk, desk, table_length, heard}
use Rattle.rules.specs.Doing.{current, own}
use Rattle.rules.specs.Rules.{first_rule}
use Rattle.rules.specs.InContracts.Ready.{Ready, Readable}
use Rattle.rules.proofs.ByRule.{none_found}
use Rattle.journal.specs.Layout.{header_length}
use Rattle.kiosk.specs.declared.Kiosk.{Kiosk}
use Rattle.refusals.specs.declared.Answer.{Answer}
use Rattle.refusals.specs.declared.Answer.TheVariants.{Accepted, Impossible, AlreadySettled, OutOfOrder, OtherHeight, BadField, OwnNumber, NotProposer, HeardSame, HeardOther, TimerNotDue, LastRound, NoRoom, HeaderShort, Damaged, BadRoll}
use Rattle.refusals.specs.Answers.{is_accepted}
use Rattle.refusals.specs.Possible.{held_fits, round_fits, fresh_fits, at_rest, desk_fits}
use Rattle.refusals.specs.Refusals.{is_start, is_proposal, is_vote, is_timer, kind_fits, fields_fit, place_heard, same_heard, timer_due, refused_from_6, refused_input}
use Rattle.kiosk.specs.Judged.{used_fits, judged}

-- only Accepted is number 0
pub accepted_is : (a : Answer) → is_accepted a ≡ true → a ≡ Accepted
accepted_is Accepted e = refl
accepted_is Impossible e = absurd (false≢true e)
accepted_is AlreadySettled e = absurd (false≢true e)
accepted_is OutOfOrder e = absurd (false≢true e)
accepted_is OtherHeight e = absurd (false≢true e)
accepted_is BadField e = absurd (false≢true e)
accepted_is OwnNumber e = absurd (false≢true e)
accepted_is NotProposer e = absurd (false≢true e)
accepted_is HeardSame e = absurd (false≢true e)
accepted_is HeardOther e = absurd (false≢true e)
accepted_is TimerNotDue e = absurd (false≢true e)
accepted_is LastRound e = absurd (false≢true e)
accepted_is NoRoom e = absurd (false≢true e)
accepted_is HeaderShort e = absurd (false≢true e)
accepted_is (Damaged place) e = absurd (false≢true e)
accepted_is BadRoll e = absurd (false≢true e)

-- past an answer that is not given
pub past : (b : Bool) (x y : Answer) → is_accepted x ≡ false → is_accepted (if b then x else y) ≡ true → (b ≡ false) × (is_accepted y ≡ true)
past true x y off e = absurd (true≢false (sym e ∙ off))
past false x y off e = (refl, e)

-- ## What refusal 1 has looked at

pub record Fits (d : Desk) : Type 0 where
  pub roll : roll_fits d.state.roll ≡ true
  pub some_kiosks : 1 ≤ d.state.roll.kiosks
  pub few_kiosks : d.state.roll.kiosks ≤ 32
  pub own_on_roll : own d < d.state.roll.kiosks
  pub places : length d.table ≡ table_length
  pub round : current d < d.rounds
  pub settled : settled_round d.state.progress.phase < d.rounds
  pub rounds_fit : all_below d.rounds (λ r. round_fits d r) ≡ true
  pub locked : held_fits (current d) d.state.progress.locked ≡ true
  pub valid : held_fits (current d) d.state.progress.valid ≡ true
  pub rest : at_rest d ≡ true

pub fits : (d : Desk) → desk_fits d ≡ true → Fits d
unfolding desk_fits
fits d e =
    let roll = d.state.roll in
    let a = roll_fits roll in
    let b = own_fits roll in
    let c = eqb (length d.table) table_length in
    let f = ltb (current d) d.rounds in
    let g = ltb (settled_round d.state.progress.phase) d.rounds in
    let h = all_below d.rounds (λ r. round_fits d r) in
    let i = held_fits (current d) d.state.progress.locked in
    let j = held_fits (current d) d.state.progress.valid in
    let e8 = and_left (a && b && c && f && g && h && i && j) (at_rest d) e in
    let e7 = and_left (a && b && c && f && g && h && i) j e8 in
    let e6 = and_left (a && b && c && f && g && h) i e7 in
    let e5 = and_left (a && b && c && f && g) h e6 in
    let e4 = and_left (a && b && c && f) g e5 in
    let e3 = and_left (a && b && c) f e4 in
    let e2 = and_left (a && b) c e3 in
    let e1 = and_left a b e2 in
    let count = fits_count roll e1 in
    record {
      roll = e1;
      some_kiosks = count.0;
      few_kiosks = count.1;
      own_on_roll = ltb-true (own d) roll.kiosks (and_right a b e2);
      places = eqb-true (length d.table) table_length (and_right (a && b) c e3);
      round = ltb-true (current d) d.rounds (and_right (a && b && c) f e4);
      settled = ltb-true (settled_round d.state.progress.phase) d.rounds (and_right (a && b && c && f) g e5);
      rounds_fit = and_right (a && b && c && f && g) h e6;
      locked = and_right (a && b && c && f && g && h) i e7;
      valid = and_right (a && b && c && f && g && h && i) j e8;
      rest = and_right (a && b && c && f && g && h && i && j) (at_rest d) e;
    }

-- of a kiosk that has not started: nothing is heard, and no sheet is held
pub record Unstarted (d : Desk) : Type 0 where
  pub unheard : all_below d.rounds (λ r. unheard (heard d r)) ≡ true
  pub locked : d.state.progress.locked.next.0 ≡ 0
  pub valid : d.state.progress.valid.next.0 ≡ 0

pub unstarted : (d : Desk) → at_rest d ≡ true → is_fresh d.state.progress.phase ≡ true → Unstarted d
unfolding at_rest fresh_fits
unstarted d rest fresh =
    let a = all_below d.rounds (λ r. unheard (heard d r)) in
    let b = all_zero d.table in
    let c = eqb (current d) 0 in
    let l = eqb d.state.progress.locked.next.0 0 in
    let v = eqb d.state.progress.valid.next.0 0 in
    let e4 : (a && b && c && l && v) ≡ true = rw fresh at rest in
    let e3 = and_left (a && b && c && l) v e4 in
    record {
      unheard = and_left a b (and_left (a && b) c (and_left (a && b && c) l e3));
      locked = eqb-true d.state.progress.locked.next.0 0 (and_right (a && b && c) l e3);
      valid = eqb-true d.state.progress.valid.next.0 0 (and_right (a && b && c && l) v e4);
    }

-- "started, not settled and some rule already applies" is not so of it: no rule applies, once started
pub rests : (d : Desk) → at_rest d ≡ true → is_fresh d.state.progress.phase ≡ false → first_rule d ≡ None
unfolding at_rest
rests d rest old =
    let f : not (is_some (first_rule d)) ≡ true = rw old at rest in
    none_found (first_rule d) (not-true (is_some (first_rule d)) f)

-- ## What an accepted input has passed

pub record Passes (d : Desk) (i : Input) : Type 0 where
  pub unsettled : is_settled d.state.progress.phase ≡ false
  pub in_order : (if is_fresh d.state.progress.phase then not (is_start i) else is_start i) ≡ false
  pub height : eqb i.height.0 d.state.roll.height.0 ≡ true
  pub fields : fields_fit d.state.roll.kiosks d.rounds i ≡ true
  pub not_own : ((is_proposal i || is_vote i) && eqb i.sender (own d)) ≡ false
  pub turn : (is_proposal i && not (eqb i.sender (proposer d.state.roll i.round.0))) ≡ false
  pub unheard : place_heard d i ≡ false
  pub due : (is_timer i && not (timer_due d i)) ≡ false
  pub next_round : (eqb i.kind 7 && eqb (suc i.round.0) d.rounds) ≡ false

pub passes : (d : Desk) (i : Input) → is_accepted (refused_input d i) ≡ true → Passes d i
unfolding refused_input refused_from_6
passes d i e =
    let a = past (is_settled d.state.progress.phase) _ _ refl e in
    let b = past (if is_fresh d.state.progress.phase then not (is_start i) else is_start i) _ _ refl a.1 in
    let c = past (not (eqb i.height.0 d.state.roll.height.0)) _ _ refl b.1 in
    let f = past (not (fields_fit d.state.roll.kiosks d.rounds i)) _ _ refl c.1 in
    let g = past ((is_proposal i || is_vote i) && eqb i.sender (own d)) _ _ refl f.1 in
    let h = past (is_proposal i && not (eqb i.sender (proposer d.state.roll i.round.0))) _ _ refl g.1 in
    let j = past (place_heard d i && same_heard d i) _ _ refl h.1 in
    let k = past (place_heard d i) _ _ refl j.1 in
    let l = past (is_timer i && not (timer_due d i)) _ _ refl k.1 in
    let m = past (eqb i.kind 7 && eqb (suc i.round.0) d.rounds) _ _ refl l.1 in
    record {
      unsettled = a.0;
      in_order = b.0;
      height = not-false (eqb i.height.0 d.state.roll.height.0) c.0;
      fields = not-false (fields_fit d.state.roll.kiosks d.rounds i) f.0;
      not_own = g.0;
      turn = h.0;
      unheard = k.0;
      due = l.0;
      next_round = m.0;
    }

-- and what has passed them all is accepted
pub welcome : (d : Desk) (i : Input) → Passes d i → is_accepted (refused_input d i) ≡ true
unfolding refused_input refused_from_6
welcome d i p = rw (p.unsettled, p.in_order, p.height, p.fields, p.not_own, p.turn, p.unheard, p.due, p.next_round)

pub record Fields (n rounds : ℕ) (i : Input) : Type 0 where
  pub kind_low : 1 ≤ i.kind
  pub kind_high : i.kind ≤ 7
  pub sender : i.sender < n
  pub round : i.round.0 < rounds
  pub of_kind : kind_fits i ≡ true

pub fields_of : (n rounds : ℕ) (i : Input) → fields_fit n rounds i ≡ true → Fields n rounds i
unfolding fields_fit
fields_of n rounds i e =
    let a = leb 1 i.kind in
    let b = leb i.kind 7 in
    let c = ltb i.sender n in
    let d = ltb i.round.0 rounds in
    let e4 = and_left (a && b && c && d) (kind_fits i) e in
    let e3 = and_left (a && b && c) d e4 in
    let e2 = and_left (a && b) c e3 in
    record {
      kind_low = leb-true 1 i.kind (and_left a b e2);
      kind_high = leb-true i.kind 7 (and_right a b e2);
      sender = ltb-true i.sender n (and_right (a && b) c e3);
      round = ltb-true i.round.0 rounds (and_right (a && b && c) d e4);
      of_kind = and_right (a && b && c && d) (kind_fits i) e;
    }

-- the round after a precommit timer's is one that there is
pub next_there : {n rounds : ℕ} (i : Input) → Fields n rounds i → (eqb i.kind 7 && eqb (suc i.round.0) rounds) ≡ false → 7 ≤ i.kind → suc i.round.0 < rounds
next_there {rounds = rounds} i f off late =
    let seven : eqb i.kind 7 ≡ true = eq-eqb i.kind 7 (omega (arith, f.kind_high)) in
    let last : eqb (suc i.round.0) rounds ≡ false = rw seven at off in
    omega (arith, f.round, eqb-false (suc i.round.0) rounds last)

-- ## What the rules rely on

module _ (area : ℕ) (k : Kiosk) (t : List ℕ) (i : Input) (e : is_accepted (judged area k (desk k.state t) i) ≡ true) where
  -- refusal 1 is not given, and no later one
  pub let_in : (not (desk_fits (desk k.state t) && used_fits area k) ≡ false) × (is_accepted (refused_input (desk k.state t) i) ≡ true)
  unfolding judged
  let_in = past (not (desk_fits (desk k.state t) && used_fits area k)) _ _ refl e

  pub both : (desk_fits (desk k.state t) && used_fits area k) ≡ true
  both = not-false (desk_fits (desk k.state t) && used_fits area k) let_in.0

  pub accepted_fits : Fits (desk k.state t)
  accepted_fits = fits (desk k.state t) (and_left (desk_fits (desk k.state t)) (used_fits area k) both)

  pub accepted_passes : Passes (desk k.state t) i
  accepted_passes = passes (desk k.state t) i let_in.1

  pub accepted_fields : Fields k.state.roll.kiosks most_rounds i
  accepted_fields = fields_of k.state.roll.kiosks most_rounds i accepted_passes.fields

  pub accepted_ready : Ready k.state t
  accepted_ready = record {
    some_kiosks = accepted_fits.some_kiosks;
    few_kiosks = accepted_fits.few_kiosks;
    own = accepted_fits.own_on_roll;
    round = accepted_fits.round;
    places = accepted_fits.places;
  }

  pub accepted_used : (k.used ≤ area) × (header_length k.state.roll ≤ k.used) × (k.last ≤ k.used)
  unfolding used_fits
  accepted_used =
      let a = leb (header_length k.state.roll) k.used in
      let b = leb k.used area in
      let c = leb k.last k.used in
      let u = and_right (desk_fits (desk k.state t)) (a && b && c) both in
      let ab = and_left (a && b) c u in
      (leb-true k.used area (and_right a b ab), leb-true (header_length k.state.roll) k.used (and_left a b ab), leb-true k.last k.used (and_right (a && b) c u))

  pub accepted_readable : Readable i
  accepted_readable = record {
    kind = accepted_fields.kind_low;
    sender = omega (arith, accepted_fields.sender, accepted_fits.few_kiosks);
    round = accepted_fields.round;
    next = next_there i accepted_fields accepted_passes.next_round;
  }

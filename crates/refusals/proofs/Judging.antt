-- Laws of the judging of a call: what is asked in turn, each answer by the first test that gives it. Assumes nothing.
use Rattle.std.specs.Bool.{if◌then◌else◌}
use Rattle.std.specs.Prelude.{fold}
use Prim.Native.Nat.{ℕ, suc, ◌*◌, ◌%◌, ◌^◌, ◌≤◌, ◌<◌}
use mathlib.Core.Path.{◌≡◌, sym, ◌∙◌}
use mathlib.Core.Bool.{Bool, true, false, not, ◌&&◌, ◌||◌, false≢true, and_assoc, and-true}
use mathlib.Core.List.{List, [], ◌∷◌}
use native.Mathlib.Omega.{arith}
use borrow.Author.Tests.{ltb-true, ltb-false, leb-true, leb-false, eqb-true, eqb-false, lt-ltb, le-ltb, ne_eqb}
use lib.Bits.{bit_or, or_zero_l, or_add_and, or_lt, and_le_l, and_le_r}
use lib.Dec.{ltb, leb, eqb}
use lib.ListN.{length}
use lib.Pow.{pow_mono}
use Rattle.words.specs.Choice.{all_below, all_zero}
use Rattle.words.specs.Marks.{marked}
use Rattle.words.proofs.Choice.{by_cases, and_left, and_right, all_holds}
use Rattle.roll.specs.declared.Roll.{Roll}
use Rattle.roll.specs.Weighing.{roll_fits, own_fits, proposer}
use Rattle.roll.proofs.Weighing.{fits_not_few, fits_not_many}
use Rattle.rules.specs.declared.State.{State}
use Rattle.rules.specs.declared.Input.{Input}
use Rattle.rules.specs.declared.Votes.{Votes}
use Rattle.rules.specs.declared.Votes.TheVariants.{Prevotes, Precommits}
use Rattle.rules.specs.Kinds.{vote_in}
use Rattle.rules.specs.State.{settled_round, marks_of}
use Rattle.rules.specs.Log.{Desk, desk, heard, voted}
use Rattle.rules.specs.Doing.{own}
use Rattle.rules.specs.InContracts.Ready.{Ready}
use Rattle.refusals.specs.declared.Answer.{Answer}
use Rattle.refusals.specs.declared.Answer.TheVariants.{Accepted, HeardSame, HeardOther, TimerNotDue, LastRound}
use Rattle.refusals.specs.Possible.{round_fits, held_fits, at_rest, desk_fits}
use Rattle.refusals.specs.InContracts.Parts.{numbers_fit, heard_already}
use Rattle.refusals.specs.Refusals.{is_proposal, is_vote, is_timer, kind_fits, fields_fit, place_heard, same_heard, timer_due, refused_from_6}

-- ---- the table before start: its numbers are joined

both_zero : (a b : ℕ) → eqb (bit_or a b) 0 ≡ (eqb a 0 && eqb b 0)
both_zero a b =
    by_cases (eqb a 0)
    (λ y. rw (eqb-true a 0 y, or_zero_l b))
    (λ n. rw (n, ne_eqb (bit_or a b) 0 (λ z. eqb-false a 0 n (omega (arith, z, or_add_and a b, and_le_l a b, and_le_r a b)))))

joint_from : (a : ℕ) (xs : List ℕ) → eqb (fold bit_or a xs) 0 ≡ (eqb a 0 && all_zero xs)
unfolding all_zero
joint_from a [] = sym (and-true (eqb a 0))
joint_from a (x ∷ xs) = joint_from (bit_or a x) xs ∙ rw (both_zero a x) (and_assoc (eqb a 0) (eqb x 0) (all_zero xs))

pub joint_zero : (xs : List ℕ) → eqb (fold bit_or 0 xs) 0 ≡ all_zero xs
joint_zero xs = joint_from 0 xs

-- ---- the log: the marks are joined too

pub joint_below : (n a b : ℕ) → ltb (bit_or a b) (2 ^ n) ≡ (ltb a (2 ^ n) && ltb b (2 ^ n))
joint_below n a b =
    let sum = or_add_and a b in
    by_cases (ltb a (2 ^ n))
    (λ y.
    by_cases (ltb b (2 ^ n))
    (λ z. rw (y, z) (lt-ltb (bit_or a b) (2 ^ n) (or_lt n a b (ltb-true a (2 ^ n) y) (ltb-true b (2 ^ n) z))))
    (λ z. rw (y, z) (le-ltb (bit_or a b) (2 ^ n) (omega (arith, sum, and_le_l a b, ltb-false b (2 ^ n) z)))))
    (λ y. rw y (le-ltb (bit_or a b) (2 ^ n) (omega (arith, sum, and_le_r a b, ltb-false a (2 ^ n) y))))

-- the first number past the marks of n seats, as the code has it
pub past_marks : (n : ℕ) → n ≤ 32 → 1 * 2 ^ n % 18446744073709551616 ≡ 2 ^ n
past_marks n h = omega (arith, pow_mono {i = n} {j = 32} h)

-- a test that fails at a number below the bound does not hold at all
pub all_not : (n : ℕ) (p : ℕ → Bool) (k : ℕ) → k < n → p k ≡ false → false ≡ all_below n p
all_not n p k l e = by_cases (all_below n p) (λ y. absurd (false≢true (sym e ∙ all_holds n p y k l))) (λ f. sym f)

-- ---- the voting state and the table

-- a roll that fits has 1 to 32 kiosks
module _ (r : Roll) (fits : roll_fits r ≡ true) where
  some_kiosks : 1 ≤ r.kiosks
  some_kiosks =
      by_cases (leb 1 r.kiosks) (leb-true 1 r.kiosks) (λ n. absurd (false≢true (sym (fits_not_few r (leb-false 1 r.kiosks n)) ∙ fits)))

  pub few_kiosks : r.kiosks ≤ 32
  few_kiosks =
      by_cases (leb r.kiosks 32) (leb-true r.kiosks 32) (λ n. absurd (false≢true (sym (fits_not_many r (leb-false r.kiosks 32 n)) ∙ fits)))

-- a desk whose numbers fit is ready
pub numbers_ready : (s : State) (t : List ℕ) → numbers_fit (desk s t) ≡ true → Ready s t
numbers_ready s t y =
    let a = roll_fits s.roll in
    let b = own_fits s.roll in
    let p = eqb (length t) 1040 in
    let r = ltb s.progress.stand.round.0 16 in
    let abpr = and_left (a && b && p && r) (ltb (settled_round s.progress.phase) 16) y in
    let abp = and_left (a && b && p) r abpr in
    let ab = and_left (a && b) p abp in
    let fits = and_left a b ab in
    record {
      some_kiosks = some_kiosks s.roll fits;
      few_kiosks = few_kiosks s.roll fits;
      own = ltb-true s.roll.own s.roll.kiosks (and_right a b ab);
      round = ltb-true s.progress.stand.round.0 16 (and_right (a && b && p) r abpr);
      places = eqb-true (length t) 1040 (and_right (a && b) p abp);
    }

-- and so is one that fits
pub desk_ready : (s : State) (t : List ℕ) → desk_fits (desk s t) ≡ true → Ready s t
unfolding desk_fits
desk_ready s t y =
    let d = desk s t in
    let n = numbers_fit d in
    let all = all_below 16 (λ r. round_fits d r) in
    let locked = held_fits s.progress.stand.round.0 s.progress.locked in
    let valid = held_fits s.progress.stand.round.0 s.progress.valid in
    numbers_ready s t (and_left n all (and_left (n && all) locked (and_left (n && all && locked) valid (and_left (n && all && locked && valid) (at_rest d) y))))

-- ---- the input

-- fields that fit are of a seat on the roll and of a round there is
module _ (n : ℕ) (i : Input) (fits : fields_fit n 16 i ≡ true) where
  seat_and_round : (leb 1 i.kind && leb i.kind 7 && ltb i.sender n && ltb i.round.0 16) ≡ true
  unfolding fields_fit
  seat_and_round = and_left (leb 1 i.kind && leb i.kind 7 && ltb i.sender n && ltb i.round.0 16) (kind_fits i) fits

  pub round_fit : i.round.0 < 16
  round_fit = ltb-true i.round.0 16 (and_right (leb 1 i.kind && leb i.kind 7 && ltb i.sender n) (ltb i.round.0 16) seat_and_round)

  pub sender_fit : i.sender < n
  sender_fit =
      ltb-true i.sender n
      (and_right (leb 1 i.kind && leb i.kind 7) (ltb i.sender n)
      (and_left (leb 1 i.kind && leb i.kind 7 && ltb i.sender n) (ltb i.round.0 16) seat_and_round))

-- and no fields fit a number that is no kind
pub kind_unknown : (n : ℕ) (i : Input) → (leb 1 i.kind && leb i.kind 7) ≡ false → fields_fit n 16 i ≡ false
unfolding fields_fit
kind_unknown n i e = rw e

-- a vote that is heard already, by what its place holds
pub vote_heard : (v : Votes) (d : Desk) (i : Input) {b : Bool} → i.kind ≡ vote_in v → (i.sender ≡ own d → ⊥) → marked (marks_of v (heard d i.round.0)) i.sender ≡ true
    → b ≡ eqb (voted v d i.round.0 i.sender) i.name → heard_already b ≡ refused_from_6 d i
unfolding refused_from_6 place_heard same_heard
vote_heard Prevotes d i {b} kind other marked same = rw (kind, ne_eqb i.sender (own d) other, marked, ← same) (by_cases b (λ y. rw y) (λ n. rw n))
vote_heard Precommits d i {b} kind other marked same = rw (kind, ne_eqb i.sender (own d) other, marked, ← same) (by_cases b (λ y. rw y) (λ n. rw n))

-- refusals 8 to 11, once the sender is one whose turn it is
abbrev pub heard_or_due : Desk → Input → Answer
heard_or_due d i =
    if place_heard d i && same_heard d i then HeardSame
    else if place_heard d i then HeardOther
    else if is_timer i && not (timer_due d i) then TimerNotDue
    else if eqb i.kind 7 && eqb (suc i.round.0) d.rounds then LastRound
    else Accepted

-- an input that neither 6 nor 7 refuses is answered by them
module _ (s : State) (t : List ℕ) (i : Input) {p v : Bool} (proposes : p ≡ is_proposal i) (votes : v ≡ is_vote i)
    (n : ((p || v) && eqb i.sender s.roll.own) ≡ false) {q : Bool} {turn : ℕ} (proposes' : q ≡ is_proposal i)
    (whose : turn ≡ proposer s.roll i.round.0) where
  pub sender_passes : (q && not (eqb i.sender turn)) ≡ false → refused_from_6 (desk s t) i ≡ heard_or_due (desk s t) i
  unfolding refused_from_6
  sender_passes e =
      let a = rw (proposes, votes) at n in
      let b = rw (proposes', whose) at e in
      rw (a, b)

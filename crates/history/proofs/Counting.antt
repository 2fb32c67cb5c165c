-- Laws of the count: sums, marks, and the messages of a round. Assumes nothing.
use Rattle.std.specs.Bool.{if◌then◌else◌}
use Prim.Native.Nat.{ℕ, zero, suc, ◌+◌, ◌*◌, ◌≤◌, ◌<◌}
use mathlib.Core.Path.{◌≡◌, refl, ap, sym, ◌∙◌}
use mathlib.Core.List.{List}
use mathlib.Core.Bool.{Bool, true, false, ◌||◌}
use mathlib.Core.Logic.{⊎_elim}
use native.Mathlib.Nat.{eq-or-lt_of_le}
use native.Mathlib.Omega.{arith}
use borrow.Author.Tests.{eq-eqb, ne_eqb}
use lib.Dec.{eqb}
use Rattle.words.specs.Marks.{marked, mark}
use Rattle.words.proofs.MarkLaws.{mark_seats, marked_zero}
use Rattle.roll.specs.declared.Roll.{Roll}
use Rattle.rules.specs.declared.Votes.{Votes}
use Rattle.rules.specs.declared.Votes.TheVariants.{Prevotes, Precommits}
use Rattle.rules.specs.declared.Heard.{Heard}
use Rattle.rules.specs.State.{marks_of, with_marks}
use Rattle.rules.specs.Log.{told, tell}
use Rattle.rules.proofs.Telling.{Sized, told_same, told_other}
use Rattle.history.specs.Counting.{sum_below, unmarked, messages_left, all_messages_left}

-- ## Sums

pub sum_ext : (n : ℕ) (f g : ℕ → ℕ) → ((q : ℕ) → q < n → f q ≡ g q) → sum_below n f ≡ sum_below n g
unfolding sum_below
sum_ext zero f g same = refl
sum_ext (suc n) f g same = rw (sum_ext n f g (λ q l. same q (omega arith)), same n (omega arith))

-- two that differ at one place at most
pub sum_one : (n : ℕ) (f g : ℕ → ℕ) (r : ℕ) → r < n → ((q : ℕ) → (q ≡ r → ⊥) → f q ≡ g q) → sum_below n f + g r ≡ sum_below n g + f r
unfolding sum_below
sum_one zero f g r h same = absurd (omega arith)
sum_one (suc n) f g r h same =
    ⊎_elim
    (λ e. let s = sum_ext n f g (λ q l. same q (λ z. omega arith)) in rw e (omega arith))
    (λ less. omega (arith, sum_one n f g r less same, same n (λ z. omega arith)))
    (eq-or-lt_of_le {n = r} {m = n} (omega arith))

pub sum_const : (n c : ℕ) → sum_below n (λ q. c) ≡ n * c
unfolding sum_below
sum_const zero c = omega arith
sum_const (suc n) c = omega (arith, sum_const n c)

-- ## Marks

or_same : (a b : Bool) → ((a || b) || a) ≡ (b || a)
or_same true true = refl
or_same true false = refl
or_same false true = refl
or_same false false = refl

-- the own mark takes no place of another seat
pub own_marked : (n own m : ℕ) → unmarked n own (mark m own) ≡ unmarked n own m
unfolding unmarked
own_marked n own m =
    sum_ext n (λ i. if marked (mark m own) i || eqb own i then 0 else 1) (λ i. if marked m i || eqb own i then 0 else 1)
    (λ i l. ap (λ (b : Bool). if b then 0 else 1) (ap (λ (b : Bool). b || eqb own i) (mark_seats m own i) ∙ or_same (eqb own i) (marked m i)))

-- another seat's mark takes its place
pub other_marked : (n own m j : ℕ) → j < n → (own ≡ j → ⊥) → marked m j ≡ false → unmarked n own (mark m j) + 1 ≡ unmarked n own m
unfolding unmarked
other_marked n own m j l other off =
    let f : ℕ → ℕ = λ i. if marked (mark m j) i || eqb own i then 0 else 1 in
    let g : ℕ → ℕ = λ i. if marked m i || eqb own i then 0 else 1 in
    let s : sum_below n f + g j ≡ sum_below n g + f j
    = sum_one n f g j l (λ q z. ap (λ (b : Bool). if b || eqb own q then 0 else 1) (mark_seats m j q ∙ ap (λ (b : Bool). b || marked m q) (ne_eqb j q (λ e. z (sym e))))) in
    let gj : g j ≡ 1 = rw (off, ne_eqb own j other) in
    let fj : f j ≡ 0 = ap (λ (b : Bool). if b || eqb own j then 0 else 1) (mark_seats m j j ∙ ap (λ (b : Bool). b || marked m j) (eq-eqb j j refl)) in
    omega arith

-- where no seat has a mark, all but the own are left
pub none_marked : (n own : ℕ) → own < n → unmarked n own 0 + 1 ≡ n
unfolding unmarked
none_marked n own l =
    let f : ℕ → ℕ = λ i. if marked 0 i || eqb own i then 0 else 1 in
    let g : ℕ → ℕ = λ i. 1 in
    let s : sum_below n f + 1 ≡ sum_below n g + f own
    = sum_one n f g own l (λ q z. ap (λ (b : Bool). if b || eqb own q then 0 else 1) (marked_zero q) ∙ ap (λ (b : Bool). if b then 0 else 1) (ne_eqb own q (λ e. z (sym e)))) in
    let fo : f own ≡ 0 = ap (λ (b : Bool). if b || eqb own own then 0 else 1) (marked_zero own) ∙ ap (λ (b : Bool). if b then 0 else 1) (eq-eqb own own refl) in
    omega (arith, sum_const n 1)

-- ## The messages of a round, and of all

-- a round with other marks of one type has c messages fewer where those have
pub votes_left : (v : Votes) (roll : Roll) (h : Heard) (m c : ℕ) → unmarked roll.kiosks roll.own m + c ≡ unmarked roll.kiosks roll.own (marks_of v h)
    → messages_left roll (with_marks v m h) + c ≡ messages_left roll h
unfolding messages_left
votes_left Prevotes roll h m c e = omega (arith, e)
votes_left Precommits roll h m c e = omega (arith, e)

-- a round told of c messages that were left
pub tells : (n : ℕ) (roll : Roll) (l : List ℕ) → Sized n l → (r : ℕ) (h : Heard) (c : ℕ) → r < n → messages_left roll h + c ≤ messages_left roll (told l r)
    → all_messages_left n roll (tell l r h) + c ≤ all_messages_left n roll l
unfolding all_messages_left
tells n roll l s r h c less fewer =
    let f : ℕ → ℕ = λ q. messages_left roll (told (tell l r h) q) in
    let g : ℕ → ℕ = λ q. messages_left roll (told l q) in
    let e : sum_below n f + g r ≡ sum_below n g + f r = sum_one n f g r less (λ q z. ap (messages_left roll) (told_other l r h z)) in
    let fr : f r ≡ messages_left roll h = ap (messages_left roll) (told_same l r h s less) in
    omega arith

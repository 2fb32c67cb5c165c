-- Laws of seat marks: which seats are set after a mark, in one or the other of two, and without the lowest. Assumes nothing.
use Prim.Native.Nat.{ℕ, zero, suc, ◌+◌, ◌*◌, ◌-◌, ◌/◌, ◌%◌, ◌^◌, ◌≤◌, ◌<◌, max}
use mathlib.Core.Path.{◌≡◌, refl, sym, ap, ◌∙◌}
use mathlib.Core.Bool.{Bool, true, false, ◌||◌}
use native.Mathlib.Nat.{one-mul, mod-eq_of_lt, pow-suc, div-one, div-eq_of_lt, zero-div, div-eq-sub-div}
use native.Mathlib.Numerals.{one-add}
use native.Mathlib.Omega.{arith}
use borrow.Author.Tests.{eqb-true, eqb-false}
use lib.Dec.{eqb, eqb-zero-suc, eqb-suc-zero, eqb-suc-suc}
use lib.Pow.{pow_pos, pow_mono, pow-lt, shr-shr}
use lib.Count.{count_trailing_zeros, under}
use lib.Bits.{bit_and, bit_or, and_step, and_self, or_step, or_shr, or_lt, or_add_and, and_high}
use Rattle.words.specs.Marks.{marked, mark}
use Rattle.words.proofs.Choice.{by_test, by_cases}

-- no seat is marked in 0
pub marked_zero : (j : ℕ) → marked 0 j ≡ false
marked_zero j = ap (λ (x : ℕ). eqb (x % 2) 1) (zero-div (2 ^ j))

-- no seat past those that the number has room for is marked
pub unmarked_above : (n j m : ℕ) → m < 2 ^ n → n ≤ j → marked m j ≡ false
unmarked_above n j m h l =
    let e : m < 2 ^ j = omega (arith, pow_mono l) in
    ap (λ (x : ℕ). eqb (x % 2) 1) (div-eq_of_lt e)

either_digit : (a b : ℕ) → a < 2 → b < 2 → eqb (max a b) 1 ≡ (eqb a 1 || eqb b 1)
either_digit zero zero h k = refl
either_digit zero (suc zero) h k = refl
either_digit (suc zero) zero h k = refl
either_digit (suc zero) (suc zero) h k = refl
either_digit zero (suc (suc b)) h k = absurd (omega arith)
either_digit (suc zero) (suc (suc b)) h k = absurd (omega arith)
either_digit (suc (suc a)) b h k = absurd (omega arith)

-- a seat is marked in `a | b` where it is in a or in b
pub either_seats : (a b j : ℕ) → marked (bit_or a b) j ≡ (marked a j || marked b j)
either_seats a b j =
    let x = a / 2 ^ j in
    let y = b / 2 ^ j in
    let low : bit_or x y % 2 ≡ max (x % 2) (y % 2) = omega (arith, or_step x y) in
    ap (λ (z : ℕ). eqb (z % 2) 1) (or_shr a b j)
    ∙ ap (λ (z : ℕ). eqb z 1) low
    ∙ either_digit (x % 2) (y % 2) (omega arith) (omega arith)

-- to set a mark is to take `|` with its digit
pub mark_is_or : (m i : ℕ) → mark m i ≡ bit_or m (2 ^ i)
mark_is_or m i =
    let digit : 2 ^ (1 + i) - 2 ^ i ≡ 2 ^ i = rw (one-add i) (omega (arith, pow-suc 2 i)) in
    let both : bit_and m (2 ^ i) ≡ m / 2 ^ i % 2 * 2 ^ i = rw digit at (and_high m 1 i) in
    let sum = or_add_and m (2 ^ i) in
    by_test (λ (x : ℕ). x ≡ bit_or m (2 ^ i)) (marked m i)
    (λ e. let one = rw (eqb-true (m / 2 ^ i % 2) 1 e) at both in omega arith)
    (λ e. let none : m / 2 ^ i % 2 ≡ 0 = omega (arith, eqb-false (m / 2 ^ i % 2) 1 e) in let zero' = rw none at both in omega arith)

-- the digit as `1 << i` of 32 digits makes it
pub mark_shifted : (m i : ℕ) → i < 32 → mark m i ≡ bit_or m (1 * 2 ^ i % 4294967296)
mark_shifted m i h = rw (mark_is_or m i, one-mul (2 ^ i), mod-eq_of_lt (pow-lt h))

-- the digit of seat i marks that seat and no other
one_mark : (i j : ℕ) → marked (2 ^ i) j ≡ eqb i j
one_mark zero zero = refl
one_mark zero (suc j) = unmarked_above 1 (suc j) 1 (omega arith) (omega arith) ∙ sym (eqb-zero-suc j)
one_mark (suc i) zero =
    let even : 2 ^ suc i / 2 ^ 0 % 2 ≡ 0 = rw (div-one (2 ^ suc i)) (omega (arith, pow-suc 2 i)) in
    ap (λ (x : ℕ). eqb x 1) even ∙ sym (eqb-suc-zero i)
one_mark (suc i) (suc j) =
    let half : 2 ^ suc i / 2 ≡ 2 ^ i = omega (arith, pow-suc 2 i) in
    let halves : 2 ^ suc i / 2 ^ suc j ≡ 2 ^ i / 2 ^ j
    = ap (λ (n : ℕ). 2 ^ suc i / 2 ^ n) (sym (one-add j)) ∙ sym (shr-shr (2 ^ suc i) 1 j) ∙ ap (λ (x : ℕ). x / 2 ^ j) half in
    ap (λ (x : ℕ). eqb (x % 2) 1) halves ∙ one_mark i j ∙ sym (eqb-suc-suc i j)

or_comm : (a b : Bool) → (a || b) ≡ (b || a)
or_comm true true = refl
or_comm true false = refl
or_comm false true = refl
or_comm false false = refl

-- which seats are set once seat i is marked: i, and those that were
pub mark_seats : (m i j : ℕ) → marked (mark m i) j ≡ (eqb i j || marked m j)
mark_seats m i j =
    ap (λ (x : ℕ). marked x j) (mark_is_or m i)
    ∙ either_seats m (2 ^ i) j
    ∙ ap (λ (b : Bool). marked m j || b) (one_mark i j)
    ∙ or_comm (marked m j) (eqb i j)

-- marks of n seats stay marks of n seats
pub mark_below : (n i m : ℕ) → i < n → m < 2 ^ n → mark m i < 2 ^ n
mark_below n i m h l = rw (mark_is_or m i) (or_lt n m (2 ^ i) l (pow-lt h))

-- each of n seats is marked in 2^n - 1
all_marked : (n i : ℕ) → i < n → marked (2 ^ n - 1) i ≡ true
all_marked zero i h = absurd (omega arith)
all_marked (suc n) zero h =
    let odd : (2 ^ suc n - 1) / 2 ^ 0 % 2 ≡ 1 = rw (div-one (2 ^ suc n - 1)) (omega (arith, pow-suc 2 n, pow_pos n)) in
    ap (λ (x : ℕ). eqb x 1) odd
all_marked (suc n) (suc i) h =
    let half : (2 ^ suc n - 1) / 2 ≡ 2 ^ n - 1 = omega (arith, pow-suc 2 n, pow_pos n) in
    let halves : (2 ^ suc n - 1) / 2 ^ suc i ≡ (2 ^ n - 1) / 2 ^ i
    = ap (λ (k : ℕ). (2 ^ suc n - 1) / 2 ^ k) (sym (one-add i)) ∙ sym (shr-shr (2 ^ suc n - 1) 1 i) ∙ ap (λ (x : ℕ). x / 2 ^ i) half in
    ap (λ (x : ℕ). eqb (x % 2) 1) halves ∙ all_marked n i (omega arith)

-- every seat is marked in `EVERY`
pub every_marked : (i : ℕ) → i < 32 → marked 4294967295 i ≡ true
every_marked = all_marked 32

-- ---- the lowest seat marked

record Lowest (k m t : ℕ) : Type 0 where
  pub there : 2 ^ t ≤ m
  pub digit : m / 2 ^ t % 2 ≡ 1
  pub others : bit_and m (m - 1) ≡ m - 2 ^ t

lowest_digit : (k m : ℕ) → 0 < m → m < 2 ^ k → Lowest k m (count_trailing_zeros k m)
unfolding count_trailing_zeros
lowest_digit zero m p l = absurd (omega arith)
lowest_digit (suc k) m p l =
    by_cases (eqb (m % 2) 1) (λ e. odd (eqb-true (m % 2) 1 e)) (λ e.
    let zero' : m % 2 ≡ 0 = omega (arith, eqb-false (m % 2) 1 e) in
    even zero' (lowest_digit k (m / 2) (omega arith) (omega (arith, pow-suc 2 k))))
  where
    odd : m % 2 ≡ 1 → Lowest (suc k) m (under (m % 2) (count_trailing_zeros k (m / 2)))
    odd one =
        let half : (m - 1) / 2 ≡ m / 2 = omega arith in
        let same = ap (bit_and (m / 2)) half ∙ and_self (m / 2) in
        let rest : bit_and m (m - 1) ≡ m - 2 ^ 0 = omega (arith, and_step m (m - 1), same) in
        rw one (record { there = omega arith; digit = rw (div-one m) one; others = rest })

    even : m % 2 ≡ 0 → Lowest k (m / 2) (count_trailing_zeros k (m / 2)) → Lowest (suc k) m (under (m % 2) (count_trailing_zeros k (m / 2)))
    even none low =
        let t : ℕ = count_trailing_zeros k (m / 2) in
        let half : (m - 1) / 2 ≡ m / 2 - 1 = omega arith in
        let fewer = ap (bit_and (m / 2)) half ∙ low.others in
        let rest : bit_and m (m - 1) ≡ m - 2 ^ suc t = omega (arith, and_step m (m - 1), fewer, pow-suc 2 t, low.there) in
        let halves : m / 2 ^ suc t ≡ m / 2 / 2 ^ t = ap (λ (n : ℕ). m / 2 ^ n) (sym (one-add t)) ∙ sym (shr-shr m 1 t) in
        rw none (record {
          there = omega (arith, pow-suc 2 t, low.there);
          digit = ap (λ (x : ℕ). x % 2) halves ∙ low.digit;
          others = rest;
        })

module _ (k m : ℕ) (p : 0 < m) (l : m < 2 ^ k) where
  -- `m & (m - 1)` takes its digit away
  pub lowest_away : bit_and m (m - 1) ≡ m - 2 ^ count_trailing_zeros k m
  lowest_away = (lowest_digit k m p l).others

  -- the seats marked are the lowest, and those that are left without it
  pub lowest_others : (j : ℕ) → marked m j ≡ (eqb (count_trailing_zeros k m) j || marked (m - 2 ^ count_trailing_zeros k m) j)
  lowest_others j =
      let t : ℕ = count_trailing_zeros k m in
      let low = lowest_digit k m p l in
      let digit : (m - 2 ^ t) / 2 ^ t % 2 ≡ 0 = omega (arith, low.digit, div-eq-sub-div (pow_pos t) low.there) in
      let gone : marked (m - 2 ^ t) t ≡ false = ap (λ (x : ℕ). eqb x 1) digit in
      let back : mark (m - 2 ^ t) t ≡ m = rw gone (omega (arith, low.there)) in
      ap (λ (x : ℕ). marked x j) (sym back) ∙ mark_seats (m - 2 ^ t) t j

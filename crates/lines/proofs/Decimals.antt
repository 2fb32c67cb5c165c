-- Laws of numbers in decimal: what a word of digits says, and that no other word is written like it. Assumes nothing.
use Prim.Native.Nat.{ℕ, zero, suc, ◌+◌, ◌*◌, ◌-◌, ◌/◌, ◌%◌, ◌^◌, ◌≤◌, ◌<◌}
use mathlib.Core.Path.{◌≡◌, refl, ap, sym, subst, ◌∙◌}
use mathlib.Core.Bool.{true, false, not, ◌&&◌, false≢true}
use mathlib.Core.Logic.{◌⊎◌, ⊎_elim, inl, inr}
use mathlib.Core.List.{List, [], ◌∷◌, ◌++◌, append-nil}
use native.Mathlib.Nat.{pow-suc}
use native.Mathlib.Numerals.{add-one}
use native.Mathlib.Omega.{arith}
use Rattle.std.proofs.lemmas.Option.{none-some, same_Some}
use borrow.Author.Tests.{le-leb, lt-leb, leb-true, lt-ltb, ltb-true, ltb-false, ne_eqb, eqb-false, not-true}
use lib.Dec.{leb, ltb, eqb}
use lib.ListN.{length, drop, get_or, length-append, drop_of_length-le}
use lib.Seq.{drop-cons, append_snoc}
use Rattle.words.specs.Members.{In}
use Rattle.words.proofs.Choice.{by_test, by_cases, and_left, and_right}
use Rattle.listing.specs.Text.{digits, decimal}
use Rattle.listing.proofs.Digits.{digits_one, digits_more, digits_are, digits_first, read_on, reads_digits}
use Rattle.std.specs.Prelude.{Option, Some, None}
use Rattle.lines.specs.Reading.{same, said_on, said, number_word}
use Rattle.lines.specs.InContracts.Digits.{is_digit, all_digits, plain, digits_word}
use Rattle.lines.proofs.Words.{same_self, same_is, same_not, wordy}

-- ---- a word of digits, byte by byte from place i on

module _ (w : List ℕ) (i v : ℕ) (h : i < length w) where
  pub said_more : said_on v (drop i w) ≡ said_on (10 * v + (get_or w i 0 - 48)) (drop (i + 1) w)
  unfolding said_on
  said_more = rw (drop-cons w i 0, add-one)

  pub digits_here : all_digits (drop i w) ≡ (is_digit (get_or w i 0) && all_digits (drop (i + 1) w))
  unfolding all_digits
  digits_here = rw (drop-cons w i 0, add-one)

  pub digits_go_on : is_digit (get_or w i 0) ≡ true → all_digits (drop i w) ≡ all_digits (drop (i + 1) w)
  digits_go_on d = digits_here ∙ rw d

  pub no_digit : is_digit (get_or w i 0) ≡ false → all_digits (drop i w) ≡ false
  no_digit d = digits_here ∙ rw d

-- what is said never falls
pub said_grows : (w : List ℕ) (v : ℕ) → v ≤ said_on v w
unfolding said_on
said_grows [] v = omega arith
said_grows (b ∷ w) v = omega (arith, said_grows w (10 * v + (b - 48)))

-- the answers of a word of digits
pub digits_none : (most : ℕ) (w : List ℕ) → all_digits w ≡ false → None ≡ digits_word most w
unfolding digits_word
digits_none most w e = rw e (by_cases (leb (said w) most) (λ t. rw t) (λ t. rw t))

pub digits_high : (most : ℕ) (w : List ℕ) → most < said w → None ≡ digits_word most w
unfolding digits_word
digits_high most w h = rw (lt-leb (said w) most h)

pub digits_good : (most : ℕ) (w : List ℕ) → all_digits w ≡ true → said w ≤ most → Some (said w) ≡ digits_word most w
unfolding digits_word
digits_good most w e h = rw (le-leb (said w) most h, e)

-- at the end of the word
pub digits_done : (most : ℕ) (w : List ℕ) (i v : ℕ) → length w ≤ i → v ≤ most → said w ≡ said_on v (drop i w) → all_digits w ≡ all_digits (drop i w)
    → Some v ≡ digits_word most w
unfolding said_on all_digits
digits_done most w i v h b s d =
    let z : drop i w ≡ [] = drop_of_length-le w h in
    let x : said w ≡ v = s ∙ ap (said_on v) z in
    sym (ap Some x) ∙ digits_good most w (d ∙ ap all_digits z) (omega arith)

-- ---- a plain word, by its length and first byte

pub plain_empty : (w : List ℕ) → length w ≡ 0 → false ≡ plain w
unfolding plain
plain_empty [] h = refl
plain_empty (b ∷ w) h = absurd (omega arith)

pub plain_one : (w : List ℕ) → length w ≡ 1 → true ≡ plain w
unfolding plain
plain_one [] h = absurd (omega arith)
plain_one (b ∷ []) h = refl
plain_one (b ∷ c ∷ w) h = absurd (omega arith)

pub plain_more : (w : List ℕ) → (length w ≡ 0 → ⊥) → (length w ≡ 1 → ⊥) → not (eqb (get_or w 0 0) 48) ≡ plain w
unfolding plain
plain_more [] h k = absurd (h refl)
plain_more (b ∷ []) h k = absurd (k refl)
plain_more (b ∷ c ∷ w) h k = refl

-- ---- what a plain word of digits says is written as the word is

-- the digits of a number do not depend on how many there may be
enough : (a b x : ℕ) → x < 10 ^ suc a → x < 10 ^ suc b → digits (suc a) x ≡ digits (suc b) x
unfolding digits
enough zero b x g h = rw (lt-ltb x 10 (omega arith))
enough (suc a) zero x g h = rw (lt-ltb x 10 (omega arith))
enough (suc a) (suc b) x g h =
    let g' : x < 10 ^ suc a * 10 = rw pow-suc at g in
    let h' : x < 10 ^ suc b * 10 = rw pow-suc at h in
    rw (enough a b (x / 10) (omega arith) (omega arith))

-- one digit more
decimal_more : (v b : ℕ) → 1 ≤ v → 48 ≤ b → b ≤ 57 → 10 * v + (b - 48) < 10 ^ 20 → decimal (10 * v + (b - 48)) ≡ decimal v ++ (b ∷ [])
decimal_more v b some lo hi h =
    let x = 10 * v + (b - 48) in
    let q : x / 10 ≡ v = omega arith in
    let r : 48 + x % 10 ≡ b = omega arith in
    let m : digits 20 x ≡ digits 19 (x / 10) ++ ((48 + x % 10) ∷ []) = digits_more 20 x (λ z. omega arith) (omega arith) in
    m ∙ ap (λ (y : ℕ). digits 19 y ++ ((48 + x % 10) ∷ [])) q ∙ ap (λ (y : ℕ). digits 19 v ++ (y ∷ [])) r
    ∙ ap (λ (l : List ℕ). l ++ (b ∷ [])) (enough 18 19 v (omega arith) (omega arith))

digit_lo : (b : ℕ) → is_digit b ≡ true → 48 ≤ b
digit_lo b e = leb-true 48 b (and_left (leb 48 b) (leb b 57) e)

digit_hi : (b : ℕ) → is_digit b ≡ true → b ≤ 57
digit_hi b e = leb-true b 57 (and_right (leb 48 b) (leb b 57) e)

written_on : (w : List ℕ) (v : ℕ) → 1 ≤ v → all_digits w ≡ true → said_on v w < 10 ^ 20 → decimal (said_on v w) ≡ decimal v ++ w
unfolding all_digits said_on
written_on [] v some e h = sym (append-nil (decimal v))
written_on (b ∷ w) v some e h =
    let d = and_left (is_digit b) (all_digits w) e in
    let lo = digit_lo b d in
    let hi = digit_hi b d in
    let g = said_grows w (10 * v + (b - 48)) in
    written_on w (10 * v + (b - 48)) (omega arith) (and_right (is_digit b) (all_digits w) e) h
    ∙ ap (λ (l : List ℕ). l ++ w) (decimal_more v b some lo hi (omega arith))
    ∙ append_snoc (decimal v) b w

one_digit : (b : ℕ) → is_digit b ≡ true → decimal (10 * 0 + (b - 48)) ≡ b ∷ []
one_digit b e =
    let lo = digit_lo b e in
    let hi = digit_hi b e in
    let x = 10 * 0 + (b - 48) in
    let r : 48 + x % 10 ≡ b = omega arith in
    digits_one 20 x (λ z. omega arith) (omega arith) ∙ ap (λ (y : ℕ). y ∷ []) r

pub written_so : (w : List ℕ) → plain w ≡ true → all_digits w ≡ true → said w < 10 ^ 20 → decimal (said w) ≡ w
unfolding plain all_digits said_on
written_so [] p e h = absurd (false≢true p)
written_so (b ∷ []) p e h = one_digit b (and_left (is_digit b) true e)
written_so (b ∷ c ∷ w) p e h =
    let d = and_left (is_digit b) (all_digits (c ∷ w)) e in
    let lo = digit_lo b d in
    let n = eqb-false b 48 (not-true (eqb b 48) p) in
    let some : 1 ≤ 10 * 0 + (b - 48) = ⊎_elim (λ same. absurd (n same)) (λ more. more) (apart b lo) in
    written_on (c ∷ w) (10 * 0 + (b - 48)) some (and_right (is_digit b) (all_digits (c ∷ w)) e) h
    ∙ ap (λ (l : List ℕ). l ++ (c ∷ w)) (one_digit b d)
  where
    apart : (b : ℕ) → 48 ≤ b → (b ≡ 48) ⊎ (1 ≤ 10 * 0 + (b - 48))
    apart b lo = by_cases (ltb 48 b) (λ t. let h = ltb-true 48 b t in inr (omega arith)) (λ t. let h = ltb-false 48 b t in inl (omega arith))

-- ---- what is written is a plain word of digits

all_from : (w : List ℕ) → ((b : ℕ) → In b w → (48 ≤ b) × (b ≤ 57)) → all_digits w ≡ true
unfolding all_digits
all_from [] f = refl
all_from (b ∷ w) f =
    let d = f b (inl refl) in
    rw (le-leb 48 b d.0, le-leb b 57 d.1) (all_from w (λ c i. f c (inr i)))

pub decimal_digits : (x : ℕ) → all_digits (decimal x) ≡ true
decimal_digits x = all_from (decimal x) (λ b i. digits_are 20 x b i)

plain_first : (w : List ℕ) → 49 ≤ get_or w 0 0 → plain w ≡ true
unfolding plain
plain_first [] h = absurd (omega arith)
plain_first (b ∷ []) h = refl
plain_first (b ∷ c ∷ w) h = rw (ne_eqb b 48 (λ e. omega arith))

pub decimal_plain : (x : ℕ) → x < 10 ^ 20 → plain (decimal x) ≡ true
unfolding plain
decimal_plain x h =
    by_cases (ltb x 10)
    (λ t. let l = ltb-true x 10 t in rw (digits_one 20 x (λ z. omega arith) l))
    (λ t. let l = ltb-false x 10 t in plain_first (decimal x) (digits_first 20 x (omega arith) h))

-- ---- a number's word, by its digits

module _ (most : ℕ) (fits : most < 2 ^ 64) (w : List ℕ) where
  digits_same : plain w ≡ true → said w ≤ most → all_digits w ≡ same w (decimal (said w))
  digits_same p h =
      by_cases (all_digits w)
      (λ e. e ∙ sym (ap (same w) (written_so w p e (omega arith)) ∙ same_self w))
      (λ e. e ∙ sym (same_not w (decimal (said w)) (λ s. false≢true (sym e ∙ ap all_digits s ∙ decimal_digits (said w)))))

  pub number_plain : plain w ≡ true → digits_word most w ≡ number_word most w
  unfolding digits_word number_word
  number_plain p =
      by_cases (leb (said w) most)
      (λ t. rw (digits_same p (leb-true (said w) most t)))
      (λ t. rw t)

  pub number_not_plain : plain w ≡ false → None ≡ number_word most w
  unfolding number_word
  number_not_plain p =
      by_cases (leb (said w) most)
      (λ t. let h = leb-true (said w) most t in
      rw (t, same_not w (decimal (said w)) (λ s. false≢true (sym p ∙ ap plain s ∙ decimal_plain (said w) (omega arith)))))
      (λ t. rw t)

-- ---- what is good is written so, and what is written is good

pub number_written : (most : ℕ) (w : List ℕ) (x : ℕ) → number_word most w ≡ Some x → (x ≤ most) × (w ≡ decimal x)
unfolding number_word
number_written most w x =
    by_test (λ (n : Option ℕ). n ≡ Some x → (x ≤ most) × (w ≡ decimal x)) (leb (said w) most && same w (decimal (said w)))
    (λ t g.
    let y : said w ≡ x = same_Some _ _ g in
    subst (λ (x : ℕ). (x ≤ most) × (w ≡ decimal x)) y (
      leb-true (said w) most (and_left (leb (said w) most) (same w (decimal (said w))) t),
      same_is w (decimal (said w)) (and_right (leb (said w) most) (same w (decimal (said w))) t),
    ))
    (λ t g. absurd (none-some x g))

said_reads : (n : ℕ) (w : List ℕ) → said_on n w ≡ read_on n w
unfolding said_on read_on
said_reads n [] = refl
said_reads n (b ∷ w) = said_reads (10 * n + (b - 48)) w

pub said_decimal : (x : ℕ) → x < 2 ^ 64 → said (decimal x) ≡ x
said_decimal x h = said_reads 0 (decimal x) ∙ reads_digits x h

pub number_read : (most x : ℕ) → most < 2 ^ 64 → x ≤ most → number_word most (decimal x) ≡ Some x
unfolding number_word
number_read most x f h = rw (said_decimal x (omega arith), le-leb x most h, same_self (decimal x))

-- and a word
digits_wordy : (w : List ℕ) → all_digits w ≡ true → wordy w ≡ true
unfolding all_digits wordy
digits_wordy [] e = refl
digits_wordy (b ∷ w) e =
    let lo = digit_lo b (and_left (is_digit b) (all_digits w) e) in
    rw (ne_eqb b 32 (λ z. omega arith)) (digits_wordy w (and_right (is_digit b) (all_digits w) e))

pub decimal_wordy : (x : ℕ) → wordy (decimal x) ≡ true
decimal_wordy x = digits_wordy (decimal x) (decimal_digits x)

-- of one byte at least
pub decimal_some : (x : ℕ) → 1 ≤ length (decimal x)
unfolding digits
decimal_some x = simp length-append (omega arith)

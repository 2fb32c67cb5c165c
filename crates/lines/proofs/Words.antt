-- Laws of words: two that are the same, and the first of a line with what follows it. Assumes nothing.
use Rattle.std.specs.Bool.{one_answer}
use Rattle.std.specs.Prelude.{Option, Some, None, cond, bytes_eq}
use Rattle.std.proofs.lemmas.Slice.Eq.{slice_eq-Decides}
use Rattle.std.proofs.lemmas.Bool.Decides.{Decides-eqb}
use Rattle.std.specs.List.{position_or_len}
use Rattle.std.proofs.lemmas.List.Recursion.{is_position_or_len}
use Prim.Native.Nat.{ℕ, suc, ◌≤◌}
use mathlib.Core.Path.{◌≡◌, refl, ap, sym, ◌∙◌}
use mathlib.Core.Bool.{Bool, true, false, not, ◌&&◌, false≢true}
use mathlib.Core.List.{List, [], ◌∷◌, ◌++◌}
use native.Mathlib.Omega.{arith}
use Rattle.std.proofs.lemmas.List.{take_all}
use Rattle.std.proofs.lemmas.Option.{none-some, same_Some}
use borrow.Author.Tests.{ltb-false, eq-eqb, eqb-true, not-true}
use lib.Dec.{eqb, ltb}
use lib.ListN.{length, take, drop, drop_of_length-le}
use Rattle.words.proofs.Choice.{by_test, by_cases, and_left, and_right}
use Rattle.listing.specs.Text.{space}
use Rattle.lines.specs.Reading.{first_word, after_word, same}

-- ---- two words

pub same_is : (w v : List ℕ) → same w v ≡ true → w ≡ v
unfolding same
same_is [] [] e = refl
same_is [] (c ∷ v) e = absurd (false≢true e)
same_is (b ∷ w) [] e = absurd (false≢true e)
same_is (b ∷ w) (c ∷ v) e =
    let p = eqb-true b c (and_left (eqb b c) (same w v) e) in
    let q = same_is w v (and_right (eqb b c) (same w v) e) in
    rw (p, q)

pub same_self : (w : List ℕ) → same w w ≡ true
unfolding same
same_self [] = refl
same_self (b ∷ w) = rw (eq-eqb b b refl) (same_self w)

-- they are not, where something is not that would be if they were
pub same_not : (w v : List ℕ) → (w ≡ v → ⊥) → same w v ≡ false
same_not w v n = by_cases (same w v) (λ e. absurd (n (same_is w v e))) (λ e. e)

-- std's answer whether two words are the same
pub same_decided : (w v : List ℕ) (t : Bool) → t ≡ bytes_eq w v → t ≡ same w v
same_decided w v t e =
    one_answer t (same w v) (slice_eq-Decides Decides-eqb w v t e) (same_is w v, λ f. ap (same w) (sym f) ∙ same_self w)

-- ---- the first word and the rest, as parts of the line

pub first_taken : (l : List ℕ) → take (length (first_word l)) l ≡ first_word l
unfolding first_word
first_taken [] = refl
first_taken (b ∷ l) = by_test (λ (w : List ℕ). take (length w) (b ∷ l) ≡ w) (eqb b space) (λ e. refl) (λ e. ap (λ (w : List ℕ). b ∷ w) (first_taken l))

pub after_dropped : (l : List ℕ) → drop (suc (length (first_word l))) l ≡ after_word l
unfolding first_word after_word
after_dropped [] = refl
after_dropped (b ∷ l) = by_cases (eqb b space) (λ e. rw e) (λ e. rw e (after_dropped l))

-- ---- the first space of a line, where there is one

abbrev pub is_space : ℕ → Bool
is_space b = eqb b space

size_is : (l : List ℕ) → length (first_word l) ≡ position_or_len is_space l
unfolding first_word
size_is = is_position_or_len (λ l. length (first_word l)) is_space refl (λ b l. by_cases (eqb b space) (λ e. rw e) (λ e. rw e (omega arith)))

module _ (l : List ℕ) (r : Option ℕ) (e : r ≡ cond (ltb (position_or_len is_space l) (length l)) (Some (position_or_len is_space l)) None) where
  pub space_at : (at : ℕ) → r ≡ Some at → at ≡ length (first_word l)
  space_at at f =
      by_cases (ltb (position_or_len is_space l) (length l))
      (λ t. let g : Some (position_or_len is_space l) ≡ Some at = rw t at (sym e ∙ f) in sym (same_Some _ _ g) ∙ sym (size_is l))
      (λ t. let g : None ≡ Some at = rw t at (sym e ∙ f) in absurd (none-some at g))

  pub no_space : r ≡ None → length l ≤ length (first_word l)
  no_space f =
      by_cases (ltb (position_or_len is_space l) (length l))
      (λ t. let g : Some (position_or_len is_space l) ≡ None = rw t at (sym e ∙ f) in absurd (none-some _ (sym g)))
      (λ t. rw (size_is l) (ltb-false _ _ t))

-- a line without a space is its first word, and nothing follows it
pub first_is_all : (l : List ℕ) → length l ≤ length (first_word l) → l ≡ first_word l
first_is_all l h = sym (take_all (length (first_word l)) l h) ∙ first_taken l

pub nothing_after : (l : List ℕ) → length l ≤ length (first_word l) → [] ≡ after_word l
nothing_after l h = sym (drop_of_length-le l {i = suc (length (first_word l))} (omega arith)) ∙ after_dropped l

-- ---- a line that goes on after its first word is that word, a space and the rest

pub joined : (l : List ℕ) → 1 ≤ length (after_word l) → l ≡ first_word l ++ (space ∷ after_word l)
unfolding first_word after_word
joined [] = λ h. absurd (omega arith)
joined (b ∷ l) =
    by_cases (eqb b space)
    (λ e. rw e (λ h. ap (λ (c : ℕ). c ∷ l) (eqb-true b 32 e)))
    (λ e. rw e (λ h. ap (λ (m : List ℕ). b ∷ m) (joined l h)))

-- no byte is a space
unfoldable pub wordy : List ℕ → Bool
wordy [] = true
wordy (b ∷ w) = not (eqb b space) && wordy w

pub first_of_line : (w l : List ℕ) → wordy w ≡ true → first_word (w ++ (space ∷ l)) ≡ w
unfolding first_word wordy
first_of_line [] l h = refl
first_of_line (b ∷ w) l h =
    rw (not-true (eqb b space) (and_left (not (eqb b space)) (wordy w) h), first_of_line w l (and_right (not (eqb b space)) (wordy w) h))

pub after_first : (w l : List ℕ) → wordy w ≡ true → after_word (w ++ (space ∷ l)) ≡ l
unfolding after_word wordy
after_first [] l h = refl
after_first (b ∷ w) l h =
    rw (not-true (eqb b space) (and_left (not (eqb b space)) (wordy w) h)) (after_first w l (and_right (not (eqb b space)) (wordy w) h))

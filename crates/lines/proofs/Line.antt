-- Laws of the fields of a line: what each can be, and the line as they follow one another. Assumes nothing.
use Prim.Native.Nat.{ℕ, zero, suc, pred, ◌-◌, ◌≤◌, ◌<◌}
use mathlib.Core.Path.{◌≡◌, refl, ap, sym, subst, ◌∙◌}
use mathlib.Core.Bool.{true, false, false≢true}
use mathlib.Core.List.{List, [], ◌∷◌}
use native.Mathlib.Omega.{arith}
use Rattle.std.proofs.lemmas.Option.{none-some, same_Some}
use borrow.Author.Tests.{ltb-true}
use lib.Dec.{eqb, ltb}
use Rattle.words.specs.Choice.{first_of}
use Rattle.words.proofs.Choice.{by_test, first_passes}
use Rattle.listing.specs.Text.{decimal, valid_round, input_word}
use Rattle.listing.proofs.Digits.{valid_some}
use Rattle.std.specs.Prelude.{Option, Some, None, option_map}
use Rattle.lines.specs.Reading.{same, number_word, valid_word, kind_of, kind_word, most_8}
use Rattle.lines.specs.InContracts.Digits.{all_digits}
use Rattle.lines.proofs.Words.{same_is, same_not, wordy}
use Rattle.lines.proofs.Decimals.{number_written, number_read, decimal_digits, decimal_wordy}

-- ---- the kind

pub kind_to : (w : List ℕ) → kind_of w ≤ 7
unfolding kind_of first_of
kind_to w =
    by_test (λ (k : ℕ). k ≤ 7) (same w (input_word 1)) (λ e. omega arith)
    (λ e. by_test (λ (k : ℕ). k ≤ 7) (same w (input_word 2)) (λ e. omega arith)
    (λ e. by_test (λ (k : ℕ). k ≤ 7) (same w (input_word 3)) (λ e. omega arith)
    (λ e. by_test (λ (k : ℕ). k ≤ 7) (same w (input_word 4)) (λ e. omega arith)
    (λ e. by_test (λ (k : ℕ). k ≤ 7) (same w (input_word 5)) (λ e. omega arith)
    (λ e. by_test (λ (k : ℕ). k ≤ 7) (same w (input_word 6)) (λ e. omega arith)
    (λ e. by_test (λ (k : ℕ). k ≤ 7) (same w (input_word 7)) (λ e. omega arith) (λ e. omega arith)))))))

-- a kind's word is its own
pub kind_written : (w : List ℕ) (k : ℕ) → kind_word w ≡ Some k → (1 ≤ k) × (k ≤ 7) × (w ≡ input_word k)
unfolding kind_of
kind_written w k =
    by_test (λ (o : Option ℕ). o ≡ Some k → (1 ≤ k) × (k ≤ 7) × (w ≡ input_word k)) (ltb 0 (kind_of w))
    (λ t g.
    let h = ltb-true 0 (kind_of w) t in
    let own = same_is w (input_word (kind_of w)) (first_passes (1 ∷ 2 ∷ 3 ∷ 4 ∷ 5 ∷ 6 ∷ 7 ∷ []) (λ kind. same w (input_word kind)) (λ e. omega (arith, e, h))) in
    subst (λ (k : ℕ). (1 ≤ k) × (k ≤ 7) × (w ≡ input_word k)) (same_Some _ _ g) (h, kind_to w, own))
    (λ t g. absurd (none-some k g))

-- the kind of a word that is of no kind before this one, and of a word that is of none
pub kind_first : (w : List ℕ) (n : ℕ) → 1 ≤ n → n ≤ 7 → ((k : ℕ) → 1 ≤ k → k < n → same w (input_word k) ≡ false) → same w (input_word n) ≡ true → kind_of w ≡ n
unfolding kind_of first_of
kind_first w zero a b f e = absurd (omega arith)
kind_first w (suc zero) a b f e = rw (e)
kind_first w (suc (suc zero)) a b f e = rw (f 1 (omega arith) (omega arith), e)
kind_first w (suc (suc (suc zero))) a b f e = rw (f 1 (omega arith) (omega arith), f 2 (omega arith) (omega arith), e)
kind_first w (suc (suc (suc (suc zero)))) a b f e = rw (f 1 (omega arith) (omega arith), f 2 (omega arith) (omega arith), f 3 (omega arith) (omega arith), e)
kind_first w (suc (suc (suc (suc (suc zero))))) a b f e = rw (f 1 (omega arith) (omega arith), f 2 (omega arith) (omega arith), f 3 (omega arith) (omega arith), f 4 (omega arith) (omega arith), e)
kind_first w (suc (suc (suc (suc (suc (suc zero)))))) a b f e = rw (f 1 (omega arith) (omega arith), f 2 (omega arith) (omega arith), f 3 (omega arith) (omega arith), f 4 (omega arith) (omega arith), f 5 (omega arith) (omega arith), e)
kind_first w (suc (suc (suc (suc (suc (suc (suc zero))))))) a b f e = rw (f 1 (omega arith) (omega arith), f 2 (omega arith) (omega arith), f 3 (omega arith) (omega arith), f 4 (omega arith) (omega arith), f 5 (omega arith) (omega arith), f 6 (omega arith) (omega arith), e)
kind_first w (suc (suc (suc (suc (suc (suc (suc (suc n)))))))) a b f e = absurd (omega arith)

pub kind_none : (w : List ℕ) → ((k : ℕ) → 1 ≤ k → k < 8 → same w (input_word k) ≡ false) → kind_of w ≡ 0
unfolding kind_of first_of
kind_none w f = rw (f 1 (omega arith) (omega arith), f 2 (omega arith) (omega arith), f 3 (omega arith) (omega arith), f 4 (omega arith) (omega arith), f 5 (omega arith) (omega arith), f 6 (omega arith) (omega arith), f 7 (omega arith) (omega arith))

pub kind_read : (k : ℕ) → 1 ≤ k → k ≤ 7 → kind_word (input_word k) ≡ Some k
unfolding kind_of first_of same input_word
kind_read zero a b = absurd (omega arith)
kind_read (suc zero) a b = refl
kind_read (suc (suc zero)) a b = refl
kind_read (suc (suc (suc zero))) a b = refl
kind_read (suc (suc (suc (suc zero)))) a b = refl
kind_read (suc (suc (suc (suc (suc zero))))) a b = refl
kind_read (suc (suc (suc (suc (suc (suc zero)))))) a b = refl
kind_read (suc (suc (suc (suc (suc (suc (suc zero))))))) a b = refl
kind_read (suc (suc (suc (suc (suc (suc (suc (suc k)))))))) a b = absurd (omega arith)

pub kind_wordy : (k : ℕ) → wordy (input_word k) ≡ true
unfolding wordy input_word
kind_wordy k =
    by_test (λ (w : List ℕ). wordy w ≡ true) (eqb k 1) (λ e. refl)
    (λ e. by_test (λ (w : List ℕ). wordy w ≡ true) (eqb k 2) (λ e. refl)
    (λ e. by_test (λ (w : List ℕ). wordy w ≡ true) (eqb k 3) (λ e. refl)
    (λ e. by_test (λ (w : List ℕ). wordy w ≡ true) (eqb k 4) (λ e. refl)
    (λ e. by_test (λ (w : List ℕ). wordy w ≡ true) (eqb k 5) (λ e. refl)
    (λ e. by_test (λ (w : List ℕ). wordy w ≡ true) (eqb k 6) (λ e. refl) (λ e. refl))))))

-- ---- the valid round

-- a valid round's word is its own
pub valid_written : (w : List ℕ) (next : ℕ) → valid_word w ≡ Some next → (next ≤ most_8) × (w ≡ valid_round next)
unfolding valid_word
valid_written w next =
    by_test (λ (o : Option ℕ). o ≡ Some next → (next ≤ most_8) × (w ≡ valid_round next)) (same w (valid_round 0))
    (λ e g. subst (λ (n : ℕ). (n ≤ most_8) × (w ≡ valid_round n)) (same_Some _ _ g) (omega arith, same_is w (valid_round 0) e))
    (λ e. some (number_word 254 w) refl)
  where
    some : (o : Option ℕ) → number_word 254 w ≡ o → option_map suc o ≡ Some next → (next ≤ most_8) × (w ≡ valid_round next)
    some None f g = absurd (none-some next g)
    some (Some x) f g =
        let n = number_written 254 w x f in
        let z : suc x - 1 ≡ x = omega arith in
        subst (λ (n : ℕ). (n ≤ most_8) × (w ≡ valid_round n)) (same_Some _ _ g)
        (omega arith, n.1 ∙ sym (valid_some (suc x) (λ c. omega arith) ∙ ap decimal z))

-- no number is written as none
none_apart : (x : ℕ) → same (decimal x) (valid_round 0) ≡ false
unfolding all_digits
none_apart x = same_not (decimal x) (valid_round 0) (λ e. false≢true (sym (ap all_digits e) ∙ decimal_digits x))

pub valid_read : (next : ℕ) → next ≤ most_8 → valid_word (valid_round next) ≡ Some next
unfolding valid_word same
valid_read zero h = refl
valid_read (suc x) h =
    let z : suc x - 1 ≡ x = omega arith in
    let e : valid_round (suc x) ≡ decimal x = valid_some (suc x) (λ c. omega arith) ∙ ap decimal z in
    ap valid_word e ∙ some x (none_apart x) (number_read 254 x (omega arith) (omega arith))
  where
    some : (x : ℕ) → same (decimal x) (valid_round 0) ≡ false → number_word 254 (decimal x) ≡ Some x → valid_word (decimal x) ≡ Some (suc x)
    some x e f = rw (e, f)

pub valid_wordy : (next : ℕ) → wordy (valid_round next) ≡ true
unfolding wordy
valid_wordy next = by_test (λ (w : List ℕ). wordy w ≡ true) (eqb next 0) (λ e. refl) (λ e. decimal_wordy (pred next))

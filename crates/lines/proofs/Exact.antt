-- Exactly the words of inputs are read: an input's words as that input, and nothing else as one. Assumes nothing.
use Prim.Native.Nat.{ℕ, suc, ◌+◌, ◌≤◌}
use mathlib.Core.Path.{◌≡◌, refl, ap, sym, subst, ◌∙◌}
use mathlib.Core.List.{List, [], ◌∷◌, ◌++◌, append_assoc}
use native.Mathlib.Omega.{arith}
use lib.ListN.{length, length-append}
use Rattle.std.specs.Prelude.{Option, Some, None}
use Rattle.std.proofs.lemmas.Option.{none-some, same_Some}
use Rattle.roll.specs.declared.Height.{Height}
use Rattle.rules.specs.declared.Input.{Input}
use Rattle.listing.specs.Text.{space, newline, decimal, valid_round, input_word, line}
use Rattle.listing.specs.Listing.{call_line}
use Rattle.lines.specs.Reading.{spaced, input_words, Fits, first_word, after_word, number_word, valid_word, kind_word, gathered, most_8, most_64, parsed, Exact}
use Rattle.lines.proofs.Words.{joined, first_of_line, after_first}
use Rattle.lines.proofs.Decimals.{number_written, number_read, decimal_wordy, decimal_some}
use Rattle.lines.proofs.Line.{kind_written, kind_read, kind_wordy, valid_written, valid_read, valid_wordy}

-- ---- the lister's call line

line_spaced : (ws : List (List ℕ)) → line ws ≡ spaced ws ++ (newline ∷ [])
unfolding line spaced
line_spaced [] = refl
line_spaced (w ∷ []) = refl
line_spaced (w ∷ v ∷ ws) = ap (λ (l : List ℕ). w ++ (space ∷ l)) (line_spaced (v ∷ ws)) ∙ sym (append_assoc w (space ∷ spaced (v ∷ ws)) (newline ∷ []))

-- it is its place, a space, the words of its input and a newline
pub call_line_words : (place : ℕ) (i : Input) → call_line place i ≡ decimal place ++ (space ∷ (input_words i ++ (newline ∷ [])))
unfolding line
call_line_words place i =
    ap (λ (l : List ℕ). decimal place ++ (space ∷ l))
    (line_spaced
    (input_word i.kind ∷
    decimal i.sender ∷
    decimal i.round.0 ∷
    decimal i.name ∷
    valid_round i.valid.0 ∷
    decimal i.verdict ∷
    decimal i.offer ∷
    []))

-- ---- an input's words are read back

-- the words of a line, one by one
pub parsed_by : (height : Height) (l : List ℕ) {l₁ l₂ l₃ l₄ l₅ l₆ w w₁ w₂ w₃ w₄ w₅ : List ℕ}
    → first_word l ≡ w → after_word l ≡ l₁
    → first_word l₁ ≡ w₁ → after_word l₁ ≡ l₂
    → first_word l₂ ≡ w₂ → after_word l₂ ≡ l₃
    → first_word l₃ ≡ w₃ → after_word l₃ ≡ l₄
    → first_word l₄ ≡ w₄ → after_word l₄ ≡ l₅
    → first_word l₅ ≡ w₅ → after_word l₅ ≡ l₆
    → parsed l height
    ≡ gathered height (kind_word w) (number_word most_8 w₁) (number_word most_8 w₂) (number_word most_64 w₃) (valid_word w₄) (number_word most_8 w₅) (number_word most_64 l₆)
unfolding parsed
parsed_by height l f a f₁ a₁ f₂ a₂ f₃ a₃ f₄ a₄ f₅ a₅ = rw (a, a₁, a₂, a₃, a₄, a₅, f, f₁, f₂, f₃, f₄, f₅)

pub words_read_back : (i : Input) → Fits i → parsed (input_words i) i.height ≡ Some i
unfolding spaced gathered
words_read_back i f =
    let kind = kind_wordy i.kind in
    let sender = decimal_wordy i.sender in
    let round = decimal_wordy i.round.0 in
    let name = decimal_wordy i.name in
    let valid = valid_wordy i.valid.0 in
    let verdict = decimal_wordy i.verdict in
    parsed_by i.height (input_words i)
    (first_of_line (input_word i.kind) _ kind) (after_first (input_word i.kind) _ kind)
    (first_of_line (decimal i.sender) _ sender) (after_first (decimal i.sender) _ sender)
    (first_of_line (decimal i.round.0) _ round) (after_first (decimal i.round.0) _ round)
    (first_of_line (decimal i.name) _ name) (after_first (decimal i.name) _ name)
    (first_of_line (valid_round i.valid.0) _ valid) (after_first (valid_round i.valid.0) _ valid)
    (first_of_line (decimal i.verdict) _ verdict) (after_first (decimal i.verdict) _ verdict)
    ∙ rw (
      kind_read i.kind f.kind_from f.kind_to,
      number_read most_8 i.sender (omega arith) f.sender,
      number_read most_8 i.round.0 (omega arith) f.round,
      number_read most_64 i.name (omega arith) f.name,
      valid_read i.valid.0 f.valid,
      number_read most_8 i.verdict (omega arith) f.verdict,
      number_read most_64 i.offer (omega arith) f.offer,
    )

-- ---- nothing else is read

-- a word, and then a line of which something is left
join : (l w rest : List ℕ) → first_word l ≡ w → after_word l ≡ rest → 1 ≤ length rest → (l ≡ w ++ (space ∷ rest)) × (1 ≤ length l)
join l w rest f a h =
    let e : l ≡ w ++ (space ∷ rest) = rw (f, a) at (joined l (rw a h)) in
    let n : length l ≡ length w + suc (length rest) = ap length e ∙ length-append w (space ∷ rest) in
    (e, omega arith)

-- the fields of an input, each from its word
pub record Reads (i : Input) (height : Height) (kind sender round name valid verdict offer : Option ℕ) : Type 0 where
  pub kind_is : kind ≡ Some i.kind
  pub sender_is : sender ≡ Some i.sender
  pub round_is : round ≡ Some i.round.0
  pub name_is : name ≡ Some i.name
  pub valid_is : valid ≡ Some i.valid.0
  pub verdict_is : verdict ≡ Some i.verdict
  pub offer_is : offer ≡ Some i.offer
  pub height_is : i.height ≡ height

-- what is gathered is gathered from all seven
gathered_from : (height : Height) (kind sender round name valid verdict offer : Option ℕ) (i : Input)
    → gathered height kind sender round name valid verdict offer ≡ Some i → Reads i height kind sender round name valid verdict offer
unfolding gathered
gathered_from height None s r n v d o i e = absurd (none-some i e)
gathered_from height (Some k) None r n v d o i e = absurd (none-some i e)
gathered_from height (Some k) (Some s) None n v d o i e = absurd (none-some i e)
gathered_from height (Some k) (Some s) (Some r) None v d o i e = absurd (none-some i e)
gathered_from height (Some k) (Some s) (Some r) (Some n) None d o i e = absurd (none-some i e)
gathered_from height (Some k) (Some s) (Some r) (Some n) (Some v) None o i e = absurd (none-some i e)
gathered_from height (Some k) (Some s) (Some r) (Some n) (Some v) (Some d) None i e = absurd (none-some i e)
gathered_from height (Some k) (Some s) (Some r) (Some n) (Some v) (Some d) (Some o) i e =
    subst (λ (i : Input). Reads i height (Some k) (Some s) (Some r) (Some n) (Some v) (Some d) (Some o)) (same_Some _ _ e)
    record { kind_is = refl; sender_is = refl; round_is = refl; name_is = refl; valid_is = refl; verdict_is = refl; offer_is = refl; height_is = refl }

-- a line that is read as an input is the input's words
module _ (l : List ℕ) (height : Height) (i : Input) (e : parsed l height ≡ Some i) where
  abbrev l₁ : List ℕ
  l₁ = after_word l

  abbrev l₂ : List ℕ
  l₂ = after_word l₁

  abbrev l₃ : List ℕ
  l₃ = after_word l₂

  abbrev l₄ : List ℕ
  l₄ = after_word l₃

  abbrev l₅ : List ℕ
  l₅ = after_word l₄

  abbrev l₆ : List ℕ
  l₆ = after_word l₅

  fields : Reads i height (kind_word (first_word l)) (number_word most_8 (first_word l₁)) (number_word most_8 (first_word l₂)) (number_word most_64 (first_word l₃))
      (valid_word (first_word l₄)) (number_word most_8 (first_word l₅)) (number_word most_64 l₆)
  unfolding parsed
  fields = gathered_from height _ _ _ _ _ _ _ i e

  words_are : (l ≡ input_words i) × Fits i
  unfolding spaced
  words_are =
      let kind = kind_written (first_word l) i.kind fields.kind_is in
      let sender = number_written most_8 (first_word l₁) i.sender fields.sender_is in
      let round = number_written most_8 (first_word l₂) i.round.0 fields.round_is in
      let name = number_written most_64 (first_word l₃) i.name fields.name_is in
      let valid = valid_written (first_word l₄) i.valid.0 fields.valid_is in
      let verdict = number_written most_8 (first_word l₅) i.verdict fields.verdict_is in
      let offer = number_written most_64 l₆ i.offer fields.offer_is in
      let d = join l₅ _ _ verdict.1 offer.1 (decimal_some i.offer) in
      let v = join l₄ _ _ valid.1 d.0 (rw d.0 at d.1) in
      let n = join l₃ _ _ name.1 v.0 (rw v.0 at v.1) in
      let r = join l₂ _ _ round.1 n.0 (rw n.0 at n.1) in
      let s = join l₁ _ _ sender.1 r.0 (rw r.0 at r.1) in (
        (join l _ _ kind.2 s.0 (rw s.0 at s.1)).0,
        record {
          kind_from = kind.0;
          kind_to = kind.1;
          sender = sender.0;
          round = round.0;
          name = name.0;
          valid = valid.0;
          verdict = verdict.0;
          offer = offer.0;
        },
      )

pub parsed_exact : Exact parsed
parsed_exact = record {
  back = words_read_back;
  only = λ line height i e. (words_are line height i e).0;
  fits = λ line height i e. (words_are line height i e).1;
  same_height = λ line height i e. (fields line height i e).height_is;
}

-- ---- and so there is one reply

-- two replies that meet the promise are equal
pub one_reply : (line : List ℕ) (height : Height) (r s : Option Input) → r ≡ parsed line height → s ≡ parsed line height → r ≡ s
one_reply line height r s e f = e ∙ sym f

-- where one reader finds an input, any other finds the same
agrees : (f g : List ℕ → Height → Option Input) → Exact f → Exact g → (line : List ℕ) (height : Height) (i : Input) → f line height ≡ Some i → g line height ≡ Some i
agrees f g ef eg line height i e =
    ap (λ (l : List ℕ). g l height) (ef.only line height i e) ∙ ap (g (input_words i)) (sym (ef.same_height line height i e)) ∙ eg.back i (ef.fits line height i e)

-- what is proved of the definition decides every reply: no other reader has it
pub one_reader : (f g : List ℕ → Height → Option Input) → Exact f → Exact g → (line : List ℕ) (height : Height) → f line height ≡ g line height
one_reader f g ef eg line height = same (f line height) (g line height) refl refl
  where
    same : (r s : Option Input) → f line height ≡ r → g line height ≡ s → f line height ≡ g line height
    same (Some i) s e h = e ∙ sym (agrees f g ef eg line height i e)
    same None (Some i) e h = agrees g f eg ef line height i h ∙ sym h
    same None None e h = e ∙ sym h

-- Laws of numbers as bytes, and of bytes laid over others. Assumes nothing.
use Prim.Native.Nat.{ℕ, zero, suc, ◌+◌, ◌*◌, ◌-◌, ◌/◌, ◌%◌, ◌^◌, ◌≤◌, ◌<◌}
use mathlib.Core.Path.{◌≡◌, refl, ap, sym, ◌∙◌}
use mathlib.Core.List.{List, [], ◌∷◌, ◌++◌, append_assoc, append-nil}
use native.Mathlib.Nat.{pow-suc, div-one}
use Rattle.std.proofs.Math.Nat.{div-div-eq-div-mul}
use Rattle.std.specs.Int.{w16, w32, w64, byte_at, bytes_low_first, from_le_bytes}
use native.Mathlib.Numerals.{add-one}
use native.Mathlib.Omega.{arith}
use lib.ListN.{length, take, drop, set, get_or, length-append, length-drop, drop_of_length-le}
use lib.Seq.{take-suc, drop-cons, append_snoc, set_at, length-take-le, take-length, take_all, drop-drop, take_at, drop_at}
use borrow.Rule.Slice.PartMut.{mid_of, post_of, put_mid}
use Rattle.words.specs.Bytes.{bytes, number, in_order}

-- ---- numbers

-- what k bytes have room for is read back
pub number_bytes : (k x : ℕ) → x < 256 ^ k → number (bytes k x) ≡ x
number_bytes zero x h = omega arith
number_bytes (suc k) x h =
    let g : x < 256 ^ k * 256 = rw pow-suc at h in
    let e : number (bytes k (x / 256)) ≡ x / 256 = number_bytes k (x / 256) (omega arith) in
    rw e (omega arith)

-- the bytes that `to_le_bytes` gives of a number are these
pub low_first : (i k x : ℕ) → bytes_low_first i k x ≡ bytes k (x / 256 ^ i)
low_first i zero x = refl
low_first i (suc k) x =
    let first : byte_at i x ≡ x / 256 ^ i % 256 = at_place i x in
    let next : x / 256 ^ suc i ≡ x / 256 ^ i / 256 = rw pow-suc (sym (div-div-eq-div-mul x (256 ^ i) 256)) in
    rw (first, low_first (suc i) k x, next)
  where
    at_place : (j y : ℕ) → byte_at j y ≡ y / 256 ^ j % 256
    at_place zero y = rw (div-one y)
    at_place (suc j) y = refl

pub le_bytes : (k x : ℕ) → bytes_low_first 0 k x ≡ bytes k x
le_bytes k x = low_first 0 k x ∙ ap (bytes k) (div-one x)

-- the number that `from_le_bytes` reads of some bytes is theirs
pub le_number2 : (a b : ℕ) → from_le_bytes w16 (a ∷ b ∷ []) ≡ number (a ∷ b ∷ [])
le_number2 a b = omega arith

pub le_number4 : (a b c d : ℕ) → from_le_bytes w32 (a ∷ b ∷ c ∷ d ∷ []) ≡ number (a ∷ b ∷ c ∷ d ∷ [])
le_number4 a b c d = omega arith

pub le_number8 : (a b c d e f g h : ℕ) → from_le_bytes w64 (a ∷ b ∷ c ∷ d ∷ e ∷ f ∷ g ∷ h ∷ []) ≡ number (a ∷ b ∷ c ∷ d ∷ e ∷ f ∷ g ∷ h ∷ [])
le_number8 a b c d e f g h = omega arith

-- ---- a loop that lays s over the first bytes of d₀

-- one byte more
pub lay_more : (d d₀ s : List ℕ) (j : ℕ) → d ≡ take j s ++ drop j d₀ → length s ≤ length d₀ → j < length s
    → set d j (get_or s j 0) ≡ take (j + 1) s ++ drop (j + 1) d₀
lay_more d d₀ s j e h k =
    let hd : j < length d₀ = omega arith in
    let hl : length (take j s) ≡ j = length-take-le j s (omega arith) in
    rw (e, add-one, take-suc s j 0, drop-cons d₀ j 0)
    (set_at (take j s) (get_or d₀ j 0) (drop (suc j) d₀) (get_or s j 0) j hl
    ∙ sym (append_snoc (take j s) (get_or s j 0) (drop (suc j) d₀)))

-- s is laid whole
pub lay_all : (d d₀ s : List ℕ) (j : ℕ) → d ≡ take j s ++ drop j d₀ → j ≤ length s → length s ≤ j → d ≡ s ++ drop (length s) d₀
lay_all d d₀ s j e h k =
    let f : j ≡ length s = omega arith in
    rw (e, f, take-length)

-- ---- a part lent from place a on, with s laid over its first m bytes

-- the part
pub mid_all : (a : ℕ) (xs : List ℕ) → mid_of a (length xs - a) xs ≡ drop a xs
mid_all a xs = take_all (length xs - a) (drop a xs) (simp length-drop (omega arith))

-- what the lender has when the part is back
pub lay_at : (a m : ℕ) (xs ys s : List ℕ) → ys ≡ s ++ drop m (mid_of a (length xs - a) xs)
    → put_mid a (length xs - a) xs ys ≡ take a xs ++ (s ++ drop (a + m) xs)
lay_at a m xs ys s e =
    let z : post_of a (length xs - a) xs ≡ [] = drop_of_length-le (drop a xs) {i = length xs - a} (simp length-drop (omega arith)) in
    ap (λ (l : List ℕ). take a xs ++ (ys ++ l)) z
    ∙ ap (λ (l : List ℕ). take a xs ++ l)
    (append-nil ys ∙ e ∙ ap (λ (l : List ℕ). s ++ l) (ap (drop m) (mid_all a xs) ∙ drop-drop m a xs))

-- the same, where the lender had laid p up to there
pub lay_after : (n m : ℕ) (d d₀ p ys s : List ℕ) → d ≡ p ++ drop n d₀ → length p ≡ n → ys ≡ s ++ drop m (mid_of n (length d - n) d)
    → put_mid n (length d - n) d ys ≡ (p ++ s) ++ drop (n + m) d₀
lay_after n m d d₀ p ys s e l f =
    let t : take n d ≡ p = ap (take n) e ∙ take_at p (drop n d₀) n l in
    let r : drop (n + m) d ≡ drop (n + m) d₀
    = sym (drop-drop m n d) ∙ ap (drop m) (ap (drop n) e ∙ drop_at p (drop n d₀) n l) ∙ drop-drop m n d₀ in
    lay_at n m d ys s f ∙ rw (t, r, append_assoc)

-- ---- images of one size, one after the other

pub length_in_order : {A : Type 0} (image : A → List ℕ) (w : ℕ) → ((a : A) → length (image a) ≡ w) → (xs : List A)
    → length (in_order image xs) ≡ w * length xs
length_in_order image w h [] = omega arith
length_in_order image w h (a ∷ xs) = simp (length-append, h, length_in_order image w h xs) (omega arith)

pub in_order_append : {A : Type 0} (image : A → List ℕ) (xs ys : List A) → in_order image (xs ++ ys) ≡ in_order image xs ++ in_order image ys
in_order_append image [] ys = refl
in_order_append image (a ∷ xs) ys = rw (in_order_append image xs ys, append_assoc)

-- one image more
pub in_order_more : {A : Type 0} (image : A → List ℕ) (xs : List A) (j : ℕ) (a : A) → j < length xs
    → in_order image (take (j + 1) xs) ≡ in_order image (take j xs) ++ image (get_or xs j a)
in_order_more image xs j a h =
    let e : take (j + 1) xs ≡ take j xs ++ (get_or xs j a ∷ []) = rw (add-one, take-suc xs j a) in
    rw (e, in_order_append image (take j xs)) (simp append-nil)

-- a turn of a loop that lays them: the j-th was laid over the first bytes of the part from w * j on
pub in_order_lay : {A : Type 0} (image : A → List ℕ) (w : ℕ) → ((a : A) → length (image a) ≡ w) → (xs : List A) (j : ℕ) (a : A) (d d₀ ys : List ℕ)
    → j < length xs → d ≡ in_order image (take j xs) ++ drop (w * j) d₀ → ys ≡ image (get_or xs j a) ++ drop w (mid_of (w * j) (length d - w * j) d)
    → put_mid (w * j) (length d - w * j) d ys ≡ in_order image (take (j + 1) xs) ++ drop (w * (j + 1)) d₀
in_order_lay image w h xs j a d d₀ ys k e g =
    let l : length (in_order image (take j xs)) ≡ w * j = length_in_order image w h (take j xs) ∙ ap (λ (n : ℕ). w * n) (length-take-le j xs (omega arith)) in
    let m : w * j + w ≡ w * (j + 1) = omega arith in
    lay_after (w * j) w d d₀ (in_order image (take j xs)) ys (image (get_or xs j a)) e l g ∙ rw (m, in_order_more image xs j a)

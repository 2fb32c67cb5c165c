-- What a place of a list holds once one is set, in a list of zeros, and in a part of a list. Assumes nothing.
use Prim.Native.Nat.{ℕ, zero, suc, ◌+◌, ◌<◌}
use mathlib.Core.Path.{◌≡◌, refl}
use mathlib.Core.List.{List, [], ◌∷◌}
use native.Mathlib.Decide.{ℕ_discrete}
use lib.ListN.{take, drop, get_or, set, replicate}
use lib.Seq.{get_or-set_other, get_or-drop}

-- a place set holds what it was set to, or 0 where there is no such place
pub set_at : (P : ℕ → Type 0) (l : List ℕ) (i a : ℕ) → P a → P 0 → P (get_or (set l i a) i 0)
set_at P [] i a f g = g
set_at P (x ∷ l) zero a f g = f
set_at P (x ∷ l) (suc i) a f g = set_at P l i a f g

set_kept : (P : ℕ → Type 0) (f : ℕ → ℕ) → ((x : ℕ) → P x → P (f x)) → (l : List ℕ) (r : ℕ) → P (get_or l r 0) → P (get_or (set l r (f (get_or l r 0))) r 0)
set_kept P f k [] r h = h
set_kept P f k (x ∷ l) zero h = k x h
set_kept P f k (x ∷ l) (suc r) h = set_kept P f k l r h

-- a place changed in a way that keeps P: what P holds of, it still holds of
pub place_kept : (P : ℕ → Type 0) (f : ℕ → ℕ) → ((x : ℕ) → P x → P (f x)) → (l : List ℕ) (r q : ℕ) → P (get_or l q 0) → P (get_or (set l r (f (get_or l r 0))) q 0)
place_kept P f k l r q h = go (ℕ_discrete q r)
  where
    go : Dec (q ≡ r) → P (get_or (set l r (f (get_or l r 0))) q 0)
    go (yes e) = rw e (set_kept P f k l r (rw e at h))
    go (no n) = rw (get_or-set_other l r q (f (get_or l r 0)) 0 n) h

pub zeros_at : (n i : ℕ) → ◌≡◌ {A = ℕ} (get_or (replicate n 0) i 0) 0
zeros_at zero i = refl
zeros_at (suc n) zero = refl
zeros_at (suc n) (suc i) = zeros_at n i

-- numbers below a bound, past some of them and up to a place
pub below_dropped : (n most : ℕ) (l : List ℕ) → ((i : ℕ) → get_or l i 0 < most) → (i : ℕ) → get_or (drop n l) i 0 < most
below_dropped n most l low i = rw (get_or-drop n l i 0) (low (n + i))

pub below_taken : (n most : ℕ) (l : List ℕ) → 0 < most → ((i : ℕ) → get_or l i 0 < most) → (i : ℕ) → get_or (take n l) i 0 < most
below_taken zero most l some low i = some
below_taken (suc n) most [] some low i = some
below_taken (suc n) most (x ∷ l) some low zero = low 0
below_taken (suc n) most (x ∷ l) some low (suc i) = below_taken n most l some (λ j. low (suc j)) i

-- Laws of the members of a list. Assumes nothing.
use Prim.Native.Nat.{ℕ}
use mathlib.Core.Path.{◌≡◌, refl}
use mathlib.Core.Bool.{Bool}
use mathlib.Core.Logic.{◌⊎◌, inl, inr, ⊎_elim}
use mathlib.Core.List.{List, [], ◌∷◌, ◌++◌}
use Rattle.words.specs.Choice.{first_of}
use Rattle.words.specs.Members.{In}
use Rattle.words.proofs.Choice.{by_test}

module _ {A : Type 0} where
  pub InSplit : (x : A) (a b : List A) → In x (a ++ b) → In x a ⊎ In x b
  InSplit x [] b h = inr h
  InSplit x (y ∷ ys) b (inl e) = inl (inl e)
  InSplit x (y ∷ ys) b (inr h) = ⊎_elim (λ k. inl (inr k)) (λ k. inr k) (InSplit x ys b h)

  pub InLeft : (x : A) (a b : List A) → In x a → In x (a ++ b)
  InLeft x [] b h = absurd h
  InLeft x (y ∷ ys) b (inl e) = inl e
  InLeft x (y ∷ ys) b (inr h) = inr (InLeft x ys b h)

  pub InRight : (x : A) (a b : List A) → In x b → In x (a ++ b)
  InRight x [] b h = h
  InRight x (y ∷ ys) b h = inr (InRight x ys b h)

  -- one more at the end
  pub InLast : (x y : A) (os o : List A) → o ≡ y ∷ [] → In x (os ++ o) → In x os ⊎ (x ≡ y)
  InLast x y os o e h = ⊎_elim (λ k. inl k) (λ k. one (rw e at k)) (InSplit x os o h)
    where
      one : In x (y ∷ []) → In x os ⊎ (x ≡ y)
      one (inl k) = inr k
      one (inr k) = absurd k

-- the first that passes a test is one of them
pub first_in : (xs : List ℕ) (test : ℕ → Bool) → (first_of xs test ≡ 0 → ⊥) → In (first_of xs test) xs
unfolding first_of
first_in [] test = λ n. absurd (n refl)
first_in (x ∷ xs) test =
    by_test (λ (m : ℕ). (m ≡ 0 → ⊥) → In m (x ∷ xs)) (test x) (λ e n. inl refl) (λ e n. inr (first_in xs test n))

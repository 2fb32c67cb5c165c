-- What the code of a call hands on: outputs in six places, and the trail back to the table that the call began with. Assumes nothing.
use Prim.Native.Nat.{ℕ, zero, suc, ◌+◌, ◌-◌, ◌≤◌, ◌<◌}
use mathlib.Core.Path.{◌≡◌, refl, ap, ap₂, sym, ◌∙◌}
use mathlib.Core.List.{List, [], ◌∷◌, ◌++◌}
use native.Mathlib.Numerals.{add-one, sub-one}
use native.Mathlib.Omega.{arith}
use lib.ListN.{length, take, set, get_or, replicate, length-append}
use lib.Seq.{set-set, set-get_or, get_or-set_same, get_or-set_other, take-take, take-append_seam}
use Rattle.rules.specs.declared.Output.{Output}
use Rattle.rules.specs.declared.Sent.{Sent}
use Rattle.rules.specs.Sent.{no_output, six, packed}
use Rattle.rules.specs.InContracts.Ready.{so_far}
use Rattle.firing.specs.declared.Trail.{Trail}
use Rattle.firing.specs.InContracts.Trails.{longer, undone_to, undone}

-- ## The trail

-- one write less to take back
pub undone_less : (left : ℕ) (places : List (ℕ × ℕ)) (table : List ℕ) → 0 < left →
    undone_to left places table ≡
    undone_to (left - 1) places (set table (get_or places (left - 1) (0, 0)).0 (get_or places (left - 1) (0, 0)).1)
unfolding undone_to
undone_less zero places table h = absurd (omega arith)
undone_less (suc left) places table h = rw sub-one

pub undone_none : (left : ℕ) (places : List (ℕ × ℕ)) (table : List ℕ) → left ≤ 0 → undone_to left places table ≡ table
unfolding undone_to
undone_none zero places table h = refl
undone_none (suc left) places table h = absurd (omega arith)

-- only the first n writes are looked at
undone_same : (n : ℕ) (a b : List (ℕ × ℕ)) (table : List ℕ) → ((k : ℕ) → k < n → get_or a k (0, 0) ≡ get_or b k (0, 0)) →
    undone_to n a table ≡ undone_to n b table
unfolding undone_to
undone_same zero a b table same = refl
undone_same (suc n) a b table same = rw (same n (omega arith)) (undone_same n a b _ (λ k low. same k (omega arith)))

-- a write kept in the trail is taken back with it
pub undone_write : (trail : Trail) (table : List ℕ) (place name : ℕ) → length trail.places ≡ 7 → trail.count < 7 →
    undone (longer trail place (get_or table place 0)) (set table place name) ≡ undone trail table
unfolding undone_to
undone_write trail table place name long room =
    let n = trail.count in
    let held : ℕ × ℕ = (place, get_or table place 0) in
    let more = set trail.places n held in
    ap (λ (k : ℕ). undone_to k more (set table place name)) (add-one n)
    ∙ ap (λ (x : ℕ × ℕ). undone_to n more (set (set table place name) x.0 x.1)) (get_or-set_same trail.places n held (0, 0) (omega arith))
    ∙ ap (λ (z : List ℕ). undone_to n more z) (set-set table place name held.1 ∙ set-get_or table place 0)
    ∙ undone_same n more trail.places table (λ k low. get_or-set_other trail.places n k held (0, 0) (λ e. omega arith))

-- ## The outputs

-- places past the outputs hold zeros, however many are asked for
take_zeros : (m k : ℕ) → m ≤ k → take m (replicate k no_output) ≡ replicate m no_output
take_zeros zero k h = refl
take_zeros (suc m) zero h = absurd (omega arith)
take_zeros (suc m) (suc k) h = ap (λ (l : List Output). no_output ∷ l) (take_zeros m k (omega arith))

-- an output goes in the first place past those before it
more : (n k : ℕ) (os : List Output) (o : Output) → length os < n → n ≤ length os + k →
    set (take n (os ++ replicate k no_output)) (length os) o ≡ take n ((os ++ (o ∷ [])) ++ replicate k no_output)
more zero k os o h l = absurd (omega arith)
more (suc n) zero [] o h l = absurd (omega arith)
more (suc n) (suc k) [] o h l =
    ap (λ (l : List Output). o ∷ l) (take_zeros n k (omega arith) ∙ sym (take_zeros n (suc k) (omega arith)))
more (suc n) k (x ∷ os) o h l = ap (λ (l : List Output). x ∷ l) (more n k os o (omega arith) (omega arith))

pub packed_more : (os : List Output) (o : Output) → length os < 6 →
    ◌≡◌ {A = Sent} (record { count = length os + 1; list = set (six os) (length os) o }) (packed (os ++ (o ∷ [])))
packed_more os o h =
    ap₂ (λ (n : ℕ) (l : List Output). record { count = n; list = l }) (sym (length-append os (o ∷ []))) (more 6 6 os o h (omega arith))

-- the outputs so far are those that were packed
pub so_far_packed : (os : List Output) → length os ≤ 6 → so_far (packed os) ≡ os
so_far_packed os h = take-take (length os) 6 (os ++ replicate 6 no_output) h ∙ take-append_seam os (replicate 6 no_output)

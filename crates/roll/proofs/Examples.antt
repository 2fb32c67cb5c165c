-- 01's examples of weighing: at a total, the least large power and the least power that is some. Assumes nothing.
use Prim.Native.Nat.{ℕ, pred}
use mathlib.Core.Path.{◌≡◌, refl}
use mathlib.Core.List.{List, [], ◌∷◌}
use mathlib.Core.Bool.{Bool, true, ◌&&◌, not}
use Rattle.roll.specs.Weighing.{large, some}

pub record Weighed : Type 0 where
  pub total : ℕ
  pub least_large : ℕ
  pub least_some : ℕ

abbrev pub weighed : ℕ → ℕ → ℕ → Weighed
weighed t l s = record { total = t; least_large = l; least_some = s }

-- "P: T 1, large 1, some 1." and so on
abbrev pub weighings : List Weighed
weighings = weighed 1 1 1 ∷ weighed 3 3 2 ∷ weighed 4 3 2 ∷ weighed 6 5 3 ∷ weighed 32000 21334 10667 ∷ []

-- the test passes here, and not one below
abbrev pub least : (ℕ → Bool) → ℕ → Bool
least test p = test p && not (test (pred p))

abbrev pub weighs_so : Weighed → Bool
weighs_so w = least (large w.total) w.least_large && least (some w.total) w.least_some

all_weigh : List Weighed → Bool
all_weigh [] = true
all_weigh (w ∷ ws) = weighs_so w && all_weigh ws

weighings_hold : all_weigh weighings ≡ true
unfolding all_weigh
weighings_hold = refl

-- The step of a kiosk as a number: propose, prevote and precommit are 0, 1 and 2. Assumes nothing.
use Prim.Native.Nat.{◌≤◌}
use mathlib.Core.Path.{◌≡◌, refl}
use mathlib.Core.Bool.{true, false, true≢false, false≢true}
use native.Mathlib.Omega.{arith}
use Rattle.rules.specs.declared.Step.{Step}
use Rattle.rules.specs.declared.Step.TheVariants.{Propose, Prevote, Precommit}
use Rattle.rules.specs.State.{is_propose, is_prevote}
use Rattle.market.specs.Seat.{step_number}

pub step_most : (p : Step) → step_number p ≤ 2
step_most Propose = omega arith
step_most Prevote = omega arith
step_most Precommit = omega arith

-- ## From the tests to the number

pub at_propose : (p : Step) → is_propose p ≡ true → step_number p ≡ 0
at_propose Propose e = refl
at_propose Prevote e = absurd (false≢true e)
at_propose Precommit e = absurd (false≢true e)

pub past_propose : (p : Step) → is_propose p ≡ false → 1 ≤ step_number p
past_propose Propose e = absurd (true≢false e)
past_propose Prevote e = omega arith
past_propose Precommit e = omega arith

pub at_prevote : (p : Step) → is_prevote p ≡ true → step_number p ≡ 1
at_prevote Propose e = absurd (false≢true e)
at_prevote Prevote e = refl
at_prevote Precommit e = absurd (false≢true e)

pub past_prevote : (p : Step) → is_propose p ≡ false → is_prevote p ≡ false → step_number p ≡ 2
past_prevote Propose e f = absurd (true≢false e)
past_prevote Prevote e f = absurd (true≢false f)
past_prevote Precommit e f = refl

-- ## And back

pub propose_at : (p : Step) → step_number p ≡ 0 → is_propose p ≡ true
propose_at Propose e = refl
propose_at Prevote e = absurd (omega (arith, e))
propose_at Precommit e = absurd (omega (arith, e))

-- at prevote, a kiosk is not at propose
pub prevote_at : (p : Step) → step_number p ≡ 1 → is_propose p ≡ false
prevote_at Propose e = absurd (omega (arith, e))
prevote_at Prevote e = refl
prevote_at Precommit e = absurd (omega (arith, e))

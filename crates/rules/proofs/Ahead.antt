-- The rounds ahead: rule 55 looks only at rounds above the current one, so what is done in a round or below it calls to no new
-- round. Assumes nothing.
use Prim.Native.Nat.{ℕ, suc, ◌≤◌, ◌<◌}
use mathlib.Core.Path.{◌≡◌}
use mathlib.Core.Bool.{false}
use native.Mathlib.Omega.{arith}
use lib.Dec.{ltb}
use borrow.Author.Tests.{lt-ltb, ltb-true, leb-false}
use Rattle.words.proofs.Choice.{and_false, highest_none, highest_above}
use Rattle.rules.specs.Log.{Desk, heard, message_power}
use Rattle.rules.specs.Doing.{current}
use Rattle.rules.specs.Rules.{has_some, calls, past_calling_round, applies_55}

-- the desk u is in round r; of the rounds above r it has heard what d has, and it has as many rounds and the same roll
pub record Ahead (r : ℕ) (d u : Desk) : Type 0 where
  pub rounds : u.rounds ≡ d.rounds
  pub roll : u.state.roll ≡ d.state.roll
  pub round : current u ≡ r
  pub above : (q : ℕ) → r < q → heard u q ≡ heard d q

-- no round above r has messages of some power
abbrev pub Uncalled : ℕ → Desk → Type 0
Uncalled r d = (q : ℕ) → r < q → q < d.rounds → has_some d (message_power d q) ≡ false

-- so above a round that is not before the current one, where no round above it calls
pub uncalled : (r : ℕ) (d : Desk) → current d ≤ r → past_calling_round d ≤ suc r → Uncalled r d
unfolding past_calling_round calls
uncalled r d low high q more less =
    let off = highest_above d.rounds (λ x. calls d x) q (omega arith) less in
    rw (lt-ltb (current d) q (omega arith)) at off

-- where rule 55 does not apply, no round calls
pub none_calls : (d : Desk) → applies_55 d ≡ false → past_calling_round d ≡ 0
unfolding applies_55
none_calls d e = let z = leb-false 1 (past_calling_round d) e in omega arith

-- where no round ahead calls, rule 55 does not apply
pub uncalled_ahead : {r : ℕ} {d u : Desk} → Ahead r d u → Uncalled r d → applies_55 u ≡ false
unfolding applies_55 past_calling_round calls message_power
uncalled_ahead {r} {d} {u} a s =
    let off : past_calling_round u ≡ 0 = highest_none u.rounds (λ q. calls u q) (λ q less.
    and_false (ltb (current u) q) (has_some u (message_power u q)) (λ t.
    let more : r < q = rw a.round at (ltb-true (current u) q t) in
    rw (a.above q more, a.roll) (s q more (rw a.rounds at less)))) in
    rw off

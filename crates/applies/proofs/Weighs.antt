-- What the rules weigh is what the code weighs: the marks of a round that is heard, the names of its part of the table, and the marks of
-- a round's votes joined with its proposer's. Assumes nothing.
use Rattle.std.specs.Bool.{if◌then◌else◌}
use Prim.Native.Nat.{ℕ, ◌+◌, ◌≤◌, ◌<◌}
use native.Mathlib.Nat.{mod-lt}
use native.Mathlib.Omega.{arith}
use mathlib.Core.Path.{◌≡◌, refl, sym, ap, ◌∙◌}
use mathlib.Core.Bool.{Bool, false, ◌||◌, or_assoc}
use lib.Bits.{bit_or}
use lib.Dec.{eqb}
use Rattle.words.specs.Marks.{marked, mark}
use Rattle.words.proofs.Choice.{by_cases}
use Rattle.words.proofs.MarkLaws.{mark_seats, either_seats}
use Rattle.roll.specs.declared.Roll.{Roll}
use Rattle.roll.specs.Weighing.{large, power_of, proposer}
use Rattle.roll.proofs.Weighing.{power_ext, large_not}
use Rattle.rules.specs.declared.Votes.{Votes}
use Rattle.rules.specs.declared.Heard.{Heard}
use Rattle.rules.specs.State.{spoken}
use Rattle.rules.specs.Log.{Desk, heard, power, power_for, message_power}

-- the seat whose turn it is is one that marks have room for
pub turn_below : (roll : Roll) (r : ℕ) {turn : ℕ} → turn ≡ proposer roll r → 1 ≤ roll.kiosks → roll.kiosks ≤ 32 → turn < 32
turn_below roll r e some few = omega (arith, mod-lt (roll.height.0 + r) {m = roll.kiosks} some)

-- where the votes of a round are not large, those for a name are not
pub few_for : (v : Votes) (d : Desk) (r name total : ℕ) → large total (power v d r) ≡ false → large total (power_for v d r name) ≡ false
unfolding power power_for
few_for v d r name total fails = large_not _ _ _ _ total refl fails

-- the senders of round r, by their marks: those of its votes, and of its proposal the seat whose turn it is
module _ (d : Desk) (r : ℕ) {h : Heard} (e : h ≡ heard d r) {marks turn p : ℕ} (at : turn ≡ proposer d.state.roll r) where
  pub senders_weigh : marks ≡ (if spoken h then mark (bit_or h.prevotes h.precommits) turn else bit_or h.prevotes h.precommits)
      → p ≡ power_of d.state.roll (λ i. marked marks i) → p ≡ message_power d r
  unfolding message_power
  senders_weigh m q =
      let votes = bit_or h.prevotes h.precommits in
      by_cases (spoken h)
      (λ one.
      rw (q, m, ← e, one, ← at)
      (power_ext _ _ _ _
      (λ i l.
      mark_seats votes turn i
      ∙ ap (λ (b : Bool). eqb turn i || b) (either_seats h.prevotes h.precommits i)
      ∙ sym (or_assoc (eqb turn i) (marked h.prevotes i) (marked h.precommits i)))))
      (λ none. rw (q, m, ← e, none) (power_ext _ _ _ _ (λ i l. either_seats h.prevotes h.precommits i)))

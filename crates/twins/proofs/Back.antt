-- Nothing is lost between a state and its twin. Assumes nothing.
use Prim.Native.Nat.{ℕ, zero, suc}
use mathlib.Core.Path.{◌≡◌, refl, sym}
use mathlib.Core.Bool.{Bool, true, false, ◌&&◌, ◌||◌}
use native.Mathlib.Omega.{arith}
use lib.Dec.{leb, eqb}
use borrow.Author.Tests.{eqb-true, leb-true}
use Rattle.rules.specs.declared.Phase.{Phase}
use Rattle.rules.specs.declared.Phase.TheVariants.{Fresh, Running, Settled}
use Rattle.rules.specs.declared.Step.{Step}
use Rattle.rules.specs.declared.Step.TheVariants.{Propose, Prevote, Precommit}
use Rattle.rules.specs.State.{settled_round}
use Rattle.kiosk.specs.declared.Kiosk.{Kiosk}
use Rattle.words.proofs.Choice.{and_left, and_right}
use Rattle.flat.specs.declared.FlatKiosk.{FlatKiosk}
use Rattle.twins.specs.Twins.{flag, phase_of, phase_number, step_of, step_number, holds, kiosk_of, flat_kiosk}

-- ---- from a state to its twin and back: whatever the state

pub flag_back : (b : Bool) → eqb (flag b) 1 ≡ b
flag_back true = refl
flag_back false = refl

phase_back : (p : Phase) → phase_of (phase_number p) (settled_round p) ≡ p
phase_back Fresh = refl
phase_back Running = refl
phase_back (Settled r) = refl

step_back : (s : Step) → step_of (step_number s) ≡ s
step_back Propose = refl
step_back Prevote = refl
step_back Precommit = refl

-- "Conversions are proved to lose nothing": a state comes back from its twin
pub kiosk_back : (k : Kiosk) → kiosk_of (flat_kiosk k) ≡ k
kiosk_back k =
    let s = k.state.progress in
    let t = s.stand in
    rw (phase_back s.phase, step_back t.step, flag_back t.asked.propose, flag_back t.asked.prevote, flag_back t.asked.precommit, flag_back t.backed)

-- ---- and the twin holds: whatever the state

flag_holds : (b : Bool) → leb (flag b) 1 ≡ true
flag_holds true = refl
flag_holds false = refl

phase_holds : (p : Phase) → (leb (phase_number p) 2 && (eqb (phase_number p) 2 || eqb (settled_round p) 0)) ≡ true
phase_holds Fresh = refl
phase_holds Running = refl
phase_holds (Settled r) = refl

step_holds : (s : Step) → leb (step_number s) 2 ≡ true
step_holds Propose = refl
step_holds Prevote = refl
step_holds Precommit = refl

pub twin_holds : (k : Kiosk) → holds (flat_kiosk k) ≡ true
unfolding holds
twin_holds k =
    let s = k.state.progress in
    let t = s.stand in
    let p = phase_holds s.phase in
    let a = and_left (leb (phase_number s.phase) 2) (eqb (phase_number s.phase) 2 || eqb (settled_round s.phase) 0) p in
    let b = and_right (leb (phase_number s.phase) 2) (eqb (phase_number s.phase) 2 || eqb (settled_round s.phase) 0) p in
    rw (a, b, step_holds t.step, flag_holds t.asked.propose, flag_holds t.asked.prevote, flag_holds t.asked.precommit, flag_holds t.backed)

-- ---- from a twin that holds to its state and back

flag_kept : (n : ℕ) → leb n 1 ≡ true → flag (eqb n 1) ≡ n
flag_kept zero h = refl
flag_kept (suc zero) h = refl
flag_kept (suc (suc n)) h = absurd (omega (arith, leb-true (suc (suc n)) 1 h))

phase_kept : (p : ℕ) (r : ℕ) → leb p 2 ≡ true → (eqb p 2 || eqb r 0) ≡ true → (phase_number (phase_of p r) ≡ p) × (settled_round (phase_of p r) ≡ r)
phase_kept zero r h z = (refl, sym (eqb-true r 0 z))
phase_kept (suc zero) r h z = (refl, sym (eqb-true r 0 z))
phase_kept (suc (suc zero)) r h z = (refl, refl)
phase_kept (suc (suc (suc p))) r h z = absurd (omega (arith, leb-true (suc (suc (suc p))) 2 h))

step_kept : (s : ℕ) → leb s 2 ≡ true → step_number (step_of s) ≡ s
step_kept zero h = refl
step_kept (suc zero) h = refl
step_kept (suc (suc zero)) h = refl
step_kept (suc (suc (suc s))) h = absurd (omega (arith, leb-true (suc (suc (suc s))) 2 h))

-- a twin that a state can hold comes back from that state: a refused call gives back every number as it was
pub twin_back : (f : FlatKiosk) → holds f ≡ true → flat_kiosk (kiosk_of f) ≡ f
unfolding holds
twin_back f h =
    let a = leb f.phase 2 in
    let b = eqb f.phase 2 || eqb f.settled 0 in
    let c = leb f.step 2 in
    let d = leb f.asked_propose 1 in
    let e = leb f.asked_prevote 1 in
    let g = leb f.asked_precommit 1 in
    let i = leb f.backed 1 in
    let h₅ = and_left (a && b && c && d && e && g) i h in
    let h₄ = and_left (a && b && c && d && e) g h₅ in
    let h₃ = and_left (a && b && c && d) e h₄ in
    let h₂ = and_left (a && b && c) d h₃ in
    let h₁ = and_left (a && b) c h₂ in
    let p = phase_kept f.phase f.settled (and_left a b h₁) (and_right a b h₁) in
    rw (
      p.0,
      p.1,
      step_kept f.step (and_right (a && b) c h₂),
      flag_kept f.asked_propose (and_right (a && b && c) d h₃),
      flag_kept f.asked_prevote (and_right (a && b && c && d) e h₄),
      flag_kept f.asked_precommit (and_right (a && b && c && d && e) g h₅),
      flag_kept f.backed (and_right (a && b && c && d && e && g) i h),
    )

-- The timers that are open: never more than two; none before start, and none once settled; no precommit timer in the last round.
-- Assumes nothing.
use Rattle.std.specs.Bool.{if◌then◌else◌}
use Prim.Native.Nat.{ℕ, suc, ◌≤◌}
use mathlib.Core.Path.{◌≡◌, refl, sym, ◌∙◌}
use mathlib.Core.List.{List, [], ◌∷◌, ◌++◌}
use mathlib.Core.Bool.{Bool, true, false, true≢false, false≢true}
use native.Mathlib.Omega.{arith}
use borrow.Author.Tests.{eq-eqb}
use lib.ListN.{length}
use Rattle.words.proofs.Choice.{by_cases}
use Rattle.rules.specs.declared.Step.{Step}
use Rattle.rules.specs.declared.Step.TheVariants.{Propose, Prevote, Precommit}
use Rattle.rules.specs.declared.Output.{Output}
use Rattle.rules.specs.State.{rounds_of, is_fresh, is_settled, is_propose, is_prevote}
use Rattle.rules.specs.Kinds.{ask_out}
use Rattle.rules.specs.Log.{desk}
use Rattle.rules.specs.Doing.{output}
use Rattle.kiosk.specs.declared.Kiosk.{Kiosk}
use Rattle.kiosk.proofs.Accepted.{Passes, accepted_passes}
use Rattle.kiosk.proofs.Taken.{timer_propose, timer_prevote}
use Rattle.again.specs.Again.{round_of, timer_now, is_open, open_timers}

module _ (k : Kiosk) (table : List ℕ) where
  -- what the input of an open timer has passed
  open_passes : (step : Step) → is_open k table step ≡ true → Passes (desk k.state table) (timer_now k step)
  unfolding is_open
  open_passes step e = accepted_passes k.used k table (timer_now k step) e

  shut : (step : Step) → (is_open k table step ≡ true → ⊥) → is_open k table step ≡ false
  shut step n = by_cases (is_open k table step) (λ e. absurd (n e)) (λ e. e)

  -- ## Never three

  -- a propose timer is open at step propose, and a prevote timer at step prevote
  pub not_both : is_open k table Propose ≡ true → is_open k table Prevote ≡ true → ⊥
  not_both a b =
      let d = desk k.state table in
      apart k.state.progress.stand.step
      (timer_propose d (timer_now k Propose) (open_passes Propose a) refl)
      (timer_prevote d (timer_now k Prevote) (open_passes Prevote b) refl refl)
    where
      apart : (s : Step) → is_propose s ≡ true → is_prevote s ≡ true → ⊥
      apart Propose p q = false≢true q
      apart Prevote p q = false≢true p
      apart Precommit p q = false≢true p

  pub few_timers : length (open_timers k table) ≤ 2
  few_timers =
      let timer : Step → Output = λ step. output (ask_out step) (round_of k) 0 0 in
      two (is_open k table Propose) (is_open k table Prevote) (is_open k table Precommit) (timer Propose) (timer Prevote) (timer Precommit) not_both
    where
      two : (a b c : Bool) (x y z : Output) → (a ≡ true → b ≡ true → ⊥)
          → length ((if a then x ∷ [] else []) ++ ((if b then y ∷ [] else []) ++ (if c then z ∷ [] else []))) ≤ 2
      two true true c x y z n = absurd (n refl refl)
      two true false true x y z n = omega arith
      two true false false x y z n = omega arith
      two false true true x y z n = omega arith
      two false true false x y z n = omega arith
      two false false true x y z n = omega arith
      two false false false x y z n = omega arith

  -- ## None

  none_open : ((step : Step) → is_open k table step ≡ false) → open_timers k table ≡ []
  none_open n = rw (n Propose, n Prevote, n Precommit)

  pub settled_no_timer : is_settled k.state.progress.phase ≡ true → open_timers k table ≡ []
  settled_no_timer s = none_open (λ step. shut step (λ e. true≢false (sym s ∙ (open_passes step e).unsettled)))

  pub fresh_no_timer : is_fresh k.state.progress.phase ≡ true → open_timers k table ≡ []
  fresh_no_timer f = none_open (λ step. shut step (no_start step))
    where
      no_start : (step : Step) → is_open k table step ≡ true → ⊥
      no_start Propose e = true≢false (rw f at (open_passes Propose e).in_order)
      no_start Prevote e = true≢false (rw f at (open_passes Prevote e).in_order)
      no_start Precommit e = true≢false (rw f at (open_passes Precommit e).in_order)

  -- "In the last round": the one after it is none that there is
  pub last_round_no_precommit : suc (round_of k) ≡ rounds_of k.state → is_open k table Precommit ≡ false
  last_round_no_precommit last =
      shut Precommit
      (λ e. true≢false (sym (eq-eqb (suc (round_of k)) (rounds_of k.state) last) ∙ (open_passes Precommit e).next_round))

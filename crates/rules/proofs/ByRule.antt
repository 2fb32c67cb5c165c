-- The first rule, case by case: a statement about it is proved where each rule applies, and where none does. Assumes nothing.
use Rattle.std.specs.Prelude.{Option, Some, None, is_some}
use Prim.Native.Nat.{pred}
use mathlib.Core.Path.{◌≡◌, refl, sym, ap, ◌∙◌}
use mathlib.Core.Bool.{true, false, not, true≢false}
use borrow.Author.Tests.{not-true, not-false}
use Rattle.words.proofs.Choice.{by_test}
use Rattle.rules.specs.declared.Rule.{Rule}
use Rattle.rules.specs.declared.Rule.TheVariants.{Line22, Line28, Line34, Line36, Line44, Line47, Line49, Line55}
use Rattle.rules.specs.State.{is_running}
use Rattle.rules.specs.Log.{Desk}
use Rattle.rules.specs.Rules.{first_rule, from_34, from_47, from_49, applies_22, applies_28, applies_34, applies_36, applies_44, applies_47, applies_49, applies_55}
use Rattle.rules.specs.Rules.{backed_sheet, closing_sheet, closing_round, past_calling_round}

-- the kiosk runs
abbrev pub Runs : Desk → Type 0
Runs d = is_running d.state.progress.phase ≡ true

-- none of the six rules before 49 applies: those that look at the current round and, for 28, at one before it
pub record Idle (d : Desk) : Type 0 where
  pub no_22 : applies_22 d ≡ false
  pub no_28 : applies_28 d ≡ false
  pub no_34 : applies_34 d ≡ false
  pub no_36 : applies_36 d ≡ false
  pub no_44 : applies_44 d ≡ false
  pub no_47 : applies_47 d ≡ false

-- a statement about the first rule is proved rule by rule, each where it applies in a kiosk that runs; at 49, 55 and where no rule
-- applies, those before it do not
pub by_rule : (P : Option Rule → Type 0) (d : Desk) →
    (is_running d.state.progress.phase ≡ false → P None) →
    (Runs d → Idle d → applies_49 d ≡ false → applies_55 d ≡ false → P None) →
    (Runs d → applies_22 d ≡ true → P (Some Line22)) →
    (Runs d → applies_28 d ≡ true → P (Some Line28)) →
    (Runs d → applies_34 d ≡ true → P (Some Line34)) →
    (Runs d → applies_36 d ≡ true → P (Some (Line36 (backed_sheet d)))) →
    (Runs d → applies_44 d ≡ true → P (Some Line44)) →
    (Runs d → applies_47 d ≡ true → P (Some Line47)) →
    (Runs d → Idle d → applies_49 d ≡ true → P (Some (Line49 (record { 0 = closing_round d }) (closing_sheet d (closing_round d))))) →
    (Runs d → Idle d → applies_49 d ≡ false → applies_55 d ≡ true → P (Some (Line55 (record { 0 = pred (past_calling_round d) })))) →
    P (first_rule d)
unfolding first_rule from_34 from_47 from_49
by_rule P d stopped none p22 p28 p34 p36 p44 p47 p49 p55 =
    by_test P (not (is_running d.state.progress.phase)) (λ e. stopped (not-true _ e)) (λ e.
    let run = not-false (is_running d.state.progress.phase) e in
    by_test P (applies_22 d) (p22 run) (λ n22.
    by_test P (applies_28 d) (p28 run) (λ n28.
    by_test P (applies_34 d) (p34 run) (λ n34.
    by_test P (applies_36 d) (p36 run) (λ n36.
    by_test P (applies_44 d) (p44 run) (λ n44.
    by_test P (applies_47 d) (p47 run) (λ n47.
    let idle : Idle d = record { no_22 = n22; no_28 = n28; no_34 = n34; no_36 = n36; no_44 = n44; no_47 = n47 } in
    by_test P (applies_49 d) (p49 run idle) (λ n49.
    by_test P (applies_55 d) (p55 run idle n49) (none run idle n49)))))))))

pub none_found : (found : Option Rule) → is_some found ≡ false → found ≡ None
none_found None e = refl
none_found (Some rule) e = absurd (true≢false e)

-- where a kiosk runs and its first rule is none, no rule applies
pub none_applies : (d : Desk) → Runs d → first_rule d ≡ None → Idle d × (applies_49 d ≡ false) × (applies_55 d ≡ false)
none_applies d run none =
    by_rule (λ found. found ≡ None → Idle d × (applies_49 d ≡ false) × (applies_55 d ≡ false)) d
    (λ stopped e. absurd (true≢false (sym run ∙ stopped)))
    (λ r idle n49 n55 e. (idle, n49, n55))
    (λ r a e. absurd (none_is_none e)) (λ r a e. absurd (none_is_none e)) (λ r a e. absurd (none_is_none e)) (λ r a e. absurd (none_is_none e))
    (λ r a e. absurd (none_is_none e)) (λ r a e. absurd (none_is_none e)) (λ r q a e. absurd (none_is_none e)) (λ r q n a e. absurd (none_is_none e))
    none
  where
    none_is_none : {rule : Rule} → Some rule ≡ None → ⊥
    none_is_none e = true≢false (ap is_some e)

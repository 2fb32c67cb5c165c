-- What a kiosk does on its own, one deed at a time, with what the rules have found where it is done. Every firing is a deed, so what each
-- deed keeps, the firings of a call keep. Assumes nothing.
use Rattle.std.specs.Prelude.{is_some}
use Prim.Native.Nat.{ℕ, zero, suc, pred, ◌≤◌, ◌<◌}
use mathlib.Core.Path.{◌≡◌, refl}
use mathlib.Core.Logic.{◌⊎◌, inl, inr, ⊎_elim}
use mathlib.Core.List.{List}
use mathlib.Core.Bool.{Bool, true, false, ◌&&◌, ◌||◌, not, false≢true}
use native.Mathlib.Omega.{arith}
use lib.Dec.{eqb, leb, ltb}
use borrow.Author.Tests.{eqb-true, eqb-false, leb-true, ltb-true, not-true}
use Rattle.words.specs.Members.{In}
use Rattle.words.proofs.Choice.{by_test, and_left, and_right, or_case, first_passes, lowest_passes, highest_passes}
use Rattle.words.proofs.Members.{first_in}
use Rattle.rules.specs.declared.Step.TheVariants.{Prevote, Precommit}
use Rattle.rules.specs.declared.Votes.TheVariants.{Prevotes, Precommits}
use Rattle.rules.specs.declared.State.{State}
use Rattle.rules.specs.State.{is_propose, is_prevote, spoken, good, held, with_stand, with_locked, with_valid, with_backed}
use Rattle.rules.specs.Log.{Desk, with_state, heard, proposed, good_sheets, power, power_for, message_power}
use Rattle.rules.specs.Doing.{current, step, vote, ask, start_round}
use Rattle.rules.specs.Rules.{is_large, has_some, applies_22, applies_28, applies_34, applies_36, applies_44, applies_47, applies_49, applies_55}
use Rattle.rules.specs.Rules.{backed_sheet, closing_sheet, closing_round, calls, past_calling_round, first_rule, vote_22, vote_28, fire_36, fire_49, fire, fire_found}
use Rattle.rules.specs.Work.{fire_all}
use Rattle.rules.proofs.ByRule.{Runs, by_rule}

-- ## What the rules find

-- why a name is prevoted: nil; or the round's proposal, heard good, where the lock allows it, with valid round -1 (line 23) or with one
-- whose large prevotes back it (line 29)
pub data WhyPrevote (d : Desk) (name : ℕ) : Type 0 where
  nil : name ≡ 0 → WhyPrevote d name
  afresh :
      good (heard d (current d)) ≡ true →
      name ≡ proposed d (current d) →
      (heard d (current d)).valid ≡ 0 →
      (d.state.progress.locked.next.0 ≡ 0) ⊎ (d.state.progress.locked.name ≡ name) →
      WhyPrevote d name
  again :
      (vr : ℕ) →
      good (heard d (current d)) ≡ true →
      name ≡ proposed d (current d) →
      (heard d (current d)).valid ≡ suc vr →
      vr < current d →
      is_large d (power_for Prevotes d vr name) ≡ true →
      (d.state.progress.locked.next.0 ≤ suc vr) ⊎ (d.state.progress.locked.name ≡ name) →
      WhyPrevote d name

-- line 36: a sheet of the round that large prevotes back, for the first time
pub record Backs (d : Desk) (name : ℕ) : Type 0 where
  pub some : name ≡ 0 → ⊥
  pub sheet : In name (good_sheets d (current d))
  pub large : is_large d (power_for Prevotes d (current d) name) ≡ true
  pub first : d.state.progress.stand.backed ≡ false

-- a sheet that 36 or 49 names is its round's proposal
pub sole : (d : Desk) (r name : ℕ) → In name (good_sheets d r) → name ≡ proposed d r
unfolding good_sheets
sole d r name = by_test (λ (l : List ℕ). In name l → name ≡ proposed d r) (good (heard d r)) (λ e. ⊎_elim (λ same. same) (λ h. absurd h)) (λ e h. absurd h)

-- line 49: a sheet that large precommits of its round close
pub record Closes (d : Desk) (r name : ℕ) : Type 0 where
  pub there : r < d.rounds
  pub some : name ≡ 0 → ⊥
  pub sheet : In name (good_sheets d r)
  pub large : is_large d (power_for Precommits d r name) ≡ true

-- ## Deeds

-- lines 42 and 43: the state that holds the sheet as valid
abbrev pub holding : ℕ → Desk → State
holding name d = with_valid (held (current d) name) (with_stand (with_backed d.state.progress.stand) d.state)

pub data Deed (offer : ℕ) (d u : Desk) : Type 0 where
  -- lines 24, 26, 30, 32 and 59
  prevotes : (name : ℕ) → is_propose (step d) ≡ true → WhyPrevote d name → u ≡ vote Prevotes name d → Deed offer d u
  -- lines 45 and 63
  precommits_nil : is_prevote (step d) ≡ true → u ≡ vote Precommits 0 d → Deed offer d u
  -- lines 38 to 43
  locks :
      (name : ℕ) →
      is_prevote (step d) ≡ true →
      Backs d name →
      u ≡ vote Precommits name (with_state (with_locked (held (current d) name) (holding name d)) d) →
      Deed offer d u
  -- lines 42 and 43 alone
  holds : (name : ℕ) → is_propose (step d) ≡ false → is_prevote (step d) ≡ false → Backs d name → u ≡ with_state (holding name d) d → Deed offer d u
  -- lines 35 and 48
  asks_prevote :
      is_prevote (step d) ≡ true →
      d.state.progress.stand.asked.prevote ≡ false →
      is_large d (power Prevotes d (current d)) ≡ true →
      u ≡ ask Prevote d →
      Deed offer d u
  asks_precommit :
      d.state.progress.stand.asked.precommit ≡ false → is_large d (power Precommits d (current d)) ≡ true → u ≡ ask Precommit d → Deed offer d u
  -- line 51
  settles : (r name : ℕ) → Closes d r name → u ≡ fire_49 r name d → Deed offer d u
  -- lines 56 and 67
  enters : (r : ℕ) → current d < r → r < d.rounds → u ≡ start_round offer r d → Deed offer d u

-- ## Every rule that applies does a deed

module _ (offer : ℕ) (d : Desk) where
  does_22 : applies_22 d ≡ true → Deed offer d (vote Prevotes (vote_22 d) d)
  unfolding applies_22 vote_22
  does_22 a =
      let r = current d in
      let h = heard d r in
      let p = is_propose (step d) in
      let b = eqb h.valid 0 in
      let ps = and_left (p && spoken h) b a in
      let x = eqb d.state.progress.locked.next.0 0 in
      let y = eqb d.state.progress.locked.name (proposed d r) in
      by_test (λ (name : ℕ). Deed offer d (vote Prevotes name d)) (good h && (x || y))
      (λ t.
      prevotes _ (and_left p (spoken h) ps)
      (afresh (and_left (good h) (x || y) t) refl (eqb-true h.valid 0 (and_right (p && spoken h) b a))
      (⊎_elim (λ e. inl (eqb-true d.state.progress.locked.next.0 0 e)) (λ e. inr (eqb-true d.state.progress.locked.name (proposed d r) e)) (or_case x y (and_right (good h) (x || y) t))))
      refl)
      (λ t. prevotes 0 (and_left p (spoken h) ps) (nil refl) refl)

  does_28 : applies_28 d ≡ true → Deed offer d (vote Prevotes (vote_28 d) d)
  unfolding applies_28 vote_28
  does_28 a =
      let r = current d in
      let h = heard d r in
      let w = proposed d r in
      let p = is_propose (step d) in
      let s = spoken h in
      let b = leb 1 h.valid in
      let c = leb h.valid r in
      let big = is_large d (power_for Prevotes d (pred h.valid) w) in
      let a4 = and_left (p && s && b && c) big a in
      let a3 = and_left (p && s && b) c a4 in
      let a2 = and_left (p && s) b a3 in
      let low = leb-true 1 h.valid (and_right (p && s) b a3) in
      let high = leb-true h.valid r (and_right (p && s && b) c a4) in
      let x = leb d.state.progress.locked.next.0 h.valid in
      let y = eqb d.state.progress.locked.name w in
      by_test (λ (name : ℕ). Deed offer d (vote Prevotes name d)) (good h && (x || y))
      (λ t.
      prevotes w (and_left p s a2)
      (again (pred h.valid) (and_left (good h) (x || y) t) refl (omega (arith, low)) (omega (arith, low, high)) (and_right (p && s && b && c) big a)
      (⊎_elim
      (λ e. let z = leb-true d.state.progress.locked.next.0 h.valid e in inl (omega (arith, low)))
      (λ e. inr (eqb-true d.state.progress.locked.name w e))
      (or_case x y (and_right (good h) (x || y) t))))
      refl)
      (λ t. prevotes 0 (and_left p s a2) (nil refl) refl)

  does_34 : applies_34 d ≡ true → Deed offer d (ask Prevote d)
  unfolding applies_34
  does_34 e =
      let a = is_prevote (step d) in
      let b = not d.state.progress.stand.asked.prevote in
      let c = is_large d (power Prevotes d (current d)) in
      let ab = and_left (a && b) c e in
      asks_prevote (and_left a b ab) (not-true d.state.progress.stand.asked.prevote (and_right a b ab)) (and_right (a && b) c e) refl

  backs_36 : (backed_sheet d ≡ 0 → ⊥) → d.state.progress.stand.backed ≡ false → Backs d (backed_sheet d)
  unfolding backed_sheet
  backs_36 some first =
      let r = current d in
      let large : ℕ → Bool = λ name. is_large d (power_for Prevotes d r name) in
      record { some = some; sheet = first_in (good_sheets d r) large some; large = first_passes (good_sheets d r) large some; first = first }

  does_36 : applies_36 d ≡ true → Deed offer d (fire_36 (backed_sheet d) d)
  unfolding applies_36 fire_36
  does_36 e =
      let a = not (is_propose (step d)) in
      let b = not d.state.progress.stand.backed in
      let z = eqb (backed_sheet d) 0 in
      let ab = and_left (a && b) (not z) e in
      let some = eqb-false (backed_sheet d) 0 (not-true z (and_right (a && b) (not z) e)) in
      let found = backs_36 some (not-true d.state.progress.stand.backed (and_right a b ab)) in
      by_test (Deed offer d) (is_prevote (step d))
      (λ t. locks (backed_sheet d) t found refl)
      (λ t. holds (backed_sheet d) (not-true (is_propose (step d)) (and_left a b ab)) t found refl)

  does_47 : applies_47 d ≡ true → Deed offer d (ask Precommit d)
  unfolding applies_47
  does_47 e =
      let a = not d.state.progress.stand.asked.precommit in
      let b = is_large d (power Precommits d (current d)) in
      asks_precommit (not-true d.state.progress.stand.asked.precommit (and_left a b e)) (and_right a b e) refl

  does_44 : applies_44 d ≡ true → Deed offer d (vote Precommits 0 d)
  unfolding applies_44
  does_44 e = precommits_nil (and_left (is_prevote (step d)) (is_large d (power_for Prevotes d (current d) 0)) e) refl

  does_49 : applies_49 d ≡ true → Deed offer d (fire_49 (closing_round d) (closing_sheet d (closing_round d)) d)
  unfolding applies_49 closing_round closing_sheet
  does_49 e =
      let r = closing_round d in
      let less = ltb-true (closing_round d) d.rounds e in
      let some = eqb-false (closing_sheet d r) 0 (not-true (eqb (closing_sheet d r) 0) (lowest_passes d.rounds (λ q. not (eqb (closing_sheet d q) 0)) less)) in
      let large : ℕ → Bool = λ name. is_large d (power_for Precommits d r name) in
      settles r (closing_sheet d r) (record { there = less; some = some; sheet = first_in (good_sheets d r) large some; large = first_passes (good_sheets d r) large some }) refl

  does_55 : applies_55 d ≡ true → Deed offer d (start_round offer (pred (past_calling_round d)) d)
  unfolding applies_55 past_calling_round calls
  does_55 e =
      let r = pred (past_calling_round d) in
      let h = highest_passes d.rounds (λ q. calls d q) (leb-true 1 (past_calling_round d) e) in
      enters r (ltb-true (current d) r (and_left (ltb (current d) r) (has_some d (message_power d r)) h.0)) h.1 refl

  pub fires : is_some (first_rule d) ≡ true → Runs d × Deed offer d (fire_found (first_rule d) offer d)
  unfolding fire
  fires =
      by_rule (λ found. is_some found ≡ true → Runs d × Deed offer d (fire_found found offer d)) d
      (λ stopped t. absurd (false≢true t))
      (λ run idle n49 n55 t. absurd (false≢true t))
      (λ run e t. (run, does_22 e))
      (λ run e t. (run, does_28 e))
      (λ run e t. (run, does_34 e))
      (λ run e t. (run, does_36 e))
      (λ run e t. (run, does_44 e))
      (λ run e t. (run, does_47 e))
      (λ run idle e t. (run, does_49 e))
      (λ run idle n49 e t. (run, does_55 e))

-- ## What each deed keeps

pub firing_keeps : (P : Desk → Type 0) (offer : ℕ) → ((d u : Desk) → Runs d → Deed offer d u → P d → P u) → (n : ℕ) (d : Desk) → P d → P (fire_all n offer d)
unfolding fire_all
firing_keeps P offer keeps zero d p = p
firing_keeps P offer keeps (suc n) d p =
    by_test P (is_some (first_rule d))
    (λ e. let f = fires offer d e in firing_keeps P offer keeps n (fire_found (first_rule d) offer d) (keeps d (fire_found (first_rule d) offer d) f.0 f.1 p))
    (λ e. p)

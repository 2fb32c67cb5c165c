-- Each move keeps what `Kept` says of a kiosk.
-- Assumes nothing.
use Prim.Native.Nat.{ℕ, suc, ◌+◌, ◌*◌, ◌-◌, ◌<◌, ◌≤◌}
use mathlib.Core.Path.{◌≡◌, refl, sym, ◌∙◌}
use mathlib.Core.Logic.{◌≢◌, ◌⊎◌, inl, inr, ⊎_elim}
use mathlib.Core.List.{List, [], ◌∷◌, ◌++◌}
use native.Mathlib.Omega.{arith}
use Rattle.words.specs.Members.{In}
use Rattle.words.proofs.Members.{InSplit, InLast}
use Rattle.agreement.specs.Moves.{Out, prevote, precommit, settled, View, SameLock, NoVote, Move, waits, enter, prevote_nil, prevote_new, prevote_old, precommit_nil, precommit_sheet, settle, Kept}

prevote_round : {r w r' w' : ℕ} → prevote r w ≡ prevote r' w' → r ≡ r'
prevote_round e = cc

prevote_name : {r w r' w' : ℕ} → prevote r w ≡ prevote r' w' → w ≡ w'
prevote_name e = cc

precommit_round : {r w r' w' : ℕ} → precommit r w ≡ precommit r' w' → r ≡ r'
precommit_round e = cc

precommit_name : {r w r' w' : ℕ} → precommit r w ≡ precommit r' w' → w ≡ w'
precommit_name e = cc

settled_round : {r w r' w' : ℕ} → settled r w ≡ settled r' w' → r ≡ r'
settled_round e = cc

settled_name : {r w r' w' : ℕ} → settled r w ≡ settled r' w' → w ≡ w'
settled_name e = cc

prevote≢precommit : {r w r' w' : ℕ} → prevote r w ≡ precommit r' w' → ⊥
prevote≢precommit e = cc

prevote≢settled : {r w r' w' : ℕ} → prevote r w ≡ settled r' w' → ⊥
prevote≢settled e = cc

precommit≢settled : {r w r' w' : ℕ} → precommit r w ≡ settled r' w' → ⊥
precommit≢settled e = cc

module _ (PV PC : ℕ → ℕ → Type 0) (a b : View) (os o : List Out) (k : Kept PV PC a os) where
  -- no new vote: what was said was said before, and the clock did not go back
  still :
      (b.step ≤ 2) →
      (3 * a.round + a.step ≤ 3 * b.round + b.step) →
      SameLock a b →
      ((r w : ℕ) → In (prevote r w) (os ++ o) → In (prevote r w) os) →
      ((r w : ℕ) → In (precommit r w) (os ++ o) → In (precommit r w) os) →
      ((r w : ℕ) → In (settled r w) (os ++ o) → (w ≢ 0) × PC r w) →
      Kept PV PC b (os ++ o)
  still hs hc s pv pc st =
      record {
        step_ok = hs;
        lock_past = omega (arith, k.lock_past, s.lr);
        lock_backed = λ l e. rw s.lv (k.lock_backed l (sym s.lr ∙ e));
        prevote_past = λ r w h. omega (arith, k.prevote_past r w (pv r w h));
        precommit_past = λ r w h. omega (arith, k.precommit_past r w (pc r w h));
        precommit_lock = λ r w hw h. omega (arith, s.lr, k.precommit_lock r w hw (pc r w h));
        one_prevote = λ r v w h g. k.one_prevote r v w (pv r v h) (pv r w g);
        one_precommit = λ r v w h g. k.one_precommit r v w (pc r v h) (pc r w g);
        precommit_backed = λ r w hw h. k.precommit_backed r w hw (pc r w h);
        lock_kept = λ r₀ r v w hv hw hr h g. k.lock_kept r₀ r v w hv hw hr (pc r₀ v h) (pv r w g);
        settled_backed = st;
      }

  -- one name a round, where a vote of the current round is its first
  one_name :
      (vote : ℕ → ℕ → Out) (w₀ : ℕ) →
      ((r w : ℕ) → In (vote r w) (os ++ o) → In (vote r w) os ⊎ ((r ≡ a.round) × (w ≡ w₀))) →
      ((r w : ℕ) → In (vote r w) os → r ≡ a.round → ⊥) →
      ((r v w : ℕ) → In (vote r v) os → In (vote r w) os → v ≡ w) →
      (r v w : ℕ) →
      In (vote r v) (os ++ o) →
      In (vote r w) (os ++ o) →
      v ≡ w
  one_name vote w₀ split first old r v w h g =
      ⊎_elim
      (λ h'. ⊎_elim (λ g'. old r v w h' g') (λ e. absurd (first r v h' e.0)) (split r w g))
      (λ e. ⊎_elim (λ g'. absurd (first r w g' e.0)) (λ e'. e.1 ∙ sym e'.1) (split r w g))
      (split r v h)

  module _ (w₀ : ℕ) (eo : o ≡ prevote a.round w₀ ∷ []) where
    -- a prevote is an old one, or the one that is said now
    prevote_new_or_old : (r w : ℕ) → In (prevote r w) (os ++ o) → In (prevote r w) os ⊎ ((r ≡ a.round) × (w ≡ w₀))
    prevote_new_or_old r w h =
        ⊎_elim (λ g. inl g) (λ e. inr (prevote_round e, prevote_name e)) (InLast (prevote r w) (prevote a.round w₀) os o eo h)

    precommit_old : (r w : ℕ) → In (precommit r w) (os ++ o) → In (precommit r w) os
    precommit_old r w h =
        ⊎_elim (λ g. g) (λ e. absurd (prevote≢precommit (sym e))) (InLast (precommit r w) (prevote a.round w₀) os o eo h)

    settled_old : (r w : ℕ) → In (settled r w) (os ++ o) → In (settled r w) os
    settled_old r w h =
        ⊎_elim (λ g. g) (λ e. absurd (prevote≢settled (sym e))) (InLast (settled r w) (prevote a.round w₀) os o eo h)

    prevoting :
        (a.step ≡ 0) →
        (b.step ≡ 1) →
        (b.round ≡ a.round) →
        SameLock a b →
        (w₀ ≢ 0 → (r₀ : ℕ) → r₀ < a.lr → (vr : ℕ) × (r₀ ≤ vr) × (vr < a.round) × PV vr w₀) →
        Kept PV PC b (os ++ o)
    prevoting ha hb hr s why =
        record {
          step_ok = omega arith;
          lock_past = omega (arith, k.lock_past, s.lr);
          lock_backed = λ l e. rw s.lv (k.lock_backed l (sym s.lr ∙ e));
          prevote_past = λ r w h.
              ⊎_elim (λ g. omega (arith, k.prevote_past r w g)) (λ e. omega (arith, e.0)) (prevote_new_or_old r w h);
          precommit_past = λ r w h. omega (arith, k.precommit_past r w (precommit_old r w h));
          precommit_lock = λ r w hw h. omega (arith, s.lr, k.precommit_lock r w hw (precommit_old r w h));
          one_prevote = one_name prevote w₀ prevote_new_or_old (λ r w h e. omega (arith, k.prevote_past r w h)) k.one_prevote;
          one_precommit = λ r v w h g. k.one_precommit r v w (precommit_old r v h) (precommit_old r w g);
          precommit_backed = λ r w hw h. k.precommit_backed r w hw (precommit_old r w h);
          lock_kept = λ r₀ r v w hv hw h₀ h g.
              ⊎_elim
              (λ g'. k.lock_kept r₀ r v w hv hw h₀ (precommit_old r₀ v h) g')
              (λ e.
              let m = why (rw e.1 at hw) r₀ (k.precommit_lock r₀ v hv (precommit_old r₀ v h)) in
              (m.0, m.1, rw e.0 m.2, rw e.1 m.3))
              (prevote_new_or_old r w g);
          settled_backed = λ r w h. k.settled_backed r w (settled_old r w h);
        }

  module _ (w₀ : ℕ) (eo : o ≡ precommit a.round w₀ ∷ []) where
    precommit_new_or_old : (r w : ℕ) → In (precommit r w) (os ++ o) → In (precommit r w) os ⊎ ((r ≡ a.round) × (w ≡ w₀))
    precommit_new_or_old r w h =
        ⊎_elim (λ g. inl g) (λ e. inr (precommit_round e, precommit_name e)) (InLast (precommit r w) (precommit a.round w₀) os o eo h)

    prevote_before : (r w : ℕ) → In (prevote r w) (os ++ o) → In (prevote r w) os
    prevote_before r w h =
        ⊎_elim (λ g. g) (λ e. absurd (prevote≢precommit e)) (InLast (prevote r w) (precommit a.round w₀) os o eo h)

    settled_before : (r w : ℕ) → In (settled r w) (os ++ o) → In (settled r w) os
    settled_before r w h =
        ⊎_elim (λ g. g) (λ e. absurd (precommit≢settled (sym e))) (InLast (settled r w) (precommit a.round w₀) os o eo h)

    precommitting :
        (a.step ≡ 1) →
        (b.step ≡ 2) →
        (b.round ≡ a.round) →
        (a.lr ≤ b.lr) →
        (3 * b.lr ≤ 3 * b.round + b.step + 1) →
        ((l : ℕ) → b.lr ≡ suc l → PV l b.lv) →
        (w₀ ≢ 0 → (a.round < b.lr) × PV a.round w₀) →
        Kept PV PC b (os ++ o)
    precommitting ha hb hr hl past backed sheet =
        record {
          step_ok = omega arith;
          lock_past = past;
          lock_backed = backed;
          prevote_past = λ r w h. omega (arith, k.prevote_past r w (prevote_before r w h));
          precommit_past = λ r w h.
              ⊎_elim (λ g. omega (arith, k.precommit_past r w g)) (λ e. omega (arith, e.0)) (precommit_new_or_old r w h);
          precommit_lock = λ r w hw h.
              ⊎_elim
              (λ g. omega (arith, k.precommit_lock r w hw g))
              (λ e. omega (arith, e.0, (sheet (rw e.1 at hw)).0))
              (precommit_new_or_old r w h);
          one_prevote = λ r v w h g. k.one_prevote r v w (prevote_before r v h) (prevote_before r w g);
          one_precommit = one_name precommit w₀ precommit_new_or_old (λ r w h e. omega (arith, k.precommit_past r w h)) k.one_precommit;
          precommit_backed = λ r w hw h.
              ⊎_elim
              (λ g. k.precommit_backed r w hw g)
              (λ e. rw (e.0, e.1) (sheet (rw e.1 at hw)).1)
              (precommit_new_or_old r w h);
          lock_kept = λ r₀ r v w hv hw h₀ h g.
              ⊎_elim
              (λ h'. k.lock_kept r₀ r v w hv hw h₀ h' (prevote_before r w g))
              (λ e. absurd (omega (arith, e.0, k.prevote_past r w (prevote_before r w g))))
              (precommit_new_or_old r₀ v h);
          settled_backed = λ r w h. k.settled_backed r w (settled_before r w h);
        }

  no_vote_still : NoVote o → (b.step ≤ 2) → (3 * a.round + a.step ≤ 3 * b.round + b.step) → SameLock a b → Kept PV PC b (os ++ o)
  no_vote_still q hs hc s =
      still hs hc s
      (λ r w h. ⊎_elim (λ g. g) (λ g. absurd ((q r w).0 g)) (InSplit (prevote r w) os o h))
      (λ r w h. ⊎_elim (λ g. g) (λ g. absurd ((q r w).1 g)) (InSplit (precommit r w) os o h))
      (λ r w h. ⊎_elim (λ g. k.settled_backed r w g) (λ g. absurd ((q r w).2 g)) (InSplit (settled r w) os o h))

  -- the lock stands under what it locks: what a prevote needs where the locked name is prevoted again
  again : (w r₀ : ℕ) → a.step ≡ 0 → a.lv ≡ w → r₀ < a.lr → (vr : ℕ) × (r₀ ≤ vr) × (vr < a.round) × PV vr w
  again w r₀ hs e h =
      let l = a.lr - 1 in
      let el : a.lr ≡ suc (a.lr - 1) = omega arith in
      (a.lr - 1, omega arith, omega (arith, k.lock_past), rw e at (k.lock_backed (a.lr - 1) el))

  pub kept : Move PV PC a o b → Kept PV PC b (os ++ o)
  kept (waits q er es s) = no_vote_still q (omega (arith, k.step_ok)) (omega arith) s
  kept (enter q er es s) = no_vote_still q (omega arith) (omega (arith, k.step_ok)) s
  kept (prevote_nil eo ha hb hr s) = prevoting 0 eo ha hb hr s (λ n. absurd (n refl))
  kept (prevote_new w eo ha hb hr s c) =
      prevoting w eo ha hb hr s (λ n r₀ h. ⊎_elim (λ e. absurd (omega arith)) (λ e. again w r₀ ha e h) c)
  kept (prevote_old w vr eo ha hb hr s hv pv c) =
      prevoting w eo ha hb hr s (λ n r₀ h. ⊎_elim (λ e. (vr, omega arith, hv, pv)) (λ e. again w r₀ ha e h) c)
  kept (precommit_nil eo ha hb hr s) =
      precommitting 0 eo ha hb hr (omega (arith, s.lr)) (omega (arith, s.lr, k.lock_past))
      (λ l e. rw s.lv (k.lock_backed l (sym s.lr ∙ e)))
      (λ n. absurd (n refl))
  kept (precommit_sheet w eo ha hb hr el ev pv) =
      precommitting w eo ha hb hr (omega (arith, k.lock_past)) (omega arith)
      (λ l e.
      let er : l ≡ a.round = omega arith in
      rw (er, ev) pv)
      (λ n. (omega arith, pv))
  kept (settle r w eo hw pc er es s) =
      still (omega (arith, k.step_ok)) (omega arith) s
      (λ r' w' h. ⊎_elim (λ g. g) (λ e. absurd (prevote≢settled e)) (InLast (prevote r' w') (settled r w) os o eo h))
      (λ r' w' h. ⊎_elim (λ g. g) (λ e. absurd (precommit≢settled e)) (InLast (precommit r' w') (settled r w) os o eo h))
      (λ r' w' h.
      ⊎_elim (λ g. k.settled_backed r' w' g)
      (λ e.
      let er : r' ≡ r = settled_round e in
      let ew : w' ≡ w = settled_name e in
      (rw ew hw, rw (er, ew) pc))
      (InLast (settled r' w') (settled r w) os o eo h))

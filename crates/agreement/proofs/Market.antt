-- No two rule-keeping kiosks settle different sheets.
-- Assumes nothing.
use Prim.Native.Nat.{ℕ, ◌<◌}
use mathlib.Core.Path.{◌≡◌}
use mathlib.Core.Logic.{⊎_elim}
use mathlib.Core.Bool.{true}
use mathlib.Core.List.{List}
use Rattle.words.specs.Members.{In}
use Rattle.agreement.specs.Weigh.{Scale, Seats, Backed}
use Rattle.agreement.specs.Agree.{Said, Keeping, Closed}
use Rattle.agreement.specs.Moves.{Out, settled, Kept}
use Rattle.agreement.specs.Honest.{Kind, pv, pc, said, Arrived, Heard}
use Rattle.agreement.specs.Market.{Unforged, Member, Market, OneSheet}
use Rattle.agreement.proofs.Agreement.{agreement}

module _ (ps : Scale) (keeps : Seats) (outs : ℕ → List Out) where
  abbrev spoke : Kind → Said
  spoke k i r w = In (said k r w) (outs i)

  -- what one kiosk heard is backed in the market
  backed : (i : ℕ) (A : Arrived) → Unforged ps keeps outs A → (k : Kind) (r w : ℕ) → Heard ps i A (outs i) k r w → Backed ps keeps (λ j. spoke k j r w)
  backed i A net k r w h =
      record {
        heard = h.seats;
        large = h.large;
        honest = λ j hj kj t. ⊎_elim (λ o. rw o.0 o.1) (λ a. net j hj kj (said k r w) a) (h.from j hj t);
      }

  module _ (m : Market ps keeps outs) where
    module _ (i : ℕ) (hi : i < ps.kiosks) (ki : keeps i ≡ true) where
      abbrev me : Member ps keeps outs i
      me = m.member i hi ki

      abbrev facts : Kept (Heard ps i me.arrived (outs i) pv) (Heard ps i me.arrived (outs i) pc) me.honest.view (outs i)
      facts = me.honest.kept

      mine : (k : Kind) (r w : ℕ) → Heard ps i me.arrived (outs i) k r w → Backed ps keeps (λ j. spoke k j r w)
      mine k r w h = backed i me.arrived me.net k r w h

    keeping : Keeping ps keeps (spoke pv) (spoke pc)
    keeping =
        record {
          few = m.few;
          one_prevote = λ i r v w hi ki hv hw h g. (facts i hi ki).one_prevote r v w h g;
          precommit_backed = λ i r v hi ki hv h. mine i hi ki pv r v ((facts i hi ki).precommit_backed r v hv h);
          lock_kept = λ i r₀ r v w hi ki hv hw hr h g.
              let l = (facts i hi ki).lock_kept r₀ r v w hv hw hr h g in
              (l.0, l.1, l.2, mine i hi ki pv l.0 w l.3);
        }

    closed : (i r v : ℕ) → i < ps.kiosks → keeps i ≡ true → In (settled r v) (outs i) → Closed ps keeps (spoke pc) v
    closed i r v hi ki h =
        let b = (facts i hi ki).settled_backed r v h in
        record { round = r; sheet = b.0; backed = mine i hi ki pc r v b.1 }

    -- whatever closes a sheet closes the same one
    pub closed_agree : (v w : ℕ) → Closed ps keeps (spoke pc) v → Closed ps keeps (spoke pc) w → v ≡ w
    closed_agree v w a b = agreement ps keeps (spoke pv) (spoke pc) keeping v w a b

    pub one_sheet : OneSheet ps keeps outs
    one_sheet i j r r' v w hi ki hj kj h g = closed_agree v w (closed i r v hi ki h) (closed j r' w hj kj g)

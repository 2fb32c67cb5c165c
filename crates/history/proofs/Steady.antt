-- What stays as it is in every state that opening, or accepted calls from there, give: its roll, and that refusal 1 lets it in.
-- Assumes nothing.
use Prim.Native.Nat.{ℕ, ◌≤◌}
use mathlib.Core.Path.{◌≡◌, refl, ◌∙◌}
use mathlib.Core.List.{List}
use mathlib.Core.Bool.{true, ◌&&◌, not}
use native.Mathlib.Omega.{arith}
use borrow.Author.Tests.{le-leb, not-false}
use Rattle.words.proofs.Choice.{and_left}
use Rattle.roll.specs.declared.Roll.{Roll}
use Rattle.rules.specs.declared.Input.{Input}
use Rattle.rules.specs.Log.{desk}
use Rattle.rules.proofs.Same.{work_roll}
use Rattle.journal.specs.Layout.{header_length}
use Rattle.refusals.specs.declared.Answer.TheVariants.{Impossible}
use Rattle.refusals.specs.Possible.{desk_fits}
use Rattle.refusals.specs.Refusals.{refused_input}
use Rattle.kiosk.specs.Judged.{used_fits, judged}
use Rattle.kiosk.proofs.Accepted.{past}
use Rattle.kiosk.proofs.Kept.{desk_kept}
use Rattle.kiosk.proofs.Replays.{begun_fits}
use Rattle.history.specs.Histories.{Call, Past, after, takes, History}
use Rattle.history.specs.Remembering.{Steady}
use Rattle.history.proofs.Telling.{history_keeps}

-- an input that is taken finds a possible state, and leaves one
pub possible_after : (p : Past) (i : Input) → takes p i ≡ true → desk_fits (desk (after p i).kiosk.state (after p i).table) ≡ true
unfolding judged
possible_after p i t =
    let k = p.kiosk in
    let d = desk k.state p.table in
    let one = past (not (desk_fits d && used_fits k.used k)) Impossible (refused_input d i) refl t in
    let fits = and_left (desk_fits d) (used_fits k.used k) (not-false (desk_fits d && used_fits k.used k) one.0) in
    desk_kept k.state p.table i fits one.1

pub steady_after : {roll : Roll} (p : Past) (i : Input) → takes p i ≡ true → Steady roll p → Steady roll (after p i)
steady_after p i t s =
    let r = work_roll i p.kiosk.state p.table in
    record {
      roll_is = r ∙ s.roll_is;
      possible = possible_after p i t;
      after_header = rw r (omega (arith, s.after_header));
      last_in = omega arith;
    }

pub steady : {roll : Roll} {cs : List Call} {p : Past} → History roll cs p → Steady roll p
steady {roll} h =
    history_keeps (Steady roll) steady_after h
    (record { roll_is = refl; possible = begun_fits roll h.created.fits h.created.own; after_header = omega arith; last_in = omega arith })

-- refusal 1 is never given in a journal that has room for what it holds
pub never_impossible : {roll : Roll} {cs : List Call} {p : Past} → History roll cs p → (area : ℕ) → p.kiosk.used ≤ area → (i : Input)
    → judged area p.kiosk (desk p.kiosk.state p.table) i ≡ refused_input (desk p.kiosk.state p.table) i
unfolding judged used_fits
never_impossible {p = p} h area room i =
    let s = steady h in
    rw (
      s.possible,
      le-leb (header_length p.kiosk.state.roll) p.kiosk.used s.after_header,
      le-leb p.kiosk.used area room,
      le-leb p.kiosk.last p.kiosk.used s.last_in,
    )

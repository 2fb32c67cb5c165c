-- Demand 3 as it is stated: one sheet, a settled state that was sent, and opening after a power cut. Assumes nothing.
use mathlib.Core.Path.{◌≡◌, sym, ap, subst, ◌∙◌}
use mathlib.Core.Logic.{inl, inr, ⊎_elim}
use mathlib.Core.Bool.{true}
use native.Mathlib.Omega.{arith}
use lib.ListN.{length}
use Rattle.words.specs.Members.{In}
use Rattle.rules.specs.State.{is_settled}
use Rattle.rules.specs.Log.{empty_table}
use Rattle.refusals.specs.declared.Answer.TheVariants.{HeaderShort}
use Rattle.kiosk.specs.Opening.{Opened, failed, open_journal}
use Rattle.kiosk.specs.Opening as opening
use Rattle.history.specs.Histories.{Past, sent_in}
use Rattle.agreement.proofs.System.{demand3_sheets, on_so, off_so}
use Rattle.market.specs.Seat.{acts}
use Rattle.market.specs.Kiosks.{kiosk_of}
use Rattle.market.specs.Demand3.{roll_at, scale, OneSheetSent, settled_sheet, SettledSent, OneSheetHeld, OpensWhole}
use Rattle.market.proofs.Settled.{settling, settled_so}
use Rattle.market.proofs.Kiosks.{lawful, unmade_short, left_whole, left_records, creates}
use Rattle.market.proofs.Each.{Terms, law, shared, sound, recalled_out}

pub one_sheet_sent : OneSheetSent
one_sheet_sent powers height keeps fits tall third w reach i j r s u v hi ki hj kj a b =
    demand3_sheets (scale powers height) keeps (kiosk_of powers height) (shared (record { fits = fits; tall = tall; few = omega (arith, third) })) w reach i j r s u v hi ki hj kj a b

pub settled_sent : SettledSent
unfolding lawful
settled_sent powers height keeps fits tall third w reach i hi ki p d eb e =
    let m : Terms powers height keeps = record { fits = fits; tall = tall; few = third } in
    let q = sound m w reach i hi ki in
    let h = q.history in
    let is : p ≡ h.past = (on_so (law m i hi) q.holds eb).0 in
    recalled_out m i hi w (settling p) q
    (subst (λ (x : Past). is_settled x.kiosk.state.progress.phase ≡ true → In (settling x) (acts (sent_in h.calls))) (sym is) (settled_so h.history) e)

pub one_sheet_held : OneSheetHeld
one_sheet_held powers height keeps fits tall third w reach i j hi ki hj kj p q d f ei ej a b =
    one_sheet_sent powers height keeps fits tall third w reach i j _ _ (settled_sheet p) (settled_sheet q) hi ki hj kj
    (settled_sent powers height keeps fits tall third w reach i hi ki p d ei a)
    (settled_sent powers height keeps fits tall third w reach j hj kj q f ej b)

pub opens_whole : OpensWhole
unfolding lawful sent_in
opens_whole powers height keeps fits tall third w reach i hi ki d eb area table begins places reply after m =
    let q = sound (record { fits = fits; tall = tall; few = omega (arith, third) }) w reach i hi ki in
    let h = q.history in
    let roll = roll_at powers height i in
    ⊎_elim
    (λ u.
    let o : open_journal area (length d) table ≡ failed HeaderShort empty_table = unmade_short roll d area table begins places (creates powers i height fits hi tall) u.0 in
    inl (m.answer ∙ ap (λ (x : Opened). x.answer) o, λ o a. subst (λ x. In o (acts (sent_in x.calls))) u.1 (q.sent o a)))
    (λ l.
    let o : open_journal area (length d) table ≡ opening.opened h.past.kiosk h.past.table = left_whole roll d area table begins places h.history l in
    inr (
      h.calls,
      h.past,
      h.history,
      left_records roll h.history l,
      m.answer ∙ ap (λ (x : Opened). x.answer) o,
      m.kiosk ∙ ap (λ (x : Opened). x.kiosk) o,
      m.table_is ∙ ap (λ (x : Opened). x.table) o,
    ))
    (off_so (lawful powers i height fits hi tall) q.holds eb)

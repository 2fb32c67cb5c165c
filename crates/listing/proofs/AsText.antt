-- Journals are listed as the texts that are written down for them: one list, one statement, which antt computes; and so with a text in a
-- lent area. Assumes nothing.
use Prim.Native.Nat.{ℕ}
use mathlib.Core.Path.{◌≡◌, refl}
use mathlib.Core.List.{List, [], ◌∷◌, ◌++◌, map}
use lib.ListN.{replicate}
use Rattle.words.specs.Choice.{the_choices}
use Rattle.words.specs.Bytes.{compared}
use Rattle.roll.specs.Weighing.{the_weighing}
use Rattle.rules.specs.Log.{the_log}
use Rattle.rules.specs.Doing.{the_doing}
use Rattle.rules.specs.Rules.{the_rules}
use Rattle.rules.specs.Work.{the_work}
use Rattle.journal.specs.Layout.{the_layout}
use Rattle.journal.specs.Readback.{the_readback}
use Rattle.journal.proofs.Journals.{journal_107, height}
use Rattle.refusals.specs.declared.Answer.TheVariants.{Accepted, NoRoom}
use Rattle.refusals.specs.Possible.{the_possible}
use Rattle.refusals.specs.Refusals.{the_refusals}
use Rattle.kiosk.specs.Judged.{the_judged}
use Rattle.kiosk.specs.Calls.{the_calls}
use Rattle.kiosk.specs.Opening.{the_opening}
use Rattle.listing.specs.Text.{the_text}
use Rattle.listing.specs.Listing.{listing, Printed, printed, the_listing}
use Rattle.listing.proofs.Texts.{Listed, listings, text_107, refused_13}

-- the promise: an area of 114,196 bytes does, and one byte less does not; the bytes after the text stay
unfoldable pub printings : List (List ℕ × List ℕ × Printed)
printings =
    ([], replicate 114196 7, record { answer = Accepted; size = 11; text = refused_13 ++ replicate 114185 7 }) ∷
    ([], replicate 114195 7, record { answer = NoRoom; size = 0; text = replicate 114195 7 }) ∷
    []

pub listings_right : map (λ (l : Listed). listing l.journal) listings ≡ map (λ (l : Listed). l.text) listings
unfolding the_choices compared the_weighing the_log the_doing the_rules the_work the_layout the_readback the_possible the_refusals the_judged the_calls the_opening the_text the_listing journal_107 height text_107 listings
listings_right = refl

pub printings_right : map (λ (p : List ℕ × List ℕ × Printed). printed p.0 p.1) printings ≡ map (λ (p : List ℕ × List ℕ × Printed). p.2) printings
unfolding the_choices the_weighing the_layout the_readback the_opening the_text the_listing printings
printings_right = refl

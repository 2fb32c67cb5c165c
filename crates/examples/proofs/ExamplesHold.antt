-- 01's examples hold: one statement, which antt computes. Assumes nothing.
use Prim.Native.Nat.{ℕ}
use mathlib.Core.Path.{◌≡◌, refl, ap, sym}
use mathlib.Core.List.{List, map}
use mathlib.Core.Bool.{true}
use Rattle.roll.proofs.Examples.{Weighed, weighs_so}
use Rattle.journal.specs.Layout.{roomy}
use Rattle.journal.proofs.Journals.{journal_107}
use Rattle.kiosk.specs.declared.Reply.{Reply}
use Rattle.kiosk.specs.Calls.{last_group}
use Rattle.listing.specs.Text.{the_text}
use Rattle.listing.specs.Listing.{listing, the_listing}
use Rattle.listing.proofs.Texts.{Listed, text_107}
use Rattle.examples.specs.Cases.{All}
use Rattle.examples.specs.Whole.{Telling}
use Rattle.examples.specs.Kiosk.{told, opened_by_four, TellingSo}
use Rattle.examples.specs.Examples.{Room, Hold, examples}
use Rattle.examples.proofs.Each.{all_so}
use Rattle.examples.proofs.Kiosk.{called, said, openings_so, the_computed}

-- what a telling gives, and what is computed of it
abbrev pub telling_given : Telling → (Reply × List ℕ × List ℕ) × List ℕ
telling_given t = ((t.reply, t.table_after, t.journal_after), t.last)

unfoldable pub telling_computed : Telling → (Reply × List ℕ × List ℕ) × List ℕ
telling_computed t = (called (told t.inputs opened_by_four), last_group t.reply.kiosk t.journal_after)

telling_so : (t : Telling) → telling_given t ≡ telling_computed t → TellingSo t
unfolding telling_computed
telling_so t e = (
  said (told t.inputs opened_by_four) t.reply t.table_after t.journal_after (ap (λ w. w.0) e),
  sym (ap (λ w. w.1) e),
)

pub tellings_so : (ts : List Telling) → map telling_given ts ≡ map telling_computed ts → All TellingSo ts
tellings_so = all_so telling_given telling_computed telling_so

-- To compute with this file: `unfolding the_tellings` opens the above.
unfoldable pub the_tellings : Unit {0}
unfolding the_computed told opened_by_four telling_computed
the_tellings = tt

weighed_so : (ws : List Weighed) → map (λ (w : Weighed). true) ws ≡ map weighs_so ws → All (λ (w : Weighed). weighs_so w ≡ true) ws
weighed_so = all_so (λ (w : Weighed). true) weighs_so (λ w e. sym e)

rooms_so : (rs : List Room) → map (λ (r : Room). r.size) rs ≡ map (λ (r : Room). roomy r.kiosks) rs → All (λ (r : Room). roomy r.kiosks ≡ r.size) rs
rooms_so = all_so (λ (r : Room). r.size) (λ (r : Room). roomy r.kiosks) (λ r e. sym e)

listings_so : (ls : List Listed) → map (λ (l : Listed). l.text) ls ≡ map (λ (l : Listed). listing l.journal) ls → All (λ (l : Listed). listing l.journal ≡ l.text) ls
listings_so = all_so (λ (l : Listed). l.text) (λ (l : Listed). listing l.journal) (λ l e. sym e)

pub examples_hold : Hold examples
unfolding the_tellings the_text the_listing examples journal_107 text_107
examples_hold = record {
  weighed_so = weighed_so examples.weighed refl;
  rooms_so = rooms_so examples.rooms refl;
  openings_so = openings_so examples.openings refl;
  tellings_so = tellings_so examples.tellings refl;
  listings_so = listings_so examples.listings refl;
}

-- The board's functions give the numbers, pages and areas that the lists say: one statement, which antt computes. Assumes nothing.
use Prim.Native.Nat.{ℕ}
use mathlib.Core.Path.{◌≡◌, refl, ap, sym}
use mathlib.Core.List.{List}
use Rattle.again.specs.Again.{the_again}
use Rattle.listing.specs.Text.{the_text}
use Rattle.listing.specs.Listing.{the_listing}
use Rattle.flat.specs.declared.FlatReply.{FlatReply}
use Rattle.flat.specs.declared.FlatPage.{FlatPage}
use Rattle.board.specs.Board.{Lists, board_list, SaysAgain, board_again}
use Rattle.flat.specs.Fields.{plain_number, kiosk_number, input_number, layout}
use Rattle.examples.specs.Fields.{numbered, numbered_input, Number, numbers, input_numbers, Laid, layouts, Paged, pages, Said, sayings, Seen}
use Rattle.examples.proofs.Each.{all_so}
use Rattle.examples.proofs.Kiosk.{the_kiosk}

abbrev page_given : Paged → FlatPage × List ℕ
page_given c = (c.page, c.text_after)

abbrev page_computed : Paged → FlatPage × List ℕ
page_computed c =
    let o = board_list c.journal c.text in
    (o.page, o.text)

page_so : (c : Paged) → page_given c ≡ page_computed c → Lists (board_list c.journal c.text) c.page c.text_after
page_so c e = record { page = ap (λ w. w.0) e; text_is = ap (λ w. w.1) e }

abbrev said_given : Said → FlatReply × List ℕ × List ℕ
said_given c = (c.reply, c.table_after, c.area_after)

abbrev said_computed : Said → FlatReply × List ℕ × List ℕ
said_computed c =
    let o = board_again c.journal c.used c.table c.area in
    (o.reply, o.table, o.said)

said_so : (c : Said) → said_given c ≡ said_computed c → SaysAgain (board_again c.journal c.used c.table c.area) c.reply c.table_after c.area_after
said_so c e = record { reply = ap (λ w. w.0) e; table_is = ap (λ w. w.1) e; said_is = ap (λ w. w.2) e }

pub fields_seen : Seen
unfolding the_kiosk the_again the_text the_listing board_list board_again plain_number kiosk_number input_number layout numbers input_numbers layouts pages sayings
fields_seen = record {
  numbers_so = all_so (λ (c : Number). c.number) (λ (c : Number). kiosk_number numbered c.field c.index) (λ c e. sym e) numbers refl;
  input_numbers_so = all_so (λ (c : Number). c.number) (λ (c : Number). input_number numbered_input c.field) (λ c e. sym e) input_numbers refl;
  layouts_so = all_so (λ (c : Laid). c.reply) (λ (c : Laid). layout numbered c.from) (λ c e. sym e) layouts refl;
  pages_so = all_so page_given page_computed page_so pages refl;
  sayings_so = all_so said_given said_computed said_so sayings refl;
}

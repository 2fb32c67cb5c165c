-- Laws of what is written behind a text: nothing, and one piece and then another. Assumes nothing.
use Rattle.std.proofs.Common.{ℕ, ◌+◌, ◌≤◌, ◌≡◌, refl, sym, ◌∙◌, List, [], ◌++◌, length, length-append}
use native.Mathlib.Omega.{arith}
use Rattle.words.specs.Bytes.{overwrite}
use Rattle.listing.proofs.Laying.{overwrite_none, overwrite_append}
use Rattle.refusals.specs.declared.Answer.TheVariants.{Accepted}
use Rattle.listing.specs.Listing.{listing, text_room, printed, Prints}
use Rattle.listing.proofs.Pages.{page_listed, size_fits}
use Rattle.printing.specs.declared.text.Text.{Text}
use Rattle.printing.specs.InContracts.Texts.{HasRoom, Adds}

pub adds_none : (t : Text) → Adds [] t t
adds_none t = (omega arith, sym (overwrite_none t.area.now t.size), refl, refl)

module _ (p q : List ℕ) (t : Text) (room : HasRoom (p ++ q) t) where
  pub room_first : HasRoom p t
  room_first = omega (arith, room, length-append p q)

  module _ (t' : Text) (a : Adds p t t') where
    pub room_after : HasRoom q t'
    room_after = omega (arith, room, length-append p q, a.0, a.2)

    pub adds_both : (t'' : Text) → Adds q t' t'' → Adds (p ++ q) t t''
    adds_both t'' b = (
      omega (arith, length-append p q, a.0, b.0),
      b.1 ∙ rw (a.0, a.1) (overwrite_append t.area.now t.size p q (omega (arith, room, length-append p q))),
      b.2 ∙ a.2,
      b.3 ∙ a.3,
    )

-- the page of a listing that is written from a text's start on: `area` is what is lent, after it
pub page_of : (b t area after : List ℕ) (size : ℕ) → text_room ≤ length t → size ≡ 0 + length (listing b) → area ≡ overwrite t 0 (listing b) → after ≡ area
    → Prints (printed b t) (record { answer = Accepted; size = size }) after × (size ≤ length after)
page_of b t area after size h n e same =
    let w : (size ≡ length (listing b)) × (after ≡ overwrite t 0 (listing b)) = (omega (arith, n), same ∙ e) in
    (page_listed b t h w, size_fits t (listing b) w)

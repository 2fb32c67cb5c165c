-- The board's calls are the kiosk's, through the flat twins. Assumes nothing.
use Prim.Native.Nat.{ℕ, ◌-◌}
use mathlib.Core.Path.{◌≡◌, refl, sym}
use mathlib.Core.List.{List, []}
use mathlib.Core.Bool.{Bool, true, false, ◌&&◌}
use lib.ListN.{length, take, drop}
use lib.Dec.{ltb, leb}
use native.Mathlib.Omega.{arith}
use borrow.Author.Tests.{ltb-true, ltb-false, le-leb}
use Rattle.words.proofs.Choice.{by_cases, by_test, and_left, and_right}
use Rattle.roll.specs.declared.Roll.{Roll}
use Rattle.rules.specs.declared.Input.{Input}
use Rattle.kiosk.specs.declared.Course.{Course}
use Rattle.kiosk.specs.InContracts.Lent as lent
use Rattle.kiosk.specs.declared.Reply.{Reply}
use Rattle.kiosk.specs.declared.Made.{Made}
use Rattle.refusals.specs.Answers.{number_of}
use Rattle.kiosk.specs.Calls.{create, put, last_group}
use Rattle.kiosk.specs.Opening.{open_journal}
use Rattle.kiosk.specs.Promises as Kiosk
use Rattle.again.specs.Again.{say_again}
use Rattle.again.specs.Again as again
use Rattle.listing.specs.declared.Page.{Page}
use Rattle.listing.specs.Listing.{printed, Prints}
use Rattle.flat.specs.declared.FlatKiosk.{FlatKiosk}
use Rattle.flat.specs.declared.FlatInput.{FlatInput}
use Rattle.flat.specs.declared.FlatReply.{FlatReply}
use Rattle.twins.specs.Twins.{holds, kiosk_of, input_of, flat_reply, impossible}
use Rattle.twins.specs.InContracts.Parts.{course_of}
use Rattle.flat.specs.declared.FlatMade.{FlatMade}
use Rattle.flat.specs.declared.FlatPage.{FlatPage}
use Rattle.board.specs.Board.{board_create, board_open, board_again, board_put, last_part, board_list, Creates, Opens, SaysAgain, Says, Lists}

pub creates : (powers : List ℕ) (own height : ℕ) (journal after : List ℕ) (m : Made) (f : FlatMade)
    → Kiosk.Makes (create powers own height journal) m after → f.number ≡ number_of m.answer → f.used ≡ m.used
    → Creates (board_create powers own height journal) f after
unfolding board_create
creates powers own height journal after m f s n u =
    record { made = rw (n, u, s.answer, s.used); journal_is = s.journal_is }

pub opens : (journal : List ℕ) (used : ℕ) (table after : List ℕ) (r : Reply) (x : FlatReply)
    → Kiosk.Opens (open_journal journal used table) r after → x ≡ flat_reply r → Opens (board_open journal used table) x after
unfolding board_open
opens journal used table after r x s e =
    record { reply = rw (e, s.answer, s.sent, s.kiosk); table_is = s.table_is }

pub says_again : (journal : List ℕ) (used : ℕ) (table said after end : List ℕ) (r : Reply) (x : FlatReply)
    → again.SaysAgain (say_again journal used table said) r after end → x ≡ flat_reply r → SaysAgain (board_again journal used table said) x after end
unfolding board_again
says_again journal used table said after end r x s e =
    record { reply = rw (e, s.answer, s.sent, s.kiosk); table_is = s.table_is; said_is = s.area_is }

-- the log is lent as the twin has it, beside the roll, the course and the input that are made of twins
pub says : (i : FlatInput) (f : FlatKiosk) (table journal table' journal' : List ℕ) (j : Input) (roll : Roll) (course : Course) (r : Reply) (x : FlatReply)
    → holds f ≡ true → j ≡ input_of i → roll ≡ (kiosk_of f).state.roll → course ≡ course_of f
    → Kiosk.Says (put j (lent.kiosk_of roll course f.log) table journal) r table' journal'
    → x ≡ flat_reply r → Says (board_put i f table journal) x table' journal'
unfolding board_put
says i f table journal table' journal' j roll course r x h a b c s e =
    let t = rw (a, b, c) at s in
    rw h (record { reply = rw (e, t.answer, t.sent, t.kiosk); table_is = t.table_is; journal_is = t.journal_is })

pub says_1 : (i : FlatInput) (f : FlatKiosk) (table journal : List ℕ) (x : FlatReply) → holds f ≡ false → x ≡ impossible f
    → Says (board_put i f table journal) x table journal
unfolding board_put
says_1 i f table journal x h e = rw h (record { reply = e; table_is = refl; journal_is = refl })

pub lists : (b text after : List ℕ) (p : Page) (f : FlatPage) → Prints (printed b text) p after → f.number ≡ number_of p.answer → f.size ≡ p.size
    → Lists (board_list b text) f after
unfolding board_list
lists b text after p f s n u =
    record { page = rw (n, u, s.answer, s.size); text_is = s.text_is }

and_true : {b : Bool} → (b && true) ≡ b
and_true {b = true} = refl
and_true {b = false} = refl

-- no byte is left where the last group starts at the used length
none_left : (l u n : ℕ) (journal : List ℕ) → (ltb l u && leb u n) ≡ false → (leb l u && leb u n) ≡ true → take (u - l) (drop l journal) ≡ []
none_left l u n journal e h =
    let k : ltb l u ≡ false = rw (and_right (leb l u) (leb u n) h, and_true) at e in
    let z : u - l ≡ 0 = omega (arith, ltb-false l u k) in
    rw z

-- the part that the board names is the last whole group
pub part_is_last : (f : FlatKiosk) (journal : List ℕ) → let p = last_part f (length journal) in
    take p.count (drop p.from journal) ≡ last_group (kiosk_of f) journal
unfolding last_part last_group
part_is_last f journal =
    let l = f.last in
    let u = f.used in
    let n = length journal in
    by_cases (ltb l u && leb u n)
    (λ e. rw (e, le-leb l u (omega (arith, ltb-true l u (and_left (ltb l u) (leb u n) e))), and_right (ltb l u) (leb u n) e))
    (λ e. rw e (by_test (λ (x : List ℕ). [] ≡ x) (leb l u && leb u n) (λ h. sym (none_left l u n journal e h)) (λ h. refl)))

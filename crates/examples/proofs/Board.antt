-- A call of the board's library gives the whole reply that a list says. Assumes nothing.
use Prim.Native.Nat.{ℕ}
use mathlib.Core.Path.{◌≡◌, ap, sym}
use mathlib.Core.List.{List, map}
use Rattle.flat.specs.declared.FlatKiosk.{FlatKiosk}
use Rattle.flat.specs.declared.FlatInput.{FlatInput}
use Rattle.flat.specs.declared.FlatReply.{FlatReply}
use Rattle.twins.specs.Twins.{holds}
use Rattle.flat.specs.declared.FlatMade.{FlatMade}
use Rattle.flat.specs.declared.FlatPart.{FlatPart}
use Rattle.board.specs.Board.{board_create, board_open, board_put, last_part}
use Rattle.examples.specs.Cases.{All, Call, Opening, Creating, Showing}
use Rattle.examples.specs.Board.{CallSo, OpeningSo, CreatingSo, ShowingSo}
use Rattle.examples.proofs.Each.{all_so, call_given, opening_given, creating_given, showing_given}
use Rattle.examples.proofs.Kiosk.{the_kiosk}

-- ## One call, opening, creating, the last group

unfoldable pub call_computed : Call FlatInput FlatKiosk FlatReply → FlatReply × List ℕ × List ℕ
call_computed c =
    let o = board_put c.input c.kiosk c.table c.journal in
    (o.reply, o.table, o.journal)

call_so : (c : Call FlatInput FlatKiosk FlatReply) → call_given c ≡ call_computed c → CallSo c
unfolding call_computed
call_so c e = record { reply = ap (λ w. w.0) e; table_is = ap (λ w. w.1) e; journal_is = ap (λ w. w.2) e }

unfoldable pub opening_computed : Opening FlatReply → FlatReply × List ℕ
opening_computed c =
    let o = board_open c.journal c.used c.table in
    (o.reply, o.table)

opening_so : (c : Opening FlatReply) → opening_given c ≡ opening_computed c → OpeningSo c
unfolding opening_computed
opening_so c e = record { reply = ap (λ w. w.0) e; table_is = ap (λ w. w.1) e }

unfoldable pub creating_computed : Creating FlatMade → FlatMade × List ℕ
creating_computed c =
    let o = board_create c.powers c.own c.height c.journal in
    (o.made, o.journal)

creating_so : (c : Creating FlatMade) → creating_given c ≡ creating_computed c → CreatingSo c
unfolding creating_computed
creating_so c e = record { made = ap (λ w. w.0) e; journal_is = ap (λ w. w.1) e }

unfoldable pub showing_computed : Showing FlatKiosk ℕ FlatPart → FlatPart
showing_computed c = last_part c.kiosk c.journal

showing_so : (c : Showing FlatKiosk ℕ FlatPart) → showing_given c ≡ showing_computed c → ShowingSo c
unfolding showing_computed
showing_so c e = sym e

-- ## Lists

pub calls_so : (cs : List (Call FlatInput FlatKiosk FlatReply)) → map call_given cs ≡ map call_computed cs → All CallSo cs
calls_so = all_so call_given call_computed call_so

pub openings_so : (cs : List (Opening FlatReply)) → map opening_given cs ≡ map opening_computed cs → All OpeningSo cs
openings_so = all_so opening_given opening_computed opening_so

pub creatings_so : (cs : List (Creating FlatMade)) → map creating_given cs ≡ map creating_computed cs → All CreatingSo cs
creatings_so = all_so creating_given creating_computed creating_so

pub showings_so : (cs : List (Showing FlatKiosk ℕ FlatPart)) → map showing_given cs ≡ map showing_computed cs → All ShowingSo cs
showings_so = all_so showing_given showing_computed showing_so

-- To compute with this file: `unfolding the_computed` opens the above.
unfoldable pub the_computed : Unit {0}
unfolding the_kiosk holds board_create board_open board_put last_part call_computed opening_computed creating_computed showing_computed
the_computed = tt

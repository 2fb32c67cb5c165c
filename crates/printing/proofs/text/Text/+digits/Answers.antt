-- The goals of `Text::digits`: the digits before the lowest, by the recursion, and then the lowest. Assumes nothing.
use Rattle.std.proofs.Common.{◌+◌, ◌-◌, ◌/◌, ◌%◌, ◌∷◌, [], ◌++◌}
use native.Mathlib.Omega.{arith}
use Rattle.listing.specs.Text.{digits}
use Rattle.listing.proofs.Digits.{digits_none, digits_one, digits_more}
use Rattle.printing.specs.InContracts.Texts.{HasRoom}
use Rattle.printing.proofs.Texts.{adds_none, room_first, room_after, adds_both}
use Rattle.printing.proofs.text.Text.+digits.Goals as goal
use Rattle.printing.proofs.text.Text.+digits.Goals.{Else-x-lt10}

pub returns-then-left-eq0 : goal.returns-then-left-eq0
returns-then-left-eq0 t c = rw (digits_none c.args.left c.args.x c.if-left-eq0.true) (adds_none c.args.self.now)

pub put-requires : goal.put-requires
put-requires t c = rw (digits_one c.args.left c.args.x c.if-left-eq0.false c.if-x-lt10.true) at c.requires

pub returns-then-x-lt10 : goal.returns-then-x-lt10
returns-then-x-lt10 t c = rw (digits_one c.args.left c.args.x c.if-left-eq0.false c.if-x-lt10.true) c.put.ensures

-- there is room for all of them
room : {t : _} (c : Else-x-lt10 t) → HasRoom (digits (c.args.left - 1) (c.args.x / 10) ++ ((48 + c.args.x % 10) ∷ [])) c.args.self.now
room c = rw (digits_more c.args.left c.args.x c.if-left-eq0.false c.if-x-lt10.false) at c.requires

pub digits-requires : goal.digits-requires
digits-requires t c =
    (omega (arith, c.if-left-eq0.false, c.decreases), room_first (digits (c.args.left - 1) (c.args.x / 10)) ((48 + c.args.x % 10) ∷ []) c.args.self.now (room (goal.at.digits-requires t c).Else-x-lt10))

pub put-requires-2 : goal.put-requires-2
put-requires-2 t c =
    room_after (digits (c.args.left - 1) (c.args.x / 10)) ((48 + c.args.x % 10) ∷ []) c.args.self.now (room (goal.at.put-requires-2 t c).Else-x-lt10) c.digits.new.self c.digits.ensures

pub returns : goal.returns
returns t c =
    rw (digits_more c.args.left c.args.x c.if-left-eq0.false c.if-x-lt10.false)
    (adds_both (digits (c.args.left - 1) (c.args.x / 10)) ((48 + c.args.x % 10) ∷ []) c.args.self.now (room (goal.at.returns t c).Else-x-lt10) c.digits.new.self c.digits.ensures c.put-2.new.self c.put-2.ensures)

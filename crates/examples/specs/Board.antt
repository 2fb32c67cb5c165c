-- What a list of calls of the board's library claims: each reply meets its promise. Assumes nothing.
use Rattle.std.specs.Prelude.{ℕ, ◌≡◌}
use Rattle.flat.specs.declared.FlatKiosk.{FlatKiosk}
use Rattle.flat.specs.declared.FlatInput.{FlatInput}
use Rattle.flat.specs.declared.FlatReply.{FlatReply}
use Rattle.flat.specs.declared.FlatMade.{FlatMade}
use Rattle.flat.specs.declared.FlatPart.{FlatPart}
use Rattle.board.specs.Board.{Creates, Opens, Says, board_create, board_open, board_put, last_part}
use Rattle.examples.specs.Cases.{Call, Opening, Creating, Showing, Each}
use Rattle.examples.specs.Flat.{Calls}

abbrev pub CallSo : Call FlatInput FlatKiosk FlatReply → Type 0
CallSo c = Says (board_put c.input c.kiosk c.table c.journal) c.reply c.table_after c.journal_after

abbrev pub OpeningSo : Opening FlatReply → Type 0
OpeningSo c = Opens (board_open c.journal c.used c.table) c.reply c.table_after

abbrev pub CreatingSo : Creating FlatMade → Type 0
CreatingSo c = Creates (board_create c.powers c.own c.height c.journal) c.made c.journal_after

abbrev pub ShowingSo : Showing FlatKiosk ℕ FlatPart → Type 0
ShowingSo c = last_part c.kiosk c.journal ≡ c.part

abbrev pub Replied : Calls → Type 0
Replied c = Each CallSo OpeningSo CreatingSo ShowingSo c

-- What a list of calls of a kiosk claims: each reply meets its promise. And what it claims where a journal of four is created in an area
-- and opened, and inputs are put one after the other. Assumes nothing.
use Rattle.std.specs.Prelude.{ℕ, ◌≡◌, List, [], ◌∷◌}
use Rattle.rules.specs.declared.Input.{Input}
use Rattle.rules.proofs.Whole.{table}
use Rattle.kiosk.specs.declared.Kiosk.{Kiosk}
use Rattle.kiosk.specs.declared.Reply.{Reply}
use Rattle.kiosk.specs.declared.Made.{Made}
use Rattle.kiosk.specs.Calls.{Called, create, put, last_group}
use Rattle.kiosk.specs.Opening.{open_journal}
use Rattle.kiosk.specs.Promises.{Says, Opens, Makes}
use Rattle.examples.specs.Cases.{Call, Opening, Creating, Showing, Each}
use Rattle.examples.specs.Whole.{Calls, Telling, filled}

abbrev pub CallSo : Call Input Kiosk Reply → Type 0
CallSo c = Says (put c.input c.kiosk c.table c.journal) c.reply c.table_after c.journal_after

abbrev pub OpeningSo : Opening Reply → Type 0
OpeningSo c = Opens (open_journal c.journal c.used c.table) c.reply c.table_after

abbrev pub CreatingSo : Creating Made → Type 0
CreatingSo c = Makes (create c.powers c.own c.height c.journal) c.made c.journal_after

abbrev pub ShowingSo : Showing Kiosk (List ℕ) (List ℕ) → Type 0
ShowingSo c = last_group c.kiosk c.journal ≡ c.part

abbrev pub Replied : Calls → Type 0
Replied c = Each CallSo OpeningSo CreatingSo ShowingSo c

-- ## Inputs told one after the other

unfoldable pub told : List Input → Called → Called
told [] r = r
told (i ∷ is) r = told is (put i r.kiosk r.table r.journal)

-- "Four kiosks of power 1, height 1, own number 0": the journal created and opened
unfoldable pub opened_by_four : Called
opened_by_four =
    let made = create (1 ∷ 1 ∷ 1 ∷ 1 ∷ []) 0 1 (filled []) in
    let o = open_journal made.journal made.used (table []) in
    record { answer = o.answer; sent = []; kiosk = o.kiosk; table = o.table; journal = made.journal }

abbrev pub TellingSo : Telling → Type 0
TellingSo t =
    Says (told t.inputs opened_by_four) t.reply t.table_after t.journal_after ×
    (last_group t.reply.kiosk t.journal_after ≡ t.last)

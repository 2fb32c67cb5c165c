-- What a promise decides: the whole reply, and every number and byte lent. Assumes nothing.
use Rattle.std.specs.Prelude.{ℕ, ◌≡◌, List, []}
use Rattle.rules.specs.Sent.{packed}
use Rattle.kiosk.specs.declared.Reply.{Reply}
use Rattle.kiosk.specs.declared.Made.{Made}
use Rattle.kiosk.specs.Calls.{Called, Created}
use Rattle.kiosk.specs.Opening.{Opened}

-- one call: the reply, and the table and the journal afterwards
pub record Says (o : Called) (r : Reply) (table journal : List ℕ) : Type 0 where
  pub answer : r.answer ≡ o.answer
  pub sent : r.sent ≡ packed o.sent
  pub kiosk : r.kiosk ≡ o.kiosk
  pub table_is : table ≡ o.table
  pub journal_is : journal ≡ o.journal

-- opening: the reply, which sends nothing, and the table afterwards
pub record Opens (o : Opened) (r : Reply) (table : List ℕ) : Type 0 where
  pub answer : r.answer ≡ o.answer
  pub sent : r.sent ≡ packed []
  pub kiosk : r.kiosk ≡ o.kiosk
  pub table_is : table ≡ o.table

-- creating: the answer and the used length, and the journal afterwards
pub record Makes (o : Created) (m : Made) (journal : List ℕ) : Type 0 where
  pub answer : m.answer ≡ o.answer
  pub used : m.used ≡ o.used
  pub journal_is : journal ≡ o.journal

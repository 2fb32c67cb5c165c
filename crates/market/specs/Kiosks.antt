-- A kiosk with its journal as the market takes it: creating, opening and putting, each by the promise that its code is proved to meet. The
-- area that is lent may be another at each call, and hold anything after the file. Assumes nothing.
use Rattle.std.specs.Prelude.{ℕ, ◌≡◌, List, length, take, eqb, if◌then◌else◌}
use Rattle.rules.specs.declared.Input.{Input}
use Rattle.rules.specs.Log.{table_length}
use Rattle.refusals.specs.declared.Answer.{Answer}
use Rattle.refusals.specs.declared.Answer.TheVariants.{Accepted}
use Rattle.refusals.specs.Answers.{number_of, is_accepted}
use Rattle.kiosk.specs.declared.Made.{Made}
use Rattle.kiosk.specs.declared.Reply.{Reply}
use Rattle.kiosk.specs.Calls.{create, put}
use Rattle.kiosk.specs.Opening.{open_journal}
use Rattle.kiosk.specs.Promises.{Makes, Opens, Says}
use Rattle.history.specs.Histories.{Past, Wide, records, sent_in}
use Rattle.agreement.specs.System.{Engine, Opening, opened, no_header, other_refusal}
use Rattle.market.specs.Seat.{acts, brings}

-- "Creating .. gives no state but used length 7 + 2n": the file is the used part of the area
pub record MayCreate (powers : List ℕ) (own height : ℕ) (file : List ℕ) : Type 0 where
  pub area : List ℕ
  pub made : Made
  pub journal : List ℕ
  pub meets : Makes (create powers own height area) made journal
  pub accepted : made.answer ≡ Accepted
  pub file_is : file ≡ take made.used journal

-- "opens exactly its used bytes": the state with its used length, 13, or another refusal
abbrev pub opening_of : Answer → Past → Opening Past
opening_of a p = if is_accepted a then opened p p.kiosk.used else if eqb (number_of a) 13 then no_header else other_refusal

pub record MayOpen (file : List ℕ) (o : Opening Past) : Type 0 where
  pub area : List ℕ
  pub begins : take (length file) area ≡ file
  pub table : List ℕ
  pub places : length table ≡ table_length
  pub reply : Reply
  pub after : List ℕ
  pub meets : Opens (open_journal area (length file) table) reply after
  pub answers : o ≡ opening_of reply.answer (record { kiosk = reply.kiosk; table = after })

-- "puts each input with the state, table and journal that opening or its last call left": an accepted call, and what it leaves. An input's
-- fields hold no more than their types do (`Wide`)
pub record MayPut (p : Past) (file : List ℕ) (i : Input) (q : Past) (next : List ℕ) : Type 0 where
  pub wide : Wide i
  pub area : List ℕ
  pub begins : take p.kiosk.used area ≡ file
  pub reply : Reply
  pub table : List ℕ
  pub journal : List ℕ
  pub meets : Says (put i p.kiosk p.table area) reply table journal
  pub accepted : reply.answer ≡ Accepted
  pub kiosk_is : q.kiosk ≡ reply.kiosk
  pub table_is : q.table ≡ table
  pub file_is : next ≡ take reply.kiosk.used journal

-- the kiosk of a seat; its memory is the state and the table, its outputs are those of the groups that its file says
abbrev pub kiosk_of : List ℕ → ℕ → ℕ → Engine
kiosk_of powers height own = record {
  Mem = Past;
  Input = Input;
  brings = brings;
  creates = MayCreate powers own height;
  opens = MayOpen;
  puts = MayPut;
  outputs = λ file. acts (sent_in (records file));
}

-- A promise decides its reply: two that meet it are equal, and so is all that was lent. Assumes nothing.
use Prim.Native.Nat.{ℕ}
use mathlib.Core.Path.{◌≡◌, ap, sym, ◌∙◌}
use mathlib.Core.List.{List}
use Rattle.roll.specs.declared.Roll.{Roll}
use Rattle.rules.specs.declared.Sent.{Sent}
use Rattle.rules.specs.declared.State.{State}
use Rattle.rules.specs.declared.Progress.{Progress}
use Rattle.rules.specs.State.{state_of}
use Rattle.kiosk.specs.declared.Kiosk.{Kiosk}
use Rattle.refusals.specs.declared.Answer.{Answer}
use Rattle.kiosk.specs.declared.Done.{Done}
use Rattle.kiosk.specs.declared.Reply.{Reply}
use Rattle.kiosk.specs.declared.Made.{Made}
use Rattle.kiosk.specs.Calls.{Called, Created, last_group}
use Rattle.kiosk.specs.Opening.{Opened}
use Rattle.kiosk.specs.Promises.{Says, Opens, Makes}
use Rattle.kiosk.specs.InContracts.Lent.{reply_of}

-- a reply is its fields
same_reply : {a b : Answer} {x y : Sent} {k l : Kiosk} → a ≡ b → x ≡ y → k ≡ l
    → ◌≡◌ {A = Reply} (record { answer = a; sent = x; kiosk = k }) (record { answer = b; sent = y; kiosk = l })
same_reply p q r = rw (p, q, r)

same_done : {a b : Answer} {x y : Sent} {v w : Progress} {m n p q : ℕ} → a ≡ b → x ≡ y → v ≡ w → m ≡ n → p ≡ q
    → ◌≡◌ {A = Done}
    (record { answer = a; sent = x; course = record { progress = v; used = m; last = p } })
    (record { answer = b; sent = y; course = record { progress = w; used = n; last = q } })
same_done d e f g h = rw (d, e, f, g, h)

same_made : {a b : Answer} {m n : ℕ} → a ≡ b → m ≡ n → ◌≡◌ {A = Made} (record { answer = a; used = m }) (record { answer = b; used = n })
same_made p q = rw (p, q)

-- one call
pub one_call : (o : Called) (r s : Reply) (t u j l : List ℕ) → Says o r t j → Says o s u l → (r ≡ s) × (t ≡ u) × (j ≡ l)
one_call o r s t u j l p q = (
  same_reply (p.answer ∙ sym q.answer) (p.sent ∙ sym q.sent) (p.kiosk ∙ sym q.kiosk),
  p.table_is ∙ sym q.table_is,
  p.journal_is ∙ sym q.journal_is,
)

-- one call to which the log was lent
pub one_lent : (o : Called) (roll : Roll) (l m : List ℕ) (d e : Done) (t u j k : List ℕ) → Says o (reply_of roll l d) t j → Says o (reply_of roll m e) u k →
    (d ≡ e) × (l ≡ m) × (t ≡ u) × (j ≡ k)
one_lent o roll l m d e t u j k p q =
    let same = p.kiosk ∙ sym q.kiosk in
    let states : state_of roll d.course.progress l ≡ state_of roll e.course.progress m = ap (λ (x : Kiosk). x.state) same in (
      same_done (p.answer ∙ sym q.answer) (p.sent ∙ sym q.sent) (ap (λ (x : State). x.progress) states) (ap (λ (x : Kiosk). x.used) same) (ap (λ (x : Kiosk). x.last) same),
      ap (λ (x : State). x.log) states,
      p.table_is ∙ sym q.table_is,
      p.journal_is ∙ sym q.journal_is,
    )

-- opening
pub one_opening : (o : Opened) (r s : Reply) (t u : List ℕ) → Opens o r t → Opens o s u → (r ≡ s) × (t ≡ u)
one_opening o r s t u p q = (
  same_reply (p.answer ∙ sym q.answer) (p.sent ∙ sym q.sent) (p.kiosk ∙ sym q.kiosk),
  p.table_is ∙ sym q.table_is,
)

-- creating
pub one_creating : (o : Created) (m n : Made) (j l : List ℕ) → Makes o m j → Makes o n l → (m ≡ n) × (j ≡ l)
one_creating o m n j l p q = (same_made (p.answer ∙ sym q.answer) (p.used ∙ sym q.used), p.journal_is ∙ sym q.journal_is)

-- the last whole group
pub one_last : (k : Kiosk) (journal x y : List ℕ) → x ≡ last_group k journal → y ≡ last_group k journal → x ≡ y
one_last k journal x y p q = p ∙ sym q

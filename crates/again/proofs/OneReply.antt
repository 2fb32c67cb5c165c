-- A promise decides its reply: two that meet it are equal, and so is all that was lent. Assumes nothing.
use Prim.Native.Nat.{ℕ}
use mathlib.Core.Path.{◌≡◌, sym, ◌∙◌}
use mathlib.Core.List.{List}
use Rattle.kiosk.specs.declared.Reply.{Reply}
use Rattle.again.specs.declared.Woken.{Woken}
use Rattle.again.specs.Again.{Waking, Wakes, Again, SaysAgain}

-- waking
pub one_waking : (o : Waking) (v w : Woken) (t u : List ℕ) → Wakes o v t → Wakes o w u → (v ≡ w) × (t ≡ u)
one_waking o v w t u p q = (
  rw (p.answer, p.kiosk, p.messages, p.timers, q.answer, q.kiosk, q.messages, q.timers),
  p.table_is ∙ sym q.table_is,
)

-- saying it again
pub one_again : (o : Again) (r s : Reply) (t u a b : List ℕ) → SaysAgain o r t a → SaysAgain o s u b → (r ≡ s) × (t ≡ u) × (a ≡ b)
one_again o r s t u a b p q = (
  rw (p.answer, p.sent, p.kiosk, q.answer, q.sent, q.kiosk),
  p.table_is ∙ sym q.table_is,
  p.area_is ∙ sym q.area_is,
)

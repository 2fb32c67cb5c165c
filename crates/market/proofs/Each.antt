-- Each rule-keeping kiosk of a market as `Lawful` has it, in histories: what it recalls, what one more call adds, and that what it recalls
-- is put out, with power or without. Assumes nothing.
use Prim.Native.Nat.{ℕ, ◌*◌, ◌^◌, ◌<◌}
use mathlib.Core.Path.{◌≡◌, refl, sym, ap, ap₂, subst, ◌∙◌}
use mathlib.Core.List.{List, ◌++◌}
use mathlib.Core.Bool.{true, not}
use lib.ListN.{length}
use Rattle.words.specs.Members.{In}
use Rattle.roll.specs.Weighing.{power_of, total_of, roll_fits}
use Rattle.rules.specs.declared.Input.{Input}
use Rattle.refusals.specs.Answers.{is_accepted}
use Rattle.kiosk.specs.Calls.{put}
use Rattle.history.specs.Histories.{Call, Past, does, after, takes, History, sent_in}
use Rattle.history.proofs.Puts.{put_accepts, put_gives}
use Rattle.agreement.specs.Weigh.{Seats}
use Rattle.agreement.specs.Moves.{Out}
use Rattle.agreement.specs.System.{opened, off, asleep, Lawful, Shared, Holds, unmade, left, powered, Sound}
use Rattle.agreement.proofs.System.{demand3_boards, put_out_so, out_put, OfEach, Keeping}
use Rattle.market.specs.Seat.{acts}
use Rattle.market.specs.Kiosks.{MayOpen, MayPut, kiosk_of}
use Rattle.market.specs.Demand3.{roll_at, scale, World, Reached, PutOut}
use Rattle.market.proofs.Honest.{arrivals}
use Rattle.market.proofs.Kiosks.{lawful, left_opens, left_records, put_sent}

-- demand 3's terms: one roll that fits, a height of 32 bits, and rule-breakers that hold less than a third
pub record Terms (powers : List ℕ) (height : ℕ) (keeps : Seats) : Type 0 where
  pub fits : roll_fits (roll_at powers height 0) ≡ true
  pub tall : height < 2 ^ 32
  pub few : 3 * power_of (roll_at powers height 0) (λ i. not (keeps i)) < total_of (roll_at powers height 0)

module _ {powers : List ℕ} {height : ℕ} {keeps : Seats} (m : Terms powers height keeps) where
  abbrev pub law : (i : ℕ) → i < length powers → Lawful (kiosk_of powers height i) (scale powers height) i
  law i hi = lawful powers i height m.fits hi m.tall

  abbrev pub shared : Shared (scale powers height) keeps (kiosk_of powers height)
  shared = record { few = m.few; lawful = λ i hi ki. law i hi }

  -- statements about the history of each rule-keeping kiosk, and a world where one holds of all
  abbrev pub Such : Type 1
  Such = OfEach (scale powers height) keeps (kiosk_of powers height) shared

  abbrev pub All : Such → World powers height keeps → Type 0
  All P w = Keeping (scale powers height) keeps (kiosk_of powers height) shared P w

  -- each goes by a history
  pub sound : (w : World powers height keeps) → Reached powers height keeps w → (i : ℕ) (hi : i < length powers) → keeps i ≡ true → Sound (law i hi) keeps (w.board i) w.air
  sound w reach = demand3_boards (scale powers height) keeps (kiosk_of powers height) shared w reach

  module _ (i : ℕ) (hi : i < length powers) where
    -- which is one of calls
    pub recalls : (h : (law i hi).History) → (cs : List Call) × History (roll_at powers height i) cs ((law i hi).memory h) × ((law i hi).outs h ≡ acts (sent_in cs))
        × ((j : ℕ) (o : Out) → arrivals cs j o → (law i hi).arrived h j o)
    unfolding lawful
    recalls h = (h.calls, h.history, refl, λ j o a. a)

    -- one more call is one that is taken; it leaves what its work leaves, and adds what its work sends
    module _ (h : (law i hi).History) (x : Input) (q : Past) (d : List ℕ) (p : MayPut ((law i hi).memory h) ((law i hi).file h) x q d) where
      on : is_accepted (put x ((law i hi).memory h).kiosk ((law i hi).memory h).table p.area).answer ≡ true
      on = ap is_accepted (sym p.meets.answer ∙ p.accepted)

      pub more_taken : takes ((law i hi).memory h) x ≡ true
      more_taken = (put_accepts ((law i hi).memory h) x p.area on).taken

      pub more_past : (law i hi).memory ((law i hi).more h x q d p) ≡ after ((law i hi).memory h) x
      unfolding lawful
      more_past =
          let g = put_gives h.history x p.wide p.area p.begins on in
          ap₂ (λ k t. record { kiosk = k; table = t }) (p.kiosk_is ∙ p.meets.kiosk ∙ g.1) (p.table_is ∙ p.meets.table_is ∙ g.2)

      pub more_sent : (law i hi).outs ((law i hi).more h x q d p) ≡ (law i hi).outs h ++ acts (does ((law i hi).memory h) x).sent
      unfolding lawful
      more_sent = put_sent powers i height m.fits hi m.tall h.calls h.past h.history x q d p

    -- what it recalls to have put out stands in its whole records, and the other way round
    module _ (w : World powers height keeps) (o : Out) where
      none_yet : (h : (law i hi).History) → h ≡ (law i hi).start → In o ((law i hi).outs h) → ⊥
      unfolding lawful sent_in
      none_yet h e b = subst (λ x. In o ((law i hi).outs x)) e b

      lain : (h : (law i hi).History) (d : List ℕ) → (law i hi).Left h d → w.board i ≡ off d → In o ((law i hi).outs h) → PutOut powers height keeps w i o
      unfolding lawful
      lain h d l eb b =
          asleep d h.past h.past.kiosk.used eb
          (subst (λ (x : List ℕ). MayOpen x (opened h.past h.past.kiosk.used)) (sym l.2) (left_opens h.history l.0 l.1))
          (rw (left_records (roll_at powers height i) h.history l, (law i hi).spoken h) b)

      pub recalled_out : (q : Sound (law i hi) keeps (w.board i) w.air) → In o ((law i hi).outs q.history) → PutOut powers height keeps w i o
      recalled_out q a = go q.holds
        where
          go : Holds (law i hi) (w.board i) q.history → PutOut powers height keeps w i o
          go (unmade d eb u e) = absurd (none_yet q.history e a)
          go (left d eb l) = lain q.history d l eb a
          go (powered eb) = out_put (scale powers height) keeps (kiosk_of powers height) w i (law i hi) q _ _ eb o a

      pub out_recalled : (q : Sound (law i hi) keeps (w.board i) w.air) → PutOut powers height keeps w i o → In o ((law i hi).outs q.history)
      out_recalled q = put_out_so (scale powers height) keeps (kiosk_of powers height) w i (law i hi) q o

-- Names come from inputs: what a kiosk holds, and what it sends, has a name that an input or an offer had, or 0. Assumes nothing.
use Prim.Native.Nat.{ℕ, zero, suc}
use mathlib.Core.List.{List, [], ◌∷◌, ◌++◌}
use mathlib.Core.Bool.{◌&&◌, not}
use lib.Dec.{eqb}
use lib.ListN.{get_or, set}
use Rattle.words.specs.Members.{In}
use Rattle.words.proofs.Choice.{by_test}
use Rattle.roll.specs.Weighing.{proposer}
use Rattle.rules.specs.declared.Step.{Step}
use Rattle.rules.specs.declared.Step.TheVariants.{Propose, Prevote, Precommit}
use Rattle.rules.specs.declared.Votes.{Votes}
use Rattle.rules.specs.declared.Votes.TheVariants.{Prevotes, Precommits}
use Rattle.rules.specs.declared.Input.{Input}
use Rattle.rules.specs.declared.Output.{Output}
use Rattle.rules.specs.declared.Phase.TheVariants.{Running}
use Rattle.rules.specs.State.{entered, held, with_phase, with_stand, with_locked}
use Rattle.rules.specs.Log.{Desk, with_state, good_sheets, message, hear_proposal, hear_vote}
use Rattle.rules.specs.Doing.{current, own, propose, vote, ask, sheet_to_propose, start_round}
use Rattle.rules.specs.Rules.{fire_49}
use Rattle.rules.specs.Work.{worked}
use Rattle.rules.proofs.ByRule.{Runs}
use Rattle.rules.proofs.Hearing.{vote_is}
use Rattle.rules.proofs.Deeds as deeds
use Rattle.rules.proofs.Deeds.{sole, WhyPrevote, nil, afresh, again, Deed, holding}
use Rattle.kiosk.proofs.Accepted.{Passes}
use Rattle.kiosk.proofs.Taken.{Taken, starts, hears_proposal, hears_vote, timer, call_keeps}

module _ (N : ℕ → Type 0) where
  -- each output's name is one of them
  abbrev pub Named : List Output → Type 0
  Named [] = Unit
  Named (o ∷ os) = N o.name × Named os

  -- and each name of a table, and of a locked and a valid sheet
  pub record Names (table : List ℕ) (locked valid : ℕ) (sent : List Output) : Type 0 where
    pub names : (place : ℕ) → N (get_or table place 0)
    pub locked_named : N locked
    pub valid_named : N valid
    pub sent_named : Named sent

  abbrev pub Holds : Desk → Type 0
  Holds d = Names d.table d.state.progress.locked.name d.state.progress.valid.name d.sent

module _ (N : ℕ → Type 0) (zero_named : N 0) where
  named_snoc : (os : List Output) (o : Output) → Named N os → N o.name → Named N (os ++ (o ∷ []))
  named_snoc [] o h n = (n, tt)
  named_snoc (x ∷ os) o h n = (h.0, named_snoc os o h.1 n)

  set_named : (t : List ℕ) (place name : ℕ) → ((q : ℕ) → N (get_or t q 0)) → N name → (q : ℕ) → N (get_or (set t place name) q 0)
  set_named [] place name h n q = zero_named
  set_named (x ∷ t) zero name h n zero = n
  set_named (x ∷ t) zero name h n (suc q) = h (suc q)
  set_named (x ∷ t) (suc place) name h n zero = h 0
  set_named (x ∷ t) (suc place) name h n (suc q) = set_named t place name (λ r. h (suc r)) n q

  -- an output; a message, put in the table; and both
  sends : {t : List ℕ} {l v : ℕ} {os : List Output} → Names N t l v os → (o : Output) → N o.name → Names N t l v (os ++ (o ∷ []))
  sends {os = os} s o n = record { names = s.names; locked_named = s.locked_named; valid_named = s.valid_named; sent_named = named_snoc os o s.sent_named n }

  hears : {t : List ℕ} {l v : ℕ} {os : List Output} → Names N t l v os → (place name : ℕ) → N name → Names N (set t place name) l v os
  hears {t} s place name n = record { names = set_named t place name s.names n; locked_named = s.locked_named; valid_named = s.valid_named; sent_named = s.sent_named }

  module _ (d : Desk) (s : Holds N d) where
    votes : (v : Votes) (name : ℕ) → N name → Holds N (vote v name d)
    unfolding hear_vote
    votes v name n = rw (vote_is v name d) (sends (hears s _ name n) _ n)

    asked : (p : Step) → Holds N (ask p d)
    unfolding ask
    asked p = sends s _ zero_named

    settled : (r name : ℕ) → N name → Holds N (fire_49 r name d)
    unfolding fire_49
    settled r name n = sends s _ n

    heard_so : (r name : ℕ) → N name → ((b : _) (v : ℕ) → Holds N (hear_proposal d r b v name)) × ((v : Votes) (j : ℕ) → Holds N (hear_vote v d r j name))
    unfolding hear_proposal hear_vote
    heard_so r name n = (λ b v. hears s _ name n, λ v j. hears s _ name n)

    -- a round
    started : (offer r : ℕ) → N offer → Holds N (start_round offer r d)
    unfolding start_round propose ask message hear_proposal
    started offer r n =
        let e = with_state (with_stand (entered r) d.state) d in
        let sheet = sheet_to_propose offer d in
        let named : N sheet = by_test N (eqb d.state.progress.valid.name 0) (λ f. n) (λ f. s.valid_named) in
        by_test (Holds N) (eqb (proposer d.state.roll r) (own d) && not (eqb sheet 0)) {x = propose d.state.progress.valid.next.0 sheet e} {y = ask Propose e}
        (λ t. sends (hears s _ sheet named) _ named)
        (λ t. sends s _ zero_named)

    -- the names that the rules find
    voted : (name : ℕ) → WhyPrevote d name → N name
    voted name (nil e) = rw e zero_named
    voted name (afresh g e v l) = rw e (s.names _)
    voted name (again vr g e v b p l) = rw e (s.names _)

    sheet_named : (r name : ℕ) → In name (good_sheets d r) → N name
    sheet_named r name h = rw (sole d r name h) (s.names _)

  -- each deed
  deed_names : (offer : ℕ) → N offer → (d u : Desk) → Runs d → Deed offer d u → Holds N d → Holds N u
  deed_names offer n d u run (deeds.prevotes name p f e) s = rw e (votes d s Prevotes name (voted d s name f))
  deed_names offer n d u run (deeds.precommits_nil p e) s = rw e (votes d s Precommits 0 zero_named)
  deed_names offer n d u run (deeds.locks name p f e) s =
      let m = sheet_named d s (current d) name f.sheet in
      rw e
      (votes (with_state (with_locked (held (current d) name) (holding name d)) d)
      (record { names = s.names; locked_named = m; valid_named = m; sent_named = s.sent_named }) Precommits name m)
  deed_names offer n d u run (deeds.holds name p q f e) s =
      rw e (record { names = s.names; locked_named = s.locked_named; valid_named = sheet_named d s (current d) name f.sheet; sent_named = s.sent_named })
  deed_names offer n d u run (deeds.asks_prevote p a l e) s = rw e (asked d s Prevote)
  deed_names offer n d u run (deeds.asks_precommit a l e) s = rw e (asked d s Precommit)
  deed_names offer n d u run (deeds.settles r name f e) s = rw e (settled d s r name (sheet_named d s r name f.sheet))
  deed_names offer n d u run (deeds.enters r m l e) s = rw e (started d s offer r n)

  -- each input, and its work
  module _ (d : Desk) (i : Input) (n : N i.name) (o : N i.offer) (s : Holds N d) where
    taken_names : (u : Desk) → Taken d i u → Holds N u
    taken_names u (starts f k e) = rw e (started (with_state (with_phase Running d.state) d) s i.offer 0 o)
    taken_names u (hears_proposal m k t z v h e) = rw e ((heard_so d s i.round.0 i.name n).0 _ _)
    taken_names u (hears_vote v m k h e) = rw e ((heard_so d s i.round.0 i.name n).1 v _)
    taken_names u (timer run k did) = deed_names i.offer o d u run did s

    pub works : Passes d i → Holds N (worked i d)
    works p = call_keeps d i p (Holds N) taken_names (deed_names i.offer o)

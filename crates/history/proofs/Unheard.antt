-- "places not heard hold 0 in every state that opening, or accepted calls from there, give"; and there a kiosk that runs has no rule that
-- applies. Assumes nothing.
use Rattle.std.specs.Prelude.{None}
use Prim.Native.Nat.{ℕ, ◌≤◌, ◌<◌}
use mathlib.Core.Path.{◌≡◌, refl, ap, sym, ◌∙◌}
use mathlib.Core.List.{List}
use mathlib.Core.Bool.{Bool, true, false, ◌&&◌, not, true≢false}
use native.Mathlib.Omega.{arith}
use borrow.Author.Tests.{ltb-true, eqb-true, eqb-false}
use lib.Dec.{eqb}
use Rattle.words.specs.Marks.{marked}
use Rattle.words.proofs.Choice.{by_test, by_cases}
use Rattle.words.proofs.Places.{zeros_at}
use Rattle.roll.specs.declared.Roll.{Roll}
use Rattle.roll.specs.Weighing.{proposer}
use Rattle.rules.specs.declared.Step.TheVariants.{Propose}
use Rattle.rules.specs.declared.Votes.{Votes}
use Rattle.rules.specs.declared.Votes.TheVariants.{Prevotes, Precommits}
use Rattle.rules.specs.declared.Heard.{Heard}
use Rattle.rules.specs.declared.Input.{Input}
use Rattle.rules.specs.declared.Phase.TheVariants.{Running}
use Rattle.rules.specs.State.{rounds_of, is_fresh, spoken, entered, with_phase, with_stand}
use Rattle.rules.specs.Log.{Desk, desk, with_state, tell, heard, table_length, proposal_place, vote_place, message, hear_proposal, hear_vote}
use Rattle.rules.specs.Doing.{current, own, propose, vote, ask, sheet_to_propose, start_round}
use Rattle.rules.specs.Rules.{first_rule, fire_49}
use Rattle.rules.specs.Work.{worked}
use Rattle.rules.proofs.ByRule.{Runs}
use Rattle.rules.proofs.Telling.{sized_tell}
use Rattle.rules.proofs.Hearing.{vote_is, vote_sheets, vote_unheard, proposal_votes, proposal_other, proposal_spoken}
use Rattle.rules.proofs.Deeds.{Deed, prevotes, precommits_nil, locks, holds, asks_prevote, asks_precommit, settles, enters}
use Rattle.kiosk.proofs.Accepted.{rests, Passes, fits, accepted_fits, accepted_passes}
use Rattle.kiosk.proofs.Taken.{Taken, starts, hears_proposal, hears_vote, timer, call_keeps}
use Rattle.history.specs.Histories.{Call, Past, after, takes, History}
use Rattle.history.specs.Remembering.{UnheardZero}
use Rattle.history.proofs.Openings.{created_count}
use Rattle.history.proofs.Telling.{history_keeps}
use Rattle.history.proofs.Steady.{steady}
use Rattle.history.proofs.Room.{RoomySo, rounds_stay}

-- ## Each thing that a kiosk does

-- what is kept: a round and a log with a place for each round, an own seat that the table has places for, and zeros where nothing is heard
record Places (rounds round seat : ℕ) (l t : List ℕ) : Type 0 where
  roomy : RoomySo rounds round l
  mine : seat < 32
  zeros : UnheardZero rounds l t

abbrev Placed : Desk → Type 0
Placed d = Places d.rounds (current d) (own d) d.state.log d.table

module _ (d : Desk) (s : Placed d) (r : ℕ) (less : r < d.rounds) where
  -- whatever the log is told of the round
  abbrev still : (h : Heard) → RoomySo d.rounds (current d) (tell d.state.log r h)
  still h = record { there = s.roomy.there; sized = sized_tell d.state.log r h s.roomy.sized }

  proposal_placed : (good : Bool) (valid name : ℕ) → Placed (hear_proposal d r good valid name)
  unfolding hear_proposal
  proposal_placed good valid name = record {
    roomy = still _;
    mine = s.mine;
    zeros = record {
      proposal = λ q m.
          by_cases (eqb q r)
          (λ same off.
          let here = ap (λ (x : ℕ). spoken (heard (hear_proposal d r good valid name) x)) (eqb-true q r same) in
          absurd (true≢false (sym (here ∙ proposal_spoken d r good valid name s.roomy.sized less) ∙ off)))
          (λ other off. let o = proposal_other d r good valid name q (eqb-false q r other) in o.1 ∙ s.zeros.proposal q m (sym (ap spoken o.0) ∙ off));
      vote = λ v q j m k off. let o = proposal_votes d r good valid name v q j k in o.1 ∙ s.zeros.vote v q j m k (sym (ap (λ (x : ℕ). marked x j) o.0) ∙ off);
    };
  }

  vote_placed : (v : Votes) (i name : ℕ) → i < 32 → Placed (hear_vote v d r i name)
  unfolding hear_vote
  vote_placed v i name few = record {
    roomy = still _;
    mine = s.mine;
    zeros = record {
      proposal = λ q m off. let o = vote_sheets v d r i name few q in o.2 ∙ s.zeros.proposal q m (sym (ap (λ (x : ℕ). not (eqb x 0)) o.0) ∙ off);
      vote = λ w q j m k off. let o = vote_unheard v d r i name few s.roomy.sized less w q j k off in o.1 ∙ s.zeros.vote w q j m k o.0;
    };
  }

round_placed : (d : Desk) → Placed d → (offer r : ℕ) → r < d.rounds → Placed (start_round offer r d)
unfolding start_round propose ask message
round_placed d s offer r less =
    let e = with_state (with_stand (entered r) d.state) d in
    let h : Placed e = record { roomy = record { there = less; sized = s.roomy.sized }; mine = s.mine; zeros = s.zeros } in
    let sheet = sheet_to_propose offer d in
    by_test Placed (eqb (proposer d.state.roll r) (own d) && not (eqb sheet 0)) {x = propose d.state.progress.valid.next.0 sheet e} {y = ask Propose e}
    (λ t. proposal_placed e h r less true d.state.progress.valid.next.0 sheet)
    (λ t. h)

own_vote_placed : (d : Desk) → Placed d → (v : Votes) (name : ℕ) → Placed (vote v name d)
own_vote_placed d s v name = rw (vote_is v name d) (vote_placed d s (current d) s.roomy.there v (own d) name s.mine)

deed_placed : (offer : ℕ) (d u : Desk) → Runs d → Deed offer d u → Placed d → Placed u
unfolding ask fire_49
deed_placed offer d u run (prevotes name p f e) s = rw e (own_vote_placed d s Prevotes name)
deed_placed offer d u run (precommits_nil p e) s = rw e (own_vote_placed d s Precommits 0)
deed_placed offer d u run (locks name p f e) s = rw e (own_vote_placed _ s Precommits name)
deed_placed offer d u run (holds name p q f e) s = rw e s
deed_placed offer d u run (asks_prevote p a l e) s = rw e s
deed_placed offer d u run (asks_precommit a l e) s = rw e s
deed_placed offer d u run (settles r name f e) s = rw e s
deed_placed offer d u run (enters r m l e) s = rw e (round_placed d s offer r l)

module _ (d : Desk) (i : Input) (few : d.state.roll.kiosks ≤ 32) (s : Placed d) where
  taken_placed : (u : Desk) → Taken d i u → Placed u
  taken_placed u (starts f k e) = rw e (round_placed (with_state (with_phase Running d.state) d) s i.offer 0 (omega (arith, s.roomy.there)))
  taken_placed u (hears_proposal m k t z v h e) = rw e (proposal_placed d s i.round.0 m.round _ _ _)
  taken_placed u (hears_vote v m k h e) = rw e (vote_placed d s i.round.0 m.round v i.sender i.name (omega (arith, m.seat)))
  taken_placed u (timer run k did) = deed_placed i.offer d u run did s

  works_placed : Passes d i → Placed (worked i d)
  works_placed p = call_keeps d i p Placed taken_placed (deed_placed i.offer)

-- ## From creation on

abbrev PlacedPast : Past → Type 0
PlacedPast p = Placed (desk p.kiosk.state p.table)

placed_after : (p : Past) (i : Input) → takes p i ≡ true → PlacedPast p → PlacedPast (after p i)
placed_after p i t h =
    let d = desk p.kiosk.state p.table in
    let few = (accepted_fits p.kiosk.used p.kiosk p.table i t).few_kiosks in
    rw (rounds_stay p i) at (works_placed d i few h (accepted_passes p.kiosk.used p.kiosk p.table i t))

-- places not heard hold 0
pub unheard_places : {roll : Roll} {cs : List Call} {p : Past} → History roll cs p → UnheardZero (rounds_of p.kiosk.state) p.kiosk.state.log p.table
unheard_places {roll} h =
    let own = ltb-true roll.own roll.kiosks h.created.own in
    (history_keeps PlacedPast placed_after h
    (record {
      roomy = record { there = omega arith; sized = record { size = refl } };
      mine = omega (arith, own, (created_count roll h.created).1);
      zeros = record {
        proposal = λ r l e. zeros_at table_length (proposal_place r);
        vote = λ v r i l k e. zeros_at table_length (vote_place v r i);
      };
    })
    ).zeros

-- a kiosk that runs has no rule that applies
pub no_rule : {roll : Roll} {cs : List Call} {p : Past} → History roll cs p → is_fresh p.kiosk.state.progress.phase ≡ false → first_rule (desk p.kiosk.state p.table) ≡ None
no_rule {p = p} h old = let d = desk p.kiosk.state p.table in rests d (fits d (steady h).possible).rest old

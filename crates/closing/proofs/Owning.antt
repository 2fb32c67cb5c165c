-- What a history says of proposals and of own messages: a proposal held was made here or came from the round's proposer, what was proposed
-- here is held, the own prevote is heard, and rule 36's mark is unset before the precommit step. Assumes nothing.
use Rattle.std.specs.Bool.{if◌then◌else◌}
use Prim.Native.Nat.{ℕ, ◌≤◌, ◌<◌}
use mathlib.Core.Path.{◌≡◌, refl, sym, ap, subst, ◌∙◌}
use mathlib.Core.Logic.{◌⊎◌, inl, inr, ⊎_elim}
use mathlib.Core.List.{List, [], ◌∷◌, ◌++◌, append-nil}
use mathlib.Core.Bool.{Bool, true, false, ◌&&◌, not, true≢false, false≢true}
use native.Mathlib.Omega.{arith}
use native.Mathlib.Decide.{ℕ_discrete}
use lib.ListN.{length, get_or, length-replicate}
use lib.Dec.{eqb}
use borrow.Author.Tests.{eqb-true}
use Rattle.words.specs.Marks.{marked}
use Rattle.words.specs.Members.{In}
use Rattle.words.proofs.Choice.{by_test, and_left, all_holds}
use Rattle.words.proofs.Members.{InLeft, InRight, InLast}
use Rattle.words.proofs.Places.{zeros_at}
use Rattle.roll.specs.declared.Roll.{Roll}
use Rattle.roll.specs.Weighing.{proposer}
use Rattle.rules.specs.declared.Votes.{Votes}
use Rattle.rules.specs.declared.Votes.TheVariants.{Prevotes, Precommits}
use Rattle.rules.specs.declared.Asked.{Asked}
use Rattle.rules.specs.declared.Input.{Input}
use Rattle.rules.specs.declared.Output.{Output}
use Rattle.rules.specs.declared.Phase.{Phase}
use Rattle.rules.specs.declared.Phase.TheVariants.{Running}
use Rattle.rules.specs.declared.Stand.{Stand}
use Rattle.rules.specs.declared.State.{State}
use Rattle.rules.specs.State.{most_rounds, log_length, proposal_at, is_fresh, is_propose, spoken, held, entered, with_phase, with_stand, with_locked, with_asked}
use Rattle.rules.specs.Log.{Desk, with_state, table_length, proposal_place, told, heard, proposed, message, hear_proposal, hear_vote}
use Rattle.rules.specs.Doing.{current, step, own, output, send, sheet_to_propose, propose, vote, ask, start_round}
use Rattle.rules.specs.Rules.{fire_49}
use Rattle.rules.specs.Work.{worked}
use Rattle.rules.proofs.Telling.{Sized}
use Rattle.rules.proofs.Hearing.{vote_marked, vote_kept, vote_sheets, proposal_votes, proposal_other, proposal_same}
use Rattle.rules.proofs.Deeds.{holding, Deed, prevotes, precommits_nil, locks, holds, asks_prevote, asks_precommit, settles, enters}
use Rattle.refusals.specs.Possible.{round_fits}
use Rattle.kiosk.proofs.Accepted.{Passes, fits, accepted_fits, accepted_passes}
use Rattle.kiosk.proofs.Taken.{Message, Taken, starts, hears_proposal, hears_vote, timer, call_keeps}
use Rattle.kiosk.proofs.Kept.{round_told, worked_sound}
use Rattle.history.specs.Histories.{Call, Past, does, after, takes, beginning, History, sent_in}
use Rattle.history.proofs.Steady.{steady}
use Rattle.history.proofs.Room.{rounds_stay}
use Rattle.agreement.specs.Moves.{Out, proposal, settled, other}
use Rattle.agreement.specs.Moves as moves
use Rattle.agreement.specs.Honest.{Arrived}
use Rattle.market.specs.Seat.{act, acts, brings, step_number}
use Rattle.market.proofs.Votes.{beside_vote, beside_proposal}
use Rattle.market.proofs.Steps.{at_propose, at_prevote, past_prevote}
use Rattle.market.proofs.Good.{acts_more}
use Rattle.market.proofs.Honest.{history_told, arrivals, at}

-- ## Outputs

-- the fields of a proposal; no other output has any
abbrev fields : Out → List ℕ
fields (moves.prevote r name) = []
fields (moves.precommit r name) = []
fields (settled r name) = []
fields (proposal l) = l
fields other = []

abbrev offer : ℕ → ℕ → ℕ → Out
offer q valid name = proposal (q ∷ valid ∷ name ∷ [])

module _ (roll : Roll) (A : Arrived) where
  pub record Owns (os : List Out) (d : Desk) : Type 0 where
    pub sized : Sized most_rounds d.state.log
    -- rule 36's mark is unset before the precommit step
    pub unbacked : step_number (step d) < 2 → d.state.progress.stand.backed ≡ false
    -- past the propose step the own prevote of the round is heard
    pub own_prevote : 1 ≤ step_number (step d) → marked (heard d (current d)).prevotes roll.own ≡ true
    -- a proposal held was made here, or came from the round's proposer
    pub sheets : (q : ℕ) → spoken (heard d q) ≡ true →
        (((heard d q).proposal ≡ 2) × (proposer roll q ≡ roll.own) × In (proposal (q ∷ (heard d q).valid ∷ proposed d q ∷ [])) os)
        ⊎ ((proposer roll q ≡ roll.own → ⊥) × A (proposer roll q) (proposal (q ∷ (heard d q).valid ∷ proposed d q ∷ [])))
    -- what was proposed here is held, judged good, and of no later round
    pub offers : (q valid name : ℕ) → In (proposal (q ∷ valid ∷ name ∷ [])) os →
        (q ≤ current d) × (is_fresh d.state.progress.phase ≡ false) × ((heard d q).proposal ≡ 2) × ((heard d q).valid ≡ valid) × (proposed d q ≡ name)

  -- ## The invariant

  -- where a proposal held is from
  abbrev Source : List Out → ℕ → ℕ → ℕ → ℕ → Type 0
  Source os q verdict valid name =
      ((verdict ≡ 2) × (proposer roll q ≡ roll.own) × In (offer q valid name) os) ⊎ ((proposer roll q ≡ roll.own → ⊥) × A (proposer roll q) (offer q valid name))

  -- the log and the table, where os is all that the kiosk put out
  record FilesSo (os : List Out) (rounds : ℕ) (r : Roll) (round : ℕ) (l : List ℕ) (t : List ℕ) : Type 0 where
    roll_is : r ≡ roll
    rounds_are : rounds ≡ most_rounds
    there : round < most_rounds
    places : length t ≡ table_length
    sized : Sized most_rounds l
    sheets : (q : ℕ) → spoken (told l q) ≡ true → Source os q (told l q).proposal (told l q).valid (get_or t (proposal_place q) 0)
    offers : (q valid name : ℕ) → In (offer q valid name) os →
        (q ≤ round) × ((told l q).proposal ≡ 2) × ((told l q).valid ≡ valid) × (get_or t (proposal_place q) 0 ≡ name)

  abbrev Files : List Out → Desk → Type 0
  Files os d = FilesSo os d.rounds d.state.roll (current d) d.state.log d.table

  -- and where the kiosk stands
  record StandsSo (os : List Out) (rounds : ℕ) (s : State) (t : List ℕ) : Type 0 where
    files : FilesSo os rounds s.roll s.progress.stand.round.0 s.log t
    unbacked : step_number s.progress.stand.step < 2 → s.progress.stand.backed ≡ false
    own_prevote : 1 ≤ step_number s.progress.stand.step → marked (told s.log s.progress.stand.round.0).prevotes roll.own ≡ true

  source_more : (os os' : List Out) → ((x : Out) → In x os → In x os') → (q verdict valid name : ℕ) → Source os q verdict valid name → Source os' q verdict valid name
  source_more os os' more q verdict valid name (inl h) = inl (h.0, h.1, more (offer q valid name) h.2)
  source_more os os' more q verdict valid name (inr h) = inr h

  -- ## Messages heard

  -- a vote: every proposal is as it was
  vote_files : {os : List Out} (v : Votes) (d : Desk) → Files os d → (r i name : ℕ) → i < 32 → Files os (hear_vote v d r i name)
  vote_files v d f r i name hi =
      let b = beside_vote v d r i name in
      let same = vote_sheets v d r i name hi in
      let now : current (hear_vote v d r i name) ≡ current d = ap (λ (x : Stand). x.round.0) b.stand_same in
      record {
        roll_is = b.roll_same ∙ f.roll_is;
        rounds_are = b.rounds_same ∙ f.rounds_are;
        there = omega (arith, now, f.there);
        places = b.length_same ∙ f.places;
        sized = b.sized_same f.sized;
        sheets = λ q t. let s = same q in rw (s.0, s.1, s.2) (f.sheets q (rw s.0 at t));
        offers = λ q valid name i. let o = f.offers q valid name i in let s = same q in (omega (arith, now, o.0), s.0 ∙ o.1, s.1 ∙ o.2, s.2 ∙ o.3);
      }

  -- a proposal, after which os' is all that was put out: each one in it is another round's of before, or this one, judged good
  module _ {os : List Out} (os' : List Out) (d : Desk) (f : Files os d) (r : ℕ) (good : Bool) (valid name : ℕ) (less : r < most_rounds) where
    abbrev u : Desk
    u = hear_proposal d r good valid name

    proposal_files : Source os' r (if good then 2 else 1) valid name → ((x : Out) → In x os → In x os') →
        ((q v n : ℕ) → In (offer q v n) os' → (In (offer q v n) os × (q ≡ r → ⊥)) ⊎ ((offer q v n ≡ offer r valid name) × (good ≡ true) × (r ≤ current d))) →
        Files os' (hear_proposal d r good valid name)
    unfolding hear_proposal
    proposal_files source more known = record {
      roll_is = f.roll_is;
      rounds_are = f.rounds_are;
      there = f.there;
      places = (beside_proposal d r good valid name).length_same ∙ f.places;
      sized = (beside_proposal d r good valid name).sized_same f.sized;
      sheets = λ q. sheet q (ℕ_discrete q r);
      offers = λ q v n i. offered q v n (known q v n i);
    }
      where
        here : ((heard u r).proposal ≡ (if good then 2 else 1)) × ((heard u r).valid ≡ valid) × (proposed u r ≡ name)
        here = proposal_same d r good valid name f.sized less (rw f.places (omega (arith, less)))

        sheet : (q : ℕ) → Dec (q ≡ r) → spoken (heard u q) ≡ true → Source os' q (heard u q).proposal (heard u q).valid (proposed u q)
        sheet q (yes e) t = rw (e, here.0, here.1, here.2) source
        sheet q (no n) t =
            let o = proposal_other d r good valid name q n in
            rw (o.0, o.1) (source_more os os' more q (heard d q).proposal (heard d q).valid (proposed d q) (f.sheets q (rw o.0 at t)))

        offered : (q v n : ℕ) → (In (offer q v n) os × (q ≡ r → ⊥)) ⊎ ((offer q v n ≡ offer r valid name) × (good ≡ true) × (r ≤ current d)) →
            (q ≤ current d) × ((heard u q).proposal ≡ 2) × ((heard u q).valid ≡ v) × (proposed u q ≡ n)
        offered q v n (inl h) = let o = proposal_other d r good valid name q h.1 in rw (o.0, o.1) (f.offers q v n h.0)
        offered q v n (inr h) =
            let field : (k : ℕ) → get_or (q ∷ v ∷ n ∷ []) k 0 ≡ get_or (r ∷ valid ∷ name ∷ []) k 0 = λ k. ap (λ (o : Out). get_or (fields o) k 0) h.0 in
            rw (field 0, field 1, field 2) (h.2, here.0 ∙ rw h.1, here.1, here.2)

  -- ## What a kiosk does on its own, where `before` was put out before the call

  module _ (few : roll.kiosks ≤ 32) (own_seat : roll.own < roll.kiosks) (before : List Out) where
    abbrev all_out : Desk → List Out
    all_out d = before ++ acts d.sent

    abbrev Goes : Desk → Type 0
    Goes d = StandsSo (all_out d) d.rounds d.state d.table

    mine : roll.own < 32
    mine = omega (arith, few, own_seat)

    own_low : (d : Desk) → Files (all_out d) d → own d < 32
    own_low d f = rw f.roll_is mine

    -- an output that is no proposal
    say : {rounds round : ℕ} {r : Roll} {l : List ℕ} {t : List ℕ} (sent : List Output) (o : Output) → fields (act o) ≡ [] →
        FilesSo (before ++ acts sent) rounds r round l t → FilesSo (before ++ acts (sent ++ o ∷ [])) rounds r round l t
    say {rounds} {round} {r} {l} {t} sent o none f =
        let os : List Out = before ++ acts sent in
        subst (λ (x : List Out). FilesSo x rounds r round l t) (sym (acts_more before sent (o ∷ [])))
        (record {
          roll_is = f.roll_is;
          rounds_are = f.rounds_are;
          there = f.there;
          places = f.places;
          sized = f.sized;
          sheets = λ q s. source_more os (os ++ (act o ∷ [])) (λ x. InLeft x os (act o ∷ [])) q _ _ _ (f.sheets q s);
          offers = λ q valid name i.
              ⊎_elim
              (λ z. f.offers q valid name z)
              (λ z. absurd (let e : length (q ∷ valid ∷ name ∷ []) ≡ 0 = ap (λ (x : Out). length (fields x)) z ∙ ap (λ (x : List ℕ). length x) none in omega (arith, e)))
              (InLast (offer q valid name) (act o) os (act o ∷ []) refl i);
        })

    prevote_goes : (name : ℕ) (d : Desk) → is_propose (step d) ≡ true → Goes d → Goes (vote Prevotes name d)
    unfolding vote message hear_vote
    prevote_goes name d s g =
        let f = g.files in
        record {
          files = say d.sent (output 2 (current d) 0 name) refl (vote_files Prevotes d f (current d) (own d) name (own_low d f));
          unbacked = λ l. g.unbacked (omega (arith, at_propose (step d) s));
          own_prevote = λ l. subst (λ (x : Roll). marked (heard (hear_vote Prevotes d (current d) (own d) name) (current d)).prevotes x.own ≡ true) f.roll_is
              (vote_marked Prevotes d (current d) (own d) name f.sized f.there);
        }

    precommit_goes : (name : ℕ) (d : Desk) → Files (all_out d) d → marked (heard d (current d)).prevotes roll.own ≡ true → Goes (vote Precommits name d)
    unfolding vote message hear_vote
    precommit_goes name d f voted = record {
      files = say d.sent (output 3 (current d) 0 name) refl (vote_files Precommits d f (current d) (own d) name (own_low d f));
      unbacked = λ l. absurd (omega (arith, l));
      own_prevote = λ l. vote_kept Precommits d (current d) (own d) name Prevotes (current d) roll.own voted;
    }

    -- a timer asked for, or the height ended
    note_goes : (d : Desk) (p : Phase) (a : Asked) (o : Output) → fields (act o) ≡ [] → Goes d →
        Goes (send o (with_state (with_phase p (with_stand (with_asked a d.state.progress.stand) d.state)) d))
    note_goes d p a o none g = record { files = say d.sent o none g.files; unbacked = g.unbacked; own_prevote = g.own_prevote }

    -- a round entered, in which nothing was proposed here, nor in a later one
    start_goes : (x r : ℕ) (d : Desk) → Files (all_out d) d → r < most_rounds → ((q valid name : ℕ) → In (offer q valid name) (all_out d) → q < r) → Goes (start_round x r d)
    unfolding start_round propose ask message hear_proposal
    start_goes x r d f less low =
        let e = with_state (with_stand (entered r) d.state) d in
        let sheet = sheet_to_propose x d in
        let valid = d.state.progress.valid.next.0 in
        let os = all_out d in
        let turn = eqb (proposer d.state.roll r) (own d) in
        let fe : Files os e = record {
          roll_is = f.roll_is;
          rounds_are = f.rounds_are;
          there = less;
          places = f.places;
          sized = f.sized;
          sheets = f.sheets;
          offers = λ q v n i. let o = f.offers q v n i in (omega (arith, low q v n i), o.1, o.2, o.3);
        } in
        by_test Goes (turn && not (eqb sheet 0))
        (λ t.
        let new : List Out = offer r valid sheet ∷ [] in
        let own_turn : proposer roll r ≡ roll.own = rw f.roll_is at (eqb-true (proposer d.state.roll r) (own d) (and_left turn (not (eqb sheet 0)) t)) in
        let fp : Files (os ++ new) (hear_proposal e r true valid sheet)
        = proposal_files (os ++ new) e fe r true valid sheet less (inl (refl, own_turn, InRight (offer r valid sheet) os new (inl refl))) (λ y. InLeft y os new)
        (λ q v n i. ⊎_elim
        (λ z. inl (z, λ same. let l = low q v n z in omega (arith, l, same)))
        (λ z. inr (z, refl, omega arith))
        (InLast (offer q v n) (offer r valid sheet) os new refl i)) in
        record {
          files = subst (λ (y : List Out). Files y (hear_proposal e r true valid sheet)) (sym (acts_more before d.sent (output 1 r valid sheet ∷ []))) fp;
          unbacked = λ l. refl;
          own_prevote = λ l. absurd (omega (arith, l));
        })
        (λ t. record { files = say d.sent (output 4 r 0 0) refl fe; unbacked = λ l. refl; own_prevote = λ l. absurd (omega (arith, l)) })

    deed_goes : (x : ℕ) (d u : Desk) → Deed x d u → Goes d → Goes u
    unfolding ask fire_49
    deed_goes x d u (prevotes name s why e) g = subst Goes (sym e) (prevote_goes name d s g)
    deed_goes x d u (precommits_nil s e) g = subst Goes (sym e) (precommit_goes 0 d g.files (g.own_prevote (omega (arith, at_prevote (step d) s))))
    deed_goes x d u (locks name s why e) g =
        let c = with_state (with_locked (held (current d) name) (holding name d)) d in
        subst Goes (sym e) (precommit_goes name c g.files (g.own_prevote (omega (arith, at_prevote (step d) s))))
    deed_goes x d u (holds name s t why e) g =
        subst Goes (sym e) (record { files = g.files; unbacked = λ l. absurd (omega (arith, l, past_prevote (step d) s t)); own_prevote = g.own_prevote })
    deed_goes x d u (asks_prevote s a l e) g = subst Goes (sym e) (note_goes d _ _ (output 5 (current d) 0 0) refl g)
    deed_goes x d u (asks_precommit a l e) g = subst Goes (sym e) (note_goes d _ _ (output 6 (current d) 0 0) refl g)
    deed_goes x d u (settles r name why e) g = subst Goes (sym e) (note_goes d _ _ (output 7 r 0 name) refl g)
    deed_goes x d u (enters r more there e) g =
        subst Goes (sym e)
        (start_goes x r d g.files (omega (arith, there, g.files.rounds_are)) (λ q valid name i. let o = g.files.offers q valid name i in omega (arith, o.0, more)))

    -- ## What an input does before the rules

    module _ (d : Desk) (i : Input) (g : Goes d) (new : (j : ℕ) (o : Out) → brings i j o → A j o) where
      sender_low : Message d i → i.sender < 32
      sender_low m = let seat : i.sender < roll.kiosks = rw g.files.roll_is at m.seat in omega (arith, few, seat)

      round_there : Message d i → i.round.0 < most_rounds
      round_there m = omega (arith, m.round, g.files.rounds_are)

      -- from the round's proposer, which is another seat
      heard_proposal : Message d i → i.kind ≡ 2 → i.sender ≡ proposer d.state.roll i.round.0 → spoken (heard d i.round.0) ≡ false
          → Goes (hear_proposal d i.round.0 (eqb i.verdict 1) i.valid.0 i.name)
      unfolding hear_proposal
      heard_proposal m k turn unheard =
          let r = i.round.0 in
          let f = g.files in
          let from : i.sender ≡ proposer roll r = rw f.roll_is at turn in
          let another : i.sender ≡ roll.own → ⊥ = rw f.roll_is at m.other in
          let arrived : A i.sender (offer r i.valid.0 i.name) = new i.sender (offer r i.valid.0 i.name) (rw k, refl, rw k) in
          record {
            files = proposal_files (all_out d) d f r (eqb i.verdict 1) i.valid.0 i.name (round_there m)
                (inr (λ e. another (from ∙ e), subst (λ (j : ℕ). A j (offer r i.valid.0 i.name)) from arrived))
                (λ x h. h)
                (λ q v n h. inl (
                  h,
                  λ e.
                      let said : (heard d r).proposal ≡ 2 = subst (λ (y : ℕ). (heard d y).proposal ≡ 2) e (f.offers q v n h).1 in
                      true≢false (sym (ap (λ (y : ℕ). not (eqb y 0)) said) ∙ unheard),
                ));
            unbacked = g.unbacked;
            own_prevote = λ l. rw (proposal_votes d r (eqb i.verdict 1) i.valid.0 i.name Prevotes (current d) 0 (omega arith)).0 (g.own_prevote l);
          }

      heard_vote : (v : Votes) → Message d i → Goes (hear_vote v d i.round.0 i.sender i.name)
      heard_vote v m =
          let b = beside_vote v d i.round.0 i.sender i.name in
          record {
            files = rw b.sent_same (vote_files v d g.files i.round.0 i.sender i.name (sender_low m));
            unbacked = rw b.stand_same g.unbacked;
            own_prevote = rw b.stand_same (λ l. vote_kept v d i.round.0 i.sender i.name Prevotes (current d) roll.own (g.own_prevote l));
          }

      -- before start nothing was proposed
      module _ (begun : (q valid name : ℕ) → In (offer q valid name) (all_out d) → is_fresh d.state.progress.phase ≡ false) where
        taken_goes : (u : Desk) → Taken d i u → Goes u
        taken_goes u (starts fresh k e) =
            subst Goes (sym e)
            (start_goes i.offer 0 (with_state (with_phase Running d.state) d) g.files (omega arith)
            (λ q valid name h. absurd (true≢false (sym fresh ∙ begun q valid name h))))
        taken_goes u (hears_proposal m k turn some low n e) = subst Goes (sym e) (heard_proposal m k turn n)
        taken_goes u (hears_vote v m k n e) = subst Goes (sym e) (heard_vote v m)
        taken_goes u (timer run late did) = deed_goes i.offer d u did g

        called : Passes d i → Goes (worked i d)
        called p = call_keeps d i p Goes taken_goes (λ e u run did h. deed_goes i.offer e u did h)

  -- ## Calls, one after the other

  -- between calls
  record Rest (os : List Out) (p : Past) : Type 0 where
    stands : StandsSo os most_rounds p.kiosk.state p.table
    begun : (q valid name : ℕ) → In (offer q valid name) os → is_fresh p.kiosk.state.progress.phase ≡ false

  rest_begins : Rest [] (beginning roll)
  unfolding told
  rest_begins = record {
    stands = record {
      files = record {
        roll_is = refl;
        rounds_are = refl;
        there = omega arith;
        places = length-replicate {A = ℕ} table_length 0;
        sized = record { size = refl };
        sheets = λ q t. absurd (false≢true (sym (ap (λ (n : ℕ). not (eqb n 0)) (zeros_at log_length (proposal_at q))) ∙ t));
        offers = λ q valid name h. absurd h;
      };
      unbacked = λ l. refl;
      own_prevote = λ l. absurd (omega (arith, l));
    };
    begun = λ q valid name h. absurd h;
  }

  rest_after : roll.kiosks ≤ 32 → roll.own < roll.kiosks → (os : List Out) (p : Past) (i : Input) → takes p i ≡ true → ((j : ℕ) (o : Out) → brings i j o → A j o)
      → Rest os p → Rest (os ++ acts (does p i).sent) (after p i)
  rest_after few own_seat os p i t new q =
      let pass = accepted_passes p.kiosk.used p.kiosk p.table i t in
      let k = p.kiosk.state in
      let all : os ++ [] ≡ os = append-nil os in
      let g : StandsSo (os ++ []) most_rounds k p.table = subst (λ (x : List Out). StandsSo x most_rounds k p.table) (sym all) q.stands in
      let b = subst (λ (x : List Out). (q valid name : ℕ) → In (offer q valid name) x → is_fresh k.progress.phase ≡ false) (sym all) q.begun in
      record {
        stands = rw (rounds_stay p i) at (called few own_seat os (at p) i g new b pass);
        begun = λ r valid name h. (worked_sound (at p) i (accepted_fits p.kiosk.used p.kiosk p.table i t) pass refl).started;
      }

-- so of every history
pub owns : {roll : Roll} {cs : List Call} {p : Past} → History roll cs p → Owns roll (arrivals cs) (acts (sent_in cs)) (at p)
owns {roll} {cs} h =
    let r = history_told h (Rest roll (arrivals cs)) (rest_begins roll (arrivals cs)) (rest_after roll (arrivals cs)) in
    let f = r.stands.files in
    record {
      sized = f.sized;
      unbacked = r.stands.unbacked;
      own_prevote = r.stands.own_prevote;
      sheets = f.sheets;
      offers = λ q valid name i. let o = f.offers q valid name i in (o.0, r.begun q valid name i, o.1, o.2, o.3);
    }

-- a proposal held has a name, and a valid round before its own
pub sheet_fits : {roll : Roll} {cs : List Call} {p : Past} → History roll cs p → (q : ℕ) → q < most_rounds → spoken (heard (at p) q) ≡ true
    → (proposed (at p) q ≡ 0 → ⊥) × ((heard (at p) q).valid ≤ q)
sheet_fits {p = p} h q less = (round_told (at p) q (all_holds most_rounds (λ r. round_fits (at p) r) (fits (at p) (steady h).possible).rounds_fit q less)).sheet

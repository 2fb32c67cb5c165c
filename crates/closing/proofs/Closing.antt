-- C-22: a good round always closes. At the end of the play each kiosk has left the propose step, so its prevote stands in its journal; all
-- these came to all, so each has precommitted; and all those came, so none runs on. Assumes nothing.
use Prim.Native.Nat.{ℕ, ◌≤◌}
use mathlib.Core.Path.{◌≡◌, ap, subst}
use mathlib.Core.Logic.{⊎_elim}
use mathlib.Core.List.{List, []}
use mathlib.Core.Bool.{true}
use native.Mathlib.Omega.{arith}
use native.Mathlib.Decide.{ℕ_discrete}
use Rattle.words.specs.Marks.{marked}
use Rattle.words.specs.Members.{In}
use Rattle.rules.specs.declared.Votes.TheVariants.{Prevotes, Precommits}
use Rattle.rules.specs.declared.Phase.TheVariants.{Running, Settled}
use Rattle.rules.specs.Log.{heard, proposed}
use Rattle.rules.specs.Doing.{step}
use Rattle.history.specs.Histories.{Past, sent_in}
use Rattle.agreement.specs.Weigh.{Seats}
use Rattle.agreement.specs.Moves.{Out, prevote, precommit, settled}
use Rattle.agreement.specs.System.{Sound}
use Rattle.agreement.proofs.System.{step_all, one_sheet_told}
use Rattle.market.specs.Seat.{acts, step_number}
use Rattle.market.specs.Kiosks.{kiosk_of}
use Rattle.market.specs.Demand3.{roll_at, scale, World, Reached, Leads, here, further, PutOut}
use Rattle.market.proofs.Settled.{settling, settled_so}
use Rattle.market.proofs.Honest.{at}
use Rattle.market.proofs.Each.{Terms, law, shared, Such, All, recalls, recalled_out, out_recalled}
use Rattle.closing.specs.Waves.{Keeps, Delivery, Play}
use Rattle.closing.specs.Closing.{Proposal, turn_of, GoodRound, LargeTogether, MayArrive, ThreeWaves, Closed, Closes}
use Rattle.closing.proofs.Weights.{keeping_large}
use Rattle.closing.proofs.Rest.{past_precommits}
use Rattle.closing.proofs.Messages.{brings_vote}
use Rattle.closing.proofs.Beginning.{recalls_so, ground, waits, own_offer, q}
use Rattle.closing.proofs.Plays.{On, KeepsOn, meant_vote, vote_of, after_proposal, after_prevotes, play_keeps}

module _ {powers : List ℕ} {height : ℕ} {keeps : Seats} (m : Terms powers height keeps) {v : World powers height keeps} (reach : Reached powers height keeps v) {g : Proposal}
    (s : GoodRound (λ p. p ≡ Running) powers height keeps v g)
    {w : World powers height keeps} {ds : List Delivery} (play : Play powers height keeps (MayArrive powers height keeps g) v w ds)
    (came : ThreeWaves powers height keeps g w ds) where
  abbrev turn : ℕ
  turn = turn_of powers height g

  abbrev Is : ℕ → Type 0
  Is i = Keeps powers keeps i

  abbrev Says : ℕ → Out → Type 0
  Says i o = PutOut powers height keeps w i o

  starts : All m (On m (ground m reach s) s.turn []) v
  starts i hi ki =
      (q m reach s i (hi, ki), record { waits_on = waits m reach s i (hi, ki); own_offer = own_offer m reach s i (hi, ki); held = λ x a. absurd a })

  all : All m (On m (ground m reach s) s.turn ds) w
  all = play_keeps m (ground m reach s) s.turn v starts play

  -- ## Each kiosk at the end of the play

  module _ (i : ℕ) (ki : Is i) where
    abbrev sound : Sound (law m i ki.0) keeps (w.board i) w.air
    sound = (all i ki.0 ki.1).0

    abbrev p : Past
    p = (law m i ki.0).memory sound.history

    abbrev outs : List Out
    outs = (law m i ki.0).outs sound.history

    abbrev on_it : KeepsOn m (ground m reach s) s.turn ds i outs p
    on_it = (all i ki.0 ki.1).1

    put_out : (o : Out) → In o outs → Says i o
    put_out o = recalled_out m i ki.0 w o sound

    past_propose : 1 ≤ step_number (step (at p))
    past_propose = after_proposal m (ground m reach s) s.turn ds i ki outs p on_it (came.proposal_came i ki)

    prevoted : Says i (prevote g.round g.name)
    prevoted = put_out _ (on_it.waits_on.tells.said_votes Prevotes past_propose)

  module _ (i : ℕ) (ki : Is i) where
    past_prevote : step_number (step (at (p i ki))) ≡ 2
    past_prevote =
        after_prevotes m (ground m reach s) s.turn ds i ki (outs i ki) (p i ki) (on_it i ki) (past_propose i ki)
        (λ j kj n. (g.name, came.prevotes_came i j g.name ki kj n (prevoted j kj)))

    precommitted : Says i (precommit g.round g.name)
    precommitted = put_out i ki _ ((on_it i ki).waits_on.tells.said_votes Precommits (omega (arith, past_prevote)))

  module _ (i : ℕ) (ki : Is i) where
    -- while it runs it holds every precommit, and so no longer runs
    held : (p i ki).kiosk.state.progress.phase ≡ Running → (j : ℕ) → Is j → Dec (j ≡ i) → marked (heard (at (p i ki)) g.round).precommits j ≡ true
    held run j kj (yes e) = rw e ((on_it i ki).waits_on.stands.own_votes Precommits (omega (arith, past_prevote i ki)))
    held run j kj (no n) =
        let c = came.precommits_came i j g.name ki kj n (precommitted j kj) in
        let b = brings_vote c.0 c.2.brings_it.0 Precommits g.round g.name c.2.brings_it.2 in
        vote_of m (ground m reach s) s.turn ds i ki (outs i ki) (p i ki) (on_it i ki) Precommits run c.0 j b.0 b.1 c.2.brings_it.1
        ((on_it i ki).held c.0 c.1 (meant_vote m (ground m reach s) s.turn i j 4 c.0 _ n c.2 (b.0, b.1) (λ z. omega (arith, z))))

    settles : (p i ki).kiosk.state.progress.phase ≡ Settled (record { 0 = g.round })
    settles =
        ⊎_elim
        (λ run. absurd (past_precommits (roll_at powers height i) keeps g (ground m reach s i ki) (at (p i ki)) (on_it i ki).waits_on.stands (on_it i ki).waits_on.rest run
        (past_propose i ki) (λ j hj kj. held run j (hj, kj) (ℕ_discrete j i))))
        (λ e. e.0)
        (on_it i ki).waits_on.stands.going

    sheet : proposed (at (p i ki)) g.round ≡ g.name
    sheet = ((on_it i ki).waits_on.stands.holds.sheet ((on_it i ki).waits_on.stands.spoke (past_propose i ki))).2

    settled_said : In (settled g.round g.name) (outs i ki)
    settled_said =
        let c = recalls m i ki.0 (sound i ki).history in
        let is : settling (p i ki) ≡ settled g.round g.name = rw settles (ap {B = Out} (settled g.round) sheet) in
        rw c.2 (subst (λ (o : Out). In o (acts (sent_in c.0))) is (settled_so c.1 (rw settles)))

  -- ## And nobody ever settles another

  abbrev Has : Such m
  Has i hi ki h = In (settled g.round g.name) ((law m i hi).outs h)

  has_on : {u : World powers height keeps} → Leads powers height keeps w u → All m Has u
  has_on here = λ i hi ki. (sound i (hi, ki), settled_said i (hi, ki))
  has_on (further {w = u} {w' = u'} l st) =
      step_all (scale powers height) keeps (kiosk_of powers height) (shared m) Has (λ i hi ki h x r d y a. (law m i hi).more_outs h x r d y _ a) u u' st (has_on l)

  no_other : (u : World powers height keeps) → Leads powers height keeps w u → (j r name : ℕ) → Is j → PutOut powers height keeps u j (settled r name) → name ≡ g.name
  no_other u l j r name kj o =
      let a = has_on l in
      one_sheet_told (scale powers height) keeps (kiosk_of powers height) (shared m) u (λ i hi ki. (a i hi ki).0) j turn r g.round name g.name
      kj.0 kj.1 s.turn.0 s.turn.1
      (λ hj kj. out_recalled m j hj u (settled r name) (a j hj kj).0 o)
      (λ hi ki. (a turn hi ki).1)

  closed : Closed powers height keeps g w
  closed = record {
    put_out = λ i ki. put_out i ki _ (settled_said i ki);
    holds = λ i ki x r. rw (recalls_so m i ki.0 (sound i ki) r) (settles i ki, sheet i ki);
    no_other = no_other;
  }

-- C-22
pub closes : Closes
closes powers height keeps fits tall third v reach g s w ds play came = closed (record { fits = fits; tall = tall; few = omega (arith, third) }) reach s play came

-- its words "rule-keeping kiosks are large together" say no more than 3B < T
pub large_together : LargeTogether
large_together powers height keeps fits tall third w reach = keeping_large (roll_at powers height 0) keeps third

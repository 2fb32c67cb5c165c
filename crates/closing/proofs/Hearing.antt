-- Messages in a good round: each that is accepted keeps a rule-keeping kiosk where it stands or takes it on, and is heard; what is refused
-- of the round is heard already, or the kiosk has settled. Assumes nothing.
use Rattle.std.specs.Bool.{if◌then◌else◌}
use Prim.Native.Nat.{ℕ, ◌≤◌, ◌<◌}
use mathlib.Core.Path.{◌≡◌, refl, sym, ap, subst, ◌∙◌}
use mathlib.Core.Logic.{◌⊎◌, inl, inr, ⊎_elim}
use mathlib.Core.List.{List, ◌++◌, append-nil}
use mathlib.Core.Bool.{Bool, true, false, ◌||◌, not, true≢false, false≢true}
use native.Mathlib.Omega.{arith}
use lib.Dec.{eqb, leb}
use borrow.Author.Tests.{eqb-true, eq-eqb, ne_eqb, le-leb, lt-leb}
use Rattle.words.specs.Marks.{marked}
use Rattle.words.proofs.Choice.{by_cases, and_false, or_case}
use Rattle.roll.specs.declared.Roll.{Roll}
use Rattle.roll.specs.Weighing.{proposer}
use Rattle.rules.specs.declared.Votes.{Votes}
use Rattle.rules.specs.declared.Votes.TheVariants.{Prevotes, Precommits}
use Rattle.rules.specs.declared.Input.{Input}
use Rattle.rules.specs.declared.Phase.{Phase}
use Rattle.rules.specs.declared.Phase.TheVariants.{Running, Settled}
use Rattle.rules.specs.Kinds.{vote_in}
use Rattle.rules.specs.State.{most_rounds, marks_of, is_fresh, spoken}
use Rattle.rules.specs.Log.{Desk, heard, hear_proposal, hear_vote}
use Rattle.rules.specs.Doing.{step}
use Rattle.rules.specs.Work.{take_in, most_firings, worked}
use Rattle.rules.proofs.Hearing.{vote_marked, vote_heard, proposal_votes, proposal_spoken}
use Rattle.refusals.specs.Answers.{is_accepted}
use Rattle.refusals.specs.Refusals.{is_proposal, is_vote, fields_fit, place_heard, refused_input}
use Rattle.kiosk.proofs.Accepted.{fits, rests, Passes, welcome, fields_of, accepted_passes}
use Rattle.kiosk.proofs.Taken.{Message, Taken, starts, hears_proposal, hears_vote, timer, taken}
use Rattle.history.specs.Histories.{Past, does, after, takes}
use Rattle.history.proofs.Steady.{possible_after}
use Rattle.agreement.specs.Weigh.{Seats}
use Rattle.agreement.specs.Moves.{Out}
use Rattle.market.specs.Seat.{acts, step_number}
use Rattle.market.proofs.Votes.{vote_there, Beside, beside_vote, beside_proposal}
use Rattle.market.proofs.Honest.{at}
use Rattle.closing.specs.Closing.{Proposal}
use Rattle.closing.proofs.Situation.{Ground, Holds, Stands, Acts, Waits, Fair}
use Rattle.closing.proofs.Later.{Later, later_same, later_then, vote_later, proposal_later}
use Rattle.closing.proofs.Holding.{holds_same, vote_holds, proposal_holds}
use Rattle.closing.proofs.Standing.{fired_next}

-- what each of two answers gives, the choice gives
either : (c : Bool) {a b u v : Bool} → (a ≡ true → u ≡ true) → (b ≡ true → v ≡ true) → (if c then a else b) ≡ true → (if c then u else v) ≡ true
either true f h = f
either false f h = h

-- a message is of kind 2, 3 or 4
message_kind : (x : Input) → (is_proposal x || is_vote x) ≡ true → (2 ≤ x.kind) × (x.kind ≤ 4)
message_kind x m =
    ⊎_elim (λ e. let k = eqb-true x.kind 2 e in (omega (arith, k), omega (arith, k)))
    (λ v. ⊎_elim
    (λ e. let k = eqb-true x.kind 3 e in (omega (arith, k), omega (arith, k)))
    (λ e. let k = eqb-true x.kind 4 e in (omega (arith, k), omega (arith, k)))
    (or_case (eqb x.kind 3) (eqb x.kind 4) v))
    (or_case (is_proposal x) (is_vote x) m)

-- a kiosk that runs or has settled has started
started : {p : Phase} {n : ℕ} {A : Type 0} → (p ≡ Running) ⊎ ((p ≡ Settled (record { 0 = n })) × A) → is_fresh p ≡ false
started (inl e) = rw e
started (inr e) = rw e.0

module _ (roll : Roll) (keeps : Seats) (g : Proposal) (b : Ground roll keeps g) where
  -- what is heard of the round stays heard
  pub heard_later : (d u : Desk) → Later g.round d u → (x : Input) → x.round.0 ≡ g.round → place_heard d x ≡ true → place_heard u x ≡ true
  unfolding place_heard
  heard_later d u l x e =
      either (is_proposal x) (subst (λ (r : ℕ). spoken (heard d r) ≡ true → spoken (heard u r) ≡ true) (sym e) l.spoke)
      (either (eqb x.kind 3)
      (subst (λ (r : ℕ). marked (heard d r).prevotes x.sender ≡ true → marked (heard u r).prevotes x.sender ≡ true) (sym e) (l.votes Prevotes x.sender))
      (either (eqb x.kind 4)
      (subst (λ (r : ℕ). marked (heard d r).precommits x.sender ≡ true → marked (heard u r).precommits x.sender ≡ true) (sym e) (l.votes Precommits x.sender))
      (λ h. h)))

  -- ## An accepted message

  module _ (before : List Out) (d : Desk) (a : Acts roll keeps g before d) (x : Input) (f : Fair roll keeps g d x) where
    -- the kiosk acts on, nothing is lost, and the message is heard
    abbrev Next : Desk → Type 0
    Next u = Acts roll keeps g before u × Later g.round d u × (place_heard u x ≡ true)

    s : Stands roll keeps g d
    s = a.stands

    h : Holds roll keeps g d
    h = s.holds

    -- a message changes the log and the table alone
    acts_on : (u : Desk) → Beside d u → Later g.round d u → Holds roll keeps g u →
        (step_number (step d) < 2 → (j : ℕ) → j < roll.kiosks → marked (heard u g.round).precommits j ≡ true → keeps j ≡ false) →
        Acts roll keeps g before u
    acts_on u e t holds early = record {
      stands = record {
        holds = holds;
        round = rw e.stand_same s.round;
        going = rw (e.stand_same, e.phase_same) s.going;
        lock = rw e.locked_same s.lock;
        early = rw e.stand_same early;
        unbacked = rw e.stand_same s.unbacked;
        spoke = λ l. t.spoke (s.spoke (rw e.stand_same at l));
        own_votes = λ v l. t.votes v roll.own (s.own_votes v (rw e.stand_same at l));
      };
      tells = rw (e.stand_same, e.sent_same) a.tells;
    }

    module _ (m : Message d x) where
      there : x.round.0 < most_rounds
      there = rw h.rounds_are at m.round

      seat : x.sender < roll.kiosks
      seat = rw h.roll_is at m.seat

      low_seat : x.sender < 32
      low_seat = omega (arith, b.few_kiosks, seat)

      -- an input of a vote's kind is one, and is heard where its mark is set
      vote_input : (v : Votes) (u : Desk) → x.kind ≡ vote_in v → (is_vote x ≡ true) × (place_heard u x ≡ marked (marks_of v (heard u x.round.0)) x.sender)
      unfolding place_heard
      vote_input Prevotes u e = (rw e, rw e)
      vote_input Precommits u e = (rw e, rw e)

      vote_next : (v : Votes) → x.kind ≡ vote_in v → Next (hear_vote v d x.round.0 x.sender x.name)
      vote_next v e =
          let q = x.round.0 in
          let u = hear_vote v d q x.sender x.name in
          let t = vote_later v d q x.sender x.name g.round f.not_earlier low_seat in
          let i = vote_input v u e in (
            acts_on u (beside_vote v d q x.sender x.name) t
                (vote_holds roll keeps g b.few_kiosks b.low d h q f.not_earlier there v x.sender x.name seat (f.vote_now i.0))
                (λ l j n z.
                ⊎_elim
                (λ y. by_cases (keeps j) (λ kj. absurd (omega (arith, l, f.late (e ∙ ap vote_in y.0) (rw y.2 at kj)))) (λ kj. kj))
                (λ y. s.early l j n y.0)
                (vote_heard v d q x.sender x.name low_seat (vote_there v d q x.sender low_seat there h.places) Precommits g.round j (omega (arith, b.few_kiosks, n)) z)),
            t,
            i.1 ∙ vote_marked v d q x.sender x.name h.sized there,
          )

      -- the round's proposal is heard good
      the_one : x.kind ≡ 2 → x.round.0 ≡ g.round → (eqb x.verdict 1 ≡ true) × (x.valid.0 ≡ g.valid) × (x.name ≡ g.name)
      the_one k e =
          let now = f.proposal_now (eq-eqb x.kind 2 k) e in
          (eq-eqb x.verdict 1 (omega (arith, now.0)), now.1, now.2)

      proposal_next : x.kind ≡ 2 → Next (hear_proposal d x.round.0 (eqb x.verdict 1) x.valid.0 x.name)
      unfolding place_heard
      proposal_next k =
          let q = x.round.0 in
          let v = eqb x.verdict 1 in
          let u = hear_proposal d q v x.valid.0 x.name in
          let t = proposal_later d q v x.valid.0 x.name g.round f.not_earlier in (
            acts_on u (beside_proposal d q v x.valid.0 x.name) t
                (proposal_holds roll keeps g b.few_kiosks b.low d h q f.not_earlier there v x.valid.0 x.name (the_one k) (f.proposal_ahead (eq-eqb x.kind 2 k)))
                (λ l j n z. s.early l j n (rw (proposal_votes d q v x.valid.0 x.name Precommits g.round 0 (omega arith)).0 at z)),
            t,
            rw k (proposal_spoken d q v x.valid.0 x.name h.sized there),
          )

    taken_next : (u : Desk) → x.kind ≤ 7 → Taken d x u → Next u
    taken_next u high (starts fresh k e) = absurd (false≢true (sym (started s.going) ∙ fresh))
    taken_next u high (hears_proposal m k turn some low n e) = subst Next (sym e) (proposal_next m k)
    taken_next u high (hears_vote v m k n e) = subst Next (sym e) (vote_next m v k)
    taken_next u high (timer run late did) = absurd (true≢false (rw (le-leb 5 x.kind late, le-leb x.kind 7 high) at f.no_timer))

    -- and the rules after it
    worked_next : Passes d x → Acts roll keeps g before (worked x d) × Later g.round d (worked x d) × (x.round.0 ≡ g.round → place_heard (worked x d) x ≡ true)
    unfolding worked
    worked_next pass =
        let u = take_in x d in
        let n = taken_next u (fields_of d.state.roll.kiosks d.rounds x pass.fields).kind_high (taken d x pass) in
        let r = fired_next roll keeps g b before (most_firings d.rounds) x.offer u n.0 in
        (r.0, later_then g.round d u (worked x d) n.1 r.1, λ e. heard_later u (worked x d) r.1 x e n.2)

  -- ## Between calls

  module _ (os : List Out) (p : Past) (w : Waits roll keeps g os p) (x : Input) where
    -- a call with a fair message, accepted: the kiosk waits on, nothing is lost, and a message of the round is heard
    pub call_next : takes p x ≡ true → Fair roll keeps g (at p) x →
        Waits roll keeps g (os ++ acts (does p x).sent) (after p x) × Later g.round (at p) (at (after p x)) × (x.round.0 ≡ g.round → place_heard (at (after p x)) x ≡ true)
    unfolding place_heard
    call_next ok f =
        let u = does p x in
        let v = at (after p x) in
        let start : Acts roll keeps g os (at p) = record { stands = w.stands; tells = rw (append-nil os) w.tells } in
        let n = worked_next os (at p) start x f (accepted_passes p.kiosk.used p.kiosk p.table x ok) in
        let k = n.0.stands in
        let rounds : v.rounds ≡ u.rounds = sym k.holds.rounds_are in (
          record {
            stands = record {
              holds = holds_same roll keeps g u v rounds refl refl refl k.holds;
              round = k.round;
              going = k.going;
              lock = k.lock;
              early = k.early;
              unbacked = k.unbacked;
              spoke = k.spoke;
              own_votes = k.own_votes;
            };
            tells = n.0.tells;
            rest = rests v (fits v (possible_after p x ok)).rest (started k.going);
          },
          later_then g.round (at p) u v n.1 (later_same g.round u v rounds refl refl refl (omega arith)),
          n.2,
        )

    -- what is refused of the round's messages is heard, or the kiosk has settled
    pub refused_held : (is_proposal x || is_vote x) ≡ true → x.height.0 ≡ roll.height.0 → fields_fit roll.kiosks most_rounds x ≡ true →
        (x.sender ≡ roll.own → ⊥) → (is_proposal x ≡ true → x.sender ≡ proposer roll x.round.0) → is_accepted (refused_input (at p) x) ≡ false →
        ((at p).state.progress.phase ≡ Settled (record { 0 = g.round })) ⊎ (place_heard (at p) x ≡ true)
    refused_held m height fields other turn off =
        ⊎_elim (λ run. inr (by_cases (place_heard (at p) x) (λ e. e) (λ e. absurd (true≢false (sym (welcome (at p) x (passing run e)) ∙ off))))) (λ e. inl e.0) w.stands.going
      where
        on_roll : (at p).state.roll ≡ roll
        on_roll = w.stands.holds.roll_is

        passing : (at p).state.progress.phase ≡ Running → place_heard (at p) x ≡ false → Passes (at p) x
        passing run new =
            let k = message_kind x m in
            let young : leb 5 x.kind ≡ false = lt-leb 5 x.kind (omega (arith, k.1)) in
            record {
              unsettled = rw run;
              in_order = rw run (ne_eqb x.kind 1 (λ e. omega (arith, e, k.0)));
              height = rw on_roll (eq-eqb x.height.0 roll.height.0 height);
              fields = rw on_roll fields;
              not_own = rw (m, on_roll) (ne_eqb x.sender roll.own other);
              turn = rw on_roll (and_false (is_proposal x) (not (eqb x.sender (proposer roll x.round.0))) (λ e. rw (eq-eqb x.sender (proposer roll x.round.0) (turn e))));
              unheard = new;
              due = rw young;
              next_round = rw (ne_eqb x.kind 7 (λ e. omega (arith, e, k.1)));
            }

-- What a play of a good round keeps: every rule-keeping kiosk stands in the round, and what was delivered to it of the round it holds,
-- unless it has settled. Assumes nothing.
use Prim.Native.Nat.{ℕ, ◌≤◌, ◌<◌}
use mathlib.Core.Path.{◌≡◌, refl, sym, ap, subst, ◌∙◌}
use mathlib.Core.Logic.{◌≢◌, ◌⊎◌, inl, inr, ⊎_elim}
use mathlib.Core.List.{List, [], ◌∷◌, ◌++◌}
use mathlib.Core.Bool.{true, ◌||◌, true≢false, false≢true}
use native.Mathlib.Omega.{arith}
use native.Mathlib.Decide.{ℕ_discrete}
use lib.Dec.{eqb}
use lib.ListN.{length}
use borrow.Author.Tests.{eqb-true, not-false}
use Rattle.words.specs.Marks.{marked}
use Rattle.words.specs.Members.{In}
use Rattle.words.proofs.Choice.{by_cases, or_case, or_so}
use Rattle.roll.specs.declared.Roll.{Roll}
use Rattle.roll.specs.Weighing.{proposer}
use Rattle.rules.specs.declared.Votes.{Votes}
use Rattle.rules.specs.declared.Votes.TheVariants.{Prevotes, Precommits}
use Rattle.rules.specs.declared.Input.{Input}
use Rattle.rules.specs.declared.Phase.TheVariants.{Running, Settled}
use Rattle.rules.specs.Kinds.{vote_in}
use Rattle.rules.specs.State.{most_rounds, is_settled, marks_of, spoken}
use Rattle.rules.specs.Log.{Desk, heard}
use Rattle.rules.specs.Doing.{step}
use Rattle.refusals.specs.Answers.{is_accepted}
use Rattle.refusals.specs.Refusals.{is_proposal, is_vote, fields_fit, place_heard}
use Rattle.kiosk.proofs.Accepted.{Passes, accepted_passes, accepted_fields}
use Rattle.history.specs.Histories.{Past, does, after, takes}
use Rattle.history.proofs.Replies.{code_roomy}
use Rattle.agreement.specs.Weigh.{Seats}
use Rattle.agreement.specs.Moves.{Out, prevote}
use Rattle.agreement.specs.System.{Msg, write, change, send, Sound}
use Rattle.agreement.specs.System as system
use Rattle.agreement.proofs.System.{change_wider, on_so, write_keeps, change_keeps, change_all, send_all}
use Rattle.market.specs.Seat.{acts, message, step_number}
use Rattle.market.specs.Kiosks.{MayPut, kiosk_of}
use Rattle.market.specs.Demand3.{roll_at, scale, World, Leads, here, further}
use Rattle.market.proofs.Votes.{kind_of}
use Rattle.market.proofs.Honest.{at}
use Rattle.market.proofs.Each.{Terms, law, shared, Such, All, recalls, more_taken, more_past, more_sent}
use Rattle.closing.specs.Waves.{Keeps, Delivery, to, Carries, Delivered, Refuses, Play, begin, accepts, refuses, changes, sends}
use Rattle.closing.specs.Closing.{Proposal, turn_of, offer_of, TwoWaves, MayArrive}
use Rattle.closing.proofs.Situation.{Ground, Tells, Waits, Fair}
use Rattle.closing.proofs.Later.{Later}
use Rattle.closing.proofs.Messages.{says_vote, brings_proposal, brings_vote}
use Rattle.closing.proofs.Hearing.{call_next, refused_held, heard_later}
use Rattle.closing.proofs.Rest.{past_proposal, past_prevotes}

-- a play is made of the market's steps, where what may arrive is unforged
pub play_leads : {powers : List ℕ} {height : ℕ} {keeps : Seats} {May : List Msg → List Delivery → ℕ → Input → Type 0} →
    ((air : List Msg) (ds : List Delivery) (i : ℕ) (x : Input) → May air ds i x → system.Sees (scale powers height) keeps (kiosk_of powers height) air i x) →
    {v w : World powers height keeps} {ds : List Delivery} → Play powers height keeps May v w ds → Leads powers height keeps v w
play_leads seen begin = here
play_leads seen (accepts {w} {w'} {ds} before i x k may a) =
    further (play_leads seen before)
    (change i k.0 k.1 (write a.past a.next a.file a.longer x a.before (seen w.air ds i x may) a.puts a.after) a.others a.air)
play_leads seen (refuses before i x k r) = play_leads seen before
play_leads seen (changes {w} {w'} {ds} before i k c rest air) = further (play_leads seen before) (change i k.0 k.1 (change_wider (seen w.air ds i) c) rest air)
play_leads seen (sends before i p d o k eb put rest air) = further (play_leads seen before) (send i p d o k.0 k.1 eb put rest air)

module _ {powers : List ℕ} {height : ℕ} {keeps : Seats} (m : Terms powers height keeps) {g : Proposal}
    (base : (i : ℕ) → Keeps powers keeps i → Ground (roll_at powers height i) keeps g) (turn_keeps : Keeps powers keeps (turn_of powers height g)) where
  abbrev turn : ℕ
  turn = turn_of powers height g

  abbrev roll : ℕ → Roll
  roll i = roll_at powers height i

  -- it holds the message, or has settled
  abbrev pub Held : Desk → Input → Type 0
  Held d x = (d.state.progress.phase ≡ Settled (record { 0 = g.round })) ⊎ (place_heard d x ≡ true)

  -- a message of the round from another seat, as it is sent; the proposal from its proposer
  pub record Meant (i : ℕ) (x : Input) : Type 0 where
    pub any : (is_proposal x || is_vote x) ≡ true
    pub height_is : x.height.0 ≡ height
    pub fields : fields_fit (length powers) most_rounds x ≡ true
    pub other : x.sender ≢ i
    pub now : x.round.0 ≡ g.round
    pub whose : is_proposal x ≡ true → x.sender ≡ turn

  -- where seat i stands after these deliveries, os is all that it put out
  pub record KeepsOn (ds : List Delivery) (i : ℕ) (os : List Out) (p : Past) : Type 0 where
    pub waits_on : Waits (roll i) keeps g os p
    pub own_offer : i ≡ turn → spoken (heard (at p) g.round) ≡ true
    pub held : (x : Input) → In (to i x) ds → Meant i x → Held (at p) x

  abbrev pub On : List Delivery → Such m
  On ds i hi ki h = KeepsOn ds i ((law m i hi).outs h) ((law m i hi).memory h)

  -- ## What is delivered is held

  -- the proposal and the prevotes: the inputs that carry them are meant
  meant_proposal : (i : ℕ) (x : Input) → i ≢ turn → Carries powers height turn (offer_of g) x → Meant i x × (x.kind ≡ 2) × (x.round.0 ≡ g.round)
  meant_proposal i x n c =
      let b = brings_proposal x c.brings_it.0 g.round g.valid g.name c.brings_it.2 in
      let e : x.sender ≡ turn = c.brings_it.1 in (
        record {
          any = c.brings_it.0;
          height_is = c.height_is;
          fields = c.fits;
          other = λ z. n (sym z ∙ e);
          now = b.1;
          whose = λ z. e;
        },
        b.0,
        b.1,
      )

  -- a vote of the round
  pub meant_vote : (i j kind : ℕ) (x : Input) (o : Out) → j ≢ i → Carries powers height j o x → (x.kind ≡ kind) × (x.round.0 ≡ g.round) → (kind ≡ 2 → ⊥) → Meant i x
  meant_vote i j kind x o n c b off = record {
    any = c.brings_it.0;
    height_is = c.height_is;
    fields = c.fits;
    other = λ z. n (sym c.brings_it.1 ∙ z);
    now = b.1;
    whose = λ z. absurd (off (sym b.0 ∙ eqb-true x.kind 2 z));
  }

  module _ (ds : List Delivery) (i : ℕ) (ki : Keeps powers keeps i) (os : List Out) (p : Past) (k : KeepsOn ds i os p) where
    running_not : p.kiosk.state.progress.phase ≡ Running → p.kiosk.state.progress.phase ≡ Settled (record { 0 = g.round }) → ⊥
    running_not a b = false≢true (ap is_settled (sym a ∙ b))

    -- the step of one that runs, or of one that has settled
    stepping : (n : ℕ) → n ≤ 2 → (p.kiosk.state.progress.phase ≡ Running → n ≤ step_number (step (at p))) → n ≤ step_number (step (at p))
    stepping n l f = ⊎_elim f (λ e. omega (arith, e.1)) k.waits_on.stands.going

    spoken_of : p.kiosk.state.progress.phase ≡ Running → (x : Input) → x.kind ≡ 2 → x.round.0 ≡ g.round → Held (at p) x → spoken (heard (at p) g.round) ≡ true
    unfolding place_heard
    spoken_of run x e r (inl s) = absurd (running_not run s)
    spoken_of run x e r (inr h) = rw (e, r) at h

    pub vote_of : (v : Votes) → p.kiosk.state.progress.phase ≡ Running → (x : Input) (j : ℕ) → x.kind ≡ vote_in v → x.round.0 ≡ g.round → x.sender ≡ j → Held (at p) x →
        marked (marks_of v (heard (at p) g.round)) j ≡ true
    unfolding place_heard
    vote_of v run x j e r f (inl s) = absurd (running_not run s)
    vote_of Prevotes run x j e r f (inr h) = rw (e, r, f) at h
    vote_of Precommits run x j e r f (inr h) = rw (e, r, f) at h

    -- after the first wave it has prevoted
    pub after_proposal : (i ≢ turn → Delivered powers height ds i turn (offer_of g)) → 1 ≤ step_number (step (at p))
    after_proposal came = stepping 1 (omega arith) (λ run.
        past_proposal (roll i) keeps g (base i ki) (at p) k.waits_on.stands k.waits_on.rest run (go run (ℕ_discrete i turn)))
      where
        go : p.kiosk.state.progress.phase ≡ Running → Dec (i ≡ turn) → spoken (heard (at p) g.round) ≡ true
        go run (yes e) = k.own_offer e
        go run (no n) =
            let c = came n in
            let m = meant_proposal i c.0 n c.2 in
            spoken_of run c.0 m.1 m.2 (k.held c.0 c.1 m.0)

    -- after the second it has precommitted
    pub after_prevotes : 1 ≤ step_number (step (at p)) → ((j : ℕ) → Keeps powers keeps j → j ≢ i → (name : ℕ) × Delivered powers height ds i j (prevote g.round name)) → step_number (step (at p)) ≡ 2
    after_prevotes late came =
        ⊎_elim
        (λ run. past_prevotes (roll i) keeps g (base i ki) (at p) k.waits_on.stands k.waits_on.rest run late (λ j hj kj. go run j (omega (arith, hj), kj) (ℕ_discrete j i)))
        (λ e. e.1)
        k.waits_on.stands.going
      where
        go : p.kiosk.state.progress.phase ≡ Running → (j : ℕ) → Keeps powers keeps j → Dec (j ≡ i) → marked (heard (at p) g.round).prevotes j ≡ true
        go run j kj (yes e) = rw e (k.waits_on.stands.own_votes Prevotes late)
        go run j kj (no n) =
            let c = came j kj n in
            let x = c.1.0 in
            let b = brings_vote x c.1.2.brings_it.0 Prevotes g.round c.0 c.1.2.brings_it.2 in
            vote_of Prevotes run x j b.0 b.1 c.1.2.brings_it.1
            (k.held x c.1.1 (meant_vote i j 3 x _ n c.1.2 (b.0, b.1) (λ z. omega (arith, z))))

    both_waves : TwoWaves powers height keeps g ds i → step_number (step (at p)) ≡ 2
    both_waves t = after_prevotes (after_proposal t.proposal_came) t.prevotes_came

  -- ## What arrives is fair

  module _ (ds : List Delivery) (w : World powers height keeps) (all : All m (On ds) w) (i : ℕ) (ki : Keeps powers keeps i) (x : Input) (may : MayArrive powers height keeps g w.air ds i x)
      (os : List Out) (p : Past) (k : KeepsOn ds i os p) (t : takes p x ≡ true) where
    pass : Passes (at p) x
    pass = accepted_passes p.kiosk.used p.kiosk p.table x t

    roll_is : (at p).state.roll ≡ roll i
    roll_is = k.waits_on.stands.holds.roll_is

    seat : x.sender < length powers
    seat = let f = (accepted_fields p.kiosk.used p.kiosk p.table x t).sender in rw roll_is at f

    -- what its sender put out, where that keeps the rules; what comes under its number is among it
    abbrev outs : keeps x.sender ≡ true → List Out
    outs kj = (law m x.sender seat).outs (all x.sender seat kj).0.history

    put_out_there : (is_proposal x || is_vote x) ≡ true → (kj : keeps x.sender ≡ true) → In (message x) (outs kj)
    put_out_there any kj = (all x.sender seat kj).0.sent (message x) (may.0 x.sender (message x) (any, refl, refl) seat kj)

    told_there : (kj : keeps x.sender ≡ true) → Tells (roll x.sender) keeps g (step_number (step (at ((law m x.sender seat).memory (all x.sender seat kj).0.history)))) (outs kj)
    told_there kj = (all x.sender seat kj).1.waits_on.tells

    by_turn : is_proposal x ≡ true → x.sender ≡ proposer (roll i) x.round.0
    by_turn e =
        let a = eqb x.sender (proposer (at p).state.roll x.round.0) in
        let f : x.sender ≡ proposer (at p).state.roll x.round.0 = eqb-true _ _ (not-false a (rw e at pass.turn)) in
        rw roll_is at f

    -- a proposal of a rule-keeping kiosk is the round's
    the_proposal : is_proposal x ≡ true → keeps x.sender ≡ true → (x.round.0 ≡ g.round) × (x.valid.0 ≡ g.valid) × (x.name ≡ g.name)
    the_proposal e kj =
        ⊎_elim (λ z. absurd (omega (arith, z, may.2))) (λ z. z)
        ((told_there kj).proposals x.round.0 x.valid.0 x.name (rw e at (put_out_there (rw e) kj)))

    -- a vote of a rule-keeping kiosk is of the round, and for its proposal
    the_vote : is_vote x ≡ true → keeps x.sender ≡ true → (x.round.0 ≡ g.round) × (x.name ≡ g.name)
    the_vote v kj = ⊎_elim (λ e. voting Prevotes (eqb-true x.kind 3 e)) (λ e. voting Precommits (eqb-true x.kind 4 e)) (or_case (eqb x.kind 3) (eqb x.kind 4) v)
      where
        voting : (w : Votes) → x.kind ≡ vote_in w → (x.round.0 ≡ g.round) × (x.name ≡ g.name)
        voting w e =
            ⊎_elim (λ z. absurd (omega (arith, z, may.2))) (λ z. z)
            ((told_there kj).votes (kind_of w) x.round.0 x.name
            (subst (λ (o : Out). In o (outs kj)) (says_vote w x e) (put_out_there (or_so (is_proposal x) (is_vote x) (inr v)) kj)))

    fair : Fair (roll i) keeps g (at p) x
    fair = record {
      no_timer = may.1;
      not_earlier = may.2;
      proposal_now = λ e r.
          let o = the_proposal e (rw (by_turn e, r) turn_keeps.1) in
          (omega (arith, may.3 e r), o.1, o.2);
      proposal_ahead = λ e l.
          by_cases (keeps (proposer (roll i) x.round.0))
          (λ kj. absurd (omega (arith, l, (the_proposal e (rw (by_turn e) kj)).0)))
          (λ kj. kj);
      vote_now = the_vote;
      late = λ e kj. both_waves ds i ki os p k (may.4 (omega (arith, e)) kj);
    }

    -- so with one more delivery it keeps on
    hears_on : KeepsOn (to i x ∷ ds) i (os ++ acts (does p x).sent) (after p x)
    hears_on =
        let n = call_next (roll i) keeps g (base i ki) os p k.waits_on x t fair in
        record {
          waits_on = n.0;
          own_offer = λ e. n.1.spoke (k.own_offer e);
          held = λ y a. ⊎_elim
              (λ e. let same : x ≡ y = cc in subst (λ (z : Input). Meant i z → Held (at (after p x)) z) same (λ z. inr (n.2 z.now)))
              (λ b z. still n.1 y z.now (k.held y b z))
              a;
        }
      where
        still : Later g.round (at p) (at (after p x)) → (y : Input) → y.round.0 ≡ g.round → Held (at p) y → Held (at (after p x)) y
        still l y e (inl s) = absurd (true≢false (sym (ap is_settled s) ∙ pass.unsettled))
        still l y e (inr h) = inr (heard_later (roll i) keeps g (base i ki) (at p) (at (after p x)) l y e h)

  -- ## Along the play

  module _ (ds : List Delivery) (w : World powers height keeps) (all : All m (On ds) w) (i : ℕ) (x : Input) where
    -- a call that is accepted
    heard_more : (hi : i < length powers) (ki : keeps i ≡ true) → MayArrive powers height keeps g w.air ds i x → (h : (law m i hi).History) → On ds i hi ki h →
        (q : Past) (d : List ℕ) (y : MayPut ((law m i hi).memory h) ((law m i hi).file h) x q d) → On (to i x ∷ ds) i hi ki ((law m i hi).more h x q d y)
    heard_more hi ki may h k q d y =
        rw (more_sent m i hi h x q d y, more_past m i hi h x q d y) (hears_on ds w all i (hi, ki) x may ((law m i hi).outs h) ((law m i hi).memory h) k (more_taken m i hi h x q d y))

    -- another delivery, to another seat
    elsewhere : (j : ℕ) → j ≢ i → (hj : j < length powers) (kj : keeps j ≡ true) (h : (law m j hj).History) → On ds j hj kj h → On (to i x ∷ ds) j hj kj h
    elsewhere j n hj kj h k = record {
      waits_on = k.waits_on;
      own_offer = k.own_offer;
      held = λ y a. ⊎_elim (λ e. absurd (n (cc))) (λ b. k.held y b) a;
    }

    -- a call that is refused, in a roomy journal
    refused_on : (hi : i < length powers) (ki : keeps i ≡ true) → Refuses powers height keeps w i x → (s : Sound (law m i hi) keeps (w.board i) w.air) →
        On ds i hi ki s.history → On (to i x ∷ ds) i hi ki s.history
    refused_on hi ki r s k = record {
      waits_on = k.waits_on;
      own_offer = k.own_offer;
      held = λ y a. ⊎_elim (λ e. let same : x ≡ y = cc in subst (λ (z : Input). Meant i z → Held (at p) z) same kept) (λ b. k.held y b) a;
    }
      where
        p : Past
        p = (law m i hi).memory s.history

        kept : Meant i x → Held (at p) x
        kept y =
            let is : r.past ≡ p = (on_so (law m i hi) s.holds r.powered).0 in
            let answer = (code_roomy (recalls m i hi s.history).1 x r.area (rw is at r.meets) (omega (arith, r.room))).0 in
            refused_held (roll i) keeps g (base i (hi, ki)) _ p k.waits_on x y.any y.height_is y.fields y.other
            (λ e. y.whose e ∙ ap (proposer (roll i)) (sym y.now))
            (ap is_accepted (sym answer) ∙ r.refused)

  -- a delivery that is not counted on
  forget : {ds : List Delivery} {e : Delivery} {i : ℕ} {os : List Out} {p : Past} → KeepsOn (e ∷ ds) i os p → KeepsOn ds i os p
  forget k = record { waits_on = k.waits_on; own_offer = k.own_offer; held = λ y a. k.held y (inr a) }

  module _ (v : World powers height keeps) (starts : All m (On []) v) where
    pub play_keeps : {w : World powers height keeps} {ds : List Delivery} → Play powers height keeps (MayArrive powers height keeps g) v w ds → All m (On ds) w
    play_keeps begin = starts
    play_keeps (accepts {w} {w'} {ds} before i x ki may a) =
        let all = play_keeps before in
        change_all (scale powers height) keeps (kiosk_of powers height) (shared m) (On ds) (On (to i x ∷ ds)) w w' i
        (λ k hi ki.
        let s = k hi ki in
        write_keeps (law m i hi) s.0 (On (to i x ∷ ds) i hi ki) a.past a.next a.file a.longer x a.before may.0 a.puts a.after
        (heard_more ds w all i x hi ki may s.0.history s.1 a.next a.longer))
        (elsewhere ds w all i x) a.others a.air all
    play_keeps (refuses {w} {ds} before i x ki r) =
        let all = play_keeps before in
        change_all (scale powers height) keeps (kiosk_of powers height) (shared m) (On ds) (On (to i x ∷ ds)) w w i
        (λ k hi ki. let s = k hi ki in (s.0, refused_on ds w all i x hi ki r s.0 s.1))
        (elsewhere ds w all i x) (λ j n. refl) refl all
    play_keeps (changes {w} {w'} {ds} before i ki c rest air) =
        let all = play_keeps before in
        change_all (scale powers height) keeps (kiosk_of powers height) (shared m) (On ds) (On ds) w w' i
        (λ k hi ki.
        let s = k hi ki in
        change_keeps (law m i hi) s.0 (On ds i hi ki) (MayArrive powers height keeps g w.air ds i) (λ x may. may.0)
        (λ x q d y may. forget (heard_more ds w all i x hi ki may s.0.history s.1 q d y)) s.1 c)
        (λ j n hj kj h k. k) rest air all
    play_keeps (sends {w} {w'} {ds} before i p d o ki eb put rest air) =
        send_all (scale powers height) keeps (kiosk_of powers height) (shared m) (On ds) w w' i p d o eb put rest air (play_keeps before)

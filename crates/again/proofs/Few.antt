-- A kiosk sends at most three messages of each round, so at most six of two rounds. Assumes nothing.
use Rattle.std.specs.Bool.{if◌then◌else◌}
use Prim.Native.Nat.{ℕ, suc, pred, ◌+◌, ◌≤◌, ◌<◌}
use mathlib.Core.Path.{◌≡◌, refl, sym, subst, ◌∙◌}
use mathlib.Core.List.{List, [], ◌∷◌, ◌++◌, append_assoc, append-nil}
use mathlib.Core.Logic.{⊎_elim}
use mathlib.Core.Bool.{true, false, ◌&&◌, ◌||◌, not, false≢true}
use native.Mathlib.Omega.{arith}
use borrow.Author.Tests.{eqb-true, eqb-false, eq-eqb}
use lib.Dec.{eqb}
use lib.ListN.{length}
use Rattle.words.proofs.Choice.{by_test, by_cases, and_left, and_right, or_case}
use Rattle.roll.specs.declared.Roll.{Roll}
use Rattle.roll.specs.Weighing.{proposer}
use Rattle.rules.specs.declared.Votes.{Votes}
use Rattle.rules.specs.declared.Votes.TheVariants.{Prevotes, Precommits}
use Rattle.rules.specs.declared.Step.TheVariants.{Propose}
use Rattle.rules.specs.declared.Phase.TheVariants.{Running}
use Rattle.rules.specs.declared.Input.{Input}
use Rattle.rules.specs.declared.Output.{Output}
use Rattle.rules.specs.declared.Stand.{Stand}
use Rattle.rules.specs.Kinds.{vote_out}
use Rattle.rules.specs.State.{is_fresh, is_propose, is_prevote, held, entered, with_phase, with_stand, with_locked}
use Rattle.rules.specs.Log.{Desk, desk, with_state, message, hear_proposal, hear_vote}
use Rattle.rules.specs.Doing.{current, step, own, step_of, output, propose, vote, ask, sheet_to_propose, start_round}
use Rattle.rules.specs.Rules.{fire_49}
use Rattle.rules.specs.Work.{worked}
use Rattle.rules.specs.InContracts.Room.{steps_left}
use Rattle.rules.proofs.Deeds.{Deed, prevotes, precommits_nil, locks, holds, asks_prevote, asks_precommit, settles, enters, holding}
use Rattle.rules.proofs.Hearing.{vote_is}
use Rattle.rules.proofs.Room.{propose_left, prevote_left}
use Rattle.kiosk.proofs.Accepted.{Passes, accepted_passes, accepted_fits}
use Rattle.kiosk.proofs.Taken.{Taken, starts, hears_proposal, hears_vote, timer, call_keeps}
use Rattle.kiosk.proofs.Kept.{worked_sound}
use Rattle.history.specs.Histories.{Call, Past, does, after, takes, Told, told_none, told_more, History, sent_in}
use Rattle.again.specs.Again.{round_of, is_message, recent}

-- ## How many messages of a round there are

-- whether an output is one, counted
unfoldable pub said : ℕ → Output → ℕ
said r o = if is_message o && eqb o.round.0 r then 1 else 0

unfoldable pub said_in : ℕ → List Output → ℕ
said_in r [] = 0
said_in r (o ∷ os) = said r o + said_in r os

pub said_append : (r : ℕ) (a b : List Output) → said_in r (a ++ b) ≡ said_in r a + said_in r b
unfolding said_in
said_append r [] b = omega arith
said_append r (o ∷ a) b = omega (arith, said_append r a b)

-- one more output, of those of a call and of the calls before it
said_more : (r : ℕ) (before sent : List Output) (o : Output) → said_in r (before ++ (sent ++ (o ∷ []))) ≡ said_in r (before ++ sent) + said r o
unfolding said_in
said_more r before sent o = omega (arith, said_append r before (sent ++ (o ∷ [])), said_append r sent (o ∷ []), said_append r before sent)

said_most : (r : ℕ) (o : Output) → said r o ≤ 1
unfolding said
said_most r o = by_test (λ (n : ℕ). n ≤ 1) (is_message o && eqb o.round.0 r) (λ e. omega arith) (λ e. omega arith)

said_other : (r : ℕ) (o : Output) → (o.round.0 ≡ r → ⊥) → said r o ≡ 0
unfolding said
said_other r o n =
    by_test (λ (m : ℕ). m ≡ 0) (is_message o && eqb o.round.0 r)
    (λ e. absurd (n (eqb-true o.round.0 r (and_right (is_message o) (eqb o.round.0 r) e))))
    (λ e. refl)

said_none : (r : ℕ) (o : Output) → is_message o ≡ false → said r o ≡ 0
unfolding said
said_none r o e = rw e

said_one : (r : ℕ) (o : Output) → is_message o ≡ true → o.round.0 ≡ r → said r o ≡ 1
unfolding said
said_one r o m e = rw (m, eq-eqb o.round.0 r e)

-- ## What a kiosk has said, and where it stands

-- Each round has at most three; the current one has, with the votes that are still to come, no more; and a round ahead has none
pub record FewSo (os : List Output) (stand : Stand) : Type 0 where
  pub most : (r : ℕ) → said_in r os ≤ 3
  pub here : said_in stand.round.0 os + steps_left stand.step ≤ 3
  pub ahead : (r : ℕ) → stand.round.0 < r → said_in r os ≡ 0

-- of a desk in a call, with the outputs of the calls before it
abbrev Few : List Output → Desk → Type 0
Few before d = FewSo (before ++ d.sent) d.state.progress.stand

module _ (before : List Output) where
  -- an output that is no message, and the same step of the same round
  few_quiet : (d : Desk) (o : Output) (s : Stand) → Few before d → is_message o ≡ false → s.round ≡ d.state.progress.stand.round
      → s.step ≡ d.state.progress.stand.step → FewSo (before ++ (d.sent ++ (o ∷ []))) s
  few_quiet d o s f e er es =
      let same : (r : ℕ) → said_in r (before ++ (d.sent ++ (o ∷ []))) ≡ said_in r (before ++ d.sent) = λ r. omega (arith, said_more r before d.sent o, said_none r o e) in
      record {
        most = λ r. omega (arith, same r, f.most r);
        here = rw (er, es) (omega (arith, same (current d), f.here));
        ahead = λ r. rw er (λ h. omega (arith, same r, f.ahead r h));
      }

  -- a message of the current round, for a step
  few_vote : (v : Votes) (name : ℕ) (d : Desk) → steps_left (step d) ≡ suc (steps_left (step_of v)) → Few before d → Few before (vote v name d)
  unfolding hear_vote
  few_vote v name d left f =
      let o = output (vote_out v) (current d) 0 name in
      let more : (r : ℕ) → said_in r (before ++ (d.sent ++ (o ∷ []))) ≡ said_in r (before ++ d.sent) + said r o = λ r. said_more r before d.sent o in
      rw (vote_is v name d)
      (record {
        most = λ r.
            by_cases (eqb (current d) r)
            (λ e. subst (λ (q : ℕ). said_in q (before ++ (d.sent ++ (o ∷ []))) ≤ 3) (eqb-true (current d) r e) (omega (arith, more (current d), said_most (current d) o, f.here)))
            (λ e. omega (arith, more r, said_other r o (eqb-false (current d) r e), f.most r));
        here = omega (arith, more (current d), said_most (current d) o, f.here);
        ahead = λ r h. omega (arith, more r, said_other r o (λ e. omega arith), f.ahead r h);
      })

  few_prevote : (name : ℕ) (d : Desk) → is_propose (step d) ≡ true → Few before d → Few before (vote Prevotes name d)
  few_prevote name d e = few_vote Prevotes name d (propose_left (step d) e)

  few_precommit : (name : ℕ) (d : Desk) → is_prevote (step d) ≡ true → Few before d → Few before (vote Precommits name d)
  few_precommit name d e = few_vote Precommits name d (prevote_left (step d) e)

  -- a round entered of which nothing is said yet, nor of those above it: a proposal or a timer
  few_start : (offer r : ℕ) (d : Desk) → ((q : ℕ) → said_in q (before ++ d.sent) ≤ 3) → ((q : ℕ) → r ≤ q → said_in q (before ++ d.sent) ≡ 0) → Few before (start_round offer r d)
  unfolding start_round propose ask message hear_proposal
  few_start offer r d most none =
      let e = with_state (with_stand (entered r) d.state) d in
      let sheet = sheet_to_propose offer d in
      let valid = d.state.progress.valid.next.0 in
      let here : Few before e = record { most = most; here = omega (arith, none r (omega arith)); ahead = λ q h. none q (omega arith) } in
      let o = output 1 r valid sheet in
      let more : (q : ℕ) → said_in q (before ++ (d.sent ++ (o ∷ []))) ≡ said_in q (before ++ d.sent) + said q o = λ q. said_more q before d.sent o in
      by_test (Few before) (eqb (proposer d.state.roll r) (own d) && not (eqb sheet 0)) {x = propose valid sheet e} {y = ask Propose e}
      (λ t. record {
        most = λ q.
            by_cases (eqb r q)
            (λ z. omega (arith, more q, said_most q o, none q (omega (arith, eqb-true r q z))))
            (λ z. omega (arith, more q, said_other q o (eqb-false r q z), most q));
        here = omega (arith, more r, said_most r o, none r (omega arith));
        ahead = λ q h. omega (arith, more q, said_other q o (λ z. omega arith), none q (omega arith));
      })
      (λ t. few_quiet e (output 4 r 0 0) _ here refl refl refl)

  -- each deed keeps it
  few_deed : (offer : ℕ) (d u : Desk) → Deed offer d u → Few before d → Few before u
  unfolding ask fire_49
  few_deed offer d u (prevotes name s f e) q = rw e (few_prevote name d s q)
  few_deed offer d u (precommits_nil s e) q = rw e (few_precommit 0 d s q)
  few_deed offer d u (locks name s f e) q =
      rw e (few_precommit name (with_state (with_locked (held (current d) name) (holding name d)) d) s (record { most = q.most; here = q.here; ahead = q.ahead }))
  few_deed offer d u (holds name p s f e) q = rw e (record { most = q.most; here = q.here; ahead = q.ahead })
  few_deed offer d u (asks_prevote s a l e) q = rw e (few_quiet d (output 5 (current d) 0 0) _ q refl refl refl)
  few_deed offer d u (asks_precommit a l e) q = rw e (few_quiet d (output 6 (current d) 0 0) _ q refl refl refl)
  few_deed offer d u (settles r name f e) q = rw e (few_quiet d (output 7 r 0 name) _ q refl refl refl)
  few_deed offer d u (enters r more l e) q = rw e (few_start offer r d q.most (λ r' h. q.ahead r' (omega arith)))

  -- and so does a call; before start nothing is said
  few_taken : (d : Desk) (i : Input) → (is_fresh d.state.progress.phase ≡ true → (r : ℕ) → said_in r (before ++ d.sent) ≡ 0) → Few before d → (u : Desk) → Taken d i u → Few before u
  unfolding hear_proposal hear_vote
  few_taken d i silent q u (starts f k e) =
      rw e (few_start i.offer 0 (with_state (with_phase Running d.state) d) q.most (λ r h. silent f r))
  few_taken d i silent q u (hears_proposal m k t z v s e) = rw e (record { most = q.most; here = q.here; ahead = q.ahead })
  few_taken d i silent q u (hears_vote v m k s e) = rw e (record { most = q.most; here = q.here; ahead = q.ahead })
  few_taken d i silent q u (timer run late did) = few_deed i.offer d u did q

  few_called : (d : Desk) (i : Input) → Passes d i → (is_fresh d.state.progress.phase ≡ true → (r : ℕ) → said_in r (before ++ d.sent) ≡ 0) → Few before d → Few before (worked i d)
  few_called d i p silent q = call_keeps d i p (Few before) (few_taken d i silent q) (λ e u run did. few_deed i.offer e u did)

-- ## From creation on

-- what holds as a journal begins, with nothing sent, and is kept by each call with what it sends, holds of every history
told_says : (P : List Output → Past → Type 0) → ((os : List Output) (p : Past) (i : Input) → takes p i ≡ true → P os p → P (os ++ (does p i).sent) (after p i))
    → {p q : Past} {cs : List Call} → Told p cs q → (os : List Output) → P os p → P (os ++ sent_in cs) q
unfolding sent_in
told_says P keeps (told_none {p}) os h = subst (λ (x : List Output). P x p) (sym (append-nil os)) h
told_says P keeps (told_more {p} {q} {c} {cs} t w e later) os h =
    subst (λ (x : List Output). P x q) (append_assoc os c.sent (sent_in cs))
    (told_says P keeps later (os ++ c.sent) (rw e (keeps os p c.input t h)))

record Spoke (os : List Output) (p : Past) : Type 0 where
  few : FewSo os p.kiosk.state.progress.stand
  silent : is_fresh p.kiosk.state.progress.phase ≡ true → (r : ℕ) → said_in r os ≡ 0

spoke_after : (os : List Output) (p : Past) (i : Input) → takes p i ≡ true → Spoke os p → Spoke (os ++ (does p i).sent) (after p i)
spoke_after os p i t s =
    let d = desk p.kiosk.state p.table in
    let pass = accepted_passes p.kiosk.used p.kiosk p.table i t in
    let now : os ++ [] ≡ os = append-nil os in
    let sound = worked_sound d i (accepted_fits p.kiosk.used p.kiosk p.table i t) pass refl in
    record {
      few = few_called os d i pass (rw now s.silent) (rw now s.few);
      silent = λ e. absurd (false≢true (sym sound.started ∙ e));
    }

spoke : {roll : Roll} {cs : List Call} {p : Past} → History roll cs p → Spoke (sent_in cs) p
unfolding said_in
spoke h = told_says Spoke spoke_after h.told [] (record { few = record { most = λ r. omega arith; here = omega arith; ahead = λ r h. refl }; silent = λ e r. refl })

-- Of every round a kiosk sends at most three messages
pub three_a_round : {roll : Roll} {cs : List Call} {p : Past} → History roll cs p → (r : ℕ) → said_in r (sent_in cs) ≤ 3
three_a_round h = (spoke h).few.most

-- and none of a round that it has not come to
pub none_ahead : {roll : Roll} {cs : List Call} {p : Past} → History roll cs p → (r : ℕ) → round_of p.kiosk < r → said_in r (sent_in cs) ≡ 0
none_ahead h = (spoke h).few.ahead

-- ## Of two rounds

-- what is said again is of the round or of the one before it
pub recent_said : (round : ℕ) (os : List Output) → length (recent round os) ≤ said_in round os + said_in (pred round) os
unfolding recent said_in
recent_said round [] = omega arith
recent_said round (o ∷ os) =
    let a = is_message o in
    let here = eqb o.round.0 round in
    let last = eqb (suc o.round.0) round in
    let later = recent_said round os in
    by_test (λ (l : List Output). length l ≤ said round o + said_in round os + (said (pred round) o + said_in (pred round) os)) (a && (here || last))
    (λ t.
    let m = and_left a (here || last) t in
    ⊎_elim
    (λ e. omega (arith, said_one round o m (eqb-true o.round.0 round e)))
    (λ e. omega (arith, said_one (pred round) o m (omega (arith, eqb-true (suc o.round.0) round e))))
    (or_case here last (and_right a (here || last) t)))
    (λ t. omega arith)

-- So at most six messages are said again
pub few_messages : {roll : Roll} {cs : List Call} {p : Past} → History roll cs p → length (recent (round_of p.kiosk) (sent_in cs)) ≤ 6
few_messages {cs = cs} {p = p} h =
    let r = round_of p.kiosk in
    omega (arith, recent_said r (sent_in cs), three_a_round h r, three_a_round h (pred r))

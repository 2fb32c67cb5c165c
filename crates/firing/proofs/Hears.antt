-- A message in the lent log and table is a message that the desk hears, and the trail leads back past it. Assumes nothing.
use Rattle.std.specs.Bool.{if◌then◌else◌}
use Rattle.std.specs.Prelude.{Option, Some, None}
use Prim.Native.Nat.{ℕ, ◌+◌}
use mathlib.Core.Path.{◌≡◌, refl, ap, sym, ◌∙◌}
use mathlib.Core.List.{List}
use mathlib.Core.Bool.{Bool, true}
use native.Mathlib.Omega.{arith}
use lib.ListN.{length, set, get_or, length-set}
use borrow.Author.Tests.{ne_eqb}
use Rattle.words.specs.Marks.{mark}
use Rattle.roll.specs.declared.Roll.{Roll}
use Rattle.rules.specs.declared.Votes.{Votes}
use Rattle.rules.specs.declared.Votes.TheVariants.{Prevotes, Precommits}
use Rattle.rules.specs.declared.Progress.{Progress}
use Rattle.rules.specs.declared.Output.{Output}
use Rattle.rules.specs.State.{state_of, marks_at, proposal_at, valid_at}
use Rattle.rules.specs.Log.{Desk, proposal_place, votes_place, message, hear_proposal, hear_vote}
use Rattle.rules.specs.InContracts.Ready.{midway}
use Rattle.rules.proofs.Telling.{marks_is, tell_marks, tell_proposal}
use Rattle.firing.specs.declared.Trail.{Trail}
use Rattle.firing.specs.InContracts.Trails.{longer, own_message, writes, Loan, loan, Writable, Puts}
use Rattle.firing.proofs.Handover.{undone_write}

-- one place written, with the name that it held kept
noted : {f : Desk → Desk} {l l' t t' : List ℕ} {trail trail' : Trail} (place name : ℕ) → Writable trail t →
    t' ≡ set t place name → trail' ≡ longer trail place (get_or t place 0) →
    ((roll : Roll) (p : Progress) (os : List Output) → midway (state_of roll p l') t' os ≡ f (midway (state_of roll p l) t os)) →
    Puts f 1 (loan l t trail) (loan l' t' trail')
noted {t = t} {trail = trail} place name w named kept desk = record {
  desk = desk;
  places = ap length named ∙ simp length-set;
  back = rw (named, kept) (undone_write trail t place name w.long w.room);
  count = rw kept (omega arith);
  long = rw kept (simp length-set w.long);
}

-- a vote
pub hears_vote : (v : Votes) (r seat name : ℕ) {l l' t t' : List ℕ} {trail trail' : Trail} {to place : ℕ} → Writable trail t →
    to ≡ marks_at v r → place ≡ votes_place v r → l' ≡ set l to (mark (get_or l to 0) seat) → t' ≡ set t (place + seat) name →
    trail' ≡ longer trail (place + seat) (get_or t (place + seat) 0) → Puts (λ d. hear_vote v d r seat name) 1 (loan l t trail) (loan l' t' trail')
unfolding hear_vote
hears_vote v r seat name {l} w to at marks named kept =
    noted _ _ w named kept
    (λ roll p os. rw (marks, to, named, at, marks_is v l r, tell_marks l r (mark (get_or l (marks_at v r) 0) seat) v))

-- a proposal
pub hears_proposal : (r : ℕ) (good : Bool) (valid name : ℕ) {l l' t t' : List ℕ} {trail trail' : Trail} {place : ℕ} → Writable trail t →
    place ≡ proposal_place r → l' ≡ set (set l (proposal_at r) (if good then 2 else 1)) (valid_at r) valid → t' ≡ set t place name →
    trail' ≡ longer trail place (get_or t place 0) → Puts (λ d. hear_proposal d r good valid name) 1 (loan l t trail) (loan l' t' trail')
unfolding hear_proposal
hears_proposal r good valid name {l} w at told_so named kept =
    noted _ _ w named kept (λ roll p os. rw (told_so, named, at, tell_proposal l r (if good then 2 else 1) valid))

-- a step that takes a desk to the same
alike : {f g : Desk → Desk} {n : ℕ} {b a : Loan} → ((d : Desk) → g d ≡ f d) → Puts f n b a → Puts g n b a
alike same p = record { desk = λ roll q os. p.desk roll q os ∙ sym (same _); places = p.places; back = p.back; count = p.count; long = p.long }

-- a message is one of its kind
module _ (o : Output) (seat : ℕ) (good : Bool) {b a : Loan} where
  pub is_proposal : o.kind ≡ 1 → Puts (λ d. hear_proposal d o.round.0 good o.valid.0 o.name) 1 b a → Puts (message o seat good) 1 b a
  unfolding message
  is_proposal one p = alike (λ d. rw one) p

  pub is_prevote : o.kind ≡ 2 → Puts (λ d. hear_vote Prevotes d o.round.0 seat o.name) 1 b a → Puts (message o seat good) 1 b a
  unfolding message
  is_prevote two p = alike (λ d. rw two) p

  pub is_precommit : o.kind ≡ 3 → Puts (λ d. hear_vote Precommits d o.round.0 seat o.name) 1 b a → Puts (message o seat good) 1 b a
  unfolding message
  is_precommit three p = alike (λ d. rw three) p

-- nothing changes
stands : {n : ℕ} {b : Loan} → length b.trail.places ≡ 7 → Puts (λ d. d) n b b
stands long = record { desk = λ roll p os. refl; places = refl; back = refl; count = omega arith; long = long }

-- nothing else is a message
pub no_message : (o : Output) (seat : ℕ) (good : Bool) {b : Loan} → length b.trail.places ≡ 7 → (o.kind ≡ 1 → ⊥) → (o.kind ≡ 2 → ⊥) → (o.kind ≡ 3 → ⊥) →
    Puts (message o seat good) 1 b b
unfolding message
no_message o seat good long one two three = alike (λ d. rw (ne_eqb o.kind 1 one, ne_eqb o.kind 2 two, ne_eqb o.kind 3 three)) (stands long)

-- an own output is heard where there is one, and else nothing changes
pub own_heard : (output : Option Output) (o : Output) (seat : ℕ) {b a : Loan} → output ≡ Some o → Puts (message o seat true) 1 b a →
    Puts (own_message output seat) (writes output) b a
unfolding own_message
own_heard output o seat e p = rw e (alike (λ d. refl) p)

pub own_silent : (output : Option Output) (seat : ℕ) {b : Loan} → output ≡ None → length b.trail.places ≡ 7 → Puts (own_message output seat) (writes output) b b
unfolding own_message
own_silent output seat e long = rw e (alike (λ d. refl) (stands long))

-- The beginning of a call's work: after the input, what firing relies on holds, and what firing leaves is what the call leaves.
-- Assumes nothing.
use Rattle.std.specs.Prelude.{Option, Some, None}
use Prim.Native.Nat.{ℕ, ◌≤◌, ◌<◌}
use mathlib.Core.Path.{◌≡◌, refl, ap, sym, ◌∙◌, subst}
use mathlib.Core.List.{List, []}
use mathlib.Core.Bool.{true, ◌&&◌}
use native.Mathlib.Omega.{arith}
use lib.Dec.{eqb, leb}
use lib.ListN.{length}
use Rattle.roll.specs.declared.Roll.{Roll}
use Rattle.rules.specs.declared.State.{State}
use Rattle.rules.specs.declared.Progress.{Progress}
use Rattle.rules.specs.declared.Input.{Input}
use Rattle.rules.specs.declared.Output.{Output}
use Rattle.rules.specs.declared.Sent.{Sent}
use Rattle.rules.specs.State.{most_rounds, state_of}
use Rattle.rules.specs.Log.{Desk, desk, table_length, message}
use Rattle.rules.specs.Doing.{current}
use Rattle.rules.specs.Work.{take_in, fire_all, most_firings, worked, work}
use Rattle.rules.specs.Sent.{packed, with_output}
use Rattle.rules.specs.InContracts.Ready.{Ready, Readable, midway, so_far}
use Rattle.rules.proofs.Sends.{sent_grows}
use Rattle.firing.specs.declared.Act.{Act}
use Rattle.firing.specs.declared.Trail.{Trail}
use Rattle.firing.specs.InContracts.Acts.{done}
use Rattle.firing.specs.InContracts.Trails.{no_trail, undone, undone_to, own_message, writes, message_of, loan, Writable, Puts, Firing, Leaves}
use Rattle.firing.proofs.Keeping.{take_in_keeps}
use Rattle.firing.proofs.Turns.{also, Handed, handed, moved, message_is}

-- as a call begins there is room for outputs
pub no_outputs : {s : Sent} → s ≡ packed [] → s.count < 6
no_outputs e = rw e (omega arith)

-- and for a write
pub none_long : {trail : Trail} → trail ≡ no_trail → length trail.places ≡ 7
none_long e = ap (λ (x : Trail). length x.places) e

pub none_written : {trail : Trail} {t : List ℕ} → trail ≡ no_trail → length t ≡ table_length → Writable trail t
none_written e p = record { room = rw e (omega arith); long = none_long e; places = p }

-- where one write at most was put
at_most_one : (output : Option Output) → writes output ≤ 1
at_most_one None = omega arith
at_most_one (Some o) = omega arith

-- ## After the input, whatever it was

module _
    (i : Input)
    (roll : Roll)
    (votes votes' : Progress)
    {l l' t t' : List ℕ}
    {trail₀ trail : Trail}
    {sent₀ sent : Sent}
    (output : Option Output)
    (f : Desk → Desk)
    (most : ℕ)
    (ready : Ready (state_of roll votes l) t)
    (readable : Readable i)
    (few : length (work i (state_of roll votes l) t).sent ≤ 6)
    (empty : sent₀ ≡ packed [])
    (nowhere : trail₀ ≡ no_trail)
    (p : Puts f most (loan l t trail₀) (loan l' t' trail))
    (one : most ≤ 1)
    (taken : midway (state_of roll votes' l') t' (also output []) ≡ take_in i (desk (state_of roll votes l) t))
    (next : sent ≡ with_output output sent₀) where
  u : Desk
  u = take_in i (desk (state_of roll votes l) t)

  worked_is : work i (state_of roll votes l) t ≡ fire_all (most_firings most_rounds) i.offer u
  unfolding worked u
  worked_is = refl

  few_after : length (fire_all (most_firings most_rounds) i.offer u).sent ≤ 6
  few_after = subst (λ (x : Desk). length x.sent ≤ 6) worked_is few

  hands : Handed (state_of roll votes' l') t' sent u
  unfolding u
  hands =
      rw next
      (handed output (state_of roll votes' l') t' sent₀ [] u taken empty (omega arith)
      (omega (arith, sent_grows (most_firings most_rounds) i.offer u, few_after)))

  keeps : current u < 16
  unfolding u
  keeps = take_in_keeps i (desk (state_of roll votes l) t) readable.kind ready.round readable.next

  round_is : votes'.stand.round.0 ≡ current u
  unfolding u
  round_is = ap (λ (x : Desk). current x) taken

  pub fires : Firing (most_firings most_rounds) i.offer (state_of roll votes' l') sent trail t'
  fires = record {
    ready = record {
      some_kiosks = ready.some_kiosks;
      few_kiosks = ready.few_kiosks;
      own = ready.own;
      round = rw round_is keeps;
      places = p.places ∙ ready.places;
    };
    packs = hands.packs;
    few = subst (λ (x : Desk). length (fire_all (most_firings most_rounds) i.offer x).sent ≤ 6) (sym hands.desk_is) few_after;
    short = omega (arith, p.count, one, ap (λ (z : Trail). z.count) nowhere);
    long = p.long;
  }

  pub leaves_all : {s : State} {out : Sent} {way : Trail} {table : List ℕ} →
      Leaves (fire_all (most_firings most_rounds) i.offer (midway (state_of roll votes' l') t' (so_far sent))) (undone trail t') s out way table →
      Leaves (work i (state_of roll votes l) t) t s out way table
  unfolding undone_to
  leaves_all r =
      let same = ap (fire_all (most_firings most_rounds) i.offer) hands.desk_is ∙ sym worked_is in
      record {
        state = r.state ∙ ap (λ (x : Desk). x.state) same;
        outputs = r.outputs ∙ ap (λ (x : Desk). packed x.sent) same;
        names = r.names ∙ ap (λ (x : Desk). x.table) same;
        back = r.back ∙ p.back ∙ ap (λ (z : Trail). undone z t) nowhere;
        short = r.short;
      }

-- ## The two kinds of input

module _
    (i : Input)
    (roll : Roll)
    (votes : Progress)
    {l l' t t' : List ℕ}
    {trail₀ trail : Trail}
    {sent₀ : Sent}
    (ready : Ready (state_of roll votes l) t)
    (readable : Readable i)
    (few : length (work i (state_of roll votes l) t).sent ≤ 6)
    (empty : sent₀ ≡ packed [])
    (nowhere : trail₀ ≡ no_trail) where
  -- a message
  module _
      (mid : (leb 2 i.kind && leb i.kind 4) ≡ true)
      (p : Puts (message (message_of i) i.sender (eqb i.verdict 1)) 1 (loan l t trail₀) (loan l' t' trail)) where
    heard : midway (state_of roll votes l') t' [] ≡ take_in i (desk (state_of roll votes l) t)
    heard = p.desk roll votes [] ∙ message_is i (desk (state_of roll votes l) t) mid

    pub message_fires : Firing (most_firings most_rounds) i.offer (state_of roll votes l') sent₀ trail t'
    message_fires = fires i roll votes votes None _ 1 ready readable few empty nowhere p (omega arith) heard refl

    pub message_leaves : {s : State} {out : Sent} {way : Trail} {table : List ℕ} →
        Leaves (fire_all (most_firings most_rounds) i.offer (midway (state_of roll votes l') t' (so_far sent₀))) (undone trail t') s out way table →
        Leaves (work i (state_of roll votes l) t) t s out way table
    message_leaves r = leaves_all i roll votes votes None _ 1 ready readable few empty nowhere p (omega arith) heard refl r

  -- start, or a timer
  module _
      (a : Act)
      {sent : Sent}
      (act : (l t : List ℕ) (os : List Output) → done a (midway (state_of roll votes l) t os) ≡ take_in i (midway (state_of roll votes l) t os))
      (p : Puts (own_message a.output roll.own) (writes a.output) (loan l t trail₀) (loan l' t' trail))
      (next : sent ≡ with_output a.output sent₀) where
    begun : midway (state_of roll a.progress l') t' (also a.output []) ≡ take_in i (desk (state_of roll votes l) t)
    begun = moved a.output roll a.progress [] p ∙ act l t []

    one : writes a.output ≤ 1
    one = at_most_one a.output

    pub begin_fires : Firing (most_firings most_rounds) i.offer (state_of roll a.progress l') sent trail t'
    begin_fires = fires i roll votes a.progress a.output _ _ ready readable few empty nowhere p one begun next

    pub begin_leaves : {s : State} {out : Sent} {way : Trail} {table : List ℕ} →
        Leaves (fire_all (most_firings most_rounds) i.offer (midway (state_of roll a.progress l') t' (so_far sent))) (undone trail t') s out way table →
        Leaves (work i (state_of roll votes l) t) t s out way table
    begin_leaves r = leaves_all i roll votes a.progress a.output _ _ ready readable few empty nowhere p one begun next r

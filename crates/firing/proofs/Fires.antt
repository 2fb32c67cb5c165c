-- The firing recursion, as its code meets it: what each call in a turn asks, and what each return leaves. Assumes nothing.
use Rattle.std.specs.Prelude.{Option, Some, None, IfSome, is_some}
use Prim.Native.Nat.{ℕ, ◌+◌, ◌-◌, ◌≤◌, ◌<◌}
use mathlib.Core.Path.{◌≡◌, refl, ap, sym, ◌∙◌, subst}
use mathlib.Core.List.{List}
use mathlib.Core.Bool.{true}
use native.Mathlib.Omega.{arith}
use lib.ListN.{length}
use borrow.Author.Tests.{ltb-true, leb-true}
use Rattle.words.proofs.Choice.{highest_passes}
use Rattle.roll.specs.declared.Roll.{Roll}
use Rattle.rules.specs.declared.State.{State}
use Rattle.rules.specs.declared.Progress.{Progress}
use Rattle.rules.specs.declared.Rule.{Rule}
use Rattle.rules.specs.declared.Output.{Output}
use Rattle.rules.specs.declared.Sent.{Sent}
use Rattle.rules.specs.State.{state_of}
use Rattle.rules.specs.Log.{Desk, desk}
use Rattle.rules.specs.Doing.{current}
use Rattle.rules.specs.Rules.{first_rule, fire, fire_found, closing_round, applies_49, calls, past_calling_round, applies_55}
use Rattle.rules.specs.Work.{fire_all}
use Rattle.rules.specs.Sent.{packed, with_output}
use Rattle.rules.specs.InContracts.Ready.{Ready, midway, so_far}
use Rattle.rules.proofs.ByRule.{by_rule}
use Rattle.rules.proofs.Sends.{sent_grows}
use Rattle.firing.specs.declared.Act.{Act}
use Rattle.firing.specs.declared.Trail.{Trail}
use Rattle.firing.specs.InContracts.Acts.{done, rule_fits}
use Rattle.firing.specs.InContracts.Trails.{undone, own_message, writes, loan, Writable, Puts, Firing, Leaves}
use Rattle.firing.proofs.Keeping.{fire_keeps}
use Rattle.firing.proofs.Turns.{first_rule_sent, none_left, none_fires, one_fires, also, sends_less, if_both, Handed, handed, short, done_sent, moved}

-- the first rule names a round that there is, if any
first_fits : (s : State) (t : List ℕ) → IfSome (first_rule (desk s t)) rule_fits
unfolding applies_49 applies_55 past_calling_round
first_fits s t =
    let d = desk s t in
    by_rule (λ found. IfSome found rule_fits) d (λ e. tt) (λ run none n49 n55. tt) (λ run e. tt) (λ run e. tt) (λ run e. tt) (λ run e. tt) (λ run e. tt) (λ run e. tt)
    (λ run none e. ltb-true (closing_round d) d.rounds e)
    (λ run none n49 e. (highest_passes d.rounds (λ q. calls d q) (leb-true 1 (past_calling_round d) e)).1)

pub found_fits : (s : State) (t : List ℕ) (rule : Rule) → Some rule ≡ first_rule (desk s t) → rule_fits rule
found_fits s t rule e = rw (sym e) at (first_fits s t)

-- the own seat is one of 32
pub own_seat : (s : State) (t : List ℕ) → Ready s t → s.roll.own < 32
own_seat s t ready = omega (arith, ready.own, ready.few_kiosks)

-- ## Where firing ends

module _ (left offer : ℕ) (roll : Roll) (votes : Progress) (l : List ℕ) (sent : Sent) (trail : Trail) (t : List ℕ)
    (f : Firing left offer (state_of roll votes l) sent trail t) where
  abbrev here : Desk
  here = midway (state_of roll votes l) t (so_far sent)

  stays : fire_all left offer here ≡ here → Leaves (fire_all left offer here) (undone trail t) (state_of roll votes l) sent trail t
  stays e =
      rw e
      (record {
        state = refl;
        outputs = f.packs;
        names = refl;
        back = refl;
        short = omega (arith, f.short, f.few, sent_grows left offer here);
      })

  pub ends_none_left : left ≡ 0 → Leaves (fire_all left offer here) (undone trail t) (state_of roll votes l) sent trail t
  ends_none_left e = stays (none_left left offer here e)

  pub ends_no_rule : None ≡ first_rule (desk (state_of roll votes l) t) →
      Leaves (fire_all left offer here) (undone trail t) (state_of roll votes l) sent trail t
  ends_no_rule none =
      stays (none_fires left offer here (ap is_some (first_rule_sent (state_of roll votes l) t (so_far sent) ∙ sym none)))

-- ## A firing

module _
    (left offer : ℕ)
    (roll : Roll)
    (votes : Progress)
    (l : List ℕ)
    (sent : Sent)
    (trail : Trail)
    (t : List ℕ)
    (rule : Rule)
    (a : Act)
    (f : Firing left offer (state_of roll votes l) sent trail t)
    (more : left ≡ 0 → ⊥)
    (which : Some rule ≡ first_rule (desk (state_of roll votes l) t))
    (act : (os : List Output) → done a (midway (state_of roll votes l) t os) ≡ fire rule offer (midway (state_of roll votes l) t os)) where
  d : Desk
  d = midway (state_of roll votes l) t (so_far sent)

  u : Desk
  unfolding d
  u = fire_found (first_rule d) offer d

  rule_is : Some rule ≡ first_rule d
  unfolding d
  rule_is = which ∙ sym (first_rule_sent (state_of roll votes l) t (so_far sent))

  on : is_some (first_rule d) ≡ true
  on = ap is_some (sym rule_is)

  turn : fire_all left offer d ≡ fire_all (left - 1) offer u
  unfolding u
  turn = one_fires left offer d more on

  done_is : done a (midway (state_of roll votes l) t (so_far sent)) ≡ u
  unfolding d u
  done_is = act (so_far sent) ∙ ap (λ (r : Option Rule). fire_found r offer (midway (state_of roll votes l) t (so_far sent))) rule_is

  few_after : length (fire_all (left - 1) offer u).sent ≤ 6
  unfolding d
  few_after = subst (λ (x : Desk). length x.sent ≤ 6) turn f.few

  few : length u.sent ≤ 6
  few = omega (arith, sent_grows (left - 1) offer u, few_after)

  few_before : length (so_far sent) ≤ 6
  few_before = omega (arith, sent_grows left offer (midway (state_of roll votes l) t (so_far sent)), f.few)

  count_is : sent.count ≡ length (so_far sent)
  count_is = ap (λ (x : Sent). x.count) f.packs

  -- there is a place for the output, and one for its message
  pub room_to_send : IfSome a.output (λ o. sent.count < 6)
  room_to_send =
      let told = done_sent a.output (midway (state_of roll a.progress l) t (so_far sent)) ∙ ap (λ (x : Desk). x.sent) done_is in
      sends_less a.output (so_far sent) u.sent count_is told few

  pub room_to_say : IfSome a.output (λ o. o.round.0 < 16) → IfSome a.output (λ o. (o.round.0 < 16) × Writable trail t)
  room_to_say there =
      if_both a.output _ there room_to_send
      (λ less. record { room = omega (arith, less, count_is, f.short); long = f.long; places = f.ready.places })

  module _ {l' t' : List ℕ} {trail' : Trail} {sent' : Sent}
      (p : Puts (own_message a.output roll.own) (writes a.output) (loan l t trail) (loan l' t' trail'))
      (next : sent' ≡ with_output a.output sent) where
    moves : midway (state_of roll a.progress l') t' (also a.output (so_far sent)) ≡ u
    moves = moved a.output roll a.progress (so_far sent) p ∙ done_is

    hands : Handed (state_of roll a.progress l') t' sent' u
    hands = rw next (handed a.output (state_of roll a.progress l') t' sent (so_far sent) u moves f.packs few_before few)

    round_is : a.progress.stand.round.0 ≡ current u
    round_is = ap (λ (x : Desk). current x) moves

    keeps : current u < 16
    unfolding d u
    keeps = fire_keeps offer d f.ready.round on

    pub firing_next : Firing (left - 1) offer (state_of roll a.progress l') sent' trail' t'
    firing_next = record {
      ready = record {
        some_kiosks = f.ready.some_kiosks;
        few_kiosks = f.ready.few_kiosks;
        own = f.ready.own;
        round = rw round_is keeps;
        places = p.places ∙ f.ready.places;
      };
      packs = hands.packs;
      few = subst (λ (x : Desk). length (fire_all (left - 1) offer x).sent ≤ 6) (sym hands.desk_is) few_after;
      short = subst (λ (x : List Output). trail'.count ≤ length x + 1) (ap (λ (x : Desk). x.sent) moves ∙ sym hands.told)
          (short a.output (so_far sent) trail.count trail'.count p.count f.short);
      long = p.long;
    }

    -- what the rest leaves is what all of it leaves
    pub leaves_next : {s : State} {out : Sent} {way : Trail} {table : List ℕ} →
        Leaves (fire_all (left - 1) offer (midway (state_of roll a.progress l') t' (so_far sent'))) (undone trail' t') s out way table →
        Leaves (fire_all left offer (midway (state_of roll votes l) t (so_far sent))) (undone trail t) s out way table
    unfolding d
    leaves_next r =
        let same = ap (fire_all (left - 1) offer) hands.desk_is ∙ sym turn in
        record {
          state = r.state ∙ ap (λ (x : Desk). x.state) same;
          outputs = r.outputs ∙ ap (λ (x : Desk). packed x.sent) same;
          names = r.names ∙ ap (λ (x : Desk). x.table) same;
          back = r.back ∙ p.back;
          short = r.short;
        }

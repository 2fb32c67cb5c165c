-- After an act or an input: the votes, the lent log and table, the outputs and the trail that the code hands on are those of the
-- desk after it. Assumes nothing.
use Rattle.std.specs.Prelude.{Option, Some, None, IfSome, is_some}
use Prim.Native.Nat.{ℕ, zero, suc, ◌+◌, ◌-◌, ◌≤◌, ◌<◌}
use mathlib.Core.Path.{◌≡◌, refl, ap, sym, ◌∙◌}
use mathlib.Core.List.{List, [], ◌∷◌, ◌++◌}
use mathlib.Core.Bool.{true, false, true≢false, ◌&&◌}
use native.Mathlib.Numerals.{sub-one}
use native.Mathlib.Omega.{arith}
use lib.Dec.{eqb, leb}
use lib.ListN.{length, set}
use borrow.Author.Tests.{leb-true, eqb-true, eqb-false}
use Rattle.words.proofs.Choice.{by_test, by_cases, and_left, and_right}
use Rattle.roll.specs.declared.Roll.{Roll}
use Rattle.rules.specs.declared.State.{State}
use Rattle.rules.specs.declared.Progress.{Progress}
use Rattle.rules.specs.declared.Input.{Input}
use Rattle.rules.specs.declared.Output.{Output}
use Rattle.rules.specs.declared.Sent.{Sent}
use Rattle.rules.specs.State.{state_of}
use Rattle.rules.specs.Log.{Desk, desk, message, hear_proposal, hear_vote, the_log}
use Rattle.rules.specs.Doing.{own_heard, send, the_doing}
use Rattle.rules.specs.Rules.{first_rule, fire_found, the_rules}
use Rattle.rules.specs.Work.{take_in, fire_all}
use Rattle.rules.specs.Sent.{packed, with_output}
use Rattle.rules.specs.InContracts.Ready.{midway, so_far}
use Rattle.rules.proofs.Sends.{one_more}
use Rattle.firing.specs.declared.Trail.{Trail}
use Rattle.firing.specs.InContracts.Acts.{says}
use Rattle.firing.specs.InContracts.Trails.{own_message, writes, message_of, loan, Puts}
use Rattle.firing.proofs.Handover.{packed_more, so_far_packed}

-- no rule looks at what was sent
pub first_rule_sent : (s : State) (t : List ℕ) (os : List Output) → first_rule (midway s t os) ≡ first_rule (desk s t)
unfolding the_log the_doing the_rules
first_rule_sent s t os = refl

-- firing ends: none left, or no rule applies
pub none_left : (left offer : ℕ) (d : Desk) → left ≡ 0 → fire_all left offer d ≡ d
unfolding fire_all
none_left zero offer d e = refl
none_left (suc left) offer d e = absurd (omega arith)

pub none_fires : (left offer : ℕ) (d : Desk) → is_some (first_rule d) ≡ false → fire_all left offer d ≡ d
unfolding fire_all
none_fires zero offer d e = refl
none_fires (suc left) offer d e = rw e

-- or goes on
pub one_fires : (left offer : ℕ) (d : Desk) → (left ≡ 0 → ⊥) → is_some (first_rule d) ≡ true →
    fire_all left offer d ≡ fire_all (left - 1) offer (fire_found (first_rule d) offer d)
unfolding fire_all
one_fires zero offer d more e = absurd (more refl)
one_fires (suc left) offer d more e = rw (sub-one, e)

-- ## The outputs

-- with one more where an act sends one
abbrev pub also : Option Output → List Output → List Output
also None os = os
also (Some o) os = os ++ (o ∷ [])

-- six places take the output
sends_fit : (output : Option Output) (sent : Sent) (os : List Output) → sent ≡ packed os → IfSome output (λ o. length os < 6) → length os ≤ 6 →
    (with_output output sent ≡ packed (also output os)) × (so_far (with_output output sent) ≡ also output os)
sends_fit (Some o) sent os e less most =
    let p = ap (λ (s : Sent). record { count = s.count + 1; list = set s.list s.count o }) e ∙ packed_more os o less in
    (p, ap so_far p ∙ so_far_packed (os ++ (o ∷ [])) (rw one_more (omega (arith, less))))
sends_fit None sent os e less most = (e, ap so_far e ∙ so_far_packed os most)

-- an act that sends has a place for it, where the outputs after it are at most six
pub sends_less : (output : Option Output) (os told : List Output) {n : ℕ} → n ≡ length os → also output os ≡ told → length told ≤ 6 → IfSome output (λ o. n < 6)
sends_less (Some o) os told count e most = let l = ap length e in omega (arith, one_more os o)
sends_less None os told count e most = tt

-- what holds of an output where there is one
pub if_some : (output : Option Output) {P : Type 0} → P → IfSome output (λ o. P)
if_some (Some o) p = p
if_some None p = tt

pub some_so : (output : Option Output) {P : Type 0} → IfSome output (λ o. P) → is_some output ≡ true → P
some_so (Some o) p e = p
some_so None p e = absurd (true≢false (sym e))

pub if_both : (output : Option Output) (P : Output → Type 0) {Q R : Type 0} → IfSome output P → IfSome output (λ o. Q) → (Q → R) → IfSome output (λ o. P o × R)
if_both (Some o) P p q f = (p, f q)
if_both None P p q f = tt

-- ## What is handed on

-- the outputs are packed, and the desk of the state, the table and the outputs is u
pub record Handed (s : State) (t : List ℕ) (sent : Sent) (u : Desk) : Type 0 where
  pub packs : sent ≡ packed (so_far sent)
  pub told : so_far sent ≡ u.sent
  pub desk_is : midway s t (so_far sent) ≡ u

pub handed : (output : Option Output) (s : State) (t : List ℕ) (sent : Sent) (os : List Output) (u : Desk) →
    midway s t (also output os) ≡ u → sent ≡ packed os → length os ≤ 6 → length u.sent ≤ 6 → Handed s t (with_output output sent) u
handed output s t sent os u moved packs most few =
    let told : also output os ≡ u.sent = ap (λ (d : Desk). d.sent) moved in
    let f = sends_fit output sent os packs (sends_less output os u.sent refl told few) most in
    record {
      packs = f.0 ∙ ap packed (sym f.1);
      told = f.1 ∙ told;
      desk_is = ap (λ (x : List Output). midway s t x) f.1 ∙ moved;
    }

-- the trail is as long as the outputs allow
pub short : (output : Option Output) (os : List Output) (n m : ℕ) → m ≤ n + writes output → n ≤ length os + 1 → m ≤ length (also output os) + 1
short (Some o) os n m h l = omega (arith, one_more os o)
short None os n m h l = omega arith

-- ## An act's own message

-- it sends nothing more
own_sent : (o : Output) (d : Desk) → (own_heard o d).sent ≡ d.sent
unfolding message hear_proposal hear_vote
own_sent o d =
    let P : Desk → Type 0 = λ u. u.sent ≡ d.sent in
    by_test P (eqb o.kind 1) (λ e. refl) (λ e. by_test P (eqb o.kind 2) (λ e. refl) (λ e. by_test P (eqb o.kind 3) (λ e. refl) (λ e. refl)))

-- the outputs after an act, before its message is heard
pub done_sent : (output : Option Output) (e : Desk) → also output e.sent ≡ (says output e).sent
done_sent (Some o) e = ap (λ (x : List Output). x ++ (o ∷ [])) (sym (own_sent o e))
done_sent None e = refl

-- and the desk, once it is
pub moved : (output : Option Output) (roll : Roll) (v : Progress) {n : ℕ} {l l' t t' : List ℕ} {trail trail' : Trail} (os : List Output) →
    Puts (own_message output roll.own) n (loan l t trail) (loan l' t' trail') →
    midway (state_of roll v l') t' (also output os) ≡ says output (midway (state_of roll v l) t os)
unfolding own_message
moved (Some o) roll v os p = ap (send o) (p.desk roll v os)
moved None roll v os p = p.desk roll v os

-- ## An input that is a message

pub message_is : (i : Input) (d : Desk) → (leb 2 i.kind && leb i.kind 4) ≡ true →
    message (message_of i) i.sender (eqb i.verdict 1) d ≡ take_in i d
unfolding message take_in
message_is i d mid =
    let low = leb-true 2 i.kind (and_left (leb 2 i.kind) (leb i.kind 4) mid) in
    let high = leb-true i.kind 4 (and_right (leb 2 i.kind) (leb i.kind 4) mid) in
    by_cases (eqb i.kind 2) (λ y. rw (eqb-true i.kind 2 y)) (λ n2.
    by_cases (eqb i.kind 3) (λ y. rw (eqb-true i.kind 3 y)) (λ n3.
    let four : i.kind ≡ 4 = omega (arith, eqb-false i.kind 2 n2, eqb-false i.kind 3 n3) in
    rw four))

-- Firing ends: after a call's firings no rule applies. Each firing lowers a number that is at most 6 more than 8 times the number
-- of rounds, and a call has more firings than that. Assumes nothing.
use Rattle.std.specs.Prelude.{None, is_some}
use Prim.Native.Nat.{ℕ, zero, suc, ◌+◌, ◌-◌, ◌*◌, ◌<◌}
use mathlib.Core.Path.{◌≡◌}
use mathlib.Core.Bool.{true}
use native.Mathlib.Omega.{arith}
use Rattle.words.proofs.Choice.{by_test}
use Rattle.rules.specs.declared.Input.{Input}
use Rattle.rules.specs.Log.{Desk}
use Rattle.rules.specs.Doing.{current}
use Rattle.rules.specs.Rules.{first_rule, fire_found}
use Rattle.rules.specs.Work.{take_in, fire_all, most_firings, worked}
use Rattle.rules.proofs.ByRule.{none_found}
use Rattle.rules.proofs.Same.{take_in_same}
use Rattle.rules.specs.InContracts.Room.{room, unless}
use Rattle.rules.proofs.Room.{room_most, unless_most, run_most}
use Rattle.rules.proofs.Firing.{Within, within_49, by_firing}

-- what is left to do: in this round, and in those after it
abbrev left : Desk → ℕ
left d = 8 * (d.rounds - current d) + room d + unless d.state.progress.stand.backed

falls_within : {d u : Desk} → Within d u → left u < left d
falls_within w = omega (arith, w.ahead.rounds, w.ahead.round, w.falls)

falls : (offer : ℕ) (d : Desk) → is_some (first_rule d) ≡ true → left (fire_found (first_rule d) offer d) < left d
falls offer d =
    by_firing (λ u. left u < left d) offer d
    (λ run loud u w. falls_within w)
    (λ run r name. falls_within (within_49 r name d run))
    (λ run low high u w. omega (arith, w.ahead.rounds, w.ahead.round, w.full, w.unbacked, run_most d.state.progress.phase))

-- with more firings than are left to do, no rule applies at the end
ends : (n offer : ℕ) (d : Desk) → left d < n → first_rule (fire_all n offer d) ≡ None
unfolding fire_all
ends zero offer d h = absurd (omega arith)
ends (suc n) offer d h =
    by_test (λ (u : Desk). first_rule u ≡ None) (is_some (first_rule d))
    (λ e. ends n offer (fire_found (first_rule d) offer d) (omega (arith, falls offer d e)))
    (λ e. none_found (first_rule d) e)

left_most : (d : Desk) → left d < most_firings d.rounds
left_most d = omega (arith, room_most d, unless_most d.state.progress.stand.backed)

-- whatever the desk and its number of rounds: once its firings are done, no rule applies
pub call_ends : (offer : ℕ) (d : Desk) → first_rule (fire_all (most_firings d.rounds) offer d) ≡ None
call_ends offer d = ends (most_firings d.rounds) offer d (left_most d)

-- and so after the whole work of an input
pub work_ends : (i : Input) (d : Desk) → first_rule (worked i d) ≡ None
unfolding worked
work_ends i d =
    ends (most_firings d.rounds) i.offer (take_in i d) (omega (arith, left_most (take_in i d), (take_in_same i d).rounds))

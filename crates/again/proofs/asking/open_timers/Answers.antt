-- `again::asking::open_timers` meets its contract: one timer after the other. Assumes nothing.
use Prim.Native.Nat.{ℕ}
use mathlib.Core.Path.{◌≡◌, refl, ap, ◌∙◌}
use mathlib.Core.List.{List, [], ◌++◌}
use native.Mathlib.Omega.{arith}
use Rattle.rules.specs.declared.Step.TheVariants.{Propose, Prevote, Precommit}
use Rattle.rules.specs.declared.Output.{Output}
use Rattle.rules.specs.declared.Sent.{Sent}
use Rattle.rules.specs.Sent.{packed}
use Rattle.rules.specs.InContracts.Ready.{so_far}
use Rattle.kiosk.specs.declared.Kiosk.{Kiosk}
use Rattle.kiosk.specs.InContracts.Lent.{kiosk_of}
use Rattle.again.specs.Again.{ask_again, open_timers}
use Rattle.again.specs.InContracts.Lists.{Takes}
use Rattle.again.proofs.Growing.{takes_start, takes_first, takes_next}
use Rattle.again.proofs.Timers.{few_timers}
use Rattle.again.proofs.asking.open_timers.Goals as goal

-- the lists, one after the other: what is still to come, and what there is in the end
module _ (k : Kiosk) (t : List ℕ) where
  abbrev propose : List Output
  propose = ask_again k t Propose

  abbrev prevote : List Output
  prevote = ask_again k t Prevote

  abbrev precommit : List Output
  precommit = ask_again k t Precommit

  module _ (none : Sent) (e : none ≡ packed []) where
    start : Takes none (propose ++ (prevote ++ precommit)) × (so_far none ++ (propose ++ (prevote ++ precommit)) ≡ open_timers k t)
    start = takes_start none (open_timers k t) e (omega (arith, few_timers k t))

    first : Takes none propose
    first = takes_first none (open_timers k t) propose (prevote ++ precommit) start.0 refl

    module _ (one : Sent) (f : one ≡ packed (so_far none ++ propose)) where
      rest : Takes one (prevote ++ precommit) × (so_far one ++ (prevote ++ precommit) ≡ open_timers k t)
      rest = let t' = takes_next none (open_timers k t) propose (prevote ++ precommit) start.0 refl one f in (t'.0, t'.1 ∙ start.1)

      second : Takes one prevote
      second = takes_first one (prevote ++ precommit) prevote precommit rest.0 refl

      third : (two : Sent) → two ≡ packed (so_far one ++ prevote) → Takes two precommit × (so_far two ++ precommit ≡ open_timers k t)
      third two g = let t' = takes_next one (prevote ++ precommit) prevote precommit rest.0 refl two g in (t'.0, t'.1 ∙ rest.1)

pub with_timer-first-requires : goal.with_timer-first-requires
with_timer-first-requires c =
    let a = c.args in
    ((c.requires, refl), first (kiosk_of a.roll a.course a.log.now) a.table.now c.none.result c.none.ensures)

pub with_timer-second-requires : goal.with_timer-second-requires
with_timer-second-requires c =
    let a = c.args in
    ((c.requires, refl), second (kiosk_of a.roll a.course a.log.now) a.table.now c.none.result c.none.ensures c.with_timer-first.result c.with_timer-first.ensures)

pub with_timer-requires : goal.with_timer-requires
with_timer-requires c =
    let a = c.args in
    ((c.requires, refl), (third (kiosk_of a.roll a.course a.log.now) a.table.now c.none.result c.none.ensures c.with_timer-first.result c.with_timer-first.ensures c.with_timer-second.result c.with_timer-second.ensures).0)

pub returns : goal.returns
returns c =
    let a = c.args in
    c.with_timer.ensures ∙ ap packed (third (kiosk_of a.roll a.course a.log.now) a.table.now c.none.result c.none.ensures c.with_timer-first.result c.with_timer-first.ensures c.with_timer-second.result c.with_timer-second.ensures).1

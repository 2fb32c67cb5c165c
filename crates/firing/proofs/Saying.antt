-- What asking for a timer and voting do to a desk: the progress changes, and the output is sent. One law for every timer, one for both
-- types of vote. Assumes nothing.
use Prim.Native.Nat.{ℕ}
use mathlib.Core.Path.{refl}
use Rattle.rules.specs.declared.Progress.{Progress}
use Rattle.rules.specs.declared.Step.{Step}
use Rattle.rules.specs.declared.Step.TheVariants.{Propose, Prevote, Precommit}
use Rattle.rules.specs.declared.Votes.{Votes}
use Rattle.rules.specs.declared.Votes.TheVariants.{Prevotes, Precommits}
use Rattle.rules.specs.Kinds.{vote_out, ask_out}
use Rattle.rules.specs.State.{standing, with_step, with_asked}
use Rattle.rules.specs.Log.{message, hear_vote}
use Rattle.rules.specs.Doing.{asking, step_of, vote, ask}
use Rattle.firing.specs.InContracts.Acts.{does, saying}

pub asked : (p : Step) (v : Progress) → does (saying (standing (with_asked (asking p v.stand.asked) v.stand) v) (ask_out p) 0 0) v (ask p)
unfolding ask message
asked Propose v = λ roll l t os. refl
asked Prevote v = λ roll l t os. refl
asked Precommit v = λ roll l t os. refl

pub voted : (k : Votes) (name : ℕ) (v : Progress) → does (saying (standing (with_step (step_of k) v.stand) v) (vote_out k) 0 name) v (vote k name)
unfolding vote message hear_vote
voted Prevotes name v = λ roll l t os. refl
voted Precommits name v = λ roll l t os. refl

-- `lines::fields::first_word` meets its contract: by the place of the first space. Assumes nothing.
use Rattle.std.proofs.Common.{rules, tests, ◌≡◌, ap, ◌∙◌, ◌+◌, ℕ, take, drop, length, cond, ltb, Some, None}
use Rattle.std.specs.List.{position_or_len}
use Rattle.std.proofs.lemmas.Iterator.{YieldsList-from_slice}
use Rattle.std.proofs.lemmas.Iterator.Search.{position_from_yields_List}
use native.Mathlib.Numerals.{add-one}
use Rattle.words.proofs.ByteLaws.{mid_all}
use Rattle.lines.proofs.Words.{is_space, space_at, no_space, first_taken, after_dropped, first_is_all, nothing_after}
use Rattle.lines.proofs.fields.first_word.Goals as goal
use Rattle.lines.proofs.fields.first_word.Goals.{After-position}

-- where the first space is
spaced_at : (c : After-position) → c.position.result ≡ cond (ltb (position_or_len is_space c.args.line.now) (length c.args.line.now)) (Some (position_or_len is_space c.args.line.now)) None
spaced_at c =
    position_from_yields_List is_space _ _ _ c.position.ensures.ran (YieldsList-from_slice c.args.line.now cc) (λ x b q k. search (rules, tests))

pub returns-in-Some-clause-word : goal.returns-in-Some-clause-word
returns-in-Some-clause-word c =
    let l = c.args.line.now in
    ap (λ (n : ℕ). take n l) (space_at l _ (spaced_at (goal.at.returns-in-Some-clause-word c).After-position) c.in-Some.at c.in-Some.is) ∙ first_taken l

pub returns-in-Some-clause-rest : goal.returns-in-Some-clause-rest
returns-in-Some-clause-rest c =
    let l = c.args.line.now in
    mid_all (c.in-Some.at + 1) l
    ∙ ap (λ (n : ℕ). drop (n + 1) l) (space_at l _ (spaced_at (goal.at.returns-in-Some-clause-rest c).After-position) c.in-Some.at c.in-Some.is)
    ∙ rw add-one (after_dropped l)

pub returns-in-None-clause-word : goal.returns-in-None-clause-word
returns-in-None-clause-word c =
    first_is_all c.args.line.now (no_space c.args.line.now _ (spaced_at (goal.at.returns-in-None-clause-word c).After-position) c.in-None.is)

pub returns-in-None-clause-rest : goal.returns-in-None-clause-rest
returns-in-None-clause-rest c =
    nothing_after c.args.line.now (no_space c.args.line.now _ (spaced_at (goal.at.returns-in-None-clause-rest c).After-position) c.in-None.is)

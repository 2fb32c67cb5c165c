-- What the search for a rule finds in a round, and in the whole log. Assumes nothing.
use Rattle.std.specs.Prelude.{ℕ, suc, ◌≡◌, ◌<◌, eqb, if◌then◌else◌, Option, Some, None}
use Rattle.words.specs.Choice.{first_of}
use Rattle.roll.specs.declared.Round.{Round}
use Rattle.rules.specs.declared.Votes.{Votes}
use Rattle.rules.specs.Log.{Desk, good_sheets, power_for}
use Rattle.rules.specs.Rules.{is_large, closing_sheet, closing_round, past_calling_round}

-- the sheet of round r's proposals with verdict 1 that large votes of a type are for; 0 where there is none. That of the current round's
-- prevotes is `backed_sheet`, that of a round's precommits `closing_sheet`
abbrev pub sheet_for : Votes → Desk → ℕ → ℕ
sheet_for v d r = first_of (good_sheets d r) (λ name. is_large d (power_for v d r name))

-- a name, where 0 is none
abbrev pub named : ℕ → Option ℕ
named name = if eqb name 0 then None else Some name

-- the round that rule 49 settles in, with its sheet
abbrev pub is_lowest_closing : Desk → Option (Round × ℕ) → Type 0
is_lowest_closing d None = closing_round d ≡ d.rounds
is_lowest_closing d (Some (r, name)) = (closing_round d ≡ r.0) × (r.0 < d.rounds) × (closing_sheet d r.0 ≡ name)

-- the round that rule 55 goes to
abbrev pub is_highest_calling : Desk → Option Round → Type 0
is_highest_calling d None = past_calling_round d ≡ 0
is_highest_calling d (Some r) = past_calling_round d ≡ suc r.0

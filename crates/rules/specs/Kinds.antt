-- The kinds of inputs and outputs, by 01's numbers. 01, "Inputs and outputs". Assumes nothing.
use Rattle.std.specs.Prelude.{ℕ, ◌≡◌, ◌&&◌, false, leb, Result, MatchResult}
use Rattle.rules.specs.declared.Step.{Step}
use Rattle.rules.specs.declared.Step.TheVariants.{Propose, Prevote, Precommit}
use Rattle.rules.specs.declared.Votes.{Votes}
use Rattle.rules.specs.declared.Votes.TheVariants.{Prevotes, Precommits}
use Rattle.rules.specs.declared.InputKind.{InputKind}
use Rattle.rules.specs.declared.InputKind.TheVariants as input
use Rattle.rules.specs.declared.OutputKind.{OutputKind}
use Rattle.rules.specs.declared.OutputKind.TheVariants as output
use Rattle.rules.specs.declared.UnknownKind.{UnknownKind}

-- "Inputs: 1 start, 2 proposal, 3 prevote, 4 precommit, 5/6/7 timer of propose/prevote/precommit."
abbrev pub start_in : ℕ
start_in = 1

abbrev pub proposal_in : ℕ
proposal_in = 2

abbrev pub vote_in : Votes → ℕ
vote_in Prevotes = 3
vote_in Precommits = 4

abbrev pub timer_in : Step → ℕ
timer_in Propose = 5
timer_in Prevote = 6
timer_in Precommit = 7

-- "Outputs: 1 proposal, 2 prevote, 3 precommit, 4/5/6 ask for a timer of propose/prevote/precommit, 7 settled."
abbrev pub proposal_out : ℕ
proposal_out = 1

abbrev pub vote_out : Votes → ℕ
vote_out Prevotes = 2
vote_out Precommits = 3

abbrev pub ask_out : Step → ℕ
ask_out Propose = 4
ask_out Prevote = 5
ask_out Precommit = 6

abbrev pub settled_out : ℕ
settled_out = 7

-- the number of each kind
abbrev pub in_number : InputKind → ℕ
in_number input.Start = start_in
in_number input.Proposal = proposal_in
in_number (input.Vote v) = vote_in v
in_number (input.Timer p) = timer_in p

abbrev pub out_number : OutputKind → ℕ
out_number output.Proposal = proposal_out
out_number (output.Vote v) = vote_out v
out_number (output.Ask p) = ask_out p
out_number output.Settled = settled_out

-- what the conversions give: the number of a kind, and the kind that has a number, where one has it
abbrev pub is_in_number : InputKind → ℕ → Type 0
is_in_number kind n = n ≡ in_number kind

abbrev pub is_out_number : OutputKind → ℕ → Type 0
is_out_number kind n = n ≡ out_number kind

abbrev pub Decodes : ℕ → Result InputKind UnknownKind → Type 0
Decodes n r = MatchResult r (λ kind. in_number kind ≡ n) (λ e. (leb start_in n && leb n (timer_in Precommit)) ≡ false)

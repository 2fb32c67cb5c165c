-- Seat marks: one number, in which binary digit i is seat i's mark. 01, "It says which places are heard". Assumes nothing.
use Rattle.std.specs.Prelude.{ℕ, ◌+◌, ◌/◌, ◌%◌, ◌^◌, Bool, eqb, if◌then◌else◌}

-- seat i has its mark
abbrev pub marked : ℕ → ℕ → Bool
marked marks i = eqb (marks / 2 ^ i % 2) 1

-- the marks with seat i's set
abbrev pub mark : ℕ → ℕ → ℕ
mark marks i = if marked marks i then marks else marks + 2 ^ i

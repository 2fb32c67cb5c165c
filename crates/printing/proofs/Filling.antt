-- A pattern with its numbers, byte by byte. Assumes nothing.
use Rattle.std.proofs.Common.{ℕ, ◌+◌, ◌≤◌, ◌<◌, ◌≡◌, List, [], ◌++◌, length, get_or, drop}
use native.Mathlib.Numerals.{add-one}
use lib.ListN.{drop_of_length-le}
use lib.Seq.{drop-cons}
use Rattle.printing.specs.InContracts.Pattern.{piece, taken, filled}

-- what is left to write when the first i bytes of the pattern are written, and these numbers are left
module _ (pattern numbers : List ℕ) (i : ℕ) where
  pub left_none : length pattern ≤ i → filled (drop i pattern) numbers ≡ []
  unfolding filled
  left_none h = rw (drop_of_length-le pattern h)

  -- one byte more
  pub left_more : i < length pattern
      → filled (drop i pattern) numbers ≡ piece (get_or pattern i 0) (get_or numbers 0 0) ++ filled (drop (i + 1) pattern) (drop (taken (get_or pattern i 0)) numbers)
  unfolding filled
  left_more h = rw (drop-cons pattern i 0 h, add-one)

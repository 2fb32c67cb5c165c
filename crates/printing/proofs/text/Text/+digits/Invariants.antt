-- At each turn of `Text::digits` fewer digits are left. Assumes nothing.
use Rattle.printing.proofs.text.Text.+digits.Given as goal

abbrev pub decreases-digits : goal.decreases-digits
decreases-digits l = l.left

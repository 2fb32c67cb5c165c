-- `firing::fire::fire` meets its contract: at each turn fewer firings are left. Assumes nothing.
use Rattle.firing.proofs.fire.+fire.Given as goal

abbrev pub decreases-fire : goal.decreases-fire
decreases-fire l = l.left

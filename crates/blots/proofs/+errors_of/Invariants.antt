-- `blots::errors_of` calls itself with one sum less.
use Rattle.blots.proofs.+errors_of.Given as goal

-- the count of sums
abbrev pub decreases-errors_of : goal.decreases-errors_of
decreases-errors_of l = l.c

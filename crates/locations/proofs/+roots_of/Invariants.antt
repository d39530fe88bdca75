-- `locations::roots_of` calls itself with the degree less one.
use Rattle.locations.proofs.+roots_of.Given as goal

-- the degree
abbrev pub decreases-roots_of : goal.decreases-roots_of
decreases-roots_of l = l.degree

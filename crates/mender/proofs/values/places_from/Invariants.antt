-- `mender::values::places_from` meets its contract: the first i places are in the highest of five lanes.
use Rattle.mender.proofs.values.Loops.{PlacesTo}
use Rattle.mender.proofs.values.places_from.Given as goal

abbrev pub invariant-loop-i : goal.invariant-loop-i
invariant-loop-i l = PlacesTo l.roots l.l l.x l.at l._i

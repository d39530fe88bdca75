-- `planes::roots` meets its contract: by Horner's rule, from the highest coefficient down, at every place.
use Rattle.planes.proofs.Loops.{TakenFrom}
use Rattle.planes.proofs.roots.Given as goal

abbrev pub invariant-loop-k : goal.invariant-loop-k
invariant-loop-k l = TakenFrom l.p l.v l.k

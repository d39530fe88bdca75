-- `paper::Assumption::corrected` meets its contract: each magnitude is added at the address of its place.
use Rattle.paper.proofs.Correcting.{CorrectedTo}
use Rattle.paper.proofs.Assumption.corrected.Given as goal

abbrev pub invariant-loop-k : goal.invariant-loop-k
invariant-loop-k l = CorrectedTo l.fn.self.word l.places l.magnitudes l.self.n l.line l.k

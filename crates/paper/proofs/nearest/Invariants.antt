-- `paper::nearest` meets its contract: no line differs in fewer characters than are assumed.
use Rattle.paper.proofs.Reading.{MissedTo}
use Rattle.paper.proofs.nearest.Given as goal

abbrev pub invariant-loop-n : goal.invariant-loop-n
invariant-loop-n l = MissedTo l.word l.n

-- `points::values` meets its contract: the loop keeps the values of the parts passed, and three are joined.
use Rattle.points.proofs.Steps.{PartsTo}
use Rattle.points.proofs.values.Given as goal

abbrev pub invariant-loop-k : goal.invariant-loop-k
invariant-loop-k l = PartsTo l.word l.parts l.k

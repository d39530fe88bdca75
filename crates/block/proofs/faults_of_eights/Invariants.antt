-- `block::faults_of_eights` meets its contract: the loop keeps that the rows passed are counted, eight for each turn.
use Rattle.block.proofs.Loops.{EightsTo}
use Rattle.block.proofs.faults_of_eights.Given as goal

abbrev pub invariant-loop-k : goal.invariant-loop-k
invariant-loop-k l = EightsTo l.rows l.k l.odd l.row l.z

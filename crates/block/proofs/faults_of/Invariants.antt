-- `block::faults_of` meets its contract. The invariant: the rows passed are counted, from the last of the eights on.
use Rattle.block.specs.Lanes.{CountedTo}
use Rattle.block.proofs.faults_of.Given as goal

abbrev pub invariant-loop-i : goal.invariant-loop-i
invariant-loop-i l = CountedTo l.rows l.i l.odd l.row l.columns

-- `block::put_block` meets its contract. The invariant: the rows passed stand in the output with their checks, and the rest is as it was.
use Rattle.block.proofs.Loops.{PutTo}
use Rattle.block.proofs.put_block.Given as goal

abbrev pub invariant-loop-i : goal.invariant-loop-i
invariant-loop-i l = PutTo l.given l.initial.output l.output l.columns l.i

-- `sheet_encoder::completed` meets its contract: the columns passed are completed, and the others are as they were.
use Rattle.sheet_encoder.proofs.Loops.{CompletedTo}
use Rattle.sheet_encoder.proofs.completed.Given as goal

abbrev pub invariant-loop-a : goal.invariant-loop-a
invariant-loop-a l = CompletedTo l.initial.s l.s l.a

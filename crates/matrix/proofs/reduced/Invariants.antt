-- `matrix::reduced` meets its contract: the columns passed are unit columns, and what is divided by is a pivot.
use Rattle.matrix.proofs.Reducing.{ReducedTo}
use Rattle.matrix.proofs.reduced.Given as goal

abbrev pub invariant-loop-t : goal.invariant-loop-t
invariant-loop-t l = ReducedTo l.n l.initial.m l.m l.t

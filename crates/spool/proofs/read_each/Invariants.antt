-- `spool::read_each` meets its contract: each turn reads one line more into its own part of the output.
use Rattle.spool.proofs.Loops.{EachTo}
use Rattle.spool.proofs.read_each.Given as goal

abbrev pub invariant-loop-i : goal.invariant-loop-i
invariant-loop-i l = EachTo l.lines l.radius l.initial.output l.output l.n l.places l.i

-- `blots::first_set` meets its contract: the bytes passed are 0.
use Rattle.blots.specs.Inside.{NoneBefore}
use Rattle.blots.proofs.first_set.Given as goal

abbrev pub invariant-loop-a : goal.invariant-loop-a
invariant-loop-a l = NoneBefore l.bytes l.a

-- `mender::values::raised` meets its contract: k - n factors are in.
use Rattle.mender.proofs.values.Loops.{RaisedTo}
use Rattle.mender.proofs.values.raised.Given as goal

abbrev pub invariant-loop-k : goal.invariant-loop-k
invariant-loop-k l = RaisedTo l.v l.x l.n l.r l._k

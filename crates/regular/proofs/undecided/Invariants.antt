-- `regular::undecided` meets its contract: the sums before sum k are set, and their windows have no pivot of 0 where the answer has a 0.
use Rattle.regular.proofs.Stepping.{SumsTo}
use Rattle.regular.proofs.undecided.Given as goal

abbrev pub invariant-loop-k : goal.invariant-loop-k
invariant-loop-k l = SumsTo l.sums l.words l.sum-items l.k

-- `sums::packed` meets its contract: the sums from k on are packed.
use Rattle.sums.proofs.Loops.{PackedFrom}
use Rattle.sums.proofs.packed.Given as goal

abbrev pub invariant-loop-k : goal.invariant-loop-k
invariant-loop-k l = PackedFrom l.sums l.p l.k

-- `eights::all_low` meets its contract: the loop keeps that the eights met are below 64 just where the bytes passed and the last eight are.
use Prim.Native.Nat.{◌*◌}
use Rattle.eights.proofs.Loops.{LowTo}
use Rattle.eights.proofs.all_low.Given as goal

abbrev pub invariant-loop-k : goal.invariant-loop-k
invariant-loop-k l = LowTo l.bytes (8 * l.k) l.met

-- `eights::xor_of` meets its contract: the loop keeps that the bytes of z sum to those passed.
use Prim.Native.Nat.{◌*◌}
use Rattle.eights.proofs.Loops.{XorTo}
use Rattle.eights.proofs.xor_of.Given as goal

abbrev pub invariant-loop-k : goal.invariant-loop-k
invariant-loop-k l = XorTo l.bytes (8 * l.k) l.z

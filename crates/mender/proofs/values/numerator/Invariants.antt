-- `mender::values::numerator` meets its contract: the sums from n + k on are in.
use mathlib.Core.Path.{◌≡◌}
use Prim.Native.Nat.{◌≤◌, ◌*◌, ◌/◌, ◌^◌}
use Rattle.mender.specs.Values.{lanes_of}
use Rattle.mender.proofs.values.Loops.{NumeratorTo}
use Rattle.mender.proofs.values.numerator.Given as goal

abbrev pub invariant-loop-k : goal.invariant-loop-k
invariant-loop-k l = (l.n ≤ 5) × (l.from ≡ l.sums / 2 ^ (6 * l.n)) × NumeratorTo l.q (lanes_of l.sums) l.n l.c l.k

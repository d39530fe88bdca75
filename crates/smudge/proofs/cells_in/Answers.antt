-- `smudge::cells_in` meets its contract: 64 bits have at most 64 ones.
use mathlib.Core.Path.{refl}
use native.Mathlib.Omega.{arith}
use Rattle.smudge.proofs.cells_in.Goals as goal

pub overflow_cast-result : goal.overflow_cast-result
overflow_cast-result c = omega (arith, lib.Count.ones-le 64 c.args.p (omega arith))

pub returns : goal.returns
returns c = refl

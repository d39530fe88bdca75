-- `clarity::spread_of` meets its contract: what is subtracted is not the greater, and the products are small.
use mathlib.Core.Path.{refl}
use native.Mathlib.Omega.{arith}
use Rattle.clarity.proofs.Bounds.{count_squares, sum_sum, spread_le}
use Rattle.clarity.proofs.spread_of.Goals as goal

pub overflow_mul-result : goal.overflow_mul-result
overflow_mul-result c = rw (c.from.ensures, c.from-2.ensures) (omega (arith, count_squares c.args.side.bounded))

pub overflow_mul-result-2 : goal.overflow_mul-result-2
overflow_mul-result-2 c = rw c.from-sum.ensures (omega (arith, sum_sum c.args.side.bounded))

pub returns : goal.returns
returns c = rw (c.from.ensures, c.from-2.ensures, c.from-sum.ensures) (refl, spread_le c.args.side.bounded)

-- `clarity::apart` meets its contract: what is subtracted is not the greater, and the products are small.
use mathlib.Core.Path.{refl}
use native.Mathlib.Omega.{arith}
use Rattle.clarity.proofs.Bounds.{sum_count, difference, square_le}
use Rattle.clarity.proofs.apart.Goals as goal

pub overflow_mul-x : goal.overflow_mul-x
overflow_mul-x c = rw (c.from.ensures, c.from-2.ensures) (omega (arith, sum_count c.args.sides.ordered.low2 c.args.sides.ordered.few1))

pub overflow_mul-x-2 : goal.overflow_mul-x-2
overflow_mul-x-2 c = rw (c.from-3.ensures, c.from-4.ensures) (omega (arith, sum_count c.args.sides.ordered.low1 c.args.sides.ordered.few2))

pub overflow_mul-result : goal.overflow_mul-result
overflow_mul-result c =
    rw (c.from.ensures, c.from-2.ensures, c.from-3.ensures, c.from-4.ensures) (omega (arith, square_le (difference c.args.sides.ordered)))

pub returns : goal.returns
returns c = rw (c.from.ensures, c.from-2.ensures, c.from-3.ensures, c.from-4.ensures) (refl, square_le (difference c.args.sides.ordered))

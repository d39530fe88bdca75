-- `clarity::weighed` meets its contract: the products are small.
use mathlib.Core.Path.{refl}
use native.Mathlib.Omega.{arith}
use Rattle.clarity.proofs.Bounds.{count_count, weighed_le}
use Rattle.clarity.proofs.weighed.Goals as goal

pub overflow_mul-result : goal.overflow_mul-result
overflow_mul-result c = rw c.from-count.ensures (omega (arith, count_count c.requires.0))

pub overflow_mul-result-2 : goal.overflow_mul-result-2
overflow_mul-result-2 c = rw c.from-count.ensures (omega (arith, weighed_le c.requires.0 c.requires.1))

pub returns : goal.returns
returns c = rw c.from-count.ensures (refl, weighed_le c.requires.0 c.requires.1)

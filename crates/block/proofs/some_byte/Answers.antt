-- `block::some_byte` meets its contract: the lowest bit that is set stands in the byte found.
use native.Mathlib.Omega.{arith}
use lib.Count.{trailing_le}
use Rattle.block.proofs.Lanes.{some_byte}
use Rattle.block.proofs.some_byte.Goals as goal

pub overflow_cast-result : goal.overflow_cast-result
overflow_cast-result c = omega (arith, trailing_le 64 c.args.p)

pub returns : goal.returns
returns c = some_byte c.args.p (omega arith)

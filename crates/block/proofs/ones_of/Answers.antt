-- `block::ones_of` meets its contract: a byte's ones are those of its lowest eight bits, so they are at most eight.
use native.Mathlib.Omega.{arith}
use Rattle.block.proofs.Bits.{byte_ones}
use Rattle.block.proofs.ones_of.Goals as goal

pub overflow_cast-result : goal.overflow_cast-result
overflow_cast-result c = omega (arith, lib.Count.ones-le 8 c.args.x (omega arith))

pub returns : goal.returns
returns c = byte_ones c.args.x (omega arith)

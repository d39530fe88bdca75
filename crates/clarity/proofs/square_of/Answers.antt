-- `clarity::square_of` meets its contract: a brightness is at most 255.
use borrow.Author.Rules.{rules}
use mathlib.Core.Path.{refl}
use native.Mathlib.Omega.{arith}
use Rattle.clarity.proofs.Bounds.{byte_square}
use Rattle.clarity.proofs.square_of.Goals as goal

pub overflow_mul-result : goal.overflow_mul-result
overflow_mul-result c = rw c.from-x.ensures (omega (arith, byte_square {x = c.args.c} (search rules)))

pub returns : goal.returns
returns c = rw c.from-x.ensures (refl, byte_square {x = c.args.c} (search rules))

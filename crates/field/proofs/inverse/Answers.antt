-- `field::inverse` meets its contract: one test that the checker computes over the whole table.
use Rattle.field.specs.declared.TheConstants.{INVERSES}
use Rattle.field.specs.Field.{sum, times_x, shifted, product}
use Rattle.field.proofs.Loops.{inverse_there}
use Rattle.field.proofs.inverse.Goals as goal

pub returns : goal.returns
unfolding product shifted times_x sum
returns c = rw c.from.ensures (inverse_there INVERSES tt _ c.requires)

-- `places::power_of` meets its contract: one test that the checker computes over the whole table.
use Rattle.places.specs.declared.TheConstants.{POWERS}
use Rattle.field.specs.Field.{sum, times_x, shifted, product, power}
use Rattle.places.proofs.Entries.{power_there}
use Rattle.places.proofs.power_of.Goals as goal

pub returns : goal.returns
unfolding power product shifted times_x sum
returns c = rw c.from.ensures (power_there POWERS tt c.args.l)

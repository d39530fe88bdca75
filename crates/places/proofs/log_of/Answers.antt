-- `places::log_of` meets its contract: one test that the checker computes over the whole table.
use Rattle.places.specs.declared.TheConstants.{LOGS}
use Rattle.field.specs.Field.{sum, times_x, shifted, product, power}
use Rattle.places.proofs.Entries.{log_there}
use Rattle.places.proofs.log_of.Goals as goal

pub returns : goal.returns
unfolding power product shifted times_x sum
returns c = rw c.from.ensures (log_there LOGS tt c.args.x)

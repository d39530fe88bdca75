-- `field::products` meets its contract: one test that the checker computes over the whole table, 4,096 entries.
use Rattle.field.specs.Field.{sum, times_x, shifted, product}
use Rattle.field.proofs.Lookup.{right_table_lem}
use Rattle.field.proofs.products.Goals as goal

pub returns : goal.returns
unfolding product shifted times_x sum
returns c = right_table_lem _ tt

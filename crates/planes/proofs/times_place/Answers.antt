-- `planes::times_place` meets its contract: the constant holds the powers of α, which a computed test shows.
use Rattle.planes.specs.declared.TheConstants.{POWERS}
use Rattle.planes.specs.Slices.{element_at}
use Rattle.planes.proofs.Loops.{place_planes}
use Rattle.field.specs.Field.{sum, times_x, shifted, product, power}
use Rattle.planes.proofs.times_place.Goals as goal

pub returns : goal.returns
unfolding element_at power product shifted times_x sum
returns c = place_planes POWERS tt _ _ c.times.ensures

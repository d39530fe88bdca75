-- `planes::first_from` meets its contract: the zeros below the lowest set bit of what is left are passed over.
use borrow.Author.Rules.{rules}
use mathlib.Core.Path.{refl}
use Rattle.planes.proofs.Scanning.{low_place, first_bit, trailing_fits, place_fits}
use Rattle.planes.proofs.first_from.Goals as goal

pub overflow_cast-result : goal.overflow_cast-result
overflow_cast-result c = search (trailing_fits, rules)

pub overflow_add-result : goal.overflow_add-result
overflow_add-result c = search (place_fits, rules)

pub returns : goal.returns
returns c = first_bit c.args.bits _ _ (low_place c.args.from) refl

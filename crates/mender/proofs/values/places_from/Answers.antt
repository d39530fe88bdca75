-- `mender::values::places_from` meets its contract: the first i places are in the highest of five lanes.
use borrow.Author.Rules.{rules}
use Rattle.mender.proofs.values.Loops.{places_none, place_fits, places_fit, places_again, places_all}
use Rattle.mender.proofs.values.places_from.Goals as goal

pub loop-i-init : goal.loop-i-init
loop-i-init c = search (places_none, rules)

pub overflow_mul-x : goal.overflow_mul-x
overflow_mul-x c = search (place_fits, rules)

pub overflow_add-x : goal.overflow_add-x
overflow_add-x c = search (places_fit, rules)

pub loop-i-preserved : goal.loop-i-preserved
loop-i-preserved c = search (places_again, rules)

pub returns : goal.returns
returns c = search (places_all, rules)

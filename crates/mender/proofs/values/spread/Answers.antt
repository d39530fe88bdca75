-- `mender::values::spread` meets its contract: two elements, each in five lanes.
use borrow.Author.Rules.{rules}
use Rattle.mender.proofs.values.Dividing.{spread_is, spread_fits}
use Rattle.mender.proofs.values.spread.Goals as goal

pub overflow_mul-result-2 : goal.overflow_mul-result-2
overflow_mul-result-2 c = search (spread_fits, rules)

pub returns : goal.returns
returns c = search (spread_is, rules)

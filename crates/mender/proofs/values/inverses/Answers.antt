-- `mender::values::inverses` meets its contract: the inverses of the first i lanes are in the highest of five.
use borrow.Author.Rules.{rules}
use Rattle.mender.proofs.values.Loops.{inverses_none, inverse_fits, inverses_fit, inverses_again, inverses_all}
use Rattle.mender.proofs.values.inverses.Goals as goal

pub loop-i-init : goal.loop-i-init
loop-i-init c = search (inverses_none, rules)

pub overflow_mul-r : goal.overflow_mul-r
overflow_mul-r c = search (inverse_fits, rules)

pub overflow_add-r : goal.overflow_add-r
overflow_add-r c = search (inverses_fit, rules)

pub loop-i-preserved : goal.loop-i-preserved
loop-i-preserved c = search (inverses_again, rules)

pub returns : goal.returns
returns c = search (inverses_all, rules)

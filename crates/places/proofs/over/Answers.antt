-- `places::over` meets its contract: logarithms are subtracted, modulo 63.
use borrow.Author.Rules.{rules}
use Rattle.places.proofs.Arithmetic.{over_zero, over_logs, over_is}
use Rattle.places.proofs.over.Goals as goal

pub returns-then-u-eq0 : goal.returns-then-u-eq0
returns-then-u-eq0 c = search (over_zero, rules)

pub overflow_add-log_of : goal.overflow_add-log_of
overflow_add-log_of c = search (over_logs, rules)

pub overflow_sub-log_of : goal.overflow_sub-log_of
overflow_sub-log_of c = search (over_logs, rules)

pub returns : goal.returns
returns c = search (over_is, rules)

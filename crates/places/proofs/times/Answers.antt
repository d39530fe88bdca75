-- `places::times` meets its contract: logarithms are added, modulo 63.
use borrow.Author.Rules.{rules}
use Rattle.places.proofs.Arithmetic.{times_zero, times_zero_right, times_logs, times_is}
use Rattle.places.proofs.times.Goals as goal

pub returns-then-u-eq0 : goal.returns-then-u-eq0
returns-then-u-eq0 c = search (times_zero, rules)

pub returns-then-v-eq0 : goal.returns-then-v-eq0
returns-then-v-eq0 c = search (times_zero_right, rules)

pub overflow_add-log_of : goal.overflow_add-log_of
overflow_add-log_of c = search (times_logs, rules)

pub returns : goal.returns
returns c = search (times_is, rules)

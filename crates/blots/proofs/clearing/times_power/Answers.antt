-- `blots::clearing::times_power` meets its contract: logarithms add, modulo 63.
use borrow.Author.Rules.{rules}
use Rattle.blots.proofs.Restoring.{power_none, power_some, log_fits}
use Rattle.blots.proofs.clearing.times_power.Goals as goal

pub returns-then-v-eq0 : goal.returns-then-v-eq0
returns-then-v-eq0 c = search (power_none, rules)

pub overflow_add-log_of : goal.overflow_add-log_of
overflow_add-log_of c = search (log_fits, rules)

pub returns : goal.returns
returns c = search (power_some, rules)

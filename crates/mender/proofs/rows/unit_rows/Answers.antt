-- `mender::rows::unit_rows` meets its contract: the first i rows are set.
use borrow.Author.Rules.{rules}
use Rattle.mender.proofs.rows.Loops.{unit_rows_none, one_mul, one_add, unit_rows_again, unit_rows_all}
use Rattle.mender.proofs.rows.unit_rows.Goals as goal

pub loop-i-init : goal.loop-i-init
loop-i-init c = search (unit_rows_none, rules)

pub overflow_mul-one : goal.overflow_mul-one
overflow_mul-one c = search (one_mul, rules)

pub overflow_add-x : goal.overflow_add-x
overflow_add-x c = search (one_add, rules)

pub loop-i-preserved : goal.loop-i-preserved
loop-i-preserved c = search (unit_rows_again, rules)

pub returns : goal.returns
returns c = search (unit_rows_all, rules)

-- `mender::values::fraction` meets its contract: two numbers side by side.
use borrow.Author.Rules.{rules}
use Rattle.mender.proofs.values.Dividing.{fraction_mul, fraction_fit, fraction_is}
use Rattle.mender.proofs.values.fraction.Goals as goal

pub overflow_mul-result : goal.overflow_mul-result
overflow_mul-result c = search (fraction_mul, rules)

pub overflow_add-result : goal.overflow_add-result
overflow_add-result c = search (fraction_fit, rules)

pub returns : goal.returns
returns c = search (fraction_is, rules)

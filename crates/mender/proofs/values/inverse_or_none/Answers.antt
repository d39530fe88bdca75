-- `mender::values::inverse_or_none` meets its contract: by whether it is 0.
use borrow.Author.Rules.{rules}
use Rattle.field.proofs.Laws.{may_divide}
use Rattle.mender.proofs.values.Loops.{none_of_nothing, some_inverse}
use Rattle.mender.proofs.values.inverse_or_none.Goals as goal

pub returns-then-v-eq0 : goal.returns-then-v-eq0
returns-then-v-eq0 c = search (none_of_nothing, rules)

pub inverse-requires : goal.inverse-requires
inverse-requires c = search (may_divide, rules)

pub returns : goal.returns
returns c = search (some_inverse, rules)

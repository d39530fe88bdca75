-- `mender::values::denominator` meets its contract: three lanes apart.
use borrow.Author.Rules.{rules}
use Rattle.mender.proofs.values.Dividing.{denominator_is}
use Rattle.mender.proofs.values.denominator.Goals as goal

pub returns : goal.returns
returns c = search (denominator_is, rules)

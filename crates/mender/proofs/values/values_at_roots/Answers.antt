-- `mender::values::values_at_roots` meets its contract: at a root the quotient is the value, and nowhere else is there one.
use borrow.Author.Rules.{rules}
use Rattle.mender.proofs.values.Placing.{values_placed}
use Rattle.mender.proofs.values.values_at_roots.Goals as goal

pub returns : goal.returns
returns c = search (values_placed, rules)

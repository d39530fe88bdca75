-- `field::over` meets its contract: what is returned is u times the inverse of v, which is not 0.
use borrow.Author.Rules.{rules}
use Rattle.field.proofs.Loops.{quotient_over}
use Rattle.field.proofs.over.Goals as goal

pub returns : goal.returns
returns c = search (quotient_over, rules)

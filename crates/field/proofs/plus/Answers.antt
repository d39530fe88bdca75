-- `field::plus` meets its contract: sum is exclusive or.
use borrow.Author.Rules.{rules}
use Rattle.field.specs.Field.{sum}
use Rattle.field.proofs.plus.Goals as goal

pub returns : goal.returns
unfolding sum
returns c = search rules

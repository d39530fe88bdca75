-- `regular::singular` meets its contract: the windows of the sums are the rows.
use borrow.Author.Rules.{rules}
use Rattle.regular.proofs.Stepping.{windows_pivots}
use Rattle.regular.proofs.singular.Goals as goal

pub returns : goal.returns
returns c = search (windows_pivots, rules)

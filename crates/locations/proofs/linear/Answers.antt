-- `locations::linear` meets its contract: the root of x + c is c, where that is not 0.
use borrow.Author.Rules.{rules}
use Rattle.locations.proofs.Finding.{linear_none, linear_found}
use Rattle.locations.proofs.linear.Goals as goal

pub returns-then-c-eq0 : goal.returns-then-c-eq0
returns-then-c-eq0 c = search (linear_none, rules)

pub returns : goal.returns
returns c = search (linear_found, rules)

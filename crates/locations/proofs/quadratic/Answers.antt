-- `locations::quadratic` meets its contract: b y and b y + b are the roots, where b and c are not 0 and the table has a y.
use borrow.Author.Rules.{rules}
use Rattle.locations.proofs.Finding.{none_of_two, two_found}
use Rattle.locations.proofs.quadratic.Goals as goal

pub returns-then-b-eq0 : goal.returns-then-b-eq0
returns-then-b-eq0 c = search (none_of_two, rules)

pub returns-then-c-eq0 : goal.returns-then-c-eq0
returns-then-c-eq0 c = search (none_of_two, rules)

pub returns-then-u-ge32 : goal.returns-then-u-ge32
returns-then-u-ge32 c = search (none_of_two, rules)

pub returns : goal.returns
returns c = search (two_found, rules)

-- `planes::crossed` meets its contract: the two products are added.
use borrow.Author.Rules.{rules}
use Rattle.planes.proofs.Loops.{crossed_planes}
use Rattle.planes.proofs.crossed.Goals as goal

pub returns : goal.returns
returns c = search (crossed_planes, rules)

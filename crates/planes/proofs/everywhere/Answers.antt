-- `planes::everywhere` meets its contract: each of the six bits is spread.
use borrow.Author.Rules.{rules}
use Rattle.planes.proofs.Loops.{everywhere_bits}
use Rattle.planes.proofs.everywhere.Goals as goal

pub returns : goal.returns
returns c = search (everywhere_bits, rules)

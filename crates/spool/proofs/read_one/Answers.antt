-- `spool::read_one` meets its contract: the plain numbers are those of the reading.
use borrow.Author.Rules.{rules}
use Rattle.spool.proofs.Loops.{plainly}
use Rattle.spool.proofs.read_one.Goals as goal

pub returns : goal.returns
returns c = search (plainly, rules)

-- `planes::next_bit` meets its contract: the three steps, one after the other.
use borrow.Author.Rules.{rules}
use Rattle.planes.proofs.Loops.{next_bit}
use Rattle.planes.proofs.next_bit.Goals as goal

pub returns : goal.returns
returns c = search (next_bit, rules)

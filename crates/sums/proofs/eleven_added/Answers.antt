-- `sums::eleven_added` meets its contract: lanes are added one by one.
use borrow.Author.Rules.{rules}
use Rattle.sums.proofs.Holding.{eleven_added}
use Rattle.sums.proofs.eleven_added.Goals as goal

pub returns : goal.returns
returns c = search (eleven_added, rules)

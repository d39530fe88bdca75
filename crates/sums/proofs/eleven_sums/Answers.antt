-- `sums::eleven_sums` meets its contract: S_0 is set between the other ten.
use borrow.Author.Rules.{rules}
use Rattle.sums.proofs.Packing.{sums_in_order}
use Rattle.sums.proofs.eleven_sums.Goals as goal

pub returns : goal.returns
returns c = rw c.from.ensures (search (sums_in_order, rules))

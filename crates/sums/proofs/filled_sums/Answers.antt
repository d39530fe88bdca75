-- `sums::filled_sums` meets its contract: what the word lacks is 0 in the sums too.
use borrow.Author.Rules.{rules}
use Rattle.sums.proofs.Packing.{packed_filled, filled_long}
use Rattle.sums.proofs.filled_sums.Goals as goal

pub whole_sums-requires : goal.whole_sums-requires
whole_sums-requires c = search (filled_long, rules)

pub returns : goal.returns
returns c = search (packed_filled, rules)

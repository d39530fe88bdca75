-- `sums::whole_sums` meets its contract: the values of the first 63 characters at the ten points are sums, and S_0 adds the characters as they are.
use borrow.Author.Rules.{rules}
use Rattle.sums.proofs.Packing.{first_long, packed_first}
use Rattle.sums.proofs.whole_sums.Goals as goal

pub slice_bounds-values-end : goal.slice_bounds-values-end
slice_bounds-values-end c = search (first_long, rules)

pub slice_bounds-xor_of-end : goal.slice_bounds-xor_of-end
slice_bounds-xor_of-end c = search (first_long, rules)

pub returns : goal.returns
returns c = search (packed_first, rules)

-- `sums::packed` meets its contract: the sums from k on are packed.
use borrow.Author.Rules.{rules}
use Rattle.sums.proofs.Loops.{packed_none, packed_fits, packed_adds, packed_again, packed_all}
use Rattle.sums.proofs.packed.Goals as goal

pub loop-k-init : goal.loop-k-init
loop-k-init c = search (packed_none, rules)

pub overflow_mul-p : goal.overflow_mul-p
overflow_mul-p c = search (packed_fits, rules)

pub overflow_add-p : goal.overflow_add-p
overflow_add-p c = search (packed_adds, rules)

pub loop-k-preserved : goal.loop-k-preserved
loop-k-preserved c = search (packed_again, rules)

pub returns : goal.returns
returns c = search (packed_all, rules)

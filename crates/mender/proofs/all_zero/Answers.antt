-- `mender::all_zero` meets its contract: the lanes are 0 where their number is.
use borrow.Author.Rules.{rules}
use Rattle.mender.proofs.Repairing.{zero_not, zero_told}
use Rattle.mender.proofs.all_zero.Goals as goal

pub returns-then-sums-eq0 : goal.returns-then-sums-eq0
returns-then-sums-eq0 c = search (zero_told, rules)

pub returns-else-sums-eq0 : goal.returns-else-sums-eq0
returns-else-sums-eq0 c = search (zero_not, rules)

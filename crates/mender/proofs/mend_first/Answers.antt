-- `mender::mend_first` meets its contract: sums that are all 0 have no error, and else the errors are looked for.
use borrow.Author.Rules.{rules}
use Rattle.mender.proofs.Repairing.{first_none}
use Rattle.mender.proofs.Finding.{mended, mended_bounds}
use Rattle.mender.proofs.mend_first.Goals as goal

pub returns-then-zero_first : goal.returns-then-zero_first
returns-then-zero_first c = search (first_none, rules)

pub find-requires : goal.find-requires
find-requires c = search (mended_bounds, rules)

pub returns : goal.returns
returns c = search (mended, rules)

-- `mender::lone_error` meets its contract: each sum is the one before it times the place, or nothing is said.
use borrow.Author.Rules.{rules}
use Rattle.mender.proofs.OneError.{sum_divides, one_error}
use Rattle.mender.proofs.lone_error.Goals as goal

pub over-place-requires : goal.over-place-requires
over-place-requires c = search (sum_divides, rules)

pub returns : goal.returns
returns c = search (one_error, rules)

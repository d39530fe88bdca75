-- `mender::mend` meets its contract: c counts up to 11, e up to half of it, and sums that are no elements have no word.
use borrow.Author.Rules.{rules}
use borrow.Author.Tests.{not-true}
use Rattle.mender.proofs.Repairing.{mend_refused, mend_found}
use Rattle.mender.proofs.Finding.{mended_bounds}
use Rattle.mender.proofs.mend.Goals as goal

pub returns-then-not-elements_to : goal.returns-then-not-elements_to
returns-then-not-elements_to c = search (mend_refused, not-true, rules)

pub find-requires : goal.find-requires
find-requires c = search (mended_bounds, rules)

pub returns : goal.returns
returns c = search (mend_found, rules)

-- `mender::mend_eleven` meets its contract: e counts up to 5.
use borrow.Author.Rules.{rules}
use Rattle.mender.proofs.Repairing.{mended_eleven}
use Rattle.mender.proofs.mend_eleven.Goals as goal

pub returns : goal.returns
returns c = search (mended_eleven, rules)

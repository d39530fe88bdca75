-- `mender::clean_within` meets its contract: a clean word is one whose sums are all 0.
use borrow.Author.Rules.{rules}
use Rattle.mender.proofs.Finding.{nearest_clean}
use Rattle.mender.proofs.clean_within.Goals as goal

pub returns : goal.returns
returns c = search (nearest_clean, rules)

-- `mender::has_sums` meets its contract: the word's own sums, added, leave 0.
use borrow.Author.Rules.{rules}
use Rattle.sums.proofs.Holding.{eleven_long}
use Rattle.mender.proofs.Repairing.{has_them}
use Rattle.mender.proofs.has_sums.Goals as goal

pub returns : goal.returns
returns c = search (has_them, eleven_long, rules)

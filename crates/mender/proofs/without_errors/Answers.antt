-- `mender::without_errors` meets its contract: a word of 63 characters is repaired within five errors.
use borrow.Author.Rules.{rules}
use Rattle.mender.proofs.Repairing.{without_whole}
use Rattle.mender.proofs.without_errors.Goals as goal

pub returns : goal.returns
returns c = search (without_whole, rules)

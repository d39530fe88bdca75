-- `blots::clearing::share` meets its contract: times the place to the power 58, which is -5 modulo 63.
use borrow.Author.Rules.{rules}
use Rattle.blots.proofs.Restoring.{share_is}
use Rattle.blots.proofs.clearing.share.Goals as goal

pub returns : goal.returns
returns c = search (share_is, rules)

-- `mender::rows::multiples` meets its contract: each entry is a sum of two before it.
use borrow.Author.Rules.{rules}
use Rattle.mender.proofs.rows.Loops.{multiples_are}
use Rattle.mender.proofs.rows.multiples.Goals as goal

pub returns : goal.returns
returns c = search (multiples_are, rules)

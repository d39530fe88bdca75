-- `ring::pattern::twice` meets its contract: the loop keeps that the places passed have their errors, in the first round and in the second.
use borrow.Author.Rules.{rules}
use Rattle.ring.proofs.pattern.Gains.{twice_none, twice_more, twice_all}
use Rattle.ring.proofs.pattern.twice.Goals as goal

pub loop-place-init : goal.loop-place-init
loop-place-init c = search (twice_none, rules)

pub loop-place-preserved : goal.loop-place-preserved
loop-place-preserved c = search (twice_more, rules)

pub returns : goal.returns
returns c = search (twice_all, rules)

-- `ring::pattern::all_gains` meets its contract: the loop keeps that the starts passed, of each direction, have what their marks add.
use borrow.Author.Rules.{rules}
use Rattle.ring.proofs.pattern.Gains.{gains_none, gains_more, gains_all}
use Rattle.ring.proofs.pattern.all_gains.Goals as goal

pub loop-turn-init : goal.loop-turn-init
loop-turn-init c = search (gains_none, rules)

pub loop-turn-preserved : goal.loop-turn-preserved
loop-turn-preserved c = search (gains_more, rules)

pub returns : goal.returns
returns c = search (gains_all, rules)

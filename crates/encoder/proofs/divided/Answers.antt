-- A step of the division: the loop fills the places one by one, each with the one after it and its multiple of the generator, a lane, taken away.
use borrow.Author.Rules.{rules}
use Rattle.encoder.proofs.Loops.{divided_none, divided_again, divided_all}
use Rattle.encoder.proofs.divided.Goals as goal

pub loop-i-init : goal.loop-i-init
loop-i-init c = search (divided_none, rules)

pub loop-i-preserved : goal.loop-i-preserved
loop-i-preserved c = search (divided_again, rules)

pub returns : goal.returns
returns c = search (divided_all, rules)

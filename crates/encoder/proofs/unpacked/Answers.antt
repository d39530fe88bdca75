-- `encoder::unpacked` meets its contract: the last check is stored, then a lane at each turn.
use borrow.Author.Rules.{rules}
use Rattle.encoder.proofs.Loops.{unpacked_none, unpacked_again, unpacked_all}
use Rattle.encoder.proofs.unpacked.Goals as goal

pub loop-i-init : goal.loop-i-init
loop-i-init c = search (unpacked_none, rules)

pub loop-i-preserved : goal.loop-i-preserved
loop-i-preserved c = search (unpacked_again, rules)

pub returns : goal.returns
returns c = search (unpacked_all, rules)

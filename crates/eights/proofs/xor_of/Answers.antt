-- `eights::xor_of` meets its contract: the loop keeps that the bytes of z sum to those passed.
use borrow.Author.Rules.{rules}
use Rattle.eights.proofs.Loops.{xor_start, xor_again, xor_all, xor_few}
use Rattle.eights.proofs.xor_of.Goals as goal

pub returns-then-n-lt8 : goal.returns-then-n-lt8
returns-then-n-lt8 c = search (xor_few, rules)

pub loop-k-init : goal.loop-k-init
loop-k-init c = search (xor_start, rules)

pub loop-k-preserved : goal.loop-k-preserved
loop-k-preserved c = search (xor_again, rules)

pub returns : goal.returns
returns c = search (xor_all, rules)

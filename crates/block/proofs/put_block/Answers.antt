-- `block::put_block` meets its contract. The invariant: the rows passed stand in the output with their checks, and the rest is as it was.
use mathlib.Core.Path.{◌∙◌, sym}
use lib.ListN.{length-set}
use borrow.Author.Rules.{rules}
use Rattle.block.specs.Inside.{wanted}
use Rattle.block.proofs.Loops.{put_none, put_more, put_all}
use Rattle.block.proofs.put_block.Goals as goal

-- the code's constant meets the definition's here
pub loop-i-init : goal.loop-i-init
unfolding wanted
loop-i-init c = search (put_none, rules)

pub loop-i-preserved : goal.loop-i-preserved
loop-i-preserved c = search (put_more, rules)

pub shape_of-output : goal.shape_of-output
shape_of-output c = simp length-set (c.loop-i.invariant.long ∙ sym c.loop-i.invariant.room)

pub returns : goal.returns
returns c = search (put_all, rules)

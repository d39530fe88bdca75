-- `blots::clearing::restored` meets its contract: the characters before a are divided, and their part of S_-5 is taken from what is left of it.
use borrow.Author.Rules.{rules}
use Rattle.blots.proofs.Restoring.{restored_none, restored_read, restored_more, restored_skip, restored_next, restored_small, divided_small, left_small, not_blot, restored_all}
use Rattle.blots.proofs.clearing.restored.Goals as goal
use Rattle.blots.proofs.clearing.restored.Goals.{else-w-a-ne0, then-w-a-ne0}

pub loop-a-init : goal.loop-a-init
loop-a-init c = search (restored_none, rules)

pub bounds-w-a : goal.bounds-w-a
bounds-w-a c = search (restored_read, rules)

pub bounds-w-a-then-w-a-ne0 : goal.bounds-w-a-then-w-a-ne0
bounds-w-a-then-w-a-ne0 c = search (restored_read, rules)

pub divided-v-requires : goal.divided-v-requires
divided-v-requires c = search (not_blot, restored_small, rules)

pub bounds-w-a-then-w-a-ne0-2 : goal.bounds-w-a-then-w-a-ne0-2
bounds-w-a-then-w-a-ne0-2 c = search (restored_read, rules)

pub share-left-requires : goal.share-left-requires
share-left-requires c = search (divided_small, rules)

pub loop-a-smaller : goal.loop-a-smaller
loop-a-smaller c = search (restored_next, rules)

pub loop-a-preserved : goal.loop-a-preserved
loop-a-preserved c = elim c.if-w-a-ne0.branch [ then-w-a-ne0 w ↦ search (restored_more, rules) | else-w-a-ne0 w ↦ search (restored_skip, rules) ]

pub value-requires : goal.value-requires
value-requires c = search (left_small, rules)

pub returns : goal.returns
returns c = search (restored_all, rules)

-- `mender::values::placed` meets its contract: the roots below l have their values, and no other place has one.
use borrow.Author.Rules.{rules}
use Rattle.mender.proofs.values.Placing.{placed_none, placed_long, placed_room, turn_some, turn_none, placed_all}
use Rattle.mender.proofs.values.placed.Goals as goal
use Rattle.mender.proofs.values.placed.Goals.{else-v-ne0, then-v-ne0}

pub loop-l-init : goal.loop-l-init
loop-l-init c = search (placed_none, rules)

pub bounds-w-l : goal.bounds-w-l
bounds-w-l c = search (placed_long, rules)

pub overflow_add-count : goal.overflow_add-count
overflow_add-count c = search (placed_room, rules)

pub loop-l-preserved : goal.loop-l-preserved
loop-l-preserved c = elim c.if-v-ne0.branch [ then-v-ne0 w ↦ search (turn_some, rules) | else-v-ne0 w ↦ search (turn_none, rules) ]

pub returns : goal.returns
returns c = search (placed_all, rules)

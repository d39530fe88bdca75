-- `ring::word_at` meets its contract: the loop keeps that the first a characters are those of the word at the start.
use borrow.Author.Rules.{rules}
use Rattle.ring.proofs.Loops.{placed_start, place_inside, placed_more, placed_all}
use Rattle.ring.proofs.word_at.Goals as goal

pub loop-a-init : goal.loop-a-init
loop-a-init c = search (placed_start, rules)

pub bounds-ring-place : goal.bounds-ring-place
bounds-ring-place c = search place_inside

pub loop-a-preserved : goal.loop-a-preserved
loop-a-preserved c = search (placed_more, rules)

pub returns : goal.returns
returns c = search (placed_all, rules)

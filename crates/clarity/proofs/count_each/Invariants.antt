-- `clarity::count_each` meets its contract: each turn counts one answer more.
use Rattle.clarity.proofs.Loops.{CountingTo}
use Rattle.clarity.proofs.count_each.Given as goal

abbrev pub invariant-loop-i : goal.invariant-loop-i
invariant-loop-i l = CountingTo l.cells l.threshold l.n l.i l.counts.ratios l.counts.unspread l.counts.refusals

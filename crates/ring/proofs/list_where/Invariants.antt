-- `ring::list_where` meets its contract: the loop keeps that of the starts below this one those that pass are listed, so that whatever lists the rest completes the list.
use Rattle.ring.proofs.Loops.{ListedTo}
use Rattle.ring.proofs.list_where.Given as goal

abbrev pub invariant-loop-start : goal.invariant-loop-start
invariant-loop-start g l = ListedTo (goal.F-post g l.passes) l.initial.output l.output l.count l.start

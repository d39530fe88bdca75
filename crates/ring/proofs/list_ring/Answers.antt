-- `ring::list_ring` meets its contract: each return is one way in which listing ends.
use Rattle.refusal.proofs.Ladder.{verdicts}
use Rattle.ring.proofs.Ways.{list_refused, list_written, listable}
use Rattle.ring.proofs.list_ring.Goals as goal

pub returns-then-ring-ne63 : goal.returns-then-ring-ne63
returns-then-ring-ne63 c = list_refused _ _ _ 0 (search verdicts)

pub returns-in_default : goal.returns-in_default
returns-in_default c = let other = c.in_default.ensures.cases in list_refused _ _ _ 1 (search (other, verdicts))

pub returns-then-not-all_low : goal.returns-then-not-all_low
returns-then-not-all_low c = rw c.in-Some.ensures.cases.same (list_refused _ _ _ 2 (search (c.in-Some.ensures.cases.long, verdicts)))

pub returns-then-radius-gt5 : goal.returns-then-radius-gt5
returns-then-radius-gt5 c = rw c.in-Some.ensures.cases.same (list_refused _ _ _ 3 (search (c.in-Some.ensures.cases.long, verdicts)))

pub list_starts-requires : goal.list_starts-requires
list_starts-requires c = search (listable, verdicts)

pub returns : goal.returns
returns c = list_written _ _ _ _ _ (search (c.in-Some.ensures.cases.long, verdicts) depth 9) (rw c.in-Some.ensures.cases.same at c.list_starts.ensures)

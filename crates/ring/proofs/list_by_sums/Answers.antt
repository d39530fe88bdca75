-- `ring::list_by_sums` meets its contract: the starts for which errors have the sums are listed.
use borrow.Author.Rules.{rules}
use Rattle.ring.proofs.Loops.{lists_those}
use Rattle.ring.proofs.list_by_sums.Goals as goal

pub list_where-requires : goal.list_where-requires
list_where-requires c = λ k h. (h, c.undecided_starts-undecided.ensures, c.all_marks-marks.ensures)

pub returns : goal.returns
returns c = lists_those _ _ _ _ _ (λ j b h t. search rules) c.list_where.ensures

-- The closure of `ring::list_by_sums` meets its contract: the start is told by the sums with those of its marks added.
use Rattle.ring.proofs.Loops.{told_here, no_errors_here}
use Rattle.ring.proofs.fn.list_by_sums.list_where.Goals as goal

pub listable-requires : goal.listable-requires
listable-requires c = record { start_bound = c.requires.0; no_errors_at = no_errors_here _ _ c.captures.marks.now _ c.requires.2 c.requires.0 (rw c.from.ensures at c.eleven_added.ensures) _ c.requires.1 }

pub returns : goal.returns
returns c = told_here _ _ c.captures.marks.now _ c.requires.2 c.requires.0 (rw c.from.ensures at c.eleven_added.ensures) _ _ c.listable.ensures

-- `matrix::solved` meets its contract: the reduced matrix has a unit diagonal exactly where the system is regular, and its next column solves it.
use borrow.Author.Rules.{rules}
use Rattle.matrix.proofs.Lowering.{low_entries}
use Rattle.matrix.proofs.Solving.{solved_none, solved_found}
use Rattle.matrix.proofs.solved.Goals as goal

pub reduced-rows-requires : goal.reduced-rows-requires
reduced-rows-requires c = search (low_entries, rules)

pub returns-then-not-unit_diagonal : goal.returns-then-not-unit_diagonal
returns-then-not-unit_diagonal c = search (solved_none, rules)

pub returns : goal.returns
returns c = search (solved_found, rules)

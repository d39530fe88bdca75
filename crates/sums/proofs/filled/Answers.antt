-- `sums::filled` meets its contract: what is copied stands in front of zeros.
use mathlib.Core.Path.{refl}
use borrow.Author.Rules.{rules}
use Rattle.sums.proofs.Loops.{filled_copied}
use Rattle.sums.proofs.filled.Goals as goal

pub returns : goal.returns
returns c = filled_copied _ _ _ _ c.min-n.ensures (search rules) refl

-- `mender::rows::pivot_row` meets its contract: the rows before the one that is found combine the window to 0.
use borrow.Author.Rules.{rules}
use borrow.Author.Tests.{tests}
use mathlib.Core.Path.{◌≡◌}
use Rattle.lanes.specs.Lanes.{lane}
use Rattle.std.proofs.lemmas.Iterator.{YieldsList-from_slice, IsFirst-from_position}
use Rattle.mender.proofs.rows.Loops.{pivot_row_is}
use Rattle.mender.proofs.rows.pivot_row.Goals as goal

pub returns : goal.returns
returns c = pivot_row_is _ _ _ (search rules)
    (IsFirst-from_position _ _ _ (λ v. lane v c.args.j ≡ 0 → ⊥) (λ v. lane v c.args.j ≡ 0) c.position.ensures.ran (YieldsList-from_slice _ (cc)) (λ x q k. search (rules, tests)) (λ x q k. search (rules, tests)))

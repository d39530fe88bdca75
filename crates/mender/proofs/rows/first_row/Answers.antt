-- `mender::rows::first_row` meets its contract: the rows before the one that is found are 0.
use borrow.Author.Rules.{rules}
use borrow.Author.Tests.{tests}
use mathlib.Core.Path.{◌≡◌}
use Rattle.std.proofs.lemmas.Iterator.{YieldsList-from_slice, IsFirst-from_position}
use Rattle.mender.proofs.rows.Loops.{first_row_is}
use Rattle.mender.proofs.rows.first_row.Goals as goal

pub returns : goal.returns
returns c = first_row_is _ _ (search rules)
    (IsFirst-from_position _ _ _ (λ v. v ≡ 0 → ⊥) (λ v. v ≡ 0) c.position.ensures.ran (YieldsList-from_slice _ (cc)) (λ x q k. search (rules, tests)) (λ x q k. search (rules, tests)))

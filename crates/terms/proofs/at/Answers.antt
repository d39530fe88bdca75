-- `terms::at` meets its contract: one test that the checker computes over the whole table, 1,344 entries.
use native.Mathlib.Omega.{arith}
use Rattle.lanes.specs.Lanes.{pack}
use Rattle.field.specs.Field.{sum, times_x, shifted, product}
use Rattle.terms.specs.declared.table.TheConstants.{TERMS}
use Rattle.terms.proofs.Entries.{term_there}
use Rattle.terms.proofs.at.Goals as goal

pub returns : goal.returns
unfolding pack product shifted times_x sum
returns c = record { inside = λ h. rw c.from.ensures (term_there TERMS tt _ _ h); past = λ h. absurd (omega arith) }

-- `ring::marks::forward_words` meets its contract: the sums at the first start are computed by Horner's rule, and those at each next one are compared with them turned back.
use native.Mathlib.Omega.{arith}
use Rattle.field.specs.Field.{sum, times_x, shifted, product, power}
use Rattle.regular.specs.Pivots.{element_in}
use Rattle.code.specs.Word.{marks, listed}
use Rattle.polynomial.proofs.Horner.{horner}
use Rattle.code.proofs.Sums.{horner_sums}
use Rattle.ring.proofs.marks.Marks.{first_marks}
use Rattle.ring.proofs.marks.Tables.{backs, sums_in, turned_in, marks_in}
use Rattle.ring.proofs.marks.forward_words.Goals as goal

pub returns : goal.returns
unfolding backs sums_in turned_in element_in listed horner marks power product shifted times_x sum
returns c = marks_in 0 _ tt (λ l h e. omega arith) (first_marks _ (horner_sums marks))

-- `code::mark_sums` meets its contract: the eleven numbers are compared with what Horner's rule gives at the marks.
use Rattle.field.specs.Field.{sum, times_x, shifted, product, power}
use Rattle.code.specs.Word.{marks, listed}
use Rattle.polynomial.proofs.Horner.{horner}
use Rattle.code.proofs.Sums.{horner_sums}
use Rattle.code.proofs.mark_sums.Goals as goal

pub returns : goal.returns
unfolding listed horner marks power product shifted times_x sum
returns c = horner_sums marks

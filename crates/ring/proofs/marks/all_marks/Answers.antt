-- `ring::marks::all_marks` meets its contract: the sums at the first start of each direction are computed by Horner's rule, and those at each next one are compared with them turned back.
use mathlib.Core.Path.{refl}
use Rattle.field.specs.Field.{sum, times_x, shifted, product, power}
use Rattle.lanes.specs.Lanes.{lane}
use Rattle.code.specs.Word.{marks, listed, reversed}
use Rattle.sums.specs.Held.{eleven_at, eleven}
use Rattle.polynomial.proofs.Horner.{horner}
use Rattle.code.proofs.Sums.{horner_sums}
use Rattle.ring.proofs.marks.Marks.{first_marks, backward_begins}
use Rattle.ring.proofs.marks.Tables.{backs, turned_all, marks_at_all}
use Rattle.ring.proofs.marks.all_marks.Goals as goal

pub returns : goal.returns
unfolding backs turned_all eleven_at eleven lane listed horner marks reversed power product shifted times_x sum
returns c = marks_at_all _ tt (first_marks _ (horner_sums marks)) (backward_begins 62 _ refl (horner_sums (reversed 0 marks)))

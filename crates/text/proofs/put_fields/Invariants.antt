-- put_fields puts the numbers, each after a space: after i turns the first i of them.
use Rattle.std.proofs.Common.{take}
use Rattle.text.specs.Text.{fields}
use Rattle.text.specs.Writing.{Puts}
use Rattle.text.proofs.put_fields.Given as goal

abbrev pub invariant-loop-n : goal.invariant-loop-n
invariant-loop-n l = Puts l.fn.out l.out l.at l.next (fields (take l.n-index l.numbers))

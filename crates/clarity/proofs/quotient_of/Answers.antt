-- `clarity::quotient_of` meets its contract: a double holds each of the two exactly.
use borrow.Author.Rules.{rules}
use lib.Ieee.{in_float}
use lib.Dec.{le→leb}
use Prim.Native.Nat.{◌^◌}
use Rattle.clarity.proofs.quotient_of.Goals as goal

pub int_to_float-result : goal.int_to_float-result
unfolding in_float
int_to_float-result c = le→leb c.args.n (2 ^ 53) (search rules)

pub int_to_float-result-2 : goal.int_to_float-result-2
unfolding in_float
int_to_float-result-2 c = le→leb c.args.d (2 ^ 53) (search rules)

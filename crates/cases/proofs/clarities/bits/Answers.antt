-- `cases::clarities::bits` is safe: a double that is the same as itself is a number.
use Rattle.std.proofs.Common.{◌≡◌, subst, not, false}
use lib.Dec.{T}
use lib.Ieee.{Float, nan, inf, fin, eq, ne, is_nan}
use Rattle.cases.proofs.clarities.bits.Goals as goal

no_nan : (x : Float) → ne x x ≡ false → T (not (is_nan x))
unfolding ne eq is_nan
no_nan nan e = subst T e tt
no_nan (inf s) e = tt
no_nan (fin s m e) h = tt

pub float_to_bits-result : goal.float_to_bits-result
float_to_bits-result c = no_nan c.args.x c.if-x.false

-- Every row of the bench sheet's table for blocks that outlast a smudge is true: uniqueness would not catch a wrong direction, and these do.
use mathlib.Core.Path.{◌≡◌, refl, subst}
use mathlib.Core.List.{List, [], ◌∷◌}
use Prim.Native.Nat.{ℕ, zero, suc}
use native.Mathlib.Omega.{arith}
use lib.Count.{ones_in}
use Rattle.block.specs.Block.{Sevens, Holds}
use Rattle.block.specs.Inside.{summed, wanted, checked, encoded}
use Rattle.block.proofs.Encoding.{encoded_holds}
use Rattle.smudge.specs.Smudge.{cell, row_of, rows_of, upward, leftward, straightened, rightward, downward, staggered}
use Rattle.smudge.specs.Bench.{sheet, All}

abbrev one_to_seven : List ℕ
one_to_seven = 1 ∷ 2 ∷ 3 ∷ 4 ∷ 5 ∷ 6 ∷ 7 ∷ []

sevens : Sevens one_to_seven
sevens zero = omega arith
sevens (suc zero) = omega arith
sevens (suc (suc zero)) = omega arith
sevens (suc (suc (suc zero))) = omega arith
sevens (suc (suc (suc (suc zero)))) = omega arith
sevens (suc (suc (suc (suc (suc zero))))) = omega arith
sevens (suc (suc (suc (suc (suc (suc zero)))))) = omega arith
sevens (suc (suc (suc (suc (suc (suc (suc i))))))) = omega arith

plain_is : encoded one_to_seven ≡ 129 ∷ 130 ∷ 3 ∷ 132 ∷ 5 ∷ 6 ∷ 135 ∷ 255 ∷ []
unfolding encoded checked summed wanted ones_in
plain_is = refl

stored_is : 131 ∷ 170 ∷ 129 ∷ 26 ∷ 7 ∷ 18 ∷ 5 ∷ 93 ∷ [] ≡ staggered (129 ∷ 130 ∷ 3 ∷ 132 ∷ 5 ∷ 6 ∷ 135 ∷ 255 ∷ [])
unfolding cell row_of rows_of rightward downward staggered
stored_is = refl

straight_is : straightened (0 ∷ 0 ∷ 0 ∷ 0 ∷ 24 ∷ 24 ∷ 0 ∷ 0 ∷ []) ≡ 0 ∷ 0 ∷ 8 ∷ 2 ∷ 16 ∷ 4 ∷ 0 ∷ 0 ∷ []
unfolding cell row_of rows_of upward leftward straightened
straight_is = refl

pub bench_sheet : All sheet
bench_sheet = (
  record {
    plain = 129 ∷ 130 ∷ 3 ∷ 132 ∷ 5 ∷ 6 ∷ 135 ∷ 255 ∷ [];
    holds = subst (Holds one_to_seven) plain_is (encoded_holds one_to_seven (omega arith) (omega arith) sevens);
    stored = stored_is;
  },
  (straight_is, tt),
)

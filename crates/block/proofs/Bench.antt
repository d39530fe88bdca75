-- Every row of the bench sheet's table for blocks is true.
use mathlib.Core.Path.{◌≡◌, refl}
use mathlib.Core.List.{[], ◌∷◌}
use Prim.Native.Nat.{ℕ, zero, suc, ◌<◌, ◌≤◌}
use native.Mathlib.Omega.{arith}
use lib.Count.{ones_in}
use lib.Bits.{bit_xor}
use Rattle.block.specs.Block.{Bytes, ones, Proper, distance, Near}
use Rattle.block.specs.Bench.{sheet, All}
use Rattle.block.specs.Inside.{odd_rows, summed, wanted}
use Rattle.block.proofs.Columns.{is_proper}
use Rattle.block.proofs.Apart.{wrong_columns_lem}
use Rattle.block.proofs.Reading.{near_reads, none_near}

two_bytes : (x y : ℕ) → x < 256 → y < 256 → Bytes (x ∷ y ∷ [])
two_bytes x y h k zero = h
two_bytes x y h k (suc zero) = k
two_bytes x y h k (suc (suc i)) = omega arith

proper_252 : Proper (3 ∷ 252 ∷ [])
unfolding odd_rows summed ones_in wanted
proper_252 =
    is_proper (3 ∷ 252 ∷ []) (record { least = omega arith; most = omega arith; bytes = two_bytes 3 252 (omega arith) (omega arith) }) refl refl

near_253 : Near (3 ∷ 253 ∷ []) (3 ∷ 252 ∷ [])
unfolding distance ones_in
near_253 = record { long = refl; proper = proper_252; within = omega arith }

distance_253 : 1 ≡ distance (3 ∷ 253 ∷ []) (3 ∷ 252 ∷ [])
unfolding distance ones_in
distance_253 = refl

columns_33 : 2 ≤ ones (bit_xor wanted (summed (3 ∷ 3 ∷ [])))
unfolding summed ones_in wanted
columns_33 = omega arith

columns_30 : 2 ≤ ones (bit_xor wanted (summed (3 ∷ 0 ∷ [])))
unfolding summed ones_in wanted
columns_30 = omega arith

pub bench_sheet : All sheet
bench_sheet = (
  proper_252,
  (
    λ old room. near_reads (3 ∷ 253 ∷ []) old (3 ∷ 252 ∷ []) 1 room near_253 distance_253,
    (
      λ old room. none_near (3 ∷ 3 ∷ []) old (omega arith) (omega arith) room (wrong_columns_lem (3 ∷ 3 ∷ []) columns_33),
      (λ old room. none_near (3 ∷ 0 ∷ []) old (omega arith) (omega arith) room (wrong_columns_lem (3 ∷ 0 ∷ []) columns_30), tt),
    ),
  ),
)

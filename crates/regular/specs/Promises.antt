-- What the filter promises: where it has a 0, no errors have the sums.
use Rattle.std.specs.Prelude.{◌≡◌, List, ℕ, ◌<◌}
use Rattle.code.specs.Word.{listed}
use Rattle.mender.specs.Mender.{Fits}
use Rattle.planes.specs.Slices.{bit_at}
use Rattle.regular.specs.Pivots.{sum_in}

-- where r has a 0, no word of at most five characters that are not 0 has the eleven sums
pub record NoErrorsWhere (sums words : List ℕ) (r : ℕ) : Type 0 where
  pub none : (l : ℕ) → l < 63 → bit_at r l ≡ 0 → (w : List ℕ) → Fits (listed (sum_in sums words l) 0 11) 11 5 w → ⊥

-- What the filter in front of listing promises: which starts no errors are left for.
use Rattle.std.specs.Prelude.{◌≡◌, Bool, false, cond, List, ℕ, ◌-◌, ◌<◌, ltb}
use Rattle.planes.specs.Slices.{bit_at}
use Rattle.code.specs.Word.{added}
use Rattle.mender.specs.Mender.{Fits}
use Rattle.ring.specs.declared.Undecided.{Undecided}
use Rattle.ring.specs.Inside.{MarkSums}

-- the bit of a start
unfoldable pub undecided_at : Undecided → ℕ → ℕ
undecided_at u k = cond (ltb k 63) (bit_at u.forward k) (bit_at u.backward (k - 63))

-- whether a start may be listed: where not, its bit is 0
pub record MayList (u : Undecided) (k : ℕ) (b : Bool) : Type 0 where
  pub not : b ≡ false → undecided_at u k ≡ 0

-- where the bit is 0, no errors have these sums
pub record NoErrorsAt (u : Undecided) (k : ℕ) (s : List ℕ) : Type 0 where
  pub none : undecided_at u k ≡ 0 → (w : List ℕ) → Fits s 11 5 w → ⊥

-- where the bit is 0, no errors have the sums of a ring with those of the marks at that start added
pub record Decides (sums : List ℕ) (u : Undecided) : Type 0 where
  pub decided : (k : ℕ) (here : List ℕ) → k < 126 → MarkSums k here → NoErrorsAt u k (added sums here)

-- One result of packing: the packed sums of a word are one, and where the sums held are the same, so is all that holds them but bits of no sum.
use mathlib.Core.Path.{◌≡◌, sym, ap, ap₂, ◌∙◌}
use mathlib.Core.List.{List}
use Prim.Native.Nat.{ℕ, ◌%◌, ◌^◌}
use lib.ListN.{get_or}
use Rattle.lanes.specs.Lanes.{lane}
use Rattle.lanes.proofs.Laws.{pack_same, pack_lanes}
use Rattle.sums.specs.declared.PackedSums.{PackedSums}
use Rattle.sums.specs.declared.Sums.{Sums}
use Rattle.sums.specs.Held.{eleven}
use Rattle.sums.specs.Packed.{Packed}
use Rattle.sums.proofs.Holding.{eleven_first, eleven_last}

pub one_packed : (w : List ℕ) (r s : PackedSums) → Packed w r → Packed w s → r ≡ s
one_packed w r s p q =
    ap₂ (λ (o m : ℕ). record { outer = o; middle = m }) (p.outer ∙ sym q.outer) (p.middle ∙ sym q.middle)

-- eleven sums as they are held, where the sums are the same: all is the same but the four bits of the first number above its ten lanes and
-- the two bits of the last above its six, which are no part of any sum
pub same_held : (r s : Sums) → eleven r ≡ eleven s → (r.first % 64 ^ 10 ≡ s.first % 64 ^ 10) × (r.last % 64 ≡ s.last % 64)
same_held r s e = (
  pack_lanes 10 r.first
      ∙ pack_same 10 (lane r.first) (lane s.first) (λ k h. sym (eleven_first r k h) ∙ ap (λ (w : List ℕ). get_or w k 0) e ∙ eleven_first s k h)
      ∙ sym (pack_lanes 10 s.first),
  sym (eleven_last r) ∙ ap (λ (w : List ℕ). get_or w 10 0) e ∙ eleven_last s,
)

-- What is proved of numbers that hold eight bytes: their bytes fix them.
use mathlib.Core.Path.{◌≡◌, sym, ◌∙◌}
use mathlib.Core.List.{List}
use Prim.Native.Nat.{ℕ, ◌^◌, ◌<◌}
use Rattle.eights.specs.Inside.{HoldsBytes}
use Rattle.eights.proofs.Laws.{same_bytes}

pub one_eight : (cs : List ℕ) (m n : ℕ) → m < 2 ^ 64 → n < 2 ^ 64 → HoldsBytes cs m → HoldsBytes cs n → m ≡ n
one_eight cs m n hm hn s t = same_bytes 8 m n hm hn (λ k h. s.at k ∙ sym (t.at k))

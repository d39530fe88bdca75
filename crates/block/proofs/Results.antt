-- The numbers of an answer fix it, and what a success gives is determined.
use mathlib.Core.Path.{◌≡◌, refl, sym, ap, ◌∙◌}
use mathlib.Core.List.{List, [], ◌∷◌}
use Prim.Native.Nat.{ℕ}
use lib.ListN.{get_or}
use Rattle.std.specs.Prelude.{Result, Ok, Err}
use Rattle.refusal.proofs.Laws.{one_refusal, refusal_positive}
use Rattle.refusal.specs.declared.Refusal.{Refusal}
use Rattle.block.specs.Block.{distance}
use Rattle.block.specs.Promises.{reading_numbers, encoding_numbers, ReadAs, EncodedAs}
use Rattle.block.proofs.Apart.{near_same}
use Rattle.block.proofs.Encoding.{holds_encoded}

-- the numbers of a reading fix it
pub reading_fixed : (r s : Result ℕ Refusal) → reading_numbers r ≡ reading_numbers s → r ≡ s
reading_fixed (Ok d) (Ok e) q = ap Ok (ap (λ (l : List ℕ). get_or l 1 0) q)
reading_fixed (Ok d) (Err s) q = absurd (refusal_positive s (sym (ap (λ (l : List ℕ). get_or l 0 0) q)))
reading_fixed (Err r) (Ok e) q = absurd (refusal_positive r (ap (λ (l : List ℕ). get_or l 0 0) q))
reading_fixed (Err r) (Err s) q = ap Err (one_refusal r s (ap (λ (l : List ℕ). get_or l 0 0) q))

-- the numbers of an encoding fix it
pub encoding_fixed : (r s : Result Unit Refusal) → encoding_numbers r ≡ encoding_numbers s → r ≡ s
encoding_fixed (Ok d) (Ok e) q = refl
encoding_fixed (Ok d) (Err s) q = absurd (refusal_positive s (sym (ap (λ (l : List ℕ). get_or l 0 0) q)))
encoding_fixed (Err r) (Ok e) q = absurd (refusal_positive r (ap (λ (l : List ℕ). get_or l 0 0) q))
encoding_fixed (Err r) (Err s) q = ap Err (one_refusal r s (ap (λ (l : List ℕ). get_or l 0 0) q))

pub one_read_as : (rows f g x y : List ℕ) → ReadAs rows f x → ReadAs rows g y → (f ≡ g) × (x ≡ y)
one_read_as rows f g x y s t =
    let e : x ≡ y = near_same rows x y s.0 t.0 in
    (s.1 ∙ ap (λ (b : List ℕ). distance rows b ∷ []) e ∙ sym t.1, e)

pub one_encoded_as : (given f g x y : List ℕ) → EncodedAs given f x → EncodedAs given g y → (f ≡ g) × (x ≡ y)
one_encoded_as given f g x y s t = (s.1 ∙ sym t.1, holds_encoded given x s.0 ∙ sym (holds_encoded given y t.0))

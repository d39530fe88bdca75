-- What a success of reading or of encoding gives is determined.
use mathlib.Core.Path.{◌≡◌, sym, ap, ◌∙◌}
use mathlib.Core.List.{List, [], ◌∷◌}
use Prim.Native.Nat.{ℕ}
use Rattle.block.specs.Block.{distance}
use Rattle.block.proofs.Encoding.{holds_encoded}
use Rattle.smudge.specs.Smudge.{staggered, Records}
use Rattle.smudge.specs.Promises.{ReadAs, EncodedAs}
use Rattle.smudge.proofs.Mending.{never_second}

pub one_read_as : (rows f g x y : List ℕ) → ReadAs rows f x → ReadAs rows g y → (f ≡ g) × (x ≡ y)
one_read_as rows f g x y s t =
    let e : x ≡ y = never_second rows x y s.0 t.0 in
    (s.1 ∙ ap (λ (b : List ℕ). distance rows b ∷ []) e ∙ sym t.1, e)

pub one_record : (given x y : List ℕ) → Records given x → Records given y → x ≡ y
one_record given x y s t =
    s.stored ∙ ap staggered (holds_encoded given s.plain s.holds ∙ sym (holds_encoded given t.plain t.holds)) ∙ sym t.stored

pub one_encoded_as : (given f g x y : List ℕ) → EncodedAs given f x → EncodedAs given g y → (f ≡ g) × (x ≡ y)
one_encoded_as given f g x y s t = (s.1 ∙ sym t.1, one_record given x y s.0 t.0)

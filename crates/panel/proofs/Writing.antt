-- Writing what is escaped: a character, and the characters one by one.
use mathlib.Core.Path.{◌≡◌, ap, ◌∙◌}
use mathlib.Core.List.{List, [], ◌∷◌, ◌++◌}
use Prim.Native.Nat.{ℕ, ◌+◌, ◌-◌, ◌<◌}
use native.Mathlib.Numerals.{add-one}
use native.Mathlib.Omega.{arith}
use lib.ListN.{length, get_or, take, drop, length-drop}
use lib.Seq.{take-suc, take_all, get_or-drop}
use borrow.Author.Tests.{ne_eqb}
use Rattle.code.specs.Word.{Characters}
use Rattle.text.specs.Writing.{Puts}
use Rattle.text.proofs.Writing.{puts_none, puts_then}
use Rattle.panel.specs.Escaping.{written_by, written, escaped}
use Rattle.panel.proofs.Escaping.{escaped_append, escaped_one}

-- ---- a character

module _ (old new : List ℕ) (at next b : ℕ) where
  -- a byte that has a name
  pub puts_named : (c : ℕ) → b ≡ c → Puts old new at next (written c) → Puts old new at next (written b)
  puts_named c e w = rw e w

  -- a byte that has none
  pub puts_itself : (b ≡ 38 → ⊥) → (b ≡ 60 → ⊥) → (b ≡ 62 → ⊥) → (b ≡ 34 → ⊥) → (b ≡ 39 → ⊥) → Puts old new at next (b ∷ []) → Puts old new at next (written b)
  unfolding written_by
  puts_itself a l g q s w = simp (ne_eqb b 38 a, ne_eqb b 60 l, ne_eqb b 62 g, ne_eqb b 34 q, ne_eqb b 39 s) w

-- ---- the characters after the kind, one by one

-- a text without its kind, as the code takes it
pub after_kind : (v : List ℕ) → take (length v - 1) (drop 1 v) ≡ drop 1 v
after_kind v = take_all (length v - 1) (drop 1 v) (omega (arith, length-drop 1 v))

pub shown_character : (v : List ℕ) → Characters v → (i : ℕ) → get_or (take (length v - 1) (drop 1 v)) i 0 < 64
shown_character v range i = rw (after_kind v, get_or-drop 1 v i 0) (range (1 + i))

pub shown_none : (old : List ℕ) → Puts old old 0 0 (escaped [])
unfolding escaped
shown_none old = puts_none old 0

pub shown_more : (cs old out new : List ℕ) (next last i : ℕ) → Puts old out 0 next (escaped (take i cs)) → i < length cs
    → Puts out new next last (written (32 + get_or cs i 0)) → Puts old new 0 last (escaped (take (i + 1) cs))
shown_more cs old out new next last i p h w =
    let e : escaped (take (i + 1) cs) ≡ escaped (take i cs) ++ written (32 + get_or cs i 0) =
    ap escaped (ap (λ (k : ℕ). take k cs) (add-one i) ∙ take-suc cs i 0 h) ∙ escaped_append (take i cs) (get_or cs i 0 ∷ [])
    ∙ ap (λ (l : List ℕ). escaped (take i cs) ++ l) (escaped_one (get_or cs i 0))
    in
    rw e (puts_then p w)

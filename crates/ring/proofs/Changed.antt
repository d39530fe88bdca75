-- Where the word was changed, for every ring, every radius and whatever lay in the output: in a success the output differs from the word at the start at the first changed address and at the last, and nowhere before the one or after the other; where it does not differ both are 63.
use mathlib.Core.Path.{◌≡◌, sym, ap, ◌∙◌}
use mathlib.Core.List.{List, [], ◌∷◌}
use Prim.Native.Nat.{ℕ}
use lib.ListN.{get_or, drop}
use Rattle.code.specs.Word.{nowhere}
use Rattle.code.proofs.Changes.{First, Last}
use Rattle.line.specs.Promises.{told}
use Rattle.line.proofs.Theorems.{told_first, told_last, told_unchanged}
use Rattle.ring.specs.Ring.{placed}
use Rattle.ring.specs.Promises.{reading_numbers, line_read, ReadsAt, ReadsRing}
use Rattle.ring.proofs.Placing.{kept}

module _ (ring : List ℕ) (t : ℕ) (old : List ℕ) (k n d f g : ℕ) (x : List ℕ) (reads : ReadsRing ring t old (reading_numbers (line_read k n d f g)) x) where
  read-there : ReadsAt ring t (k ∷ n ∷ d ∷ f ∷ g ∷ []) x
  unfolding ReadsRing
  read-there = reads.1

  told-there : n ∷ d ∷ f ∷ g ∷ [] ≡ told (placed k ring) x
  told-there =
      let e : k ≡ read-there.start = ap (λ (l : List ℕ). get_or l 0 0) read-there.shows in
      ap (drop 1) read-there.shows ∙ ap (λ (j : ℕ). told (placed j ring) x) (sym e)

  pub read_first : (placed k ring ≡ x → ⊥) → First (placed k ring) x f
  read_first = told_first (placed k ring) x n d f g ((kept k).long ring) read-there.within.line told-there

  pub read_last : (placed k ring ≡ x → ⊥) → Last (placed k ring) x g
  read_last = told_last (placed k ring) x n d f g ((kept k).long ring) read-there.within.line told-there

  pub read_unchanged : placed k ring ≡ x → (f ≡ nowhere) × (g ≡ nowhere)
  read_unchanged = told_unchanged (placed k ring) x n d f g ((kept k).long ring) read-there.within.line told-there

-- The fields of an item, for each kind, and its line.
use mathlib.Core.Path.{◌≡◌, refl, sym, ap, ap₂}
use mathlib.Core.List.{List, [], ◌∷◌}
use Prim.Native.Nat.{ℕ, ◌≤◌}
use native.Mathlib.Omega.{arith}
use lib.ListN.{length, get_or, take}
use lib.Seq.{length-take-le}
use Rattle.text.specs.Text as text
use Rattle.text.specs.Writing.{Puts}
use Rattle.report.specs.declared.Kind.{Kind}
use Rattle.report.specs.declared.Kind.TheVariants as K
use Rattle.report.specs.Items.{letter, LineFields, RingFields, BlockFields, Fields}
use Rattle.report.specs.Inside.{PutItem}

-- a block is read with the first bytes of a longer room for its output
pub as_long : (rows room : List ℕ) → length rows ≤ length room → length (take (length rows) room) ≡ length rows
as_long rows room fits = length-take-le (length rows) room fits

-- ---- each kind

module _ (kind : Kind) (t : ℕ) (it fields : List ℕ) where
  pub of_line : kind ≡ K.Line → LineFields t it fields → Fields kind t it fields
  of_line e f = rw e f

  pub of_ring : kind ≡ K.Ring → RingFields t it fields → Fields kind t it fields
  of_ring e f = rw e f

  pub of_block : kind ≡ K.Block → BlockFields it fields → Fields kind t it fields
  of_block e f = rw e f

module _ (kind : Kind) where
  pub letter_line : kind ≡ K.Line → 76 ∷ [] ≡ letter kind ∷ []
  letter_line e = rw e

  pub letter_ring : kind ≡ K.Ring → 82 ∷ [] ≡ letter kind ∷ []
  letter_ring e = rw e

  pub letter_block : kind ≡ K.Block → 66 ∷ [] ≡ letter kind ∷ []
  letter_block e = rw e

-- ---- the line of an item

three : (l : List ℕ) → length l ≡ 3 → l ≡ get_or l 0 0 ∷ get_or l 1 0 ∷ get_or l 2 0 ∷ []
three [] e = absurd (omega arith)
three (a ∷ []) e = absurd (omega arith)
three (a ∷ b ∷ []) e = absurd (omega arith)
three (a ∷ b ∷ c ∷ []) e = refl
three (a ∷ b ∷ c ∷ d ∷ l) e = absurd (omega arith)

pub item_line : (kind : Kind) (t i : ℕ) (it fields word old new : List ℕ) (at next : ℕ) → Fields kind t it fields → length fields ≡ 3 → word ≡ letter kind ∷ []
    → Puts old new at next (text.line word (i ∷ get_or fields 0 0 ∷ get_or fields 1 0 ∷ get_or fields 2 0 ∷ [])) → PutItem kind t i it old new at next
item_line kind t i it fields word old new at next f long w p =
    record {
      text = _;
      line = record { fields = fields; read = f; printed = ap₂ text.line w (ap (λ (l : List ℕ). i ∷ l) (sym (three fields long))) };
      puts = p;
    }

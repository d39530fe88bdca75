-- What the inner functions do, a way out at a time, over plain variables.
use mathlib.Core.Path.{◌≡◌, refl, sym, ap, ap₂, subst, ◌∙◌}
use mathlib.Core.List.{List, [], ◌∷◌}
use Prim.Native.Nat.{ℕ, zero, suc, ◌*◌, ◌/◌, ◌%◌, ◌^◌, ◌<◌, ◌≤◌}
use native.Mathlib.Omega.{arith}
use lib.Bits.{bit_and, and_le_r}
use lib.Count.{count_trailing_zeros, trailing_le}
use lib.Dec.{T, ltb, ltb→lt}
use lib.ListN.{length}
use lib.Pow.{shl_exact}
use mir.Syntax.{w64}
use mir.Val.{Fits}
use Rattle.numbers.proofs.Cases.{pos_of_not_zero}
use Rattle.std.specs.Array.{IsWholeChunk}
use Rattle.std.specs.Int.{to_le_bytes, from_le_bytes}
use Rattle.std.proofs.lemmas.Nat.{le_bytes_8}
use Rattle.block.specs.Block.{Bytes}
use Rattle.eights.proofs.Laws.{byte_zero}
use Rattle.eights.specs.Inside.{byte}
use Rattle.block.proofs.Bits.{byte_ones}
use Rattle.smudge.specs.Smudge.{side, staggered}
use Rattle.smudge.specs.Inside.{stagger, lowest, odd_rows, wrong_columns, crossings, whole_row, window, first_cells, holding, windows_with, first_of, first_with, smudge_for, smudge_in, rows_in}
use Rattle.smudge.proofs.Turns.{InOne, in_rows, one_block, in_stagger, stagger_lt}
use Rattle.smudge.proofs.Mending.{in_eight, lowest_most}
use Rattle.smudge.proofs.Mending as Mending

-- ---- bounds, whatever the mask is

pub trailing_fits : (n : ℕ) → Fits w64 (count_trailing_zeros 64 n)
trailing_fits n = omega (arith, trailing_le 64 n)

pub trailing_inside : (h m : ℕ) → T (ltb m 18446744073709551616) → (bit_and h m ≡ 0 → ⊥) → count_trailing_zeros 64 (bit_and h m) < 64
trailing_inside h m t d = Mending.trailing_inside (bit_and h m) (pos_of_not_zero (bit_and h m) d) (omega (arith, and_le_r h m, ltb→lt m 18446744073709551616 t))

-- ---- holding

pub holding_four : (n a b c d : ℕ) → 4 ≤ n → bit_and (bit_and a b) (bit_and c d) ≡ holding n a b c d
unfolding holding
holding_four zero a b c d h = absurd (omega arith)
holding_four (suc zero) a b c d h = absurd (omega arith)
holding_four (suc (suc zero)) a b c d h = absurd (omega arith)
holding_four (suc (suc (suc zero))) a b c d h = absurd (omega arith)
holding_four (suc (suc (suc (suc n)))) a b c d h = refl

-- ---- the first window

first_none : (f m : ℕ) → m ≡ 0 → 0 ≡ first_of f m
unfolding first_of
first_none f m e = rw e refl

first_some : (f m : ℕ) → (m ≡ 0 → ⊥) → bit_and f (window * 2 ^ count_trailing_zeros 64 m) ≡ first_of f m
unfolding first_of
first_some f zero d = absurd (d refl)
first_some f (suc m) d = refl

module _ (n f h : ℕ) (e : h ≡ holding n f (f / 2 ^ 1) (f / 2 ^ 8) (f / 2 ^ 9)) where
  pub with_none : bit_and h first_cells ≡ 0 → 0 ≡ first_with n f
  unfolding first_with windows_with
  with_none z = first_none f (windows_with n f) (ap (λ (m : ℕ). bit_and m first_cells) (sym e) ∙ z)

  -- a window at a first cell is not shifted out
  pub with_some : (bit_and h first_cells ≡ 0 → ⊥) → bit_and f (window * 2 ^ count_trailing_zeros 64 (bit_and h first_cells) % 18446744073709551616) ≡ first_with n f
  unfolding first_with windows_with
  with_some d =
      let q : bit_and h first_cells ≡ windows_with n f = ap (λ (m : ℕ). bit_and m first_cells) e in
      ap (bit_and f) (shl_exact 10 (count_trailing_zeros 64 (bit_and h first_cells)) 64 (omega arith) (omega (arith, lowest_most h d)))
      ∙ ap (λ (m : ℕ). bit_and f (window * 2 ^ count_trailing_zeros 64 m)) q ∙ first_some f (windows_with n f) (λ z. d (q ∙ z))

-- ---- eight rows read and written

-- the bytes of a number, lowest first, are its rows
pub le_rows : (x : ℕ) → to_le_bytes w64 x ≡ rows_in x
unfolding byte
le_rows x = ap (λ (b : ℕ). b ∷ byte x 1 ∷ byte x 2 ∷ byte x 3 ∷ byte x 4 ∷ byte x 5 ∷ byte x 6 ∷ byte x 7 ∷ []) (sym (byte_zero x))

-- and the number of eight rows holds them
pub in_le : (rows : List ℕ) (x : ℕ) → length rows ≡ side → Bytes rows → x < 2 ^ 64 → x ≡ from_le_bytes w64 rows → InOne rows x
in_le rows x l b h e = subst (λ (r : List ℕ). InOne r x) (sym (le_rows x) ∙ le_bytes_8 rows x l b e) (in_rows x h)

-- those of a slice that was taken as an array
pub in_array : (rows eight : List ℕ) (x : ℕ) → IsWholeChunk rows eight 8 → Bytes rows → x < 2 ^ 64 → x ≡ from_le_bytes w64 eight → InOne rows x
in_array rows eight x w b h e = in_le rows x w.long b h (rw w.same at e)

-- ---- the smudge

pub smudge_is : (x odd wrong cells p : ℕ) → odd ≡ odd_rows x → wrong ≡ wrong_columns x → wrong < 256 → cells ≡ stagger (bit_and (odd * whole_row) (wrong * lowest))
    → p ≡ first_with (lib.Count.ones wrong) cells → p ≡ smudge_in x
unfolding smudge_for crossings
smudge_is x odd wrong cells p e f h g q =
    q ∙ ap₂ first_with (byte_ones wrong h) g ∙ ap₂ smudge_for e f

-- ---- a block staggered

pub staggered_put : (rows new : List ℕ) (x y : ℕ) → InOne rows x → y ≡ stagger x → new ≡ rows_in y → new ≡ staggered rows
staggered_put rows new x y s e w =
    w ∙ ap rows_in e ∙ one_block (rows_in (stagger x)) (staggered rows) (stagger x) (in_rows (stagger x) (stagger_lt x)) (in_stagger rows x s)

-- Each way in which reading ends.
use mathlib.Core.Path.{◌≡◌, refl, sym, ap, ap₂, ◌∙◌}
use mathlib.Core.Bool.{Bool, true, false}
use mathlib.Core.List.{List, [], ◌∷◌}
use Prim.Native.Nat.{ℕ, zero, suc, ◌+◌, ◌*◌, ◌^◌, ◌<◌}
use native.Mathlib.Nat.{mul-suc}
use native.Mathlib.Omega.{arith}
use lib.Bits.{bit_xor, xor_zero_r}
use lib.Count.{ones_in}
use lib.ListN.{length}
use Rattle.numbers.proofs.Xor.{xor_undo}
use Rattle.refusal.specs.Promise.{Test, Tells}
use Rattle.refusal.proofs.Ladder.{FailsAt, answer_at, refuses, succeeds, given}
use Rattle.eights.specs.Inside.{byte}
use Rattle.eights.proofs.Laws.{byte_xor}
use Rattle.block.specs.Block.{ones, distance}
use Rattle.block.specs.Lanes.{count}
use Rattle.block.proofs.Bits.{lowest_ones}
use Rattle.block.proofs.Lanes.{ones_split, ones_byte}
use Rattle.smudge.specs.Smudge.{side, Smudged}
use Rattle.smudge.specs.Promises.{reading_tests, ReadAs, Reads}
use Rattle.smudge.specs.Inside.{odd_rows, wrong_columns, Sound, smudge_in, rows_in}
use Rattle.smudge.proofs.Turns.{InOne, in_rows, one_block}
use Rattle.smudge.proofs.Windows.{none_turned}
use Rattle.smudge.proofs.Mending.{InWindow, smudged_mended, nothing_window, found_in_window, clean_smudged}

-- ---- the distance is the count of the cells that were turned

-- a number's ones, byte by byte
ones_bytes : (n p : ℕ) → ones_in (8 * n) p ≡ count n (λ k. ones (byte p k))
unfolding count ones_in
ones_bytes zero p = refl
ones_bytes (suc n) p =
    ap (λ (m : ℕ). ones_in m p) (mul-suc 8 n) ∙ ones_split (8 * n) 8 p ∙ ap₂ ◌+◌ (ones_bytes n p) (sym (ones_byte p n))

abbrev apart : ℕ → ℕ → ℕ → ℕ
apart x p k = ones (bit_xor (byte x k) (byte (bit_xor x p) k))

apart_is : (x p k : ℕ) → apart x p k ≡ ones (byte p k)
apart_is x p k = ap (λ (m : ℕ). ones (bit_xor (byte x k) m)) (byte_xor x p k) ∙ ap ones (xor_undo (byte x k) (byte p k))

eight_apart : (x p : ℕ) → distance (rows_in x) (rows_in (bit_xor x p)) ≡ count 8 (λ k. ones (byte p k))
unfolding distance count
eight_apart x p =
    omega
    (arith, apart_is x p 0, apart_is x p 1, apart_is x p 2, apart_is x p 3, apart_is x p 4, apart_is x p 5, apart_is x p 6, apart_is x p 7)

pub turned_cells : (rows : List ℕ) (x p : ℕ) → InOne rows x → p < 2 ^ 64 → lib.Count.ones p ≡ distance rows (rows_in (bit_xor x p))
turned_cells rows x p s h =
    lowest_ones 64 p h ∙ ones_bytes 8 p ∙ sym (eight_apart x p)
    ∙ ap (λ (l : List ℕ). distance l (rows_in (bit_xor x p))) (one_block (rows_in x) rows x (in_rows x s.fits) s)

-- ---- each way in which reading ends

module _ (rows old : List ℕ) where
  abbrev tests : List Test
  tests = reading_tests rows (length old)

  pub refused : (n : ℕ) → FailsAt n tests → Reads rows old (answer_at n tests ∷ 0 ∷ []) old
  unfolding Reads
  refused = refuses (ReadAs rows) 1 old tests

module _ (rows old : List ℕ) (x : ℕ) (s : InOne rows x) (room : length old ≡ side) where
  -- what is taken off lies in a window, and leaves nothing wrong
  taken : (p : ℕ) → p < 2 ^ 64 → InWindow p → Sound (bit_xor x p) → Reads rows old (0 ∷ lib.Count.ones p ∷ []) (rows_in (bit_xor x p))
  unfolding Reads
  taken p h w n =
      let m : Smudged rows (rows_in (bit_xor x p)) = clean_smudged rows x p s h w n in
      succeeds (ReadAs rows) 1 old (reading_tests rows (length old)) (lib.Count.ones p ∷ []) (rows_in (bit_xor x p))
      (given s.long, (given room, (given (rows_in (bit_xor x p), m), tt)))
      (m, ap (λ (d : ℕ). d ∷ []) (turned_cells rows x p s h))

  -- nothing was wrong
  pub read_whole : (b : Bool) (new : List ℕ) → Tells (Sound x) b → b ≡ true → new ≡ rows_in x → Reads rows old (0 ∷ 0 ∷ []) new
  read_whole b new v e w =
      let z : bit_xor x 0 ≡ x = xor_zero_r x in
      rw w (rw (z, none_turned) at (taken 0 (omega arith) nothing_window (rw (← z) at (v.holds e))))

  module _ (p : ℕ) (found : p ≡ smudge_in x) (h : p < 2 ^ 64) (b : Bool) (v : Tells (Sound (bit_xor x p)) b) where
    -- what was found leaves something wrong: no window serves
    pub read_none : b ≡ false → Reads rows old (9 ∷ 0 ∷ []) old
    read_none e =
        refused rows old 2
        (given s.long, (given room, record { not = λ m. v.fails e (rw (← found) at (smudged_mended rows x s m.0 m.1).1) }))

    -- what was found leaves nothing wrong
    pub read_mended : (new : List ℕ) (d : ℕ) → b ≡ true → new ≡ rows_in (bit_xor x p) → d ≡ lib.Count.ones p → Reads rows old (0 ∷ d ∷ []) new
    read_mended new d e w q = rw (w, q) (taken p h (rw (← found) at (found_in_window (odd_rows x) (wrong_columns x))) (v.holds e))

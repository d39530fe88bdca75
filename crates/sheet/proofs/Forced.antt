-- The last lines of a sheet are forced: 52 lines and clean columns make a proper sheet, there is one with given 52 lines, and the same with the marks off.
use mathlib.Core.Path.{◌≡◌, sym, ap, ◌∙◌, subst}
use mathlib.Core.List.{List}
use Prim.Native.Nat.{ℕ, ◌+◌, ◌-◌, ◌*◌, ◌%◌, ◌<◌, ◌≤◌}
use native.Mathlib.Nat.{le_of_eq}
use native.Mathlib.Omega.{arith}
use lib.ListN.{length, get_or, take, get_or-replicate}
use lib.Seq.{ext_get_or, get_or-take, length-take-le}
use Rattle.numbers.specs.Total.{total}
use Rattle.numbers.proofs.Totals.{total_same, total_swap, total_none}
use Rattle.field.specs.Field.{product, α, power}
use Rattle.field.proofs.Laws
use Rattle.field.proofs.Totals.{total_scaled}
use Rattle.code.specs.Word.{Characters, Clean, Line, power_sum, added, marks, distance, listed}
use Rattle.code.proofs.Words.{listed_long, listed_get, characters_below}
use Rattle.code.proofs.Lines
use Rattle.code.proofs.Sums.{power_sum_lt}
use Rattle.code.proofs.Distances.{distance_take}
use Rattle.code.proofs.Apart.{clean_zero, clean_near}
use Rattle.sheet.specs.Sheet.{characters, line_of, column_of, Proper}
use Rattle.sheet.specs.Inside.{bare, plain_column}
use Rattle.sheet.proofs.Entries.{line_get, line_long, line_characters, characters_of_lines, plain_get, column_long, column_get, bare_long, bare_line, bare_twice, bare_characters, column_bare, bare_column, same_columns}
use Rattle.sheet.proofs.Weights.{weight_past}

-- ---- the sums of the lines, marks off, are a clean word

module _ (b : List ℕ) (columns : (a : ℕ) → a < 63 → Clean (plain_column a b)) (k : ℕ) (hk : k < 11) where
  -- one power sum of each line: a word down the sheet
  abbrev sums : List ℕ
  sums = listed (λ i. power_sum (58 + k) (line_of i b)) 0 63

  sums-long : length sums ≡ 63
  sums-long = listed_long (λ i. power_sum (58 + k) (line_of i b)) 0 63

  sums-get : (i : ℕ) → i < 63 → get_or sums i 0 ≡ power_sum (58 + k) (line_of i b)
  sums-get i h = listed_get (λ i. power_sum (58 + k) (line_of i b)) 63 i h

  -- by what the character at address a is multiplied in power sum j
  abbrev place : ℕ → ℕ → ℕ
  place j a = power α (j * (62 - a) % 63)

  -- what a character gives to sum j of that word: what it gives to sum j of its column, times a number of the column's own
  share : ℕ → ℕ → ℕ → ℕ
  share j i a = product (place (58 + k) a) (product (get_or b (i * 63 + a) 0) (place (58 + j) i))

  turn : (q e p : ℕ) → product q (product e p) ≡ product p (product e q)
  turn q e p = simp Laws.ring

  -- line by line they add up to the sum, column by column to 0
  by-line : (j i : ℕ) → i < 63 → product (get_or sums i 0) (place (58 + j) i) ≡ total 63 (share j i)
  unfolding power_sum share
  by-line j i l =
      ap (λ (v : ℕ). product v (place (58 + j) i)) (sums-get i l)
      ∙ Laws.product_comm (total 63 (λ a. product (get_or (line_of i b) a 0) (place (58 + k) a))) (place (58 + j) i)
      ∙ sym (total_scaled 63 (place (58 + j) i) (λ a. product (get_or (line_of i b) a 0) (place (58 + k) a)))
      ∙ total_same 63 (λ a. product (place (58 + j) i) (product (get_or (line_of i b) a 0) (place (58 + k) a))) (λ a. share j i a)
      (λ a g.
      ap (λ (v : ℕ). product (place (58 + j) i) (product v (place (58 + k) a))) (line_get b i a g)
      ∙ turn (place (58 + j) i) (get_or b (i * 63 + a) 0) (place (58 + k) a))

  by-column : (j a : ℕ) → j < 11 → a < 63 → total 63 (λ i. share j i a) ≡ 0
  unfolding power_sum share
  by-column j a hj g =
      total_scaled 63 (place (58 + k) a) (λ i. product (get_or b (i * 63 + a) 0) (place (58 + j) i))
      ∙ ap (product (place (58 + k) a))
      (total_same 63 (λ i. product (get_or b (i * 63 + a) 0) (place (58 + j) i)) (λ i. product (get_or (plain_column a b) i 0) (place (58 + j) i))
      (λ i l. ap (λ (v : ℕ). product v (place (58 + j) i)) (sym (plain_get b a i l)))
      ∙ (columns a g).sums j hj)
      ∙ Laws.product_zero (place (58 + k) a)

  sums-clean : Clean sums
  unfolding power_sum
  sums-clean =
      record {
        long = sums-long;
        characters =
            characters_below sums 63 (le_of_eq sums-long)
            (λ i l. subst (λ (v : ℕ). v < 64) (sym (sums-get i l)) (power_sum_lt (58 + k) (line_of i b)));
        sums = λ j hj.
            total_same 63 (λ i. product (get_or sums i 0) (place (58 + j) i)) (λ i. total 63 (share j i)) (by-line j)
            ∙ total_swap 63 63 (share j) ∙ total_none 63 (λ a. total 63 (λ i. share j i a)) (λ a g. by-column j a hj g);
      }

  -- so where 52 lines are clean, it is 0 down the sheet
  line_sums : ((i : ℕ) → i < 52 → Clean (line_of i b)) → (i : ℕ) → i < 63 → power_sum (58 + k) (line_of i b) ≡ 0
  line_sums lines i h =
      let w = weight_past 52 sums (λ a l. sums-get a (omega arith) ∙ (lines a l).sums k hk) in
      let l = sums-long in
      sym (sums-get i h) ∙ ap (λ (w : List ℕ). get_or w i 0) (clean_zero sums sums-clean (omega arith)) ∙ get_or-replicate 63 i 0 0 h

-- ---- with the marks off

-- clean columns and 52 clean lines make a proper sheet, once the marks are put on
pub bare_forced : (b : List ℕ) → length b ≡ characters → Characters b → ((i : ℕ) → i < 52 → Clean (line_of i b))
    → ((a : ℕ) → a < 63 → Clean (plain_column a b)) → Proper (bare b)
bare_forced b long c lines columns =
    record {
      long = bare_long b;
      lines = λ i h. subst Line (sym (bare_line b long i h)) (Lines.clean_line (line_of i b) (clean i h));
      columns = λ a h. subst Clean (sym (bare_column b a long h)) (columns a h);
    }
  where
    clean : (i : ℕ) → i < 63 → Clean (line_of i b)
    clean i h = record { long = line_long b i long h; characters = line_characters b i long c h; sums = λ k hk. line_sums b columns k hk lines i h }

-- and all lines and columns of a proper sheet are clean, once the marks are taken off
pub bare_proper : (b : List ℕ) → Proper (bare b) → length b ≡ characters
    → ((i : ℕ) → i < 63 → Clean (line_of i b)) × ((a : ℕ) → a < 63 → Clean (plain_column a b))
bare_proper b proper long = (
  λ i h. subst Clean (sym (bare_line (bare b) (bare_long b) i h) ∙ ap (line_of i) (bare_twice b long)) (Lines.unmarked (line_of i (bare b)) (proper.lines i h)),
  λ a h. subst Clean (bare_column b a long h) (proper.columns a h),
)

-- ---- with the marks on

-- 52 lines and clean columns make a proper sheet
pub columns_force : (s : List ℕ) → length s ≡ characters → Characters s → ((i : ℕ) → i < 52 → Line (line_of i s))
    → ((a : ℕ) → a < 63 → Clean (column_of a s)) → Proper s
columns_force s long c lines columns =
    subst Proper (bare_twice s long)
    (bare_forced (bare s) (bare_long s) (bare_characters s long c)
    (λ i h. subst Clean (sym (bare_line s long i (omega arith))) (Lines.unmarked (line_of i s) (lines i h)))
    (λ a h. subst Clean (column_bare s long a h) (columns a h)))

-- a proper sheet has characters from 0 to 63
pub proper_characters : (s : List ℕ) → Proper s → Characters s
proper_characters s proper = characters_of_lines s proper.long (λ i h. Lines.line_characters (line_of i s) (proper.lines i h))

-- words of 63 characters with the same first 52 differ in eleven at most
near_by_52 : (u v : List ℕ) → length u ≡ 63 → length v ≡ 63 → ((i : ℕ) → i < 52 → get_or u i 0 ≡ get_or v i 0) → distance u v ≤ 11
near_by_52 u v lu lv same = let d = distance_take 52 u v alike in omega arith
  where
    alike : take 52 u ≡ take 52 v
    alike =
        ext_get_or 0 (take 52 u) (take 52 v) (length-take-le 52 u (omega arith) ∙ sym (length-take-le 52 v (omega arith)))
        (λ i l.
        let h : i < 52 = subst (λ (n : ℕ). i < n) (length-take-le 52 u (omega arith)) l in
        rw (get_or-take, get_or-take) (same i h))

-- proper sheets with the same first 52 lines are one
pub one_sheet : (s r : List ℕ) → Proper s → Proper r → ((i : ℕ) → i < 52 → line_of i s ≡ line_of i r) → s ≡ r
one_sheet s r ps pr same =
    same_columns s r ps.long pr.long
    (λ a h.
    clean_near (column_of a s) (column_of a r) (ps.columns a h) (pr.columns a h)
    (near_by_52 (column_of a s) (column_of a r) (column_long s a) (column_long r a)
    (λ i l.
    column_get s a i (omega arith) ∙ ap (λ (w : List ℕ). get_or (added w marks) a 0) (same i l) ∙ sym (column_get r a i (omega arith)))))

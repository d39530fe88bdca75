-- What the code does to all rows: the unit vectors' rows at the start, a row dropped for each window, and the first row that is left.
use mathlib.Core.Path.{◌≡◌, refl, sym, ap, ap₂, ◌∙◌, subst}
use mathlib.Core.Logic.{⊎_elim}
use mathlib.Core.Bool.{cond}
use mathlib.Core.List.{List, []}
use Prim.Native.Nat.{ℕ, suc, ◌+◌, ◌*◌, ◌/◌, ◌^◌, ◌<◌, ◌≤◌}
use native.Mathlib.Nat.{eq-or-lt_of_le}
use native.Mathlib.Numerals.{add-one}
use native.Mathlib.Omega.{arith}
use borrow.Author.Tests.{eq-eqb, ne_eqb, lt-ltb, le-ltb}
use lib.Dec.{ltb, eqb}
use lib.Bits.{bit_xor}
use lib.ListN.{get_or, get_or-eq_default}
use lib.Seq.{ext_get_or}
use Rattle.numbers.proofs.Cases.{le_or_lt}
use Rattle.field.specs.Field.{sum, product}
use Rattle.field.specs.Inside.{inverse}
use Rattle.field.proofs.Laws
use Rattle.numbers.proofs.Totals.{total_only}
use Rattle.lanes.specs.Lanes.{pack, lane}
use Rattle.lanes.proofs.Laws.{lane_after, pack_same, lane_pack, pack_more, pack_lanes, xor_pack}
use Rattle.mender.specs.Rows.{woven, SumsIn, UnitRows, Pivot, NoPivot, factor, RowsCleared, RowsHold, RowsFrom, First, NoRow, Coefficients}
use Rattle.mender.specs.Inside.{mixed, at}
use Rattle.mender.proofs.Fitting.{Least, row_least}
use Rattle.mender.proofs.rows.Windows.{Units, Stepped, past, row_none, column_none, none_divided, mixed_lt, mixed_none, spanned_units, spanned_step, spanned_skip}
use Rattle.mender.proofs.rows.Weaving.{pack_none, pack_unit, pack_five, lane_none, woven_window, woven_coef, woven_lt, woven_none, woven_added, matrix, matrix_long, matrix_wide, matrix_at}

-- ---- the start: the rows of the unit vectors

unit : ℕ → ℕ → ℕ → ℕ
unit n i k = cond (eqb i k) (cond (ltb i n) 1 0) 0

unit_one : (n i : ℕ) → i < n → unit n i i ≡ 1
unfolding unit
unit_one n i h = simp (eq-eqb i i refl, lt-ltb i n h)

unit_none : (n i : ℕ) → n ≤ i → unit n i i ≡ 0
unfolding unit
unit_none n i h = simp (eq-eqb i i refl, le-ltb i n h)

unit_other : (n i k : ℕ) → (i ≡ k → ⊥) → unit n i k ≡ 0
unfolding unit
unit_other n i k d = simp (ne_eqb i k d)

module _ (n : ℕ) (h : n ≤ 6) where
  unit-at : (i k : ℕ) → at (matrix (unit n)) i k ≡ unit n i k
  unit-at =
      matrix_at (unit n) (λ i k l. row_none (unit n) n (unit_none n) (unit_other n) i k (omega arith))
      (λ i k l. column_none (unit n) n (unit_none n) (unit_other n) i k (omega arith))

  unit-units : Units n (matrix (unit n))
  unit-units =
      record {
        long = matrix_long (unit n);
        wide = matrix_wide (unit n);
        one = λ i l. unit-at i i ∙ unit_one n i l;
        none = λ i l. unit-at i i ∙ unit_none n i l;
        other = λ i k d. unit-at i k ∙ unit_other n i k d;
      }

module _ (q e : ℕ) (x : List ℕ) (h : e ≤ 5) (u : UnitRows q (suc e) x) (s : List ℕ) (g : SumsIn q s) where
  start : List (List ℕ)
  start = matrix (unit (suc e))

  start-units : Units (suc e) start
  unfolding start
  start-units = unit-units (suc e) (omega arith)

  -- row i combines window t to the sum at t + i
  start-window : (i t : ℕ) → i ≤ e → t < 5 → woven s (at start i) t ≡ lane (q / 64 ^ i) t
  unfolding mixed
  start-window i t l b =
      woven_window s (at start i) t b
      ∙ total_only 6 i (λ k. product (at start i k) (get_or s (t + k) 0)) (omega arith)
      (λ k c d. ap (λ (y : ℕ). product y (get_or s (t + k) 0)) (start-units.other i k (λ r. d (sym r))) ∙ Laws.zero_product (get_or s (t + k) 0))
      ∙ ap (λ (y : ℕ). product y (get_or s (t + i) 0)) (start-units.one i (omega arith))
      ∙ Laws.one_product_low (get_or s (t + i) 0)
      ∙ sym (g.sum_at (t + i) (omega arith)) ∙ ap (lane q) (swap t i) ∙ sym (lane_after q i t)
    where
      swap : (t i : ℕ) → t + i ≡ i + t
      swap t i = omega arith

  start_word : (i : ℕ) → i < 6 → get_or x i 0 ≡ pack 11 (woven s (at start i))
  start_word i b =
      ⊎_elim
      (λ (l : suc e ≤ i).
      u.none i l
      ∙ sym (pack_none 11 (woven s (at start i)) (λ t c. woven_none s (at start i) (λ k. row_none (at start) (suc e) start-units.none start-units.other i k l) t)))
      (λ (l : i < suc e).
      u.row i l
      ∙ ap₂ (λ (a c : ℕ). a + c * 64 ^ 5)
      (pack_lanes 5 (q / 64 ^ i) ∙ sym (pack_same 5 (woven s (at start i)) (lane (q / 64 ^ i)) (λ t c. start-window i t (omega arith) c)))
      (sym
      (pack_unit 6 i (λ k. woven s (at start i) (5 + k)) b (woven_coef s (at start i) i ∙ start-units.one i l)
      (λ k d. woven_coef s (at start i) k ∙ start-units.other i k (λ r. d (sym r)))))
      ∙ turned (pack 5 (woven s (at start i))) (pack 6 (λ k. woven s (at start i) (5 + k)) * 64 ^ 5)
      ∙ sym (pack_five (woven s (at start i))))
      (le_or_lt (suc e) i)
    where
      turned : (a c : ℕ) → a + c ≡ c + a
      turned a c = omega arith

  rows_start : RowsHold s e 0 x
  rows_start = record { rows = start; spanned = spanned_units s e start h start-units; word = start_word }

pub from_units : (q e : ℕ) (x : List ℕ) → e ≤ 5 → UnitRows q (suc e) x → RowsFrom q e 0 x
from_units q e x h u = record { hold = λ s g. rows_start q e x h u s g }

-- ---- one window

module _ (s : List ℕ) (e n : ℕ) (x : List ℕ) (a : RowsHold s e n x) where
  word_lane : (i t : ℕ) → i < 6 → t < 11 → lane (get_or x i 0) t ≡ woven s (at a.rows i) t
  word_lane i t h l =
      ap (λ (p : ℕ). lane p t) (a.word i h)
      ∙ lane_pack 11 (woven s (at a.rows i)) (woven_lt s (at a.rows i) (a.spanned.small i)) t l

  word-window : (i t : ℕ) → i < 6 → t < 5 → lane (get_or x i 0) t ≡ mixed (at a.rows i) s t
  word-window i t h l = word_lane i t h (omega arith) ∙ woven_window s (at a.rows i) t l

  word-coef : (i k : ℕ) → i < 6 → k < 6 → lane (get_or x i 0) (5 + k) ≡ at a.rows i k
  word-coef i k h l = word_lane i (5 + k) h (omega arith) ∙ woven_coef s (at a.rows i) k

  -- a coefficient beside the six
  row-beside : (i k : ℕ) → 6 ≤ k → at a.rows i k ≡ 0
  row-beside i k l =
      ⊎_elim (λ (h : 6 ≤ i). past a.rows i k a.spanned.long h)
      (λ (h : i < 6). get_or-eq_default (get_or a.rows i []) 0 (omega (arith, a.spanned.wide i h))) (le_or_lt 6 i)

  -- no row has to go
  rows-skip : n < 5 → NoPivot x n → RowsHold s e (suc n) x
  rows-skip h p =
      record {
        rows = a.rows;
        spanned = spanned_skip s e n a.rows a.spanned (λ i l. sym (word-window i n l h) ∙ p.none i l);
        word = a.word;
      }

  module _ (p : ℕ) (r : List ℕ) (h : n < 5) (b : Pivot x n p) (c : RowsCleared x n p r) where
    hp : p < 6
    hp = b.small

    m : List (List ℕ)
    m = a.rows

    f : ℕ → ℕ
    f i = product (mixed (at m i) s n) (inverse (mixed (at m p) s n))

    entry : ℕ → ℕ → ℕ
    entry i k = sum (at m i k) (product (f i) (at m p k))

    new : List (List ℕ)
    new = matrix entry

    lowest : (i : ℕ) → i < p → mixed (at m i) s n ≡ 0
    unfolding m
    lowest i l = sym (word-window i n (omega arith) h) ∙ b.before i l

    f-none : (i : ℕ) → mixed (at m i) s n ≡ 0 → f i ≡ 0
    unfolding f
    f-none i = none_divided (mixed (at m i) s n) (mixed (at m p) s n)

    entry-below : (i k : ℕ) → 6 ≤ i → entry i k ≡ 0
    unfolding entry m
    entry-below i k l =
        ap₂ (λ (t u : ℕ). sum t (product u (at m p k))) (past m i k a.spanned.long l) (f-none i (mixed_none (at m i) s n (λ k. past m i k a.spanned.long l)))
        ∙ ap (sum 0) (Laws.zero_product (at m p k)) ∙ Laws.sum_self 0

    entry-beside : (i k : ℕ) → 6 ≤ k → entry i k ≡ 0
    unfolding entry m
    entry-beside i k l =
        ap₂ (λ (t u : ℕ). sum t (product (f i) u)) (row-beside i k l) (row-beside p k l)
        ∙ ap (sum 0) (Laws.product_zero (f i)) ∙ Laws.sum_self 0

    new-at : (i k : ℕ) → at new i k ≡ entry i k
    unfolding new
    new-at = matrix_at entry entry-below entry-beside

    stepped : Stepped s n p m new
    unfolding new entry f m
    stepped =
        record {
          long = matrix_long entry;
          wide = matrix_wide entry;
          pivot = subst (λ (t : ℕ). 0 < t) (word-window p n hp h) b.here;
          lowest = lowest;
          row = new-at;
        }

    -- each lane of the new row
    new-lane : (i t : ℕ) → woven s (at new i) t ≡ sum (woven s (at m i) t) (product (f i) (woven s (at m p) t))
    unfolding entry
    new-lane i t = woven_added s (at m i) (at new i) (at m p) (f i) (new-at i) t

    small : (i t : ℕ) → woven s (at m i) t < 64
    unfolding m
    small i t = woven_lt s (at m i) (a.spanned.small i) t

    word_is : (i : ℕ) → i < 6 → get_or x i 0 ≡ pack 11 (woven s (at m i))
    unfolding m
    word_is = a.word

    -- a row above the pivot's stays
    word-before : (i : ℕ) → i < p → get_or r i 0 ≡ pack 11 (woven s (at new i))
    word-before i l =
        c.before i l ∙ word_is i (omega arith)
        ∙ pack_same 11 (woven s (at m i)) (woven s (at new i))
        (λ t g.
        sym (new-lane i t ∙ ap (λ (u : ℕ). sum (woven s (at m i) t) (product u (woven s (at m p) t))) (f-none i (lowest i l))
        ∙ ap (sum (woven s (at m i) t)) (Laws.zero_product (woven s (at m p) t)) ∙ Laws.sum_zero (woven s (at m i) t)))

    f-one : f p ≡ 1
    unfolding f m
    f-one = Laws.inverse_right (mixed (at m p) s n) (subst (λ (t : ℕ). 0 < t) (word-window p n hp h) b.here) (mixed_lt (at m p) s n)

    word-here : get_or r p 0 ≡ pack 11 (woven s (at new p))
    word-here =
        c.here
        ∙ sym (pack_none 11 (woven s (at new p))
        (λ t g. new-lane p t ∙ ap (λ (u : ℕ). sum (woven s (at m p) t) (product u (woven s (at m p) t))) f-one
        ∙ ap (sum (woven s (at m p) t)) (Laws.one_product (woven s (at m p) t) (small p t)) ∙ Laws.sum_self (woven s (at m p) t)))

    factor-is : (i : ℕ) → i < 6 → factor x n p i ≡ f i
    unfolding f m
    factor-is i l = ap₂ (λ (t u : ℕ). product t (inverse u)) (word-window i n l h) (word-window p n hp h)

    -- the pivot's row has no lane 10 where there is a row after it
    added : (i : ℕ) → p < i → i < 6 → pack 10 (λ k. product (lane (get_or x p 0) k) (factor x n p i)) ≡ pack 11 (λ k. product (f i) (woven s (at m p) k))
    unfolding m
    added i l g =
        pack_same 10 (λ k. product (lane (get_or x p 0) k) (factor x n p i)) (λ k. product (f i) (woven s (at m p) k))
        (λ k b. ap₂ product (word_lane p k hp (omega arith)) (factor-is i g) ∙ Laws.product_comm (woven s (at m p) k) (f i))
        ∙ sym (pack_more 10 (λ k. product (f i) (woven s (at m p) k))
        (ap (product (f i)) (woven_coef s (at m p) 5 ∙ a.spanned.low p 5 (omega arith)) ∙ Laws.product_zero (f i)))

    word_after : (i : ℕ) → p < i → i < 6 → get_or r i 0 ≡ pack 11 (woven s (at new i))
    word_after i l g =
        c.after i l g
        ∙ ap₂ bit_xor (word_is i g) (added i l g)
        ∙ xor_pack 11 (woven s (at m i)) (λ k. product (f i) (woven s (at m p) k)) (small i) (λ k. Laws.product_lt (f i) (woven s (at m p) k))
        ∙ pack_same 11 (λ k. sum (woven s (at m i) k) (product (f i) (woven s (at m p) k))) (woven s (at new i)) (λ t b. sym (new-lane i t))

    rows_step : RowsHold s e (suc n) r
    unfolding m
    rows_step =
        record {
          rows = new;
          spanned = spanned_step s e n p m new a.spanned stepped;
          word = λ i l.
              ⊎_elim
              (λ (k : p ≤ i).
              ⊎_elim (λ (e : p ≡ i). subst (λ (j : ℕ). get_or r j 0 ≡ pack 11 (woven s (at new j))) e word-here) (λ (k : p < i). word_after i k l) (eq-or-lt_of_le k))
              (λ (k : i < p). word-before i k) (le_or_lt p i);
        }

pub from_step : (q e n p : ℕ) (x r o : List ℕ) → n < 5 → RowsFrom q e n x → Pivot x n p → RowsCleared x n p r → o ≡ r → RowsFrom q e (n + 1) o
from_step q e n p x r o h a b c w =
    record {
      hold = λ s g.
          subst (λ (l : List ℕ). RowsHold s e (n + 1) l) (sym w)
          (subst (λ (k : ℕ). RowsHold s e k r) (sym (add-one n)) (rows_step s e n x (a.hold s g) p r h b c));
    }

pub from_skip : (q e n : ℕ) (x o : List ℕ) → n < 5 → RowsFrom q e n x → NoPivot x n → o ≡ x → RowsFrom q e (n + 1) o
from_skip q e n x o h a b w =
    record {
      hold = λ s g.
          subst (λ (l : List ℕ). RowsHold s e (n + 1) l) (sym w)
          (subst (λ (k : ℕ). RowsHold s e k x) (sym (add-one n)) (rows-skip s e n x (a.hold s g) h b));
    }

pub from_all : (q e n t : ℕ) (x : List ℕ) → n ≤ t → t ≤ n → RowsFrom q e n x → RowsFrom q e t x
from_all q e n t x h l a = subst (λ (k : ℕ). RowsFrom q e k x) (same n t h l) a
  where
    same : (n t : ℕ) → n ≤ t → t ≤ n → n ≡ t
    same n t h l = omega arith

-- ---- what is left

module _ (s : List ℕ) (e n : ℕ) (x : List ℕ) (a : RowsHold s e n x) where
  word_none : (i : ℕ) → i < 6 → get_or x i 0 ≡ 0 → (k : ℕ) → at a.rows i k ≡ 0
  word_none i h z k =
      ⊎_elim (λ (l : 6 ≤ k). row-beside s e n x a i k l)
      (λ (l : k < 6). sym (word-coef s e n x a i k h l) ∙ ap (λ (w : ℕ). lane w (5 + k)) z ∙ lane_none (5 + k))
      (le_or_lt 6 k)

  -- no row
  pub rows_none : NoRow x → (i k : ℕ) → i < 6 → at a.rows i k ≡ 0
  rows_none f i k h = word_none i h (f.none i h) k

  -- or the first row is the least polynomial
  pub rows_first : (r : ℕ) (p : List ℕ) → First x r → Coefficients (get_or x r 0) p → Least s e n r p
  rows_first r p f c =
      let h : r < 6 = f.small in
      subst (Least s e n r) (sym same)
      (row_least s e n a.rows r a.spanned h
      (⊎_elim (λ z. absurd (f.here (a.word r h ∙ pack_none 11 (woven s (at a.rows r)) (λ t l. woven_none s (at a.rows r) z t)))) (λ o. o) (a.spanned.own r))
      (λ i k l. word_none i (omega arith) (f.before i l) k))
    where
      same : p ≡ get_or a.rows r []
      same =
          ext_get_or 0 p (get_or a.rows r []) (c.wide ∙ sym (a.spanned.wide r f.small))
          (λ k l. c.entry k (omega (arith, c.wide)) ∙ word-coef s e n x a r k f.small (omega (arith, c.wide)))

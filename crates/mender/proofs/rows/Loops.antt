-- What the code of packed rows does, a turn of each loop at a time, over plain variables.
use mathlib.Core.Path.{◌≡◌, refl, sym, ap, ap₂, ◌∙◌, subst}
use mathlib.Core.List.{List, [], ◌∷◌}
use Rattle.std.specs.Prelude.{Option, Some, None, MatchOption}
use Rattle.std.specs.List.{AllWithin, HoldsAt}
use Prim.Native.Nat.{ℕ, zero, suc, ◌+◌, ◌*◌, ◌/◌, ◌%◌, ◌^◌, ◌<◌, ◌≤◌}
use native.Mathlib.Nat.{le_of_eq, div-div-eq-div-mul, div-one, pow-suc, pow-le-pow_right, zero-add}
use native.Mathlib.Numerals.{add-one}
use native.Mathlib.Omega.{arith}
use borrow.Author.Count.{below_more}
use lib.Dec.{eqb, eqb→eq}
use lib.Bits.{bit_xor}
use lib.ListN.{get_or, length, set, length-set, replicate}
use lib.Seq.{get_or-set_same, get_or-set_other}
use Rattle.numbers.proofs.Cases.{pos_of_not_zero, not_zero_of_pos}
use Rattle.numbers.proofs.Range.{each_at}
use Rattle.numbers.proofs.Xor.{xor_assoc}
use Rattle.field.specs.Field.{sum, times_x, shifted, product}
use Rattle.field.specs.Inside.{inverse}
use Rattle.field.proofs.Laws
use Rattle.lanes.specs.Lanes.{pack, lane}
use Rattle.lanes.proofs.Laws.{lane_after, lane_lt, lane_zero, lane_suc, pack_same, pack_lt, lane_pack, pack_lanes, pack_all, xor_pack}
use Rattle.code.proofs.Words.{zero_get, characters_below}
use Rattle.mender.specs.Rows.{UnitRows, PivotRow, Multiples, factor, RowsCleared, FirstRow, Coefficients}
use Rattle.mender.proofs.rows.Weaving.{pack_none}

-- ---- lane_of

pub pow_lane : (j : ℕ) → 2 ^ (6 * j) ≡ 64 ^ j
pow_lane zero = refl
pow_lane (suc j) =
    let n : ℕ = 6 * j in
    ap (λ (k : ℕ). 2 ^ k) (six j) ∙ six-more (6 * j) ∙ ap (λ (m : ℕ). m * 64) (pow_lane j) ∙ sym (pow-suc 64 j)
  where
    six : (j : ℕ) → 6 * suc j ≡ suc (suc (suc (suc (suc (suc (6 * j))))))
    six j = omega arith

    six-more : (n : ℕ) → 2 ^ suc (suc (suc (suc (suc (suc n))))) ≡ 2 ^ n * 64
    six-more n =
        let a : 2 ^ suc n ≡ 2 ^ n * 2 = pow-suc 2 n in
        let b : 2 ^ suc (suc n) ≡ 2 ^ suc n * 2 = pow-suc 2 (suc n) in
        let c : 2 ^ suc (suc (suc n)) ≡ 2 ^ suc (suc n) * 2 = pow-suc 2 (suc (suc n)) in
        let d : 2 ^ suc (suc (suc (suc n))) ≡ 2 ^ suc (suc (suc n)) * 2 = pow-suc 2 (suc (suc (suc n))) in
        let e : 2 ^ suc (suc (suc (suc (suc n)))) ≡ 2 ^ suc (suc (suc (suc n))) * 2 = pow-suc 2 (suc (suc (suc (suc n)))) in
        let f : 2 ^ suc (suc (suc (suc (suc (suc n))))) ≡ 2 ^ suc (suc (suc (suc (suc n)))) * 2 = pow-suc 2 (suc (suc (suc (suc (suc n))))) in
        omega arith

pub lane_shift : (x j : ℕ) → x / 2 ^ (6 * j) % 64 ≡ lane x j
unfolding lane
lane_shift x j = ap (λ (m : ℕ). x / m % 64) (pow_lane j)

-- ---- unit_rows

-- i rows are set; q has the sums from i on, and one is below the 1 of row i
pub record UnitRowsTo (sums : ℕ) (x : List ℕ) (q one i : ℕ) : Type 0 where
  pub long : length x ≡ 6
  pub after : q ≡ sums / 64 ^ i
  pub next : one ≡ 64 ^ i * 16777216
  pub units : UnitRows sums i x

pub unit_rows_none : (sums : ℕ) → UnitRowsTo sums (replicate 6 0) sums 16777216 0
unit_rows_none sums =
    record { long = refl; after = sym (div-one sums); next = refl; units = record { row = λ i l. absurd (omega arith); none = λ i l. zero_get 6 i } }

-- one fits, and so does a row
one_fits : (sums : ℕ) (x : List ℕ) (q one i e : ℕ) → e ≤ 5 → i < e + 1 → UnitRowsTo sums x q one i → one ≤ 18014398509481984
one_fits sums x q one i e h l a =
    let c : 64 ^ i ≤ 64 ^ 5 = pow-le-pow_right {n = 64} (omega arith) {i = i} {j = 5} (omega arith) in
    let d = a.next in
    omega arith

pub one_mul : (sums : ℕ) (x : List ℕ) (q one i e : ℕ) → e ≤ 5 → i < e + 1 → UnitRowsTo sums x q one i → one * 64 < 18446744073709551616
one_mul sums x q one i e h l a = omega (arith, one_fits sums x q one i e h l a)

pub one_add : (sums : ℕ) (x : List ℕ) (q one i e : ℕ) → e ≤ 5 → i < e + 1 → UnitRowsTo sums x q one i → q % 1073741824 + one * 64 < 18446744073709551616
one_add sums x q one i e h l a = omega (arith, one_fits sums x q one i e h l a)

pub unit_rows_again : (sums : ℕ) (x : List ℕ) (q one i e : ℕ) → e ≤ 5 → i < e + 1 → UnitRowsTo sums x q one i
    → UnitRowsTo sums (set x i (q % 1073741824 + one * 64)) (q / 64) (one * 64) (i + 1)
unit_rows_again sums x q one i e h l a =
    let v : ℕ = q % 1073741824 + one * 64 in
    record {
      long = length-set x i v ∙ a.long;
      after =
          ap (λ (n : ℕ). n / 64) a.after ∙ div-div-eq-div-mul sums (64 ^ i) 64
          ∙ ap (λ (n : ℕ). sums / n) (sym (pow-suc 64 i) ∙ ap (λ (n : ℕ). 64 ^ n) (sym (add-one i)));
      next = (let d = a.next in let p : 64 ^ suc i ≡ 64 ^ i * 64 = pow-suc 64 i in omega arith) ∙ ap (λ (n : ℕ). 64 ^ n * 16777216) (sym (add-one i));
      units = record {
        row =
            below_more (λ k. get_or (set x i v) k 0 ≡ sums / 64 ^ k % 64 ^ 5 + 64 ^ k * 64 ^ 5) i
            (λ k b. get_or-set_other x i k v 0 (λ r. omega arith) ∙ a.units.row k b)
            (get_or-set_same x i v 0 (omega (arith, a.long))
            ∙ ap₂ (λ (y z : ℕ). y % 1073741824 + z) a.after (let d = a.next in omega arith));
        none = λ k b. get_or-set_other x i k v 0 (λ r. omega arith) ∙ a.units.none k (omega arith);
      };
    }

pub unit_rows_all : (sums : ℕ) (x : List ℕ) (q one i e : ℕ) → i ≤ e + 1 → e + 1 ≤ i → UnitRowsTo sums x q one i → UnitRows sums (suc e) x
unit_rows_all sums x q one i e h l a = subst (λ (n : ℕ). UnitRows sums n x) (same i e h l) a.units
  where
    same : (i e : ℕ) → i ≤ e + 1 → e + 1 ≤ i → i ≡ suc e
    same i e h l = omega arith

-- ---- pivot_row and first_row

-- of the rows that `position` looked at, those before the one that it gives fail the test
pub pivot_row_is : (x : List ℕ) (j : ℕ) (r : Option ℕ) → length x ≡ 6
    → MatchOption r (AllWithin (λ v. lane v j ≡ 0) x 0 (length x))
    (λ i. (i < length x) × HoldsAt (λ v. lane v j ≡ 0 → ⊥) x i × AllWithin (λ v. lane v j ≡ 0) x 0 i)
    → PivotRow x j r
pivot_row_is x j (Some r) h a =
    record { small = omega arith; before = λ i l. a.2 i 0 (omega arith) l; here = pos_of_not_zero (lane (get_or x r 0) j) (a.1 0) }
pivot_row_is x j None h a = record { none = λ i l. a i 0 (omega arith) (omega arith) }

pub first_row_is : (x : List ℕ) (r : Option ℕ) → length x ≡ 6
    → MatchOption r (AllWithin (λ v. v ≡ 0) x 0 (length x)) (λ i. (i < length x) × HoldsAt (λ v. v ≡ 0 → ⊥) x i × AllWithin (λ v. v ≡ 0) x 0 i)
    → FirstRow x r
first_row_is x (Some r) h a = record { small = omega arith; before = λ i l. a.2 i 0 (omega arith) l; here = a.1 0 }
first_row_is x None h a = record { none = λ i l. a i 0 (omega arith) (omega arith) }

-- ---- coefficients

pub record CoefficientsTo (x : ℕ) (p : List ℕ) (q k : ℕ) : Type 0 where
  pub wide : length p ≡ 6
  pub after : (l : ℕ) → lane q l ≡ lane x (5 + (k + l))
  pub done : (i : ℕ) → i < k → get_or p i 0 ≡ lane x (5 + i)

pub coefficients_none : (x : ℕ) (p : List ℕ) → length p ≡ 6 → CoefficientsTo x p (x / 1073741824) 0
coefficients_none x p w = record { wide = w; after = λ l. lane_after x 5 l ∙ ap (λ (n : ℕ). lane x (5 + n)) (sym (zero-add l)); done = λ i l. absurd (omega arith) }

pub coefficients_again : (x : ℕ) (p : List ℕ) (q k : ℕ) → k < 6 → CoefficientsTo x p q k → CoefficientsTo x (set p k (q % 64)) (q / 64) (k + 1)
coefficients_again x p q k h a =
    record {
      wide = length-set p k (q % 64) ∙ a.wide;
      after = λ l. sym (lane_suc q l) ∙ a.after (suc l) ∙ ap (lane x) (omega arith);
      done =
          below_more (λ i. get_or (set p k (q % 64)) i 0 ≡ lane x (5 + i)) k
          (λ i l. get_or-set_other p k i (q % 64) 0 (λ r. omega arith) ∙ a.done i l)
          (get_or-set_same p k (q % 64) 0 (omega (arith, a.wide)) ∙ sym (lane_zero q) ∙ a.after 0 ∙ ap (lane x) (omega arith));
    }

pub coefficients_all : (x : ℕ) (p : List ℕ) (q k : ℕ) → 6 ≤ k → CoefficientsTo x p q k → Coefficients x p
coefficients_all x p q k h a = record { wide = a.wide; entry = λ i l. a.done i (omega arith) }

pub coefficients_small : (x : ℕ) (p : List ℕ) → Coefficients x p → (k : ℕ) → get_or p k 0 < 64
coefficients_small x p c = characters_below p 6 (le_of_eq c.wide) (λ k h. subst (λ (v : ℕ). v < 64) (sym (c.entry k h)) (lane_lt x (5 + k)))

-- ---- multiples

module _ (a : ℕ) where
  times : ℕ → ℕ
  times k = pack 10 (λ l. product (lane a l) k)

  times_sum : (u v : ℕ) → bit_xor (times u) (times v) ≡ times (sum u v)
  unfolding times
  times_sum u v =
      xor_pack 10 (λ l. product (lane a l) u) (λ l. product (lane a l) v) (λ l. Laws.product_lt (lane a l) u) (λ l. Laws.product_lt (lane a l) v)
      ∙ pack_same 10 (λ l. sum (product (lane a l) u) (product (lane a l) v)) (λ l. product (lane a l) (sum u v)) (λ l h. sym (Laws.product_sum (lane a l) u v))

  module _ (b c : ℕ) (h : a < 1152921504606846976) (eb : b ≡ pack 10 (λ l. product (lane a l) 2)) (ec : c ≡ pack 10 (λ l. product (lane a l) 4)) where
    times-one : a ≡ times 1
    unfolding times
    times-one = pack_all 10 a h ∙ pack_same 10 (lane a) (λ l. product (lane a l) 1) (λ l k. sym (Laws.product_one (lane a l) (lane_lt a l)))

    times-three : bit_xor a b ≡ times 3
    unfolding times sum
    times-three = ap₂ bit_xor times-one eb ∙ times_sum 1 2

    table : List ℕ
    table = 0 ∷ a ∷ b ∷ bit_xor a b ∷ c ∷ bit_xor c a ∷ bit_xor c b ∷ bit_xor c (bit_xor a b) ∷ []

    entry : (k : ℕ) → k < 8 → get_or table k 0 ≡ times k
    unfolding table times sum
    entry zero l = sym (pack_none 10 (λ l. product (lane a l) 0) (λ l k. Laws.product_zero (lane a l)))
    entry (suc zero) l = times-one
    entry (suc (suc zero)) l = eb
    entry (suc (suc (suc zero))) l = times-three
    entry (suc (suc (suc (suc zero)))) l = ec
    entry (suc (suc (suc (suc (suc zero))))) l = ap₂ bit_xor ec times-one ∙ times_sum 4 1
    entry (suc (suc (suc (suc (suc (suc zero)))))) l = ap₂ bit_xor ec eb ∙ times_sum 4 2
    entry (suc (suc (suc (suc (suc (suc (suc zero))))))) l = ap₂ bit_xor ec times-three ∙ times_sum 4 3
    entry (suc (suc (suc (suc (suc (suc (suc (suc k)))))))) l = absurd (omega arith)

    pub multiples_are : Multiples a (0 ∷ a ∷ b ∷ bit_xor a b ∷ c ∷ bit_xor c a ∷ bit_xor c b ∷ bit_xor c (bit_xor a b) ∷ [])
    unfolding table times
    multiples_are = record { times = entry }

-- ---- row_cleared

-- a factor in two parts, of three bits each
eights : (f : ℕ) → f < 64 → sum (f % 8) (product 8 (f / 8)) ≡ f
unfolding sum product shifted times_x
eights f h = eqb→eq (sum (f % 8) (product 8 (f / 8))) f (each_at 64 (λ f. eqb (sum (f % 8) (product 8 (f / 8))) f) tt f h)

-- two tables that multiply the lanes of y
pub record Tables (y : ℕ) (low high : List ℕ) : Type 0 where
  pub added : (x f : ℕ) → f < 64 → bit_xor (bit_xor x (get_or low (f % 8) 0)) (get_or high (f / 8) 0) ≡ bit_xor x (pack 10 (λ k. product (lane y k) f))

module _ (y b : ℕ) (low high : List ℕ) (l : Multiples (y % 1152921504606846976) low)
    (e : b ≡ pack 10 (λ k. product (lane (y % 1152921504606846976) k) 8)) (h : Multiples b high) where
  a : ℕ
  a = y % 1152921504606846976

  lane-a : (k : ℕ) → k < 10 → lane a k ≡ lane y k
  unfolding a
  lane-a k g = ap (λ (p : ℕ). lane p k) (pack_lanes 10 y) ∙ lane_pack 10 (lane y) (lane_lt y) k g

  lane-b : (k : ℕ) → k < 10 → lane b k ≡ product (lane a k) 8
  unfolding a
  lane-b k g = ap (λ (p : ℕ). lane p k) e ∙ lane_pack 10 (λ k. product (lane a k) 8) (λ k. Laws.product_lt (lane a k) 8) k g

  both-parts : (f k : ℕ) → f < 64 → k < 10 → sum (product (lane a k) (f % 8)) (product (lane b k) (f / 8)) ≡ product (lane y k) f
  both-parts f k g m =
      ap (λ (t : ℕ). sum (product (lane a k) (f % 8)) (product t (f / 8))) (lane-b k m)
      ∙ ap (sum (product (lane a k) (f % 8))) (Laws.product_assoc (lane a k) 8 (f / 8))
      ∙ sym (Laws.product_sum (lane a k) (f % 8) (product 8 (f / 8)))
      ∙ ap₂ product (lane-a k m) (eights f g)

  pub tables_are : Tables y low high
  unfolding a
  tables_are =
      record {
        added = λ x f g.
            xor_assoc x (get_or low (f % 8) 0) (get_or high (f / 8) 0)
            ∙ ap (bit_xor x)
            (ap₂ bit_xor (l.times (f % 8) (omega arith)) (h.times (f / 8) (omega arith))
            ∙ xor_pack 10 (λ k. product (lane a k) (f % 8)) (λ k. product (lane b k) (f / 8)) (λ k. Laws.product_lt (lane a k) (f % 8)) (λ k. Laws.product_lt (lane b k) (f / 8))
            ∙ pack_same 10 (λ k. sum (product (lane a k) (f % 8)) (product (lane b k) (f / 8))) (λ k. product (lane y k) f) (λ k m. both-parts f k g m));
      }

pub scaled_fits : (a f b : ℕ) → b ≡ pack 10 (λ k. product (lane a k) f) → b < 1152921504606846976
scaled_fits a f b e = subst (λ (n : ℕ). n < 1152921504606846976) (sym e) (pack_lt 10 (λ k. product (lane a k) f) (λ k. Laws.product_lt (lane a k) f))

-- a pivot, which is not 0, may be divided by
pub pivot_divides : (y j d : ℕ) → 0 < lane y j → d ≡ lane y j → 0 < d % 64
pivot_divides y j d p e = Laws.may_divide d (rw e (lane_lt y j)) (not_zero_of_pos (rw e p))

pub inverse_lane : (x j d v : ℕ) → d ≡ lane x j → v ≡ inverse d → v ≡ inverse (lane x j)
inverse_lane x j d v e f = f ∙ ap inverse e

pub part_fits : (u v f n : ℕ) → f ≡ product u v → n ≡ f / 8 → n < 8
part_fits u v f n e q = let b : f < 64 = subst (λ (n : ℕ). n < 64) (sym e) (Laws.product_lt u v) in omega arith

-- the rows after row p and before row i are cleared
pub record RowsClearedTo (x : List ℕ) (j p : ℕ) (r : List ℕ) (i : ℕ) : Type 0 where
  pub long : length r ≡ 6
  pub before : (k : ℕ) → k < p → get_or r k 0 ≡ get_or x k 0
  pub done : (k : ℕ) → p < k → k < i → get_or r k 0 ≡ bit_xor (get_or x k 0) (pack 10 (λ l. product (lane (get_or x p 0) l) (factor x j p k)))
  pub rest : (k : ℕ) → i ≤ k → get_or r k 0 ≡ get_or x k 0

pub rows_cleared_none : (x : List ℕ) (j p : ℕ) → length x ≡ 6 → RowsClearedTo x j p x (p + 1)
rows_cleared_none x j p w = record { long = w; before = λ k l. refl; done = λ k l b. absurd (omega arith); rest = λ k l. refl }

pub rows_cleared_again : (x : List ℕ) (j p : ℕ) (r low high : List ℕ) (i d u f m n : ℕ) → p < i → i < 6 → d ≡ inverse (lane (get_or x p 0) j) → u ≡ lane (get_or r i 0) j
    → f ≡ product d u → m ≡ f % 8 → n ≡ f / 8 → Tables (get_or x p 0) low high → RowsClearedTo x j p r i
    → RowsClearedTo x j p (set r i (bit_xor (bit_xor (get_or r i 0) (get_or low m 0)) (get_or high n 0))) (i + 1)
rows_cleared_again x j p r low high i d u f m n hp h ed eu ef em en t a =
    let v : ℕ = bit_xor (bit_xor (get_or r i 0) (get_or low m 0)) (get_or high n 0) in
    let was : get_or r i 0 ≡ get_or x i 0 = a.rest i (omega arith) in
    let small : f < 64 = subst (λ (n : ℕ). n < 64) (sym ef) (Laws.product_lt d u) in
    let same : f ≡ factor x j p i = ef ∙ Laws.product_comm d u ∙ ap₂ product (eu ∙ ap (λ (w : ℕ). lane w j) was) ed in
    record {
      long = length-set r i v ∙ a.long;
      before = λ k l. get_or-set_other r i k v 0 (λ q. omega arith) ∙ a.before k l;
      done = λ k l b.
          below_more (λ k. p < k → get_or (set r i v) k 0 ≡ bit_xor (get_or x k 0) (pack 10 (λ l. product (lane (get_or x p 0) l) (factor x j p k)))) i
          (λ k b g. get_or-set_other r i k v 0 (λ q. omega arith) ∙ a.done k g b)
          (λ g. get_or-set_same r i v 0 (omega (arith, a.long))
          ∙ ap₂ (λ (y z : ℕ). bit_xor (bit_xor (get_or r i 0) (get_or low y 0)) (get_or high z 0)) em en ∙ t.added (get_or r i 0) f small
          ∙ ap₂ (λ (y z : ℕ). bit_xor y (pack 10 (λ l. product (lane (get_or x p 0) l) z))) was same)
          k b l;
      rest = λ k l. get_or-set_other r i k v 0 (λ q. omega arith) ∙ a.rest k (omega arith);
    }

pub rows_cleared_all : (x : List ℕ) (j p : ℕ) (r : List ℕ) (i : ℕ) → p < 6 → 6 ≤ i → RowsClearedTo x j p r i → RowsCleared x j p (set r p 0)
rows_cleared_all x j p r i h l a =
    record {
      before = λ k b. get_or-set_other r p k 0 0 (λ q. omega arith) ∙ a.before k b;
      here = get_or-set_same r p 0 0 (omega (arith, a.long));
      after = λ k b c. get_or-set_other r p k 0 0 (λ q. omega arith) ∙ a.done k b (omega arith);
    }

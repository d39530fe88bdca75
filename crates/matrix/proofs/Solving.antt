-- The reduced matrix answers the system: all its columns are unit columns exactly where the system is regular, and its column n then solves it.
use mathlib.Core.Path.{◌≡◌, refl, sym, ap, ap₂, ◌∙◌, subst}
use mathlib.Core.Bool.{Bool, true, false}
use mathlib.Core.Logic.{⊎_elim}
use mathlib.Core.List.{List}
use Prim.Native.Nat.{ℕ, zero, suc, min, ◌<◌, ◌≤◌}
use native.Mathlib.Nat.{eq-or-lt_of_le, le_of_suc-le-suc}
use native.Mathlib.Omega.{arith}
use Rattle.std.specs.Prelude.{Some, None}
use Rattle.std.proofs.lemmas.Option.{none-some, same_Some}
use Rattle.numbers.specs.Total.{total}
use Rattle.numbers.proofs.Cases.{le_or_lt}
use Rattle.numbers.proofs.Totals.{total_none, total_only}
use Rattle.refusal.specs.Promise.{Tells}
use Rattle.field.specs.Field.{sum, product}
use Rattle.field.proofs.Laws
use Rattle.field.proofs.Totals.{total_next}
use Rattle.matrix.specs.System.{at, dot, Null, Regular, entry, Solution, Solves}
use Rattle.matrix.specs.Inside.{low_rows, Reduces, UnitDiagonal, ColumnIs}
use Rattle.matrix.proofs.Lowering.{low_null, null_low}

-- ---- numbers that make the reduced rows 0

-- the two terms that are not 0
total_two : (n a b : ℕ) (f : ℕ → ℕ) → a < b → b < n → ((i : ℕ) → i < n → (i ≡ a → ⊥) → (i ≡ b → ⊥) → f i ≡ 0) → total n f ≡ sum (f a) (f b)
total_two zero a b f l h o = absurd (omega arith)
total_two (suc n) a b f l h o =
    total_next n f
    ∙ ⊎_elim
    (λ (e : b ≡ n). ap₂ sum (total_only n a f (omega arith) (λ i g d. o i (omega arith) d (λ q. omega arith))) (ap f (sym e)))
    (λ (g : b < n).
    ap₂ sum (total_two n a b f l g (λ i k. o i (omega arith))) (o n (omega arith) (λ q. omega arith) (λ q. omega arith)) ∙ Laws.sum_zero (sum (f a) (f b)))
    (eq-or-lt_of_le (le_of_suc-le-suc h))

zero_left : (x y : ℕ) → x ≡ 0 → product x y ≡ 0
zero_left x y e = ap (λ (z : ℕ). product z y) e ∙ Laws.zero_product y

zero_right : (x y : ℕ) → y ≡ 0 → product x y ≡ 0
zero_right x y e = ap (product x) e ∙ Laws.product_zero x

module _ (n : ℕ) (m r : List (List ℕ)) (a : Reduces n m r) (q : ℕ → ℕ) (past : (k : ℕ) → a.steps < k → k ≤ n → q k ≡ 0) where
  -- a row with 1 on the diagonal: its own number, and the entry in the first other column times that column's number
  row_before : (i : ℕ) → i < a.steps → dot n (at r i) q ≡ sum (product 1 (q i)) (product (at r i a.steps) (q a.steps))
  unfolding dot
  row_before i l =
      let f = a.fits in
      total_two (suc n) i a.steps (λ k. product (at r i k) (q k)) l (omega arith)
      (λ k h d e.
      ⊎_elim (λ (g : a.steps ≤ k). zero_right (at r i k) (q k) (past k (above k g e) (omega arith)))
      (λ (g : k < a.steps). zero_left (at r i k) (q k) (a.other i k (omega arith) g (λ z. d (sym z))))
      (le_or_lt a.steps k))
      ∙ ap (λ (x : ℕ). sum (product x (q i)) (product (at r i a.steps) (q a.steps))) (a.one i l)
    where
      above : (k : ℕ) → a.steps ≤ k → (k ≡ a.steps → ⊥) → a.steps < k
      above k g e = ⊎_elim (λ (z : a.steps ≡ k). absurd (e (sym z))) (λ (z : a.steps < k). z) (eq-or-lt_of_le g)

  -- a later row, which has 0 in that column
  row-after : (i : ℕ) → a.steps ≤ i → i < n → dot n (at r i) q ≡ 0
  unfolding dot
  row-after i l h =
      total_none (suc n) (λ k. product (at r i k) (q k))
      (λ k g.
      ⊎_elim (λ (e : a.steps ≤ k).
      ⊎_elim (λ (e' : a.steps ≡ k). zero_left (at r i k) (q k) (subst (λ (j : ℕ). at r i j ≡ 0) e' (a.stuck (omega arith) i l h)))
      (λ (e' : a.steps < k). zero_right (at r i k) (q k) (past k e' (omega arith))) (eq-or-lt_of_le e))
      (λ (e : k < a.steps). zero_left (at r i k) (q k) (a.other i k h e (λ u. omega arith)))
      (le_or_lt a.steps k))

-- the numbers of column t before number t, 1 there and 0 after it
record OfColumn (r : List (List ℕ)) (t : ℕ) (q : ℕ → ℕ) : Type 0 where
  entry : (i : ℕ) → i < t → q i ≡ at r i t
  top : q t ≡ 1
  past : (k : ℕ) → t < k → q k ≡ 0

-- those of the first column that is no unit column make each row 0
column_null : (n : ℕ) (m r : List (List ℕ)) (a : Reduces n m r) (q : ℕ → ℕ) → OfColumn r a.steps q → Null n m q
column_null n m r a q c = a.from q rows
  where
    rows : Null n r q
    rows i l =
        ⊎_elim (λ (h : a.steps ≤ i). row-after n m r a q (λ k g _. c.past k g) i h l)
        (λ (h : i < a.steps).
        row_before n m r a q (λ k g _. c.past k g) i h
        ∙ ap₂ sum (ap (product 1) (c.entry i h) ∙ Laws.one_product (at r i a.steps) (a.small i a.steps))
        (ap (product (at r i a.steps)) c.top ∙ Laws.product_one (at r i a.steps) (a.small i a.steps))
        ∙ Laws.sum_self (at r i a.steps))
        (le_or_lt a.steps i)

column_small : (n : ℕ) (m r : List (List ℕ)) (t : ℕ) (q : ℕ → ℕ) → Reduces n m r → OfColumn r t q → (k : ℕ) → q k < 64
column_small n m r t q a c k =
    ⊎_elim
    (λ (h : t ≤ k).
    ⊎_elim (λ (g : t ≡ k). subst (λ (j : ℕ). q j < 64) g (subst (λ (x : ℕ). x < 64) (sym c.top) (omega arith)))
    (λ (g : t < k). subst (λ (x : ℕ). x < 64) (sym (c.past k g)) (omega arith)) (eq-or-lt_of_le h))
    (λ (h : k < t). subst (λ (x : ℕ). x < 64) (sym (c.entry k h)) (a.small k t))
    (le_or_lt t k)

-- ---- all columns are unit columns where the system is regular, and only there

-- u before number t, 1 there and 0 after it
up_to : (ℕ → ℕ) → ℕ → ℕ → ℕ
up_to u zero zero = 1
up_to u zero (suc k) = 0
up_to u (suc t) zero = u 0
up_to u (suc t) (suc k) = up_to (λ j. u (suc j)) t k

up_before : (u : ℕ → ℕ) (t k : ℕ) → k < t → up_to u t k ≡ u k
unfolding up_to
up_before u zero k h = absurd (omega arith)
up_before u (suc t) zero h = refl
up_before u (suc t) (suc k) h = up_before (λ j. u (suc j)) t k (le_of_suc-le-suc h)

up_top : (u : ℕ → ℕ) (t : ℕ) → up_to u t t ≡ 1
unfolding up_to
up_top u zero = refl
up_top u (suc t) = up_top (λ j. u (suc j)) t

up_past : (u : ℕ → ℕ) (t k : ℕ) → t < k → up_to u t k ≡ 0
unfolding up_to
up_past u zero zero h = absurd (omega arith)
up_past u zero (suc k) h = refl
up_past u (suc t) zero h = absurd (omega arith)
up_past u (suc t) (suc k) h = up_past (λ j. u (suc j)) t k (le_of_suc-le-suc h)

-- the numbers of a column without a pivot are not all 0, and make each row 0
stuck_singular : (n : ℕ) (m r : List (List ℕ)) (a : Reduces n m r) → a.steps < n → Regular n m → ⊥
stuck_singular n m r a l g =
    let t : ℕ = a.steps in
    let q : ℕ → ℕ = up_to (λ i. at r i t) t in
    let c : OfColumn r t q = record { entry = up_before (λ i. at r i t) t; top = up_top (λ i. at r i t) t; past = up_past (λ i. at r i t) t } in
    let z : q t ≡ 0 = g q (column_small n m r t q a c) (λ k h. c.past k (omega arith)) (column_null n m r a q c) t in
    let o : q t ≡ 1 = c.top in
    absurd (omega arith)

-- with unit columns alone each number is its row's entry in column n times number n
unit_regular : (n : ℕ) (m r : List (List ℕ)) (a : Reduces n m r) → a.steps ≡ n → Regular n m
unit_regular n m r a e q small past z k =
    ⊎_elim (λ (h : n ≤ k). past k h)
    (λ (h : k < n).
    sym (Laws.sum_zero (q k))
    ∙ ap₂ sum (sym (Laws.one_product (q k) (small k))) (sym (zero_right (at r k a.steps) (q a.steps) (past a.steps (omega arith))))
    ∙ sym (row_before n m r a q (λ j g l. absurd (omega arith)) k (omega arith)) ∙ a.to q z k h)
    (le_or_lt n k)

-- a column without a pivot has 0 on the diagonal
unit_steps : (n : ℕ) (m r : List (List ℕ)) (a : Reduces n m r) → UnitDiagonal n r → a.steps ≡ n
unit_steps n m r a u =
    ⊎_elim (λ (e : a.steps ≡ n). e)
    (λ (l : a.steps < n). let z = a.stuck l a.steps (omega arith) l in let o = u.one a.steps l in absurd (omega arith))
    (eq-or-lt_of_le a.fits)

short_steps : (n : ℕ) (m r : List (List ℕ)) (a : Reduces n m r) → (UnitDiagonal n r → ⊥) → a.steps < n
short_steps n m r a d =
    ⊎_elim (λ (e : a.steps ≡ n). absurd (d (record { one = λ i h. a.one i (omega arith) }))) (λ (l : a.steps < n). l) (eq-or-lt_of_le a.fits)

-- ---- what is found

found_solves : (n : ℕ) (m r : List (List ℕ)) (p : List ℕ) → Reduces n (low_rows m) r → UnitDiagonal n r → ColumnIs r n p → Solution n m p
found_solves n m r p a u c =
    record {
      long = c.long;
      small = column_small n (low_rows m) r n (entry p) a column;
      regular = λ q s t z. unit_regular n (low_rows m) r a e q s t (low_null n m q z);
      null = null_low n m (entry p) (column_null n (low_rows m) r a (entry p) (subst (λ (t : ℕ). OfColumn r t (entry p)) (sym e) column));
      top = c.top;
      past = c.past;
    }
  where
    e : a.steps ≡ n
    e = unit_steps n (low_rows m) r a u

    column : OfColumn r n (entry p)
    column = record { entry = c.entry; top = c.top; past = c.past }

none_solves : (n : ℕ) (m r : List (List ℕ)) → Reduces n (low_rows m) r → (UnitDiagonal n r → ⊥) → Regular n m → ⊥
none_solves n m r a d g = stuck_singular n (low_rows m) r a (short_steps n (low_rows m) r a d) (λ q s t z. g q s t (null_low n m q z))

-- the two returns
module _ (n c : ℕ) (m l r : List (List ℕ)) (b : Bool) (few : c ≡ min n 5) (low : l ≡ low_rows m) (a : Reduces c l r) (t : Tells (UnitDiagonal c r) b) where
  reduces : Reduces (min n 5) (low_rows m) r
  reduces = subst (λ (k : ℕ). Reduces k (low_rows m) r) few (subst (λ (x : List (List ℕ)). Reduces c x r) low a)

  pub solved_found : (p : List ℕ) → b ≡ true → ColumnIs r c p → Solves (min n 5) m (Some p)
  solved_found p e s =
      record {
        found = λ q same.
            subst (Solution (min n 5) m) (same_Some p q same)
            (found_solves (min n 5) m r p reduces (subst (λ (k : ℕ). UnitDiagonal k r) few (t.holds e)) (subst (λ (k : ℕ). ColumnIs r k p) few s));
        singular = λ none. absurd (none-some p (sym none));
      }

  pub solved_none : b ≡ false → Solves (min n 5) m None
  solved_none e =
      record {
        found = λ q same. absurd (none-some q same);
        singular = λ _. none_solves (min n 5) m r reduces (λ u. t.fails e (subst (λ (k : ℕ). UnitDiagonal k r) (sym few) u));
      }

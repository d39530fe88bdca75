-- What the loops of the elimination do, a turn at a time, over plain variables.
use mathlib.Core.Path.{◌≡◌, refl, sym, ap, ap₂, ◌∙◌, subst}
use mathlib.Core.List.{List, [], ◌∷◌}
use mathlib.Core.Logic.{⊎_elim}
use Prim.Native.Nat.{ℕ, zero, suc, ◌+◌, ◌-◌, ◌<◌, ◌≤◌}
use native.Mathlib.Nat.{zero-add}
use native.Mathlib.Numerals.{add-one}
use native.Mathlib.Omega.{arith}
use borrow.Author.Count.{below_more}
use lib.Bits.{bit_or}
use lib.ListN.{get_or, length, set, take, drop, length-set}
use Rattle.std.proofs.lemmas.List.{get_or-take, get_or-drop, length-take-le, length-drop}
use lib.Seq.{get_or-set_same, get_or-set_other}
use Rattle.numbers.proofs.Cases.{same_or_not}
use Rattle.field.specs.Field.{sum, product}
use Rattle.planes.specs.declared.Planes.{Planes}
use Rattle.planes.specs.Slices.{bit_at, element_at, ZerosOf}
use Rattle.planes.proofs.Bits.{or_between}
use Rattle.regular.specs.Pivots.{element, entry, Windows, RowReduced, Reduced}
use Rattle.regular.specs.Pivots.{reduced, Pivots, SumPlanes, PivotsWhere, PivotsOfSums, ElementsAt, Upper, from_diagonal, Wide}
use Rattle.regular.proofs.Loops.{left_none, right_none, elements_from}

abbrev pub none : Planes
none = record { b0 = 0; b1 = 0; b2 = 0; b3 = 0; b4 = 0; b5 = 0 }

-- what the step makes of entry j
abbrev pub stepped : List Planes → ℕ → ℕ → List Planes → ℕ → ℕ → ℕ
stepped first n i row j l = sum (product (element first n l) (element row j l)) (product (element first i l) (element first j l))

-- ---- a row

-- the entries from the diagonal on and before j are made, and those from j on are as they were
pub record RowTo (first : List Planes) (n i : ℕ) (was row : List Planes) (j : ℕ) : Type 0 where
  pub long : length row ≡ 6
  pub done : (k l : ℕ) → i ≤ k → k < j → element row k l ≡ stepped first n i was k l
  pub rest : (k l : ℕ) → j ≤ k → element row k l ≡ element was k l

pub row_first : (first : List Planes) (n i : ℕ) (was : List Planes) (p : Planes) → i < 6 → length was ≡ 6
    → ((l : ℕ) → element_at p l ≡ stepped first n i was i l) → RowTo first n i was (set was i p) (i + 1)
row_first first n i was p h w e =
    record {
      long = length-set was i p ∙ w;
      done = λ k l a b.
          let s : k ≡ i = omega arith in
          subst (λ (t : ℕ). element (set was i p) t l ≡ stepped first n i was t l) (sym s)
          (ap (λ (q : Planes). element_at q l) (get_or-set_same was i p none (omega arith)) ∙ e l);
      rest = λ k l a. ap (λ (q : Planes). element_at q l) (get_or-set_other was i k p none (λ q. omega arith));
    }

pub row_turn : (first : List Planes) (n i : ℕ) (was row : List Planes) (j : ℕ) (p : Planes) → j < 6 → RowTo first n i was row j
    → ((l : ℕ) → element_at p l ≡ stepped first n i row j l) → RowTo first n i was (set row j p) (j + 1)
row_turn first n i was row j p h a e =
    record {
      long = length-set row j p ∙ a.long;
      done = λ k l b c.
          ⊎_elim
          (λ (s : k ≡ j).
          subst (λ (t : ℕ). element (set row j p) t l ≡ stepped first n i was t l) (sym s)
          (ap (λ (q : Planes). element_at q l) (get_or-set_same row j p none (omega (arith, a.long))) ∙ e l
          ∙ ap (λ (v : ℕ). sum (product (element first n l) v) (product (element first i l) (element first j l))) (a.rest j l (omega arith))))
          (λ (d : k ≡ j → ⊥). ap (λ (q : Planes). element_at q l) (get_or-set_other row j k p none d) ∙ a.done k l b (omega arith)) (same_or_not k j);
      rest = λ k l b. ap (λ (q : Planes). element_at q l) (get_or-set_other row j k p none (λ q. omega arith)) ∙ a.rest k l (omega arith);
    }

pub row_all : (first : List Planes) (n i : ℕ) (was row : List Planes) (j : ℕ) → 6 ≤ j → RowTo first n i was row j → RowReduced first n i was row
row_all first n i was row j h a = record { at = λ k l b c. a.done k l b (omega arith) }

-- ---- a matrix

-- the rows after row n and before row i are made, and those from i on are as they were
pub record RowsTo (n : ℕ) (was m : List (List Planes)) (i : ℕ) : Type 0 where
  pub long : length m ≡ 6
  pub done : (k : ℕ) → n < k → k < i → RowReduced (get_or was n []) n k (get_or was k []) (get_or m k [])
  pub rest : (k : ℕ) → i ≤ k → get_or m k [] ≡ get_or was k []

pub rows_none : (n : ℕ) (was : List (List Planes)) → length was ≡ 6 → RowsTo n was was (n + 1)
rows_none n was h = record { long = h; done = λ k a b. absurd (omega arith); rest = λ k a. refl }

pub rows_turn : (n : ℕ) (was m : List (List Planes)) (i : ℕ) (r : List Planes) → i < 6 → RowsTo n was m i
    → RowReduced (get_or was n []) n i (get_or m i []) r → RowsTo n was (set m i r) (i + 1)
rows_turn n was m i r h a e =
    record {
      long = length-set m i r ∙ a.long;
      done = λ k b c.
          ⊎_elim
          (λ (s : k ≡ i).
          subst (λ (t : ℕ). RowReduced (get_or was n []) n t (get_or was t []) (get_or (set m i r) t [])) (sym s)
          (subst (RowReduced (get_or was n []) n i (get_or was i [])) (sym (get_or-set_same m i r [] (omega (arith, a.long))))
          (subst (λ (q : List Planes). RowReduced (get_or was n []) n i q r) (a.rest i (omega arith)) e)))
          (λ (d : k ≡ i → ⊥).
          subst (RowReduced (get_or was n []) n k (get_or was k [])) (sym (get_or-set_other m i k r [] d)) (a.done k b (omega arith)))
          (same_or_not k i);
      rest = λ k b. get_or-set_other m i k r [] (λ q. omega arith) ∙ a.rest k (omega arith);
    }

pub rows_all : (n : ℕ) (was m : List (List Planes)) (i : ℕ) → 6 ≤ i → RowsTo n was m i → Reduced n was m
rows_all n was m i h a = record { row = λ k b c. a.done k b (omega arith) }

-- ---- the windows

-- the rows before row i are windows
pub record WindowsTo (s : List Planes) (m : List (List Planes)) (i : ℕ) : Type 0 where
  pub long : length m ≡ 6
  pub wide : (k : ℕ) → k < i → length (get_or m k []) ≡ 6
  pub at : (k j l : ℕ) → k < i → j < 6 → entry m k j l ≡ element s (k + j) l

pub windows_none : (s : List Planes) (m : List (List Planes)) → length m ≡ 6 → WindowsTo s m 0
windows_none s m h = record { long = h; wide = λ k a. absurd (omega arith); at = λ k j l a b. absurd (omega arith) }

pub windows_turn : (s : List Planes) (m : List (List Planes)) (i : ℕ) (r : List Planes) → length s ≡ 11 → i < 6 → WindowsTo s m i
    → r ≡ take (i + 6 - i) (drop i s) → WindowsTo s (set m i r) (i + 1)
windows_turn s m i r w h a e =
    record {
      long = length-set m i r ∙ a.long;
      wide =
          below_more (λ k. length (get_or (set m i r) k []) ≡ 6) i
          (λ k b. ap length (get_or-set_other m i k r [] (λ q. omega arith)) ∙ a.wide k b)
          (ap length (get_or-set_same m i r [] (omega (arith, a.long)) ∙ e)
          ∙ length-take-le (i + 6 - i) (drop i s) (omega (arith, length-drop i s)) ∙ six i);
      at = λ k j l b c.
          ⊎_elim
          (λ (q : k ≡ i).
          subst (λ (t : ℕ). entry (set m i r) t j l ≡ element s (t + j) l) (sym q)
          (ap (λ (x : List Planes). element x j l) (get_or-set_same m i r [] (omega (arith, a.long)) ∙ e)
          ∙ ap (λ (p : Planes). element_at p l) (get_or-take (i + 6 - i) (drop i s) j none (omega arith) ∙ get_or-drop i s j none)))
          (λ (d : k ≡ i → ⊥). ap (λ (x : List Planes). element x j l) (get_or-set_other m i k r [] d) ∙ a.at k j l (omega arith) c) (same_or_not k i);
    }
  where
    six : (i : ℕ) → i + 6 - i ≡ 6
    six i = omega arith

pub windows_all : (s : List Planes) (m : List (List Planes)) (i : ℕ) → 6 ≤ i → WindowsTo s m i → Windows s m
windows_all s m i h a = record { long = a.long; wide = λ k b. a.wide k (omega arith); at = λ k j l b c. a.at k j l (omega arith) c }

-- ---- what stands from the diagonal on, as a matrix

-- the sums at a place, from a list of planes
sum_at : (s : List Planes) (l : ℕ) (f : ℕ → ℕ) → ElementsAt s l f → (k : ℕ) → k < length s → element s k l ≡ f k
sum_at [] l f e k h = absurd (omega arith)
sum_at (p ∷ ps) l f e zero h = sym e.0
sum_at (p ∷ ps) l f e (suc k) h = sum_at ps l (λ i. f (suc i)) e.1 k (omega arith)

upper_at : (rows : List (List Planes)) (c l : ℕ) (f : ℕ → ℕ → ℕ) → Upper (from_diagonal c rows) l f → (i j : ℕ) → i < length rows → i ≤ j
    → c + j < length (get_or rows i []) → entry rows i (c + j) l ≡ f i j
upper_at [] c l f u i j h g k = absurd (omega arith)
upper_at (row ∷ rows) c l f u zero j h g k =
    ap (λ (p : Planes). element_at p l) (sym (get_or-drop c row j none)) ∙ sum_at (drop c row) l (f 0) u.0 j (omega (arith, length-drop c row))
upper_at (row ∷ rows) c l f u (suc i) zero h g k = absurd (omega arith)
upper_at (row ∷ rows) c l f u (suc i) (suc j) h g k =
    let e : c + suc j ≡ suc c + j = omega arith in
    ap (λ (x : ℕ). entry rows i x l) e
    ∙ upper_at rows (suc c) l (λ i j. f (suc i) (suc j)) u.1 i j (omega arith) (omega arith) (subst (λ (x : ℕ). x < length (get_or rows i [])) e k)

upper_from : (rows : List (List Planes)) (c l : ℕ) (f : ℕ → ℕ → ℕ)
    → ((i j : ℕ) → i < length rows → c + j < length (get_or rows i []) → f i j ≡ entry rows i (c + j) l) → Upper (from_diagonal c rows) l f
upper_from [] c l f h = tt
upper_from (row ∷ rows) c l f h = (
  elements_from (drop c row) l (f 0)
      (λ k g. h 0 k (omega arith) (omega (arith, length-drop c row)) ∙ ap (λ (p : Planes). element_at p l) (sym (get_or-drop c row k none))),
  upper_from rows (suc c) l (λ i j. f (suc i) (suc j))
      (λ i j a b.
      let e : suc c + j ≡ c + suc j = omega arith in
      h (suc i) (suc j) (omega arith) (subst (λ (x : ℕ). x < length (get_or rows i [])) e b) ∙ ap (λ (x : ℕ). entry rows i x l) (sym e)),
)

-- ---- all steps

-- what n steps leave
abbrev pub after : ℕ → (ℕ → ℕ → ℕ) → ℕ → ℕ → ℕ
after zero m = m
after (suc n) m = reduced (after n m)

after_first : (n : ℕ) (m : ℕ → ℕ → ℕ) → after n (reduced m) ≡ after (suc n) m
after_first zero m = refl
after_first (suc n) m = ap reduced (after_first n m)

pivots_from : (n : ℕ) (m : ℕ → ℕ → ℕ) → ((k : ℕ) → k < n → after k m 0 0 ≡ 0 → ⊥) → Pivots n m
unfolding Pivots
pivots_from zero m h = tt
pivots_from (suc n) m h =
    (h 0 (omega arith), pivots_from n (reduced m) (λ k l z. h (suc k) (omega arith) (sym (ap (λ (f : ℕ → ℕ → ℕ). f 0 0) (after_first k m)) ∙ z)))

-- of the matrix that was, n steps are made, and where r has a 0 none of their pivots was 0
pub record StepsTo (was m : List (List Planes)) (r n : ℕ) : Type 0 where
  pub at : (l : ℕ) (f : ℕ → ℕ → ℕ) → Upper (from_diagonal 0 was) l f → (i j : ℕ) → n ≤ i → i ≤ j → j < 6 → entry m i j l ≡ after n f (i - n) (j - n)
  pub met : (l : ℕ) → l < 63 → bit_at r l ≡ 0 → (f : ℕ → ℕ → ℕ) → Upper (from_diagonal 0 was) l f → (k : ℕ) → k < n → after k f 0 0 ≡ 0 → ⊥

pub steps_none : (was : List (List Planes)) → length was ≡ 6 → Wide was → StepsTo was was 0 0
steps_none was h w =
    record {
      at = λ l f u i j a b c.
          ap (λ (x : ℕ). entry was i x l) (sym (zero-add j))
          ∙ upper_at was 0 l f u i j (omega arith) b (omega (arith, w i (omega arith)))
          ∙ ap₂ f (none-off i) (none-off j);
      met = λ l b z f u k c. absurd (omega arith);
    }
  where
    none-off : (i : ℕ) → i ≡ i - 0
    none-off i = omega arith

pub steps_turn : (was m new : List (List Planes)) (r z n : ℕ) → n < 6 → StepsTo was m r n
    → ZerosOf (get_or (get_or m n []) n none) z → Reduced n m new → StepsTo was new (bit_or r z) (n + 1)
steps_turn was m new r z n h a o d =
    record {
      at = λ l f u i j b c g.
          (d.row i (omega arith) (omega arith)).at j l c g
          ∙ ap₂ sum
          (ap₂ product (a.at l f u n n (omega arith) (omega arith) h ∙ ap₂ (after n f) (off n) (off n))
          (a.at l f u i j (omega arith) c g ∙ ap₂ (after n f) (less i b) (less j (omega arith))))
          (ap₂ product (a.at l f u n i (omega arith) (omega arith) (omega arith) ∙ ap₂ (after n f) (off n) (less i b))
          (a.at l f u n j (omega arith) (omega arith) g ∙ ap₂ (after n f) (off n) (less j (omega arith))))
          ∙ ap (λ (k : ℕ). after k f (i - (n + 1)) (j - (n + 1))) (sym (add-one n));
      met = λ l b y f u k c.
          ⊎_elim
          (λ (q : k ≡ n).
          subst (λ (t : ℕ). after t f 0 0 ≡ 0 → ⊥) (sym q)
          (λ v. o.other l b (right_none (or_between r z l) y) (a.at l f u n n (omega arith) (omega arith) h ∙ ap₂ (after n f) (off n) (off n) ∙ v)))
          (λ (g : k ≡ n → ⊥). a.met l b (left_none (or_between r z l) y) f u k (omega arith)) (same_or_not k n);
    }
  where
    off : (n : ℕ) → n - n ≡ 0
    off n = omega arith

    less : (i : ℕ) → n + 1 ≤ i → i - n ≡ suc (i - (n + 1))
    less i b = omega arith

pub steps_all : (was m : List (List Planes)) (r n : ℕ) → 6 ≤ n → StepsTo was m r n → PivotsWhere 6 (Upper (from_diagonal 0 was)) r
steps_all was m r n h a =
    record { pivots = λ l b z f u. pivots_from 6 f (λ k c. a.met l b z f u k (omega arith)) }

-- of the windows of sums
pub windows_pivots : (s : List Planes) (m : List (List Planes)) (r : ℕ) → length s ≡ 11 → Windows s m → PivotsWhere 6 (Upper (from_diagonal 0 m)) r
    → PivotsOfSums (ElementsAt s) r
windows_pivots s m r h w p =
    record {
      pivots = λ l b z f e.
          p.pivots l b z (λ i j. f (i + j))
          (upper_from m 0 l (λ i j. f (i + j))
          (λ i j a c.
          let i-few : i < 6 = omega (arith, w.long) in
          let j-few : 0 + j < 6 = omega (arith, w.wide i i-few) in
          sym (sum_at s l f e (i + j) (omega arith)) ∙ sym (w.at i j l i-few (omega arith)) ∙ ap (λ (x : ℕ). entry m i x l) (sym (zero-add j))));
    }

-- ---- the sums, plane by plane

-- the sums before k are set
pub record SumsTo (sums words : List ℕ) (s : List Planes) (k : ℕ) : Type 0 where
  pub long : length s ≡ 11
  pub at : (i : ℕ) → i < k → SumPlanes sums words i (get_or s i none)

pub sums_none : (sums words : List ℕ) (s : List Planes) → length s ≡ 11 → SumsTo sums words s 0
sums_none sums words s h = record { long = h; at = λ i l. absurd (omega arith) }

pub sums_turn : (sums words : List ℕ) (s : List Planes) (k : ℕ) (p : Planes) → k < 11 → SumsTo sums words s k → SumPlanes sums words k p
    → SumsTo sums words (set s k p) (k + 1)
sums_turn sums words s k p h a e =
    record {
      long = length-set s k p ∙ a.long;
      at =
          below_more (λ i. SumPlanes sums words i (get_or (set s k p) i none)) k
          (λ i l. subst (SumPlanes sums words i) (sym (get_or-set_other s k i p none (λ q. omega arith))) (a.at i l))
          (subst (SumPlanes sums words k) (sym (get_or-set_same s k p none (omega (arith, a.long)))) e);
    }

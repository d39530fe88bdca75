-- Where exactly as many errors are assumed as there are, the attempt finds the line: neither system is singular, and what is added makes the line.
use mathlib.Core.Path.{◌≡◌, refl, sym, ap, ap₂, ◌∙◌, subst}
use mathlib.Core.Logic.{⊎_elim}
use mathlib.Core.List.{List, [], ◌∷◌}
use Prim.Native.Nat.{ℕ, zero, suc, ◌+◌, ◌-◌, ◌%◌, ◌<◌, ◌≤◌}
use native.Mathlib.Nat.{le_of_eq, add-suc, add-zero, zero-add}
use native.Mathlib.Omega.{arith}
use lib.ListN.{length, get_or, drop, length-drop, get_or-eq_default}
use lib.Seq.{get_or-drop}
use Rattle.std.specs.Prelude.{Some, None}
use Rattle.numbers.specs.Total.{total}
use Rattle.numbers.proofs.Cases.{le_or_lt, same_or_not, pos_of_not_zero}
use Rattle.numbers.proofs.Totals.{total_same}
use Rattle.field.specs.Field.{sum, product, α, power}
use Rattle.field.proofs.Laws
use Rattle.field.proofs.Totals.{total_next}
use Rattle.polynomial.specs.Sums.{moment, weight, Fresh, Places, Values, Zeros}
use Rattle.polynomial.specs.Polynomial.{poly_at, Elements, ZeroAt, combined, weighted}
use Rattle.polynomial.specs.Roots.{Monic, Split, supported}
use Rattle.polynomial.proofs.Vandermonde.{vandermonde, zeros_get, zeros_of}
use Rattle.polynomial.proofs.Combining.{combine_is, locates, weighted_get}
use Rattle.polynomial.proofs.Division.{poly_small}
use Rattle.polynomial.proofs.Supported.{split_supported, weight_degree, not_singular}
use Rattle.code.specs.Word.{Characters, power_sum, marks, Line, distance, added, listed}
use Rattle.code.proofs.Words.{same_word, listed_long, listed_get, length_added, added_get, characters_added}
use Rattle.code.proofs.Sums.{places, places_get, places_good, values_63, moment_total, power_sum_lt, power_sum_mod, power_sum_added, power_sum_moment}
use Rattle.code.proofs.Distances.{weight_le, distance_weight}
use Rattle.code.proofs.Lines.{line_long, line_characters, line_sums}
use Rattle.matrix.specs.System.{at, dot, Regular, entry, Solution}
use Rattle.locations.specs.Roots.{Finds}
use Rattle.paper.specs.Inside.{ErrorsHave, SumRows, PowerRows, Corrects}

-- ---- totals, and lists of n numbers

total_past : (n d : ℕ) (f : ℕ → ℕ) → ((k : ℕ) → n ≤ k → f k ≡ 0) → total (n + d) f ≡ total n f
total_past n zero f z = ap (λ (m : ℕ). total m f) (add-zero n)
total_past n (suc d) f z =
    ap (λ (m : ℕ). total m f) (add-suc n d) ∙ total_next (n + d) f ∙ ap₂ sum (total_past n d f z) (z (n + d) (omega arith)) ∙ Laws.sum_zero (total n f)

total_cut : (n m : ℕ) (f : ℕ → ℕ) → n ≤ m → ((k : ℕ) → n ≤ k → f k ≡ 0) → total m f ≡ total n f
total_cut n m f h z = ap (λ (k : ℕ). total k f) (let e : m ≡ n + (m - n) = omega arith in e) ∙ total_past n (m - n) f z

-- the first n of some numbers, which are 0 from there on
first_of : ℕ → (ℕ → ℕ) → List ℕ
first_of n q = listed q 0 n

first_long : (n : ℕ) (q : ℕ → ℕ) → length (first_of n q) ≡ n
unfolding first_of
first_long n q = listed_long q 0 n

first_get : (n : ℕ) (q : ℕ → ℕ) → ((k : ℕ) → n ≤ k → q k ≡ 0) → (k : ℕ) → get_or (first_of n q) k 0 ≡ q k
unfolding first_of
first_get n q z k =
    ⊎_elim (λ (h : n ≤ k). get_or-eq_default (listed q 0 n) 0 (let l = listed_long q 0 n in omega arith) ∙ sym (z k h)) (λ (h : k < n). listed_get q n k h) (le_or_lt n k)

first_elements : (n : ℕ) (q : ℕ → ℕ) → ((k : ℕ) → n ≤ k → q k ≡ 0) → ((k : ℕ) → q k < 64) → Elements (first_of n q)
first_elements n q z b k = subst (λ (v : ℕ). v < 64) (sym (first_get n q z k)) (b k)

values_of : (vs xs : List ℕ) → length vs ≡ length xs → Elements vs → Values vs xs
values_of [] [] l el = tt
values_of [] (x ∷ xs) l el = absurd (omega arith)
values_of (v ∷ vs) [] l el = absurd (omega arith)
values_of (v ∷ vs) (x ∷ xs) l el = (el 0, values_of vs xs (omega arith) (λ k. el (suc k)))

dot_same : (n : ℕ) (u q p : ℕ → ℕ) → ((k : ℕ) → q k ≡ p k) → dot n u q ≡ dot n u p
unfolding dot
dot_same n u q p e = total_same (suc n) (λ k. product (u k) (q k)) (λ k. product (u k) (p k)) (λ k _. ap (product (u k)) (e k))

-- ---- the magnitudes: their system has one solution wherever the places differ

module _ (xs s : List ℕ) (n : ℕ) (few : n ≤ 5) (long : length xs ≡ 5) (places : Places (drop (5 - n) xs)) (m : List (List ℕ)) (rows : PowerRows xs s n m) where
  rs-long : length (drop (5 - n) xs) ≡ n
  rs-long = let d = length-drop (5 - n) xs in omega arith

  -- a row and the sum after it
  row_is : (q : ℕ → ℕ) (i : ℕ) → i < n
      → dot n (at m i) q ≡ sum (total n (λ k. product (q k) (power (get_or xs (5 - n + k) 0) i))) (product (get_or s (5 + i) 0) (q n))
  unfolding dot
  row_is q i h =
      total_next n (λ k. product (at m i k) (q k))
      ∙ ap₂ sum
      (total_same n (λ k. product (at m i k) (q k)) (λ k. product (q k) (power (get_or xs (5 - n + k) 0) i))
      (λ k l. Laws.product_comm (at m i k) (q k) ∙ ap (product (q k)) ((rows.row i h).entry k l)))
      (ap (λ (t : ℕ). product t (q n)) (rows.row i h).last)

  pub powers_regular : Regular n m
  powers_regular q small past null k =
      let q' : List ℕ = first_of n q in
      let ql : length q' ≡ length (drop (5 - n) xs) = first_long n q ∙ sym rs-long in
      sym (first_get n q past k)
      ∙ zeros_get q'
      (vandermonde (drop (5 - n) xs) q' n 0 places (values_of q' (drop (5 - n) xs) ql (first_elements n q past small))
      (let w = weight_le q' in let l = first_long n q in omega arith)
      (λ i h.
      moment_total (0 + i) q' (drop (5 - n) xs) ql
      ∙ ap (λ (c : ℕ). total c (λ a. product (get_or q' a 0) (power (get_or (drop (5 - n) xs) a 0) (0 + i)))) (first_long n q)
      ∙ total_same n (λ a. product (get_or q' a 0) (power (get_or (drop (5 - n) xs) a 0) (0 + i))) (λ k. product (q k) (power (get_or xs (5 - n + k) 0) i))
      (λ a l.
      ap₂ (λ (u v : ℕ). product u (power v (0 + i))) (first_get n q past a) (get_or-drop (5 - n) xs a 0)
      ∙ ap (λ (j : ℕ). product (q a) (power (get_or xs (5 - n + a) 0) j)) (zero-add i))
      ∙ sym (Laws.sum_zero (total n (λ k. product (q k) (power (get_or xs (5 - n + k) 0) i))))
      ∙ ap (sum (total n (λ k. product (q k) (power (get_or xs (5 - n + k) 0) i)))) (sym (ap (product (get_or s (5 + i) 0)) (past n (omega arith)) ∙ Laws.product_zero (get_or s (5 + i) 0)))
      ∙ sym (row_is q i h) ∙ null i h))
      k

  -- and the magnitudes have the sums
  pub values_have : (vs : List ℕ) → Solution n m vs → ((i : ℕ) → i < 11 → get_or s i 0 < 64) → (i : ℕ) → i < n
      → total n (λ k. product (get_or vs k 0) (power (get_or xs (5 - n + k) 0) i)) ≡ get_or s (5 + i) 0
  values_have vs solves small i h =
      let v : ℕ → ℕ = entry vs in
      Laws.sum_eq (total n (λ k. product (v k) (power (get_or xs (5 - n + k) 0) i))) (get_or s (5 + i) 0)
      (ap (sum (total n (λ k. product (v k) (power (get_or xs (5 - n + k) 0) i))))
      (sym (ap (product (get_or s (5 + i) 0)) solves.top ∙ Laws.product_one (get_or s (5 + i) 0) (small (5 + i) (omega arith))))
      ∙ sym (row_is v i h) ∙ solves.null i h)

-- ---- a line that differs in exactly n characters

module _ (w s l : List ℕ) (n : ℕ) (few : n ≤ 5) (long : length w ≡ 63) (characters : Characters w) (have : ErrorsHave w s) (line : Line l) (apart : distance w l ≡ n) where
  e : List ℕ
  e = added w l

  same_long : length w ≡ length l
  same_long = long ∙ sym (line_long l line)

  e-long : length e ≡ 63
  unfolding e
  e-long = length_added w l same_long ∙ long

  xs : List ℕ
  xs = places 63

  xs-good : Places xs
  unfolding xs
  xs-good = places_good 63 (omega arith)

  e-values : Values e xs
  unfolding xs e
  e-values = values_63 e e-long (characters_added w l characters (line_characters l line))

  e-weight : weight e ≡ n
  unfolding e
  e-weight = sym (distance_weight w l) ∙ apart

  -- the sums are those of the errors
  e-sum : (k : ℕ) → k < 11 → get_or s k 0 ≡ moment (58 + k) e xs
  unfolding e xs
  e-sum k h =
      have.sum_at k h ∙ ap (sum (power_sum (58 + k) w)) (sym (line_sums l line k h)) ∙ sym (power_sum_added (58 + k) w l same_long)
      ∙ power_sum_moment (58 + k) (added w l) e-long

  -- ---- the elementary symmetric functions

  module _ (m : List (List ℕ)) (rows : SumRows s n m) where
    entry-is : (i k : ℕ) → i < n → k ≤ n → at m i k ≡ moment (64 - n + i + k) e xs
    entry-is i k h g =
        (rows.row i h).entry k g ∙ e-sum (6 - n + i + k) (omega arith)
        ∙ ap (λ (j : ℕ). moment j e xs) (let same : 58 + (6 - n + i + k) ≡ 64 - n + i + k = omega arith in same)

    row-combined : (q : List ℕ) → length q ≤ 6 → ((k : ℕ) → n < k → get_or q k 0 ≡ 0) → (i : ℕ) → i < n → dot n (at m i) (entry q) ≡ combined q (64 - n + i) e xs
    unfolding dot
    row-combined q lq past i h =
        total_same (suc n) (λ k. product (at m i k) (get_or q k 0)) (λ k. product (get_or q k 0) (at m i k)) (λ k _. Laws.product_comm (at m i k) (get_or q k 0))
        ∙ sym
        (total_cut (suc n) 6 (λ k. product (get_or q k 0) (at m i k)) (omega arith)
        (λ k g. ap (λ (v : ℕ). product v (at m i k)) (past k g) ∙ Laws.zero_product (at m i k)))
        ∙ combine_is 6 q (at m i) (64 - n + i) e xs lq
        (λ k.
        ⊎_elim (λ (g : k ≤ n). ap (product (get_or q k 0)) (entry-is i k h g))
        (λ (g : n < k).
        ap (λ (v : ℕ). product v (at m i k)) (past k g) ∙ Laws.zero_product (at m i k)
        ∙ sym (ap (λ (v : ℕ). product v (moment (64 - n + i + k) e xs)) (past k g) ∙ Laws.zero_product (moment (64 - n + i + k) e xs)))
        (le_or_lt k n))

    pub sums_regular : Regular n m
    sums_regular q small past null k =
        let q' : List ℕ = first_of n q in
        let lq = first_long n q in
        let q-past : (k : ℕ) → n ≤ k → get_or q' k 0 ≡ 0 = λ k g. first_get n q past k ∙ past k g in
        sym (first_get n q past k)
        ∙ not_singular e xs xs-good e-values q' n (64 - n) e-weight (first_elements n q past small) q-past
        (λ i h.
        sym (row-combined q' (omega arith) (λ k g. q-past k (omega arith)) i h) ∙ dot_same n (at m i) (entry q') q (first_get n q past) ∙ null i h)
        k

    module _ (p : List ℕ) (solves : Solution n m p) where
      p-monic : Monic p n
      p-monic = record { top = solves.top; past = solves.past; small = solves.small }

      p-zeros : Zeros (weighted p e xs)
      p-zeros =
          locates p xs e n (64 - n) xs-good e-values (le_of_eq e-weight)
          (λ i h. sym (row-combined p (le_of_eq solves.long) p-monic.past i h) ∙ solves.null i h)

      -- ---- the error locations

      pub located : Finds p n None → ⊥
      located finds = finds.none refl (supported e xs) (split_supported e xs xs-good e-values p n p-monic e-weight p-zeros)

      module _ (roots : List ℕ) (finds : Finds p n (Some roots)) where
        rs : List ℕ
        rs = drop (5 - n) roots

        rs-split : Split p n rs
        unfolding rs
        rs-split = finds.split roots refl p-monic

        -- ---- the line

        module _ (m' : List (List ℕ)) (rows' : PowerRows roots s n m') (magnitudes : List ℕ) (solves' : Solution n m' magnitudes) (r : List ℕ)
            (corrects : Corrects w roots magnitudes n r) where
          d : List ℕ
          d = added r l

          r-long : length r ≡ length l
          r-long = corrects.long ∙ sym (line_long l line)

          d-long : length d ≡ 63
          unfolding d
          d-long = length_added r l r-long ∙ corrects.long

          d-values : Values d xs
          unfolding xs d
          d-values = values_63 d d-long (characters_added r l corrects.characters (line_characters l line))

          s_small : (i : ℕ) → i < 11 → get_or s i 0 < 64
          s_small i h = subst (λ (v : ℕ). v < 64) (sym (have.sum_at i h)) (Laws.sum_lt (power_sum (58 + i) w) (power_sum (58 + i) marks) (power_sum_lt (58 + i) w) (power_sum_lt (58 + i) marks))

          -- j counts modulo 63
          around : (j : ℕ) (v : List ℕ) → power_sum (58 + (5 + j)) v ≡ power_sum j v
          around j v =
              sym (power_sum_mod (58 + (5 + j)) v) ∙ ap (λ (i : ℕ). power_sum i v) (let same : (58 + (5 + j)) % 63 ≡ j % 63 = omega arith in same) ∙ power_sum_mod j v

          -- n sums of what was found are the line's
          r-sum : (j : ℕ) → j < n → power_sum j r ≡ power_sum j l
          unfolding rs
          r-sum j h =
              corrects.sums j
              ∙ ap (sum (power_sum j w))
              (values_have roots s n few (finds.long roots refl) rs-split.places m' rows' magnitudes solves' s_small j h
              ∙ have.sum_at (5 + j) (omega arith)
              ∙ ap₂ sum (around j w) (sym (line_sums l line (5 + j) (omega arith)) ∙ around j l))
              ∙ Laws.sum_undo (power_sum j w) (power_sum j l)

          d-sum : (j : ℕ) → j < n → moment (0 + j) d xs ≡ 0
          unfolding d xs
          d-sum j h =
              sym (power_sum_moment (0 + j) (added r l) d-long) ∙ power_sum_added (0 + j) r l r-long
              ∙ ap₂ sum (ap (λ (i : ℕ). power_sum i r) (zero-add j) ∙ r-sum j h) (ap (λ (i : ℕ). power_sum i l) (zero-add j))
              ∙ Laws.sum_self (power_sum j l)

          fresh-root : (ys : List ℕ) (x : ℕ) → ZeroAt p ys → (poly_at p x ≡ 0 → ⊥) → Fresh x ys
          fresh-root [] x z f = tt
          fresh-root (y ∷ ys) x z f = ((λ q. f (subst (λ (t : ℕ). poly_at p t ≡ 0) q z.0)), fresh-root ys x z.1 f)

          -- where the polynomial is not 0, the word has no error and nothing was added
          d-at : (a : ℕ) → a < 63 → (poly_at p (get_or xs a 0) ≡ 0 → ⊥) → get_or d a 0 ≡ 0
          unfolding d e xs rs
          d-at a h f =
              let x : ℕ = get_or (places 63) a 0 in
              let none : get_or (added w l) a 0 ≡ 0 =
              Laws.product_cancel (get_or (added w l) a 0) (poly_at p x) (characters_added w l characters (line_characters l line) a) (pos_of_not_zero (poly_at p x) f)
              (poly_small p x p-monic.small) (sym (weighted_get p (added w l) (places 63) e-values a) ∙ zeros_get (weighted p (added w l) (places 63)) p-zeros a)
              in
              added_get r l r-long a
              ∙ ap (λ (v : ℕ). sum v (get_or l a 0))
              (corrects.beside a h (fresh-root (drop (5 - n) roots) (power α (62 - a)) rs-split.zeros (subst (λ (t : ℕ). poly_at p t ≡ 0 → ⊥) (places_get 63 a h) f)))
              ∙ sym (added_get w l same_long a) ∙ none

          d-zeros : Zeros (weighted p d xs)
          d-zeros =
              zeros_of (weighted p d xs)
              (λ a.
              weighted_get p d xs d-values a
              ∙ ⊎_elim (λ (z : poly_at p (get_or xs a 0) ≡ 0). ap (product (get_or d a 0)) z ∙ Laws.product_zero (get_or d a 0))
              (λ (f : poly_at p (get_or xs a 0) ≡ 0 → ⊥).
              ap (λ (v : ℕ). product v (poly_at p (get_or xs a 0)))
              (⊎_elim (λ (h : 63 ≤ a). get_or-eq_default d 0 (let g = d-long in omega arith)) (λ (h : a < 63). d-at a h f) (le_or_lt 63 a))
              ∙ Laws.zero_product (poly_at p (get_or xs a 0)))
              (same_or_not (poly_at p (get_or xs a 0)) 0))

          pub the_line : r ≡ l
          unfolding d
          the_line =
              let z = vandermonde xs d n 0 xs-good d-values (weight_degree d xs xs-good d-values p n p-monic d-zeros) d-sum in
              same_word r l corrects.long (line_long l line) (λ a h. Laws.sum_eq (get_or r a 0) (get_or l a 0) (sym (added_get r l r-long a) ∙ zeros_get d z a))

-- The checks by the power sums: words with one power sum 1 and the ten others 0, each times a sum, add up to checks with these sums, which are the remainder.
use mathlib.Core.Path.{◌≡◌, refl, sym, ap, ap₂, ◌∙◌, subst}
use mathlib.Core.Bool.{Bool, true, false}
use mathlib.Core.Logic.{⊎_elim}
use mathlib.Core.List.{List, [], ◌∷◌, ◌++◌}
use Prim.Native.Nat.{ℕ, suc, ◌+◌, ◌-◌, ◌%◌, ◌<◌, ◌≤◌}
use native.Mathlib.Nat.{mod-eq_of_lt, mod-lt, zero-lt-suc}
use native.Mathlib.Omega.{arith}
use borrow.Author.Tests.{eqb-true, eq-eqb}
use lib.Dec.{T, eqb, eqb→eq}
use lib.Bits.{bit_xor}
use lib.ListN.{length, get_or, drop, replicate, length-append, get_or-append}
use lib.Seq.{take_at, drop_at}
use Rattle.numbers.proofs.Range.{each, each_at}
use Rattle.numbers.proofs.Cases.{le_or_lt}
use Rattle.numbers.specs.Total.{total}
use Rattle.field.specs.Field.{sum, times_x, shifted, product, α, power}
use Rattle.field.proofs.Laws
use Rattle.numbers.proofs.Totals.{total_same, total_swap, total_only, total_lt}
use Rattle.field.proofs.Totals.{total_sum, total_scaled}
use Rattle.polynomial.specs.Sums.{weight}
use Rattle.polynomial.specs.Polynomial.{value_at}
use Rattle.polynomial.proofs.Horner.{value_total, value_append, value_zeros, horner, horner_value}
use Rattle.lanes.specs.Lanes.{pack, lane}
use Rattle.lanes.proofs.Laws.{lane_lt, pack_same, lane_pack, xor_pack}
use Rattle.code.specs.Word.{Characters, power_sum, Clean, added, listed}
use Rattle.code.specs.Inside.{PowerSums}
use Rattle.code.proofs.Words.{listed_long, listed_get, characters_below, length_added, characters_added, added_zeros}
use Rattle.code.proofs.Sums.{power_sum_value, power_sum_lt, power_sum_added}
use Rattle.code.proofs.Distances.{distance_weight, distance_take}
use Rattle.code.proofs.Lines.{clean_light}
use Rattle.encoder.specs.Division.{remainder}
use Rattle.encoder.specs.Interpolation.{ChecksWith, eleven}
use Rattle.encoder.proofs.Encoding.{characters_append, characters_zeros}
use Rattle.encoder.proofs.Cleaning.{clean_ends}

-- ---- the words with one power sum 1

one_where : Bool → ℕ
one_where true = 1
one_where false = 0

-- 1 at j, else 0
abbrev unit : ℕ → ℕ → ℕ
unit j k = one_where (eqb j k)

-- the first ten characters of each word, in lanes
abbrev pub tens : List ℕ
tens =
    847655222541583757
    ∷ 808465694602536421
    ∷ 315288432424983327
    ∷ 230181143295902852
    ∷ 209917650917265201
    ∷ 716294100043368959
    ∷ 882425377852270741
    ∷ 197617448352340711
    ∷ 118594285310951352
    ∷ 361453399640989311
    ∷ 473949248277572232
    ∷ []

-- all eleven; their sum S_0 is 1 in the sixth word alone
abbrev word : ℕ → List ℕ
word j = eleven (get_or tens j 0) (unit j 5)

pub eleven_long : (ten s : ℕ) → length (eleven ten s) ≡ 11
unfolding eleven listed
eleven_long ten s = refl

-- the powers of α from -5 to 5
abbrev points : List ℕ
points = 63 ∷ 61 ∷ 57 ∷ 49 ∷ 33 ∷ 1 ∷ 2 ∷ 4 ∷ 8 ∷ 16 ∷ 32 ∷ []

point_test : T (each 11 (λ k. eqb (power α (58 + k)) (get_or points k 0)))
unfolding power product shifted times_x sum
point_test = tt

-- computed: at j the word has the sum 1, at the ten others 0
word_test : T (each 11 (λ j. each 11 (λ k. eqb (horner (get_or points k 0) (word j) 11) (unit j k))))
unfolding horner eleven listed lane total power product shifted times_x sum one_where
word_test = tt

word_value : (j k : ℕ) → j < 11 → k < 11 → value_at (power α (58 + k)) (word j) ≡ unit j k
word_value j k hj hk =
    let x : ℕ = get_or points k 0 in
    ap (λ (x : ℕ). value_at x (word j)) (eqb→eq (power α (58 + k)) x (each_at 11 (λ k. eqb (power α (58 + k)) (get_or points k 0)) point_test k hk))
    ∙ sym (subst (λ (n : ℕ). horner x (word j) n ≡ value_at x (word j)) (eleven_long (get_or tens j 0) (unit j 5)) (horner_value x (word j)))
    ∙ eqb→eq (horner x (word j) 11) (unit j k)
    (each_at 11 (λ k. eqb (horner (get_or points k 0) (word j) 11) (unit j k))
    (each_at 11 (λ j. each 11 (λ k. eqb (horner (get_or points k 0) (word j) 11) (unit j k))) word_test j hj) k hk)

unit_same : (k : ℕ) → unit k k ≡ 1
unfolding one_where
unit_same k = ap one_where (eq-eqb k k refl)

unit_other : (j k : ℕ) → (j ≡ k → ⊥) → unit j k ≡ 0
unfolding one_where
unit_other j k d = go (eqb j k) refl
  where
    go : (b : Bool) → eqb j k ≡ b → one_where b ≡ 0
    go true e = absurd (d (eqb-true j k e))
    go false e = refl

-- ---- eleven characters by ten in lanes and their sum

pub eleven_lane : (ten s i : ℕ) → i < 10 → get_or (eleven ten s) i 0 ≡ lane ten i
unfolding eleven
eleven_lane ten s i h =
    get_or-append (listed (lane ten) 0 10) (sum (total 10 (lane ten)) (s % 64) ∷ []) 0 i (omega (arith, listed_long (lane ten) 0 10))
    ∙ listed_get (lane ten) 10 i h

pub eleven_last : (ten s : ℕ) → get_or (eleven ten s) 10 0 ≡ sum (total 10 (lane ten)) (s % 64)
unfolding eleven listed
eleven_last ten s = refl

-- what holds at ten addresses and at the last
pub all_eleven : (P : ℕ → Type 0) → ((i : ℕ) → i < 10 → P i) → P 10 → (i : ℕ) → i < 11 → P i
all_eleven P first last i h = ⊎_elim (λ (b : 10 ≤ i). subst P (omega arith) last) (λ (b : i < 10). first i b) (le_or_lt 10 i)

eleven_characters : (ten s : ℕ) → Characters (eleven ten s)
eleven_characters ten s =
    characters_below (eleven ten s) 11 (omega (arith, eleven_long ten s))
    (all_eleven (λ (i : ℕ). get_or (eleven ten s) i 0 < 64) (λ i h. subst (λ (c : ℕ). c < 64) (sym (eleven_lane ten s i h)) (lane_lt ten i))
    (subst (λ (c : ℕ). c < 64) (sym (eleven_last ten s))
    (Laws.sum_lt (total 10 (lane ten)) (s % 64) (total_lt 10 (lane ten) (lane_lt ten)) (mod-lt s (zero-lt-suc 63)))))

-- ---- the power sums of two parts

parts_value : (k : ℕ) (us vs : List ℕ) → length us ≡ 52 → length vs ≡ 11
    → power_sum (58 + k) (us ++ vs) ≡ sum (product (value_at (power α (58 + k)) us) (power (power α (58 + k)) 11)) (value_at (power α (58 + k)) vs)
parts_value k us vs hu hv =
    power_sum_value (58 + k) (us ++ vs) (omega (arith, length-append us vs)) ∙ value_append (power α (58 + k)) us vs
    ∙ ap (λ (n : ℕ). sum (product (value_at (power α (58 + k)) us) (power (power α (58 + k)) n)) (value_at (power α (58 + k)) vs)) hv

behind_zeros : (k : ℕ) (vs : List ℕ) → length vs ≡ 11 → power_sum (58 + k) (replicate 52 0 ++ vs) ≡ value_at (power α (58 + k)) vs
behind_zeros k vs h =
    let x : ℕ = power α (58 + k) in
    parts_value k (replicate 52 0) vs refl h
    ∙ ap (λ (v : ℕ). sum (product v (power x 11)) (value_at x vs)) (value_zeros x 52)
    ∙ ap (λ (v : ℕ). sum v (value_at x vs)) (Laws.zero_product (power x 11)) ∙ Laws.zero_sum (value_at x vs)

before_zeros : (k : ℕ) (us : List ℕ) → length us ≡ 52
    → power_sum (58 + k) (us ++ replicate 11 0) ≡ product (value_at (power α (58 + k)) us) (power (power α (58 + k)) 11)
before_zeros k us h =
    let x : ℕ = power α (58 + k) in
    parts_value k us (replicate 11 0) h refl
    ∙ ap (sum (product (value_at x us) (power x 11))) (value_zeros x 11) ∙ Laws.sum_zero (product (value_at x us) (power x 11))

parts_sum : (k : ℕ) (us vs : List ℕ) → length us ≡ 52 → length vs ≡ 11
    → power_sum (58 + k) (us ++ vs) ≡ sum (power_sum (58 + k) (us ++ replicate 11 0)) (power_sum (58 + k) (replicate 52 0 ++ vs))
parts_sum k us vs hu hv = parts_value k us vs hu hv ∙ sym (ap₂ sum (before_zeros k us hu) (behind_zeros k vs hv))

-- checks with the sums of the 52 characters and eleven zeros make a clean word, so they are the remainder
pub checks_remainder : (cs sums r : List ℕ) → length cs ≡ 52 → Characters cs → PowerSums (cs ++ replicate 11 0) sums → ChecksWith sums r → r ≡ remainder cs
checks_remainder cs sums r h c p q =
    clean_ends cs r h c
    (record {
      long = omega (arith, length-append cs r, q.long);
      characters = characters_append cs r c q.characters;
      sums = λ k l.
          parts_sum k cs r h q.long
          ∙ ap (sum (power_sum (58 + k) (cs ++ replicate 11 0)))
          (q.sum_at k l ∙ ap (λ (s : ℕ). s % 64) (p.sum_at k l) ∙ mod-eq_of_lt (power_sum_lt (58 + k) (cs ++ replicate 11 0)))
          ∙ Laws.sum_self (power_sum (58 + k) (cs ++ replicate 11 0));
    })

-- checks with the same sums are one: behind 52 zeros they differ at eleven addresses at most
pub one_checks : (sums r q : List ℕ) → ChecksWith sums r → ChecksWith sums q → r ≡ q
one_checks sums r q x y =
    sym (drop_at (replicate 52 0) r 52 refl) ∙ ap (drop 52) (added_zeros u v (lu ∙ sym lv) (clean_light (added u v) clean few)) ∙ drop_at (replicate 52 0) q 52 refl
  where
    u : List ℕ
    u = replicate 52 0 ++ r

    v : List ℕ
    v = replicate 52 0 ++ q

    lu : length u ≡ 63
    lu = omega (arith, length-append (replicate 52 0) r, x.long)

    lv : length v ≡ 63
    lv = omega (arith, length-append (replicate 52 0) q, y.long)

    few : weight (added u v) ≤ 11
    few =
        let d = distance_take 52 u v (take_at (replicate 52 0) r 52 refl ∙ sym (take_at (replicate 52 0) q 52 refl)) in
        let e = distance_weight u v in
        omega (arith, lu)

    clean : Clean (added u v)
    clean =
        record {
          long = length_added u v (lu ∙ sym lv) ∙ lu;
          characters =
              characters_added u v (characters_append (replicate 52 0) r (characters_zeros 52) x.characters)
              (characters_append (replicate 52 0) q (characters_zeros 52) y.characters);
          sums = λ k h. power_sum_added (58 + k) u v (lu ∙ sym lv) ∙ ap₂ sum (x.sum_at k h) (y.sum_at k h) ∙ Laws.sum_self (get_or sums k 0 % 64);
        }

-- ---- each sum times its word

times_total : (n a : ℕ) (f : ℕ → ℕ) → total n (λ i. product (f i) a) ≡ product (total n f) a
times_total n a f =
    total_same n (λ i. product (f i) a) (λ i. product a (f i)) (λ i l. Laws.product_comm (f i) a) ∙ total_scaled n a f ∙ Laws.product_comm a (total n f)

value_11 : (x : ℕ) (w : List ℕ) → length w ≡ 11 → value_at x w ≡ total 11 (λ i. product (get_or w i 0) (power x (10 - i)))
value_11 x w h = subst (λ (n : ℕ). value_at x w ≡ total n (λ i. product (get_or w i 0) (power x (n - 1 - i)))) h (value_total x w)

module _ (sums : List ℕ) where
  -- at address i, the first n sums times their words
  abbrev pub tensTo : ℕ → ℕ → ℕ
  tensTo n i = total n (λ j. product (lane (get_or tens j 0) i) (get_or sums j 0))

  tens-lt : (n i : ℕ) → tensTo n i < 64
  tens-lt n i = total_lt n (λ j. product (lane (get_or tens j 0) i) (get_or sums j 0)) (λ j. Laws.product_lt (lane (get_or tens j 0) i) (get_or sums j 0))

  pub tens_first : (t : ℕ) → t ≡ pack 10 (λ i. product (lane (get_or tens 0 0) i) (get_or sums 0 0)) → t ≡ pack 10 (tensTo 1)
  unfolding total sum
  tens_first t e =
      e ∙ pack_same 10 (λ i. product (lane (get_or tens 0 0) i) (get_or sums 0 0)) (tensTo 1)
      (λ i l. sym (Laws.zero_sum (product (lane (get_or tens 0 0) i) (get_or sums 0 0))))

  pub tens_more : (n s t : ℕ) → s ≡ pack 10 (tensTo n) → t ≡ pack 10 (λ i. product (lane (get_or tens n 0) i) (get_or sums n 0))
      → bit_xor s t ≡ pack 10 (tensTo (suc n))
  unfolding total sum
  tens_more n s t e f =
      ap₂ bit_xor e f
      ∙ xor_pack 10 (tensTo n) (λ i. product (lane (get_or tens n 0) i) (get_or sums n 0)) (tens-lt n) (λ i. Laws.product_lt (lane (get_or tens n 0) i) (get_or sums n 0))

  -- one sum of the eleven
  one_of : (k : ℕ) → k < 11 → total 11 (λ j. product (unit j k) (get_or sums j 0)) ≡ get_or sums k 0 % 64
  one_of k h =
      total_only 11 k (λ j. product (unit j k) (get_or sums j 0)) h
      (λ j l d. ap (λ (u : ℕ). product u (get_or sums j 0)) (unit_other j k d) ∙ Laws.zero_product (get_or sums j 0))
      ∙ ap (λ (u : ℕ). product u (get_or sums k 0)) (unit_same k) ∙ Laws.one_product_low (get_or sums k 0)

  module _ (ten : ℕ) (made : ten ≡ pack 10 (tensTo 11)) where
    checks : List ℕ
    checks = eleven ten (get_or sums 5 0)

    ten-lane : (i : ℕ) → i < 10 → lane ten i ≡ tensTo 11 i
    ten-lane i h = ap (λ (p : ℕ). lane p i) made ∙ lane_pack 10 (tensTo 11) (tens-lt 11) i h

    at-lane : (i : ℕ) → i < 10 → get_or checks i 0 ≡ total 11 (λ j. product (get_or (word j) i 0) (get_or sums j 0))
    unfolding checks
    at-lane i h =
        eleven_lane ten (get_or sums 5 0) i h ∙ ten-lane i h
        ∙ total_same 11 (λ j. product (lane (get_or tens j 0) i) (get_or sums j 0)) (λ j. product (get_or (word j) i 0) (get_or sums j 0))
        (λ j l. ap (λ (c : ℕ). product c (get_or sums j 0)) (sym (eleven_lane (get_or tens j 0) (unit j 5) i h)))

    ten-sum : total 10 (lane ten) ≡ total 11 (λ j. product (total 10 (lane (get_or tens j 0))) (get_or sums j 0))
    ten-sum =
        total_same 10 (lane ten) (tensTo 11) ten-lane
        ∙ total_swap 10 11 (λ i j. product (lane (get_or tens j 0) i) (get_or sums j 0))
        ∙ total_same 11 (λ j. total 10 (λ i. product (lane (get_or tens j 0) i) (get_or sums j 0))) (λ j. product (total 10 (lane (get_or tens j 0))) (get_or sums j 0))
        (λ j l. times_total 10 (get_or sums j 0) (lane (get_or tens j 0)))

    at_last : get_or checks 10 0 ≡ total 11 (λ j. product (get_or (word j) 10 0) (get_or sums j 0))
    unfolding checks
    at_last =
        eleven_last ten (get_or sums 5 0)
        ∙ ap₂ sum ten-sum (sym (one_of 5 (omega arith)))
        ∙ sym (total_sum 11 (λ j. product (total 10 (lane (get_or tens j 0))) (get_or sums j 0)) (λ j. product (unit j 5) (get_or sums j 0)))
        ∙ total_same 11 (λ j. sum (product (total 10 (lane (get_or tens j 0))) (get_or sums j 0)) (product (unit j 5) (get_or sums j 0)))
        (λ j. product (get_or (word j) 10 0) (get_or sums j 0))
        (λ j l.
        ap (sum (product (total 10 (lane (get_or tens j 0))) (get_or sums j 0))) (sym (Laws.product_low (unit j 5) (get_or sums j 0)))
        ∙ sym (Laws.sum_product (total 10 (lane (get_or tens j 0))) (unit j 5 % 64) (get_or sums j 0))
        ∙ ap (λ (c : ℕ). product c (get_or sums j 0)) (sym (eleven_last (get_or tens j 0) (unit j 5))))

    -- the value is the sum of the words' values, each times its sum
    checks-value : (x : ℕ) → value_at x checks ≡ total 11 (λ j. product (value_at x (word j)) (get_or sums j 0))
    unfolding checks
    checks-value x =
        value_11 x checks (eleven_long ten (get_or sums 5 0))
        ∙ total_same 11 (λ i. product (get_or checks i 0) (power x (10 - i))) (λ i. total 11 (λ j. product (product (get_or (word j) i 0) (power x (10 - i))) (get_or sums j 0)))
        (λ i h.
        ap (λ (c : ℕ). product c (power x (10 - i))) (all_eleven (λ (i : ℕ). get_or checks i 0 ≡ total 11 (λ j. product (get_or (word j) i 0) (get_or sums j 0))) at-lane at_last i h)
        ∙ sym (times_total 11 (power x (10 - i)) (λ j. product (get_or (word j) i 0) (get_or sums j 0)))
        ∙ total_same 11 (λ j. product (product (get_or (word j) i 0) (get_or sums j 0)) (power x (10 - i))) (λ j. product (product (get_or (word j) i 0) (power x (10 - i))) (get_or sums j 0))
        (λ j l. exchanged (get_or (word j) i 0) (get_or sums j 0) (power x (10 - i))))
        ∙ total_swap 11 11 (λ i j. product (product (get_or (word j) i 0) (power x (10 - i))) (get_or sums j 0))
        ∙ total_same 11 (λ j. total 11 (λ i. product (product (get_or (word j) i 0) (power x (10 - i))) (get_or sums j 0))) (λ j. product (value_at x (word j)) (get_or sums j 0))
        (λ j l.
        times_total 11 (get_or sums j 0) (λ i. product (get_or (word j) i 0) (power x (10 - i)))
        ∙ ap (λ (v : ℕ). product v (get_or sums j 0)) (sym (value_11 x (word j) (eleven_long (get_or tens j 0) (unit j 5)))))
      where
        exchanged : (a b c : ℕ) → product (product a b) c ≡ product (product a c) b
        exchanged a b c = simp Laws.ring

    pub tens_with : ChecksWith sums (eleven ten (get_or sums 5 0))
    unfolding checks
    tens_with =
        record {
          long = eleven_long ten (get_or sums 5 0);
          characters = eleven_characters ten (get_or sums 5 0);
          sum_at = λ k h.
              behind_zeros k (eleven ten (get_or sums 5 0)) (eleven_long ten (get_or sums 5 0))
              ∙ checks-value (power α (58 + k))
              ∙ total_same 11 (λ j. product (value_at (power α (58 + k)) (word j)) (get_or sums j 0)) (λ j. product (unit j k) (get_or sums j 0))
              (λ j l. ap (λ (v : ℕ). product v (get_or sums j 0)) (word_value j k l h))
              ∙ one_of k h;
        }

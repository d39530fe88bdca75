-- The values of characters at the ten points: one more in front, characters after others, three parts joined, and the turns of the code.
use mathlib.Core.Path.{◌≡◌, refl, sym, ap, ap₂, ◌∙◌}
use mathlib.Core.Bool.{Bool, cond}
use mathlib.Core.List.{List, [], ◌∷◌, ◌++◌, append_assoc, append-nil}
use Prim.Native.Nat.{ℕ, zero, suc, ◌+◌, ◌-◌, ◌*◌, ◌/◌, ◌%◌, ◌^◌, ◌<◌, ◌≤◌}
use native.Mathlib.Nat.{add-zero, add-suc, suc-add}
use native.Mathlib.Omega.{arith}
use lib.Bits.{bit_xor, bit_and, xor_comm, and_zero_r, and_mask}
use lib.ListN.{length, get_or, take, set, length-set, length-append}
use lib.Seq.{take-suc, take_all, get_or-set_same, get_or-set_other}
use borrow.Author.Count.{below_none, below_more}
use borrow.Author.Tests.{eq-eqb, ne_eqb}
use Rattle.numbers.proofs.Cases.{bit_cases}
use Rattle.field.specs.Field.{sum, times_x, shifted, product, power}
use Rattle.field.proofs.Laws
use Rattle.polynomial.specs.Polynomial.{value_at}
use Rattle.polynomial.proofs.Horner
use Rattle.lanes.specs.Lanes.{pack, lane}
use Rattle.lanes.proofs.Laws as Lanes
use Rattle.terms.specs.Terms.{point, term}
use Rattle.points.specs.Value.{value, run, values_of}

-- ---- one more character

term_lt : (n c i : ℕ) → term n c i < 64
unfolding term
term_lt n c i = Laws.product_lt c (power (point i) n)

pub value_lt : (cs : List ℕ) (i : ℕ) → value cs i < 64
unfolding value
value_lt cs i = Horner.value_lt (point i) cs

-- r has the terms of a character c, s the values of the n characters after it
more_terms : (c r s : ℕ) (cs : List ℕ) (n : ℕ) → r ≡ pack 10 (term n c) → length cs ≡ n → s ≡ pack 10 (value cs) → bit_xor r s ≡ pack 10 (value (c ∷ cs))
unfolding value value_at term
more_terms c r s cs n e l q =
    ap₂ bit_xor e q ∙ Lanes.xor_pack 10 (term n c) (value cs) (term_lt n c) (value_lt cs)
    ∙ ap (λ (m : ℕ). pack 10 (λ i. sum (term m c i) (value cs i))) (sym l)

-- ---- characters after others

pub value_append : (us vs : List ℕ) (i : ℕ) → value (us ++ vs) i ≡ sum (product (value us i) (power (point i) (length vs))) (value vs i)
unfolding value
value_append us vs i = Horner.value_append (point i) us vs

-- ---- a word, a part after the other

run_long : (w : List ℕ) (i k n : ℕ) → length (run w i k n) ≡ n
unfolding run
run_long w i k zero = refl
run_long w i k (suc n) = ap suc (run_long w i (suc k) n)

take_run : (w : List ℕ) (i k n : ℕ) → i + k + n ≤ length w → take (i + k) w ++ run w i k n ≡ take (i + k + n) w
unfolding run
take_run w i k zero h = append-nil (take (i + k) w) ∙ ap (λ (m : ℕ). take m w) (sym (add-zero (i + k)))
take_run w i k (suc n) h =
    sym (append_assoc (take (i + k) w) (get_or w (i + k) 0 ∷ []) (run w i (suc k) n))
    ∙ ap (λ (us : List ℕ). us ++ run w i (suc k) n)
    (sym (take-suc w (i + k) 0 (omega arith)) ∙ ap (λ (m : ℕ). take m w) (sym (add-suc i k)))
    ∙ take_run w i (suc k) n (omega arith) ∙ ap (λ (m : ℕ). take m w) (moved i k n)
  where
    moved : (i k n : ℕ) → i + suc k + n ≡ i + k + suc n
    moved i k n = omega arith

-- a run of one more in front
run_moved : (w : List ℕ) (i k n : ℕ) → run w i (suc k) n ≡ run w (suc i) k n
unfolding run
run_moved w i k zero = refl
run_moved w i k (suc n) = ap₂ (λ (a : ℕ) (us : List ℕ). get_or w a 0 ∷ us) (add-suc i k ∙ sym (suc-add i k)) (run_moved w i (suc k) n)

run_front : (w : List ℕ) (i n : ℕ) → get_or w i 0 ∷ run w (suc i) 0 n ≡ run w i 0 (suc n)
unfolding run
run_front w i n = ap₂ (λ (a : ℕ) (us : List ℕ). get_or w a 0 ∷ us) (sym (add-zero i)) (sym (run_moved w i 0 n))

-- of the part from i on, p has the values of the last n characters
pub record PartTo (w : List ℕ) (i p n : ℕ) : Type 0 where
  pub most : n ≤ 21
  pub is : p ≡ pack 10 (value (run w (i + 21 - n) 0 n))

pub part_none : (w : List ℕ) (i : ℕ) → PartTo w i 0 0
unfolding pack value value_at run
part_none w i = record { most = omega arith; is = refl }

pub part_again : (w : List ℕ) (i p n r : ℕ) → PartTo w i p n → n < 21 → r ≡ pack 10 (term n (get_or w (i + 20 - n) 0)) → PartTo w i (bit_xor p r) (n + 1)
part_again w i p n r t h e =
    let a : ℕ = i + 20 - n in
    let next : i + 21 - n ≡ suc a = omega arith in
    let here : a ≡ i + 21 - (n + 1) = omega arith in
    record {
      most = omega arith;
      is =
          xor_comm p r
          ∙ more_terms (get_or w a 0) r p (run w (suc a) 0 n) n e (run_long w (suc a) 0 n) (t.is ∙ ap (λ (j : ℕ). pack 10 (value (run w j 0 n))) next)
          ∙ ap (λ (us : List ℕ). pack 10 (value us)) (run_front w a n)
          ∙ ap₂ (λ (j m : ℕ). pack 10 (value (run w j 0 m))) here (one n);
    }
  where
    one : (n : ℕ) → suc n ≡ n + 1
    one n = omega arith

pub part_all : (w : List ℕ) (i p n : ℕ) → PartTo w i p n → 21 ≤ n → p ≡ pack 10 (value (run w i 0 21))
part_all w i p n t h =
    let m = t.most in
    let e : n ≡ 21 = omega arith in
    t.is ∙ ap (λ (m : ℕ). pack 10 (value (run w (i + 21 - m) 0 m))) e ∙ ap (λ (j : ℕ). pack 10 (value (run w j 0 21))) (omega arith)

-- 63 characters are three parts
three_parts : (w : List ℕ) → length w ≡ 63 → run w 0 0 21 ++ (run w 21 0 21 ++ run w 42 0 21) ≡ w
three_parts w l =
    sym (append_assoc (run w 0 0 21) (run w 21 0 21) (run w 42 0 21))
    ∙ ap (λ (us : List ℕ). us ++ run w 21 0 21 ++ run w 42 0 21) (take_run w 0 0 21 (omega arith))
    ∙ ap (λ (us : List ℕ). us ++ run w 42 0 21) (take_run w 21 0 21 (omega arith))
    ∙ take_run w 42 0 21 (omega arith) ∙ take_all 63 w (omega arith)

-- ---- three parts joined

-- bit j of n
bit : ℕ → ℕ → ℕ
bit n j = n / 2 ^ j % 2

-- the code's constants: what the powers 42 and 21 of each point share, and masks of the lanes in which the one and the other is 1 more
abbrev shared_powers : ℕ
shared_powers = 1079465052537102075

abbrev more_first : ℕ
more_first = 17732991195021375

abbrev more_second : ℕ
more_second = 1134911436481368000

-- the lanes in which the power 42 of the point, and those in which its power 21, is ω + 1
abbrev firsts : ℕ → ℕ
firsts = bit 297

abbrev seconds : ℕ → ℕ
seconds = bit 594

abbrev shared : ℕ → ℕ
shared = lane shared_powers

-- a lane is kept or not
kept : (t x : ℕ) → x < 64 → bit_and x (t % 2 * 63) ≡ product (t % 2) x
kept t x h = bit_cases (λ (m : ℕ). bit_and x (m * 63) ≡ product m x) (and_zero_r x ∙ sym (Laws.zero_product x)) (and_mask x 6 ∙ sym (Laws.one_product_low x)) t

module _ (n m : ℕ) (e : m ≡ pack 10 (λ j. bit n j * 63)) (f : ℕ → ℕ) (small : (j : ℕ) → f j < 64) where
  masked : bit_and (pack 10 f) m ≡ pack 10 (λ j. product (bit n j) (f j))
  unfolding bit
  masked =
      ap (bit_and (pack 10 f)) e ∙ Lanes.and_lanes 10 (pack 10 f) (λ j. bit n j * 63) (λ j. omega arith)
      ∙ Lanes.pack_same 10 (λ j. bit_and (lane (pack 10 f) j) (bit n j * 63)) (λ j. product (bit n j) (f j))
      (λ j l. ap (λ (x : ℕ). bit_and x (bit n j * 63)) (Lanes.lane_pack 10 f small j l) ∙ kept (n / 2 ^ j) (f j) (small j))

-- both powers of a point are what they share, and 1 more or not
shared_lt : (n j : ℕ) → sum (shared j) (bit n j) < 64
unfolding bit
shared_lt n j = Laws.sum_lt (shared j) (bit n j) (Lanes.lane_lt shared_powers j) (omega arith)

powers_42 : (j : ℕ) → j < 10 → sum (shared j) (firsts j) ≡ power (point j) 42
unfolding pack lane bit point power product shifted times_x sum
powers_42 = Lanes.pack_equal 10 (λ j. sum (shared j) (firsts j)) (λ j. power (point j) 42) (shared_lt 297) (λ j. Laws.power_lt (point j) 42) refl

powers_21 : (j : ℕ) → j < 10 → sum (shared j) (seconds j) ≡ power (point j) 21
unfolding pack lane bit point power product shifted times_x sum
powers_21 = Lanes.pack_equal 10 (λ j. sum (shared j) (seconds j)) (λ j. power (point j) 21) (shared_lt 594) (λ j. Laws.power_lt (point j) 21) refl

join_lane : (s m n a b c : ℕ) → sum (sum (sum (product s (sum a b)) (product m a)) (product n b)) c ≡ sum (product a (sum s m)) (sum (product b (sum s n)) c)
join_lane s m n a b c = simp Laws.ring

-- the values of three parts, f, g and h
module _ (f g h : ℕ → ℕ) (fs : (j : ℕ) → f j < 64) (gs : (j : ℕ) → g j < 64) (hs : (j : ℕ) → h j < 64) (q : ℕ)
    (e : q ≡ pack 10 (λ j. product (shared j) (lane (bit_xor (pack 10 f) (pack 10 g)) j))) where
  terms-shared : ℕ → ℕ
  terms-shared j = product (shared j) (sum (f j) (g j))

  with-firsts : ℕ → ℕ
  with-firsts j = sum (terms-shared j) (product (firsts j) (f j))

  with-seconds : ℕ → ℕ
  with-seconds j = sum (with-firsts j) (product (seconds j) (g j))

  both : q ≡ pack 10 terms-shared
  unfolding terms-shared
  both =
      e
      ∙ Lanes.pack_same 10 (λ j. product (shared j) (lane (bit_xor (pack 10 f) (pack 10 g)) j)) terms-shared
      (λ j l.
      ap (product (shared j))
      (Lanes.lane_xor (pack 10 f) (pack 10 g) j ∙ ap₂ sum (Lanes.lane_pack 10 f fs j l) (Lanes.lane_pack 10 g gs j l)))

  terms-lt : (j : ℕ) → terms-shared j < 64
  unfolding terms-shared
  terms-lt j = Laws.product_lt (shared j) (sum (f j) (g j))

  firsts-lt : (j : ℕ) → with-firsts j < 64
  unfolding with-firsts
  firsts-lt j = Laws.sum_lt (terms-shared j) (product (firsts j) (f j)) (terms-lt j) (Laws.product_lt (firsts j) (f j))

  seconds-lt : (j : ℕ) → with-seconds j < 64
  unfolding with-seconds
  seconds-lt j = Laws.sum_lt (with-firsts j) (product (seconds j) (g j)) (firsts-lt j) (Laws.product_lt (seconds j) (g j))

  first_two : bit_xor q (bit_and (pack 10 f) more_first) ≡ pack 10 with-firsts
  unfolding with-firsts bit pack
  first_two =
      ap₂ bit_xor both (masked 297 more_first refl f fs)
      ∙ Lanes.xor_pack 10 terms-shared (λ j. product (firsts j) (f j)) terms-lt (λ j. Laws.product_lt (firsts j) (f j))

  first_three : bit_xor (bit_xor q (bit_and (pack 10 f) more_first)) (bit_and (pack 10 g) more_second) ≡ pack 10 with-seconds
  unfolding with-seconds bit pack
  first_three =
      ap₂ bit_xor first_two (masked 594 more_second refl g gs)
      ∙ Lanes.xor_pack 10 with-firsts (λ j. product (seconds j) (g j)) firsts-lt (λ j. Laws.product_lt (seconds j) (g j))

  joined : bit_xor (bit_xor (bit_xor q (bit_and (pack 10 f) more_first)) (bit_and (pack 10 g) more_second)) (pack 10 h)
      ≡ pack 10 (λ j. sum (product (f j) (power (point j) 42)) (sum (product (g j) (power (point j) 21)) (h j)))
  unfolding terms-shared with-firsts with-seconds
  joined =
      ap (λ (n : ℕ). bit_xor n (pack 10 h)) first_three ∙ Lanes.xor_pack 10 with-seconds h seconds-lt hs
      ∙ Lanes.pack_same 10 (λ j. sum (with-seconds j) (h j)) (λ j. sum (product (f j) (power (point j) 42)) (sum (product (g j) (power (point j) 21)) (h j)))
      (λ j l.
      join_lane (shared j) (firsts j) (seconds j) (f j) (g j) (h j)
      ∙ ap₂ (λ (x y : ℕ). sum (product (f j) x) (sum (product (g j) y) (h j))) (powers_42 j l) (powers_21 j l))

-- ---- the turns

-- the first k parts have their values
pub record PartsTo (w parts : List ℕ) (k : ℕ) : Type 0 where
  pub most : k ≤ 3
  pub long : length parts ≡ 3
  pub passed : (j : ℕ) → j < k → get_or parts j 0 ≡ pack 10 (value (run w (21 * j) 0 21))

pub parts_none : (w parts : List ℕ) → length parts ≡ 3 → PartsTo w parts 0
parts_none w parts h = record { most = omega arith; long = h; passed = below_none (λ j. get_or parts j 0 ≡ pack 10 (value (run w (21 * j) 0 21))) }

pub parts_again : (w parts : List ℕ) (k r : ℕ) → PartsTo w parts k → k < 3 → r ≡ pack 10 (value (run w (21 * k) 0 21)) → PartsTo w (set parts k r) (k + 1)
parts_again w parts k r p h e =
    record {
      most = omega arith;
      long = length-set parts k r ∙ p.long;
      passed = below_more (λ j. get_or (set parts k r) j 0 ≡ pack 10 (value (run w (21 * j) 0 21))) k
          (λ j l. get_or-set_other parts k j r 0 (λ q. omega arith) ∙ p.passed j l)
          (get_or-set_same parts k r 0 (let l = p.long in omega arith) ∙ e);
    }

pub whole_values : (w : List ℕ) → length w ≡ 63 → values_of w ≡ pack 10 (value w)
unfolding values_of
whole_values w l = ap (λ (b : Bool). cond b (pack 10 (value w)) 0) (eq-eqb (length w) 63 l)

pub other_length : (w : List ℕ) → (length w ≡ 63 → ⊥) → 0 ≡ values_of w
unfolding values_of
other_length w d = sym (ap (λ (b : Bool). cond b (pack 10 (value w)) 0) (ne_eqb (length w) 63 d))

module _ (w parts : List ℕ) (k q : ℕ) (l : length w ≡ 63) (p : PartsTo w parts k) (h : 3 ≤ k)
    (e : q ≡ pack 10 (λ j. product (lane shared_powers j) (lane (bit_xor (get_or parts 0 0) (get_or parts 1 0)) j))) where
  abbrev a : List ℕ
  a = run w 0 0 21

  abbrev b : List ℕ
  b = run w 21 0 21

  abbrev c : List ℕ
  c = run w 42 0 21

  value-parts : (j : ℕ) → sum (product (value a j) (power (point j) 42)) (sum (product (value b j) (power (point j) 21)) (value c j)) ≡ value w j
  value-parts j =
      ap₂ (λ (m n : ℕ). sum (product (value a j) (power (point j) m)) (sum (product (value b j) (power (point j) n)) (value c j)))
      (sym (length-append b c ∙ ap₂ (λ (m n : ℕ). m + n) (run_long w 21 0 21) (run_long w 42 0 21))) (sym (run_long w 42 0 21))
      ∙ ap (sum (product (value a j) (power (point j) (length (b ++ c))))) (sym (value_append b c j)) ∙ sym (value_append a (b ++ c) j)
      ∙ ap (λ (us : List ℕ). value us j) (three_parts w l)

  pub values_joined : bit_xor (bit_xor (bit_xor q (bit_and (get_or parts 0 0) more_first)) (bit_and (get_or parts 1 0) more_second)) (get_or parts 2 0) ≡ values_of w
  values_joined =
      let f : get_or parts 0 0 ≡ pack 10 (value a) = p.passed 0 (omega arith) in
      let g : get_or parts 1 0 ≡ pack 10 (value b) = p.passed 1 (omega arith) in
      ap₂ bit_xor
      (ap₂ (λ (x y : ℕ). bit_xor (bit_xor q (bit_and x more_first)) (bit_and y more_second)) f g) (p.passed 2 (omega arith))
      ∙ joined (value a) (value b) (value c) (value_lt a) (value_lt b) (value_lt c) q
      (e ∙ ap₂ (λ (x y : ℕ). pack 10 (λ j. product (lane shared_powers j) (lane (bit_xor x y) j))) f g)
      ∙ Lanes.pack_same 10 (λ j. sum (product (value a j) (power (point j) 42)) (sum (product (value b j) (power (point j) 21)) (value c j))) (value w) (λ j _. value-parts j)
      ∙ sym (whole_values w l)

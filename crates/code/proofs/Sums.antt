-- The power sums of a word: by Horner's rule, of two words added, as sums at the places of its characters, and as the value of a polynomial.
use mathlib.Core.Path.{◌≡◌, refl, sym, ap, ◌∙◌, subst}
use mathlib.Core.List.{List, [], ◌∷◌}
use Prim.Native.Nat.{ℕ, zero, suc, ◌+◌, ◌-◌, ◌*◌, ◌%◌, ◌<◌, ◌≤◌}
use native.Mathlib.Nat.{not-suc-le-zero, le_of_suc-le-suc, mul_comm}
use native.Mathlib.Omega.{arith}
use lib.ListN.{length, get_or, set}
use lib.Seq.{get_or-set_same, get_or-set_other}
use Rattle.numbers.specs.Total.{total}
use Rattle.field.specs.Field.{sum, product, α, power}
use Rattle.field.proofs.Laws
use Rattle.numbers.proofs.Totals.{total_same, total_only, total_lt}
use Rattle.field.proofs.Totals.{total_sum, total_front}
use Rattle.polynomial.specs.Sums.{moment, Fresh, Places, Values}
use Rattle.polynomial.specs.Polynomial.{value_at}
use Rattle.polynomial.proofs.Horner.{total_empty, horner, horner_total, horner_value}
use Rattle.code.specs.Word.{Characters, power_sum, added, listed}
use Rattle.code.specs.Inside.{PowerSums}
use Rattle.code.proofs.Words.{added_get, listed_long, listed_get}

-- ---- the places of n characters: the powers of α that fall to 1

unfoldable pub places : ℕ → List ℕ
places zero = []
places (suc n) = power α n ∷ places n

pub places_long : (n : ℕ) → length (places n) ≡ n
unfolding places
places_long zero = refl
places_long (suc n) = ap suc (places_long n)

pub places_get : (n a : ℕ) → a < n → get_or (places n) a 0 ≡ power α (n - 1 - a)
unfolding places
places_get zero a h = absurd (not-suc-le-zero h)
places_get (suc n) zero h = ap (power α) (omega arith)
places_get (suc n) (suc a) h = places_get n a (le_of_suc-le-suc h) ∙ ap (power α) (omega arith)

places_fresh : (m n : ℕ) → n ≤ m → m < 63 → Fresh (power α m) (places n)
unfolding places
places_fresh m zero h k = tt
places_fresh m (suc n) h k = (Laws.power_distinct n m h k, places_fresh m n (omega arith) k)

pub places_good : (n : ℕ) → n ≤ 63 → Places (places n)
unfolding places
places_good zero h = tt
places_good (suc n) h = (
  Laws.power_pos α n (omega arith) (omega arith),
  Laws.power_lt α n,
  places_fresh n n (omega arith) (omega arith),
  places_good n (omega arith),
)

-- characters are values at them
pub values : (w : List ℕ) → Characters w → Values w (places (length w))
unfolding places
values [] h = tt
values (c ∷ cs) h = (h 0, values cs (λ a. h (suc a)))

pub values_63 : (w : List ℕ) → length w ≡ 63 → Characters w → Values w (places 63)
values_63 w l h = subst (λ (n : ℕ). Values w (places n)) l (values w h)

-- ---- the sum over addresses

-- exponents of α count modulo 63, so S_j is the value at α^j
pub power_sum_horner : (j : ℕ) (w : List ℕ) → power_sum j w ≡ horner (power α j) w 63
unfolding power_sum
power_sum_horner j w =
    total_same 63 (λ a. product (get_or w a 0) (power α (j * (62 - a) % 63))) (λ a. product (get_or w a 0) (power (power α j) (62 - a)))
    (λ a h.
    ap (product (get_or w a 0))
    (Laws.power_mod (j * (62 - a)) ∙ ap (power α) (mul_comm j (62 - a)) ∙ Laws.power_mul α (62 - a) j))
    ∙ sym (horner_total (power α j) w 63)

pub power_sum_lt : (j : ℕ) (w : List ℕ) → power_sum j w < 64
unfolding power_sum
power_sum_lt j w = total_lt 63 (λ a. product (get_or w a 0) (power α (j * (62 - a) % 63))) (λ a. Laws.product_lt (get_or w a 0) (power α (j * (62 - a) % 63)))

-- j counts modulo 63
pub power_sum_mod : (j : ℕ) (w : List ℕ) → power_sum (j % 63) w ≡ power_sum j w
power_sum_mod j w =
    power_sum_horner (j % 63) w ∙ ap (λ (x : ℕ). horner x w 63) (Laws.power_mod j) ∙ sym (power_sum_horner j w)

-- words with the same characters have the same sums
pub power_sum_same : (j : ℕ) (u v : List ℕ) → ((a : ℕ) → a < 63 → get_or u a 0 ≡ get_or v a 0) → power_sum j u ≡ power_sum j v
unfolding power_sum
power_sum_same j u v h =
    total_same 63 (λ a. product (get_or u a 0) (power α (j * (62 - a) % 63))) (λ a. product (get_or v a 0) (power α (j * (62 - a) % 63)))
    (λ a l. ap (λ (c : ℕ). product c (power α (j * (62 - a) % 63))) (h a l))

pub power_sum_added : (j : ℕ) (u v : List ℕ) → length u ≡ length v → power_sum j (added u v) ≡ sum (power_sum j u) (power_sum j v)
unfolding power_sum
power_sum_added j u v h =
    total_same 63 (λ a. product (get_or (added u v) a 0) (power α (j * (62 - a) % 63)))
    (λ a. sum (product (get_or u a 0) (power α (j * (62 - a) % 63))) (product (get_or v a 0) (power α (j * (62 - a) % 63))))
    (λ a l.
    ap (λ (c : ℕ). product c (power α (j * (62 - a) % 63))) (added_get u v h a)
    ∙ Laws.sum_product (get_or u a 0) (get_or v a 0) (power α (j * (62 - a) % 63)))
    ∙ total_sum 63 (λ a. product (get_or u a 0) (power α (j * (62 - a) % 63))) (λ a. product (get_or v a 0) (power α (j * (62 - a) % 63)))

-- one character changed
pub power_sum_set : (j : ℕ) (w : List ℕ) (a c : ℕ) → a < 63 → a < length w
    → power_sum j (set w a c) ≡ sum (power_sum j w) (product (sum (get_or w a 0) c) (power α (j * (62 - a) % 63)))
unfolding power_sum
power_sum_set j w a c h l =
    sym (Laws.sum_undo (total 63 (term w)) (total 63 (term (set w a c))))
    ∙ ap (sum (total 63 (term w)))
    (sym (total_sum 63 (term w) (term (set w a c)))
    ∙ total_only 63 a (λ i. sum (term w i) (term (set w a c) i)) h
    (λ i b d. ap (λ (x : ℕ). sum (term w i) (product x (x-power i))) (get_or-set_other w a i c 0 d) ∙ Laws.sum_self (term w i))
    ∙ ap (λ (x : ℕ). sum (term w a) (product x (x-power a))) (get_or-set_same w a c 0 l)
    ∙ sym (Laws.sum_product (get_or w a 0) c (x-power a)))
  where
    x-power : ℕ → ℕ
    x-power i = power α (j * (62 - i) % 63)

    term : List ℕ → ℕ → ℕ
    term v i = product (get_or v i 0) (power α (j * (62 - i) % 63))

-- ---- at the places

pub moment_total : (j : ℕ) (vs xs : List ℕ) → length vs ≡ length xs
    → moment j vs xs ≡ total (length vs) (λ a. product (get_or vs a 0) (power (get_or xs a 0) j))
unfolding moment
moment_total j [] xs h = total_empty (λ a. product 0 (power (get_or xs a 0) j))
moment_total j (v ∷ vs) [] h = absurd (omega arith)
moment_total j (v ∷ vs) (x ∷ xs) h =
    ap (sum (product v (power x j))) (moment_total j vs xs (omega arith))
    ∙ sym (total_front (length vs) (λ a. product (get_or (v ∷ vs) a 0) (power (get_or (x ∷ xs) a 0) j)))

pub power_sum_moment : (j : ℕ) (w : List ℕ) → length w ≡ 63 → power_sum j w ≡ moment j w (places 63)
power_sum_moment j w h =
    power_sum_horner j w ∙ horner_total (power α j) w 63
    ∙ total_same 63 (λ a. product (get_or w a 0) (power (power α j) (62 - a))) (λ a. product (get_or w a 0) (power (get_or (places 63) a 0) j))
    (λ a l. ap (product (get_or w a 0)) (Laws.power_swap α j (62 - a) ∙ ap (λ (x : ℕ). power x j) (sym (places_get 63 a l))))
    ∙ ap (λ (n : ℕ). total n (λ a. product (get_or w a 0) (power (get_or (places 63) a 0) j))) (sym h)
    ∙ sym (moment_total j w (places 63) (h ∙ sym (places_long 63)))

-- ---- as the value of a polynomial, the first character its highest coefficient

pub power_sum_value : (j : ℕ) (w : List ℕ) → length w ≡ 63 → power_sum j w ≡ value_at (power α j) w
power_sum_value j w h = power_sum_horner j w ∙ subst (λ (n : ℕ). horner (power α j) w n ≡ value_at (power α j) w) h (horner_value (power α j) w)

-- ---- all eleven of any word, by a rule that computes

pub horner_sums : (w : List ℕ) → PowerSums w (listed (λ k. horner (power α (58 + k)) w 63) 0 11)
horner_sums w =
    record {
      long = listed_long (λ k. horner (power α (58 + k)) w 63) 0 11;
      sum_at = λ k h.
          listed_get (λ k. horner (power α (58 + k)) w 63) 11 k h ∙ sym (power_sum_horner (58 + k) w);
    }

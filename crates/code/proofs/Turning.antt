-- Words turned and reversed: their characters, one turning or reversing after another, their power sums, and what they keep.
use mathlib.Core.Path.{◌≡◌, sym, ap, ◌∙◌}
use mathlib.Core.List.{List}
use Prim.Native.Nat.{ℕ, ◌+◌, ◌-◌, ◌*◌, ◌/◌, ◌%◌, ◌<◌}
use native.Mathlib.Nat.{mul-add, mul_assoc, mul_comm, mod-eq_of_lt, add-mul-mod_self_right}
use native.Mathlib.Omega.{arith}
use lib.ListN.{length, get_or}
use Rattle.field.specs.Field.{product, α, power}
use Rattle.field.proofs.Laws
use Rattle.polynomial.specs.Sums.{weight}
use Rattle.code.specs.Word.{Characters, power_sum, Clean, added, distance, turned, reversed}
use Rattle.code.proofs.Sums.{power_sum_mod}
use Rattle.code.proofs.Orders

-- ---- the characters

pub turned_long : (k : ℕ) (w : List ℕ) → length (turned k w) ≡ 63
unfolding turned Orders.picked
turned_long k w = Orders.picked_long (λ a. (k + a) % 63) w

pub reversed_long : (s : ℕ) (w : List ℕ) → length (reversed s w) ≡ 63
unfolding reversed Orders.picked
reversed_long s w = Orders.picked_long (λ a. (s + 63 - a) % 63) w

pub turned_get : (k : ℕ) (w : List ℕ) (a : ℕ) → a < 63 → get_or (turned k w) a 0 ≡ get_or w ((k + a) % 63) 0
unfolding turned Orders.picked
turned_get k w a h = Orders.picked_get (λ a. (k + a) % 63) w a h

pub reversed_get : (s : ℕ) (w : List ℕ) (a : ℕ) → a < 63 → get_or (reversed s w) a 0 ≡ get_or w ((s + 63 - a) % 63) 0
unfolding reversed Orders.picked
reversed_get s w a h = Orders.picked_get (λ a. (s + 63 - a) % 63) w a h

pub turned_characters : (k : ℕ) (w : List ℕ) → Characters w → Characters (turned k w)
unfolding turned Orders.picked
turned_characters k w c = Orders.picked_characters (λ a. (k + a) % 63) w c

pub reversed_characters : (s : ℕ) (w : List ℕ) → Characters w → Characters (reversed s w)
unfolding reversed Orders.picked
reversed_characters s w c = Orders.picked_characters (λ a. (s + 63 - a) % 63) w c

-- ---- two words added

pub turned_added : (k : ℕ) (u v : List ℕ) → length u ≡ length v → turned k (added u v) ≡ added (turned k u) (turned k v)
unfolding turned Orders.picked
turned_added k u v h = Orders.picked_added (λ a. (k + a) % 63) u v h

pub reversed_added : (s : ℕ) (u v : List ℕ) → length u ≡ length v → reversed s (added u v) ≡ added (reversed s u) (reversed s v)
unfolding reversed Orders.picked
reversed_added s u v h = Orders.picked_added (λ a. (s + 63 - a) % 63) u v h

-- ---- one after another

-- only what is left of k modulo 63 counts
pub turned_mod : (k : ℕ) (w : List ℕ) → turned (k % 63) w ≡ turned k w
unfolding turned Orders.picked
turned_mod k w = Orders.picked_same (λ a. (k % 63 + a) % 63) (λ a. (k + a) % 63) w (λ a h. omega arith)

pub reversed_mod : (s : ℕ) (w : List ℕ) → reversed (s % 63) w ≡ reversed s w
unfolding reversed Orders.picked
reversed_mod s w = Orders.picked_same (λ a. (s % 63 + 63 - a) % 63) (λ a. (s + 63 - a) % 63) w (λ a h. omega arith)

pub turned_none : (w : List ℕ) → length w ≡ 63 → turned 0 w ≡ w
unfolding turned Orders.picked
turned_none w l = Orders.picked_none (λ a. (0 + a) % 63) w l (λ a h. omega arith)

pub turned_round : (w : List ℕ) → length w ≡ 63 → turned 63 w ≡ w
turned_round w l = sym (turned_mod 63 w) ∙ turned_none w l

pub turned_turned : (k j : ℕ) (w : List ℕ) → turned k (turned j w) ≡ turned (j + k) w
unfolding turned Orders.picked
turned_turned k j w =
    Orders.picked_picked (λ a. (k + a) % 63) (λ a. (j + a) % 63) w (Orders.turned_order k)
    ∙ Orders.picked_same (λ a. (j + (k + a) % 63) % 63) (λ a. (j + k + a) % 63) w (λ a h. omega arith)

pub reversed_turned : (s k : ℕ) (w : List ℕ) → reversed s (turned k w) ≡ reversed (k + s) w
unfolding turned reversed Orders.picked
reversed_turned s k w =
    Orders.picked_picked (λ a. (s + 63 - a) % 63) (λ a. (k + a) % 63) w (Orders.reversed_order s)
    ∙ Orders.picked_same (λ a. (k + (s + 63 - a) % 63) % 63) (λ a. (k + s + 63 - a) % 63) w (λ a h. omega arith)

pub turned_reversed : (k s : ℕ) (w : List ℕ) → turned k (reversed s w) ≡ reversed (s + (63 - k % 63)) w
unfolding turned reversed Orders.picked
turned_reversed k s w =
    Orders.picked_picked (λ a. (k + a) % 63) (λ a. (s + 63 - a) % 63) w (Orders.turned_order k)
    ∙ Orders.picked_same (λ a. (s + 63 - (k + a) % 63) % 63) (λ a. (s + (63 - k % 63) + 63 - a) % 63) w (λ a h. omega arith)

pub reversed_reversed : (s r : ℕ) (w : List ℕ) → reversed s (reversed r w) ≡ turned (r + (63 - s % 63)) w
unfolding turned reversed Orders.picked
reversed_reversed s r w =
    Orders.picked_picked (λ a. (s + 63 - a) % 63) (λ a. (r + 63 - a) % 63) w (Orders.reversed_order s)
    ∙ Orders.picked_same (λ a. (r + 63 - (s + 63 - a) % 63) % 63) (λ a. (r + (63 - s % 63) + a) % 63) w (λ a h. omega arith)

-- from one place, a second reversing undoes the first
pub reversed_twice : (s : ℕ) (w : List ℕ) → length w ≡ 63 → reversed s (reversed s w) ≡ w
reversed_twice s w l =
    reversed_reversed s s w ∙ sym (turned_mod (s + (63 - s % 63)) w) ∙ ap (λ (k : ℕ). turned k w) (omega arith) ∙ turned_none w l

-- ---- the weight and the distance

pub weight_turned : (k : ℕ) (w : List ℕ) → length w ≡ 63 → weight (turned k w) ≡ weight w
unfolding turned Orders.picked
weight_turned k w h = Orders.weight_picked (λ a. (k + a) % 63) w (Orders.turned_order k) h

pub weight_reversed : (s : ℕ) (w : List ℕ) → length w ≡ 63 → weight (reversed s w) ≡ weight w
unfolding reversed Orders.picked
weight_reversed s w h = Orders.weight_picked (λ a. (s + 63 - a) % 63) w (Orders.reversed_order s) h

pub distance_turned : (k : ℕ) (u v : List ℕ) → length u ≡ 63 → length v ≡ 63 → distance (turned k u) (turned k v) ≡ distance u v
unfolding turned Orders.picked
distance_turned k u v hu hv = Orders.distance_picked (λ a. (k + a) % 63) u v (Orders.turned_order k) hu hv

pub distance_reversed : (s : ℕ) (u v : List ℕ) → length u ≡ 63 → length v ≡ 63 → distance (reversed s u) (reversed s v) ≡ distance u v
unfolding reversed Orders.picked
distance_reversed s u v hu hv = Orders.distance_picked (λ a. (s + 63 - a) % 63) u v (Orders.reversed_order s) hu hv

-- ---- the power sums

-- α^(j m) counts m modulo 63
power_times : (j m n : ℕ) → m % 63 ≡ n → power α (j * n) ≡ power α (j * m)
power_times j m n e =
    ap (λ (t : ℕ). power α (j * t)) (sym e) ∙ Laws.power_mul α j (m % 63) ∙ ap (λ (x : ℕ). power x j) (Laws.power_mod m)
    ∙ sym (Laws.power_mul α j m)

power_split : (j m n : ℕ) → power α (j * (m + n)) ≡ product (power α (j * m)) (power α (j * n))
power_split j m n = ap (power α) (mul-add j m n) ∙ Laws.power_add α (j * m) (j * n)

-- where m and n make a multiple of 63, n is -m, which is 62 m
opposite : (m n q : ℕ) → m + n ≡ q * 63 → m * 62 % 63 ≡ n % 63
opposite m n q e =
    sym (add-mul-mod_self_right (m * 62) q 63) ∙ ap (λ (t : ℕ). t % 63) (omega arith) ∙ add-mul-mod_self_right n m 63

-- S_j of a word turned by k is α^(j k) S_j
pub power_sum_turned : (j k : ℕ) (w : List ℕ) → power_sum j (turned k w) ≡ product (power α (j * k)) (power_sum j w)
unfolding turned Orders.picked
power_sum_turned j k w =
    Orders.power_sum_picked j j (power α (j * k)) (λ a. (k + a) % 63) w (Orders.turned_order k)
    (λ a h. power_times j (k + (62 - (k + a) % 63)) (62 - a) (omega arith) ∙ power_split j k (62 - (k + a) % 63))

-- S_j of a word reversed from s is α^(-j (s + 2)) S_-j, and -j is 62 j modulo 63
pub power_sum_reversed : (j s : ℕ) (w : List ℕ) → power_sum j (reversed s w) ≡ product (power α (j * 62 * (s + 2))) (power_sum (j * 62) w)
unfolding reversed Orders.picked
power_sum_reversed j s w =
    Orders.power_sum_picked (j * 62) j (power α (j * 62 * (s + 2))) (λ a. (s + 63 - a) % 63) w (Orders.reversed_order s)
    (λ a h.
    let m : ℕ = s + 2 + (62 - (s + 63 - a) % 63) in
    power_times j (m * 62) (62 - a) (opposite m (62 - a) ((s + 63 - a) / 63 + 1) (omega arith) ∙ mod-eq_of_lt (omega arith))
    ∙ ap (power α) (ap (λ (n : ℕ). j * n) (mul_comm m 62) ∙ sym (mul_assoc j 62 m)) ∙ power_split (j * 62) (s + 2) (62 - (s + 63 - a) % 63))

-- ---- clean words stay clean

pub clean_turned : (k : ℕ) (w : List ℕ) → Clean w → Clean (turned k w)
clean_turned k w c =
    record {
      long = turned_long k w;
      characters = turned_characters k w c.characters;
      sums = λ i h.
          power_sum_turned (58 + i) k w ∙ ap (product (power α ((58 + i) * k))) (c.sums i h) ∙ Laws.product_zero (power α ((58 + i) * k));
    }

-- the sums of j from -5 to 5 trade places
pub clean_reversed : (s : ℕ) (w : List ℕ) → Clean w → Clean (reversed s w)
clean_reversed s w c =
    record {
      long = reversed_long s w;
      characters = reversed_characters s w c.characters;
      sums = λ i h.
          power_sum_reversed (58 + i) s w
          ∙ ap (product (power α ((58 + i) * 62 * (s + 2)))) (other-sum i h)
          ∙ Laws.product_zero (power α ((58 + i) * 62 * (s + 2)));
    }
  where
    other-sum : (i : ℕ) → i < 11 → power_sum ((58 + i) * 62) w ≡ 0
    other-sum i h =
        sym (power_sum_mod ((58 + i) * 62) w)
        ∙ ap (λ (j : ℕ). power_sum j w) (opposite (58 + i) (58 + (10 - i)) 2 (omega arith))
        ∙ power_sum_mod (58 + (10 - i)) w ∙ c.sums (10 - i) (omega arith)

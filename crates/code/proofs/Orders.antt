-- Words whose characters are taken from the 63 places in another order, and what every such order keeps.
use mathlib.Core.Path.{◌≡◌, refl, sym, ap, ap₂, ◌∙◌, subst}
use mathlib.Core.List.{List, [], ◌∷◌}
use Prim.Native.Nat.{ℕ, zero, suc, ◌+◌, ◌-◌, ◌*◌, ◌%◌, ◌<◌}
use native.Mathlib.Nat.{le_of_eq, add_comm, add_assoc}
use native.Mathlib.Omega.{arith}
use lib.ListN.{length, get_or}
use Rattle.numbers.specs.Total.{total}
use Rattle.field.specs.Field.{sum, product, α, power}
use Rattle.field.proofs.Laws
use Rattle.numbers.proofs.Totals.{total_same}
use Rattle.field.proofs.Totals.{total_scaled}
use Rattle.polynomial.specs.Sums.{nonzero, weight}
use Rattle.code.specs.Word.{Characters, power_sum, added, distance, listed}
use Rattle.code.proofs.Words.{same_word, characters_below, length_added, added_get, listed_long, listed_get}
use Rattle.code.proofs.Distances.{distance_weight}

-- ---- numbers joined by an operation, in whatever order

-- 0, f 0, f 1, .., f (n - 1)
unfoldable pub folded : (ℕ → ℕ → ℕ) → ℕ → (ℕ → ℕ) → ℕ
folded op zero f = 0
folded op (suc n) f = op (folded op n f) (f n)

folded_none : (op : ℕ → ℕ → ℕ) (f : ℕ → ℕ) → 0 ≡ folded op 0 f
unfolding folded
folded_none op f = refl

pub folded_same : (op : ℕ → ℕ → ℕ) (n : ℕ) (f g : ℕ → ℕ) → ((a : ℕ) → a < n → f a ≡ g a) → folded op n f ≡ folded op n g
unfolding folded
folded_same op zero f g h = refl
folded_same op (suc n) f g h = ap₂ op (folded_same op n f g (λ a l. h a (omega arith))) (h n (omega arith))

pub record Commutes (op : ℕ → ℕ → ℕ) : Type 0 where
  pub comm : (x y : ℕ) → op x y ≡ op y x
  pub assoc : (x y z : ℕ) → op (op x y) z ≡ op x (op y z)

module _ (op : ℕ → ℕ → ℕ) (law : Commutes op) where
  folded-last : (n : ℕ) (f : ℕ → ℕ) → folded op (suc n) f ≡ op (folded op n f) (f n)
  unfolding folded
  folded-last n f = refl

  folded-front : (n : ℕ) (f : ℕ → ℕ) → folded op (suc n) f ≡ op (f 0) (folded op n (λ a. f (suc a)))
  unfolding folded
  folded-front zero f = law.comm 0 (f 0)
  folded-front (suc n) f =
      ap (λ (t : ℕ). op t (f (suc n))) (folded-front n f) ∙ law.assoc (f 0) (folded op n (λ a. f (suc a))) (f (suc n))

  -- the first of 63 put last
  folded-turn : (f : ℕ → ℕ) → f 63 ≡ f 0 → folded op 63 (λ a. f (suc a)) ≡ folded op 63 f
  folded-turn f e =
      let rest : ℕ = folded op 62 (λ a. f (suc a)) in
      folded-last 62 (λ a. f (suc a)) ∙ ap (op rest) e ∙ law.comm rest (f 0) ∙ sym (folded-front 62 f)

  pub folded_turned : (k : ℕ) (f : ℕ → ℕ) → folded op 63 (λ a. f ((k + a) % 63)) ≡ folded op 63 f
  folded_turned zero f = folded_same op 63 (λ a. f ((0 + a) % 63)) f (λ a h. ap f (omega arith))
  folded_turned (suc k) f =
      folded_same op 63 (λ a. f ((suc k + a) % 63)) (λ a. f ((k + suc a) % 63)) (λ a h. ap f (omega arith))
      ∙ folded-turn (λ a. f ((k + a) % 63)) (ap f (omega arith)) ∙ folded_turned k f

  folded-backward : (n : ℕ) (f : ℕ → ℕ) → folded op n (λ a. f (n - 1 - a)) ≡ folded op n f
  folded-backward zero f = folded_same op 0 (λ a. f (0 - 1 - a)) f (λ a h. absurd (omega arith))
  folded-backward (suc n) f =
      folded-front n (λ a. f (suc n - 1 - a))
      ∙ ap₂ op (ap f (first n)) (folded_same op n (λ a. f (suc n - 1 - suc a)) (λ a. f (n - 1 - a)) (λ a h. ap f (omega arith)) ∙ folded-backward n f)
      ∙ law.comm (f n) (folded op n f) ∙ sym (folded-last n f)
    where
      first : (n : ℕ) → suc n - 1 - 0 ≡ n
      first n = omega arith

  pub folded_reversed : (s : ℕ) (f : ℕ → ℕ) → folded op 63 (λ a. f ((s + 63 - a) % 63)) ≡ folded op 63 f
  folded_reversed s f =
      folded_same op 63 (λ a. f ((s + 63 - a) % 63)) (λ a. f ((suc s + (62 - a)) % 63)) (λ a h. ap f (omega arith))
      ∙ folded-backward 63 (λ b. f ((suc s + b) % 63)) ∙ folded_turned (suc s) f

-- ---- an order of the 63 places: it stays among them, and what is joined over them all is the same in it

pub record Order (p : ℕ → ℕ) : Type 0 where
  pub inside : (a : ℕ) → a < 63 → p a < 63
  pub joins : (op : ℕ → ℕ → ℕ) → Commutes op → (f : ℕ → ℕ) → folded op 63 (λ a. f (p a)) ≡ folded op 63 f

pub turned_order : (k : ℕ) → Order (λ a. (k + a) % 63)
turned_order k = record { inside = λ a h. omega arith; joins = λ op law. folded_turned op law k }

pub reversed_order : (s : ℕ) → Order (λ a. (s + 63 - a) % 63)
reversed_order s = record { inside = λ a h. omega arith; joins = λ op law. folded_reversed op law s }

-- ---- a word in that order

unfoldable pub picked : (ℕ → ℕ) → List ℕ → List ℕ
picked p w = listed (λ a. get_or w (p a) 0) 0 63

pub picked_long : (p : ℕ → ℕ) (w : List ℕ) → length (picked p w) ≡ 63
unfolding picked
picked_long p w = listed_long (λ a. get_or w (p a) 0) 0 63

pub picked_get : (p : ℕ → ℕ) (w : List ℕ) (a : ℕ) → a < 63 → get_or (picked p w) a 0 ≡ get_or w (p a) 0
unfolding picked
picked_get p w a h = listed_get (λ a. get_or w (p a) 0) 63 a h

pub picked_characters : (p : ℕ → ℕ) (w : List ℕ) → Characters w → Characters (picked p w)
picked_characters p w c =
    characters_below (picked p w) 63 (le_of_eq (picked_long p w)) (λ a h. subst (λ (n : ℕ). n < 64) (sym (picked_get p w a h)) (c (p a)))

pub picked_added : (p : ℕ → ℕ) (u v : List ℕ) → length u ≡ length v → picked p (added u v) ≡ added (picked p u) (picked p v)
picked_added p u v h =
    let same : length (picked p u) ≡ length (picked p v) = picked_long p u ∙ sym (picked_long p v) in
    same_word (picked p (added u v)) (added (picked p u) (picked p v)) (picked_long p (added u v))
    (length_added (picked p u) (picked p v) same ∙ picked_long p u)
    (λ a l.
    picked_get p (added u v) a l ∙ added_get u v h (p a) ∙ sym (ap₂ sum (picked_get p u a l) (picked_get p v a l))
    ∙ sym (added_get (picked p u) (picked p v) same a))

-- an order after an order
pub picked_picked : (p q : ℕ → ℕ) (w : List ℕ) → Order p → picked p (picked q w) ≡ picked (λ a. q (p a)) w
picked_picked p q w o =
    same_word (picked p (picked q w)) (picked (λ a. q (p a)) w) (picked_long p (picked q w)) (picked_long (λ a. q (p a)) w)
    (λ a h. picked_get p (picked q w) a h ∙ picked_get q w (p a) (o.inside a h) ∙ sym (picked_get (λ a. q (p a)) w a h))

pub picked_same : (p q : ℕ → ℕ) (w : List ℕ) → ((a : ℕ) → a < 63 → p a ≡ q a) → picked p w ≡ picked q w
picked_same p q w e =
    same_word (picked p w) (picked q w) (picked_long p w) (picked_long q w)
    (λ a h. picked_get p w a h ∙ ap (λ (b : ℕ). get_or w b 0) (e a h) ∙ sym (picked_get q w a h))

pub picked_none : (p : ℕ → ℕ) (w : List ℕ) → length w ≡ 63 → ((a : ℕ) → a < 63 → p a ≡ a) → picked p w ≡ w
picked_none p w l e =
    same_word (picked p w) w (picked_long p w) l (λ a h. picked_get p w a h ∙ ap (λ (b : ℕ). get_or w b 0) (e a h))

-- ---- the weight and the distance stay

plus_commutes : Commutes (λ m n. m + n)
plus_commutes = record { comm = add_comm; assoc = add_assoc }

weight_folded : (w : List ℕ) → weight w ≡ folded (λ m n. m + n) (length w) (λ a. nonzero (get_or w a 0))
unfolding weight
weight_folded [] = folded_none (λ m n. m + n) (λ a. nonzero 0)
weight_folded (c ∷ cs) =
    ap (λ (n : ℕ). nonzero c + n) (weight_folded cs) ∙ sym (folded-front (λ m n. m + n) plus_commutes (length cs) (λ a. nonzero (get_or (c ∷ cs) a 0)))

weight_63 : (w : List ℕ) → length w ≡ 63 → weight w ≡ folded (λ m n. m + n) 63 (λ a. nonzero (get_or w a 0))
weight_63 w h = weight_folded w ∙ ap (λ (n : ℕ). folded (λ m n. m + n) n (λ a. nonzero (get_or w a 0))) h

pub weight_picked : (p : ℕ → ℕ) (w : List ℕ) → Order p → length w ≡ 63 → weight (picked p w) ≡ weight w
weight_picked p w o h =
    weight_63 (picked p w) (picked_long p w)
    ∙ folded_same (λ m n. m + n) 63 (λ a. nonzero (get_or (picked p w) a 0)) (λ a. nonzero (get_or w (p a) 0)) (λ a l. ap nonzero (picked_get p w a l))
    ∙ o.joins (λ m n. m + n) plus_commutes (λ a. nonzero (get_or w a 0)) ∙ sym (weight_63 w h)

pub distance_picked : (p : ℕ → ℕ) (u v : List ℕ) → Order p → length u ≡ 63 → length v ≡ 63 → distance (picked p u) (picked p v) ≡ distance u v
distance_picked p u v o hu hv =
    let same : length u ≡ length v = hu ∙ sym hv in
    distance_weight (picked p u) (picked p v) ∙ ap weight (sym (picked_added p u v same))
    ∙ weight_picked p (added u v) o (length_added u v same ∙ hu) ∙ sym (distance_weight u v)

-- ---- the power sums, where the order moves the exponents by a factor

sum_commutes : Commutes sum
sum_commutes = record { comm = Laws.sum_comm; assoc = Laws.sum_assoc }

total_folded : (n : ℕ) (f : ℕ → ℕ) → total n f ≡ folded sum n f
unfolding total folded sum
total_folded zero f = refl
total_folded (suc n) f = ap (λ (t : ℕ). sum t (f n)) (total_folded n f)

pub total_order : (p f : ℕ → ℕ) → Order p → total 63 (λ a. f (p a)) ≡ total 63 f
total_order p f o = total_folded 63 (λ a. f (p a)) ∙ o.joins sum sum_commutes f ∙ sym (total_folded 63 f)

pub power_sum_picked : (i j m : ℕ) (p : ℕ → ℕ) (w : List ℕ) → Order p
    → ((a : ℕ) → a < 63 → power α (j * (62 - a)) ≡ product m (power α (i * (62 - p a)))) → power_sum j (picked p w) ≡ product m (power_sum i w)
unfolding power_sum
power_sum_picked i j m p w o e =
    total_same 63 (λ a. product (get_or (picked p w) a 0) (power α (j * (62 - a) % 63)))
    (λ a. product m (product (get_or w (p a) 0) (power α (i * (62 - p a) % 63))))
    (λ a h.
    ap₂ product (picked_get p w a h) (Laws.power_mod (j * (62 - a)) ∙ e a h ∙ ap (product m) (sym (Laws.power_mod (i * (62 - p a)))))
    ∙ Laws.product_left_comm (get_or w (p a) 0) m (power α (i * (62 - p a) % 63)))
    ∙ total_order p (λ b. product m (product (get_or w b 0) (power α (i * (62 - b) % 63)))) o
    ∙ total_scaled 63 m (λ b. product (get_or w b 0) (power α (i * (62 - b) % 63)))

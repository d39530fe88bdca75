-- The roots of x² + b x + c: x = b y, where y² + y = c / b², by a table.
use mathlib.Core.Path.{◌≡◌, sym, ap, ap₂, ◌∙◌, subst}
use mathlib.Core.Bool.{Bool}
use Prim.Native.Nat.{ℕ, ◌<◌}
use native.Mathlib.Omega.{arith}
use lib.ListN.{get_or}
use lib.Dec.{T, eqb, ltb, eqb→eq, ltb→lt}
use Rattle.numbers.proofs.Cases.{pos_of_not_zero}
use Rattle.numbers.proofs.Range.{each, each_at}
use Rattle.field.specs.Field.{sum, product, times_x, shifted}
use Rattle.field.specs.Inside.{inverse}
use Rattle.field.proofs.Laws
use Rattle.locations.specs.Roots.{halves}

-- ---- the table

-- y² + y is below 32 for every y
abbrev low : ℕ → Bool
low y = ltb (product y (sum y 1)) 32

low_test : T (each 64 low)
unfolding product shifted times_x sum
low_test = tt

half_small : (y : ℕ) → y < 64 → product y (sum y 1) < 32
half_small y h = ltb→lt (product y (sum y 1)) 32 (each_at 64 low low_test y h)

-- and for each u below 32 it is u at the y of the table
abbrev held : ℕ → Bool
held u = eqb (product (get_or halves u 0) (sum (get_or halves u 0) 1)) u

held_test : T (each 32 held)
unfolding product shifted times_x sum halves
held_test = tt

pub half_is : (u : ℕ) → u < 32 → product (get_or halves u 0) (sum (get_or halves u 0) 1) ≡ u
half_is u h = eqb→eq (product (get_or halves u 0) (sum (get_or halves u 0) 1)) u (each_at 32 held held_test u h)

-- ---- two roots

abbrev pub quadratic : ℕ → ℕ → ℕ → ℕ
quadratic b c x = sum c (product x (sum b x))

both_values : (b c x y : ℕ) → product (sum x y) (sum b (sum x y)) ≡ sum (quadratic b c x) (quadratic b c y)
both_values b c x y = simp Laws.ring

cross : (x y : ℕ) → product x (sum (sum x y) x) ≡ product x y
cross x y = simp Laws.ring

module _ (b c x y : ℕ) (bl : b < 64) (xl : x < 64) (yl : y < 64) (apart : y ≡ x → ⊥) (rx : quadratic b c x ≡ 0) (ry : quadratic b c y ≡ 0) where
  sum-pos : 0 < sum x y
  sum-pos = pos_of_not_zero (sum x y) (λ z. apart (sym (Laws.sum_eq x y z)))

  -- b is their sum, and c their product
  roots-sum : b ≡ sum x y
  roots-sum =
      Laws.sum_eq b (sum x y)
      (Laws.product_cancel (sum b (sum x y)) (sum x y) (Laws.sum_lt b (sum x y) bl (Laws.sum_lt x y xl yl)) sum-pos (Laws.sum_lt x y xl yl)
      (Laws.product_comm (sum b (sum x y)) (sum x y) ∙ both_values b c x y ∙ ap₂ sum rx ry ∙ Laws.sum_self 0))

  roots-product : c ≡ product x y
  roots-product = Laws.sum_eq c (product x (sum b x)) rx ∙ ap (λ (s : ℕ). product x (sum s x)) roots-sum ∙ cross x y

  pub linear_pos : 0 < b
  linear_pos = subst (λ (s : ℕ). 0 < s) (sym roots-sum) sum-pos

  pub constant_pos : 0 < x → 0 < y → 0 < c
  constant_pos px py = subst (λ (s : ℕ). 0 < s) (sym roots-product) (Laws.product_pos x y px xl py yl)

-- ---- from a root to the table

module _ (b c : ℕ) (bp : 0 < b) (bl : b < 64) where
  unit : product b (inverse b) ≡ 1
  unit = Laws.inverse_right b bp bl

  spread : (b x i : ℕ) → product (product (product x (sum b x)) i) i ≡ product (product x i) (sum (product x i) (product b i))
  spread b x i = simp Laws.ring

  pub quotient_small : (x : ℕ) → quadratic b c x ≡ 0 → product (product c (inverse b)) (inverse b) < 32
  quotient_small x r =
      let t : ℕ = product x (inverse b) in
      subst (λ (u : ℕ). u < 32)
      (sym
      (ap (λ (e : ℕ). product (product e (inverse b)) (inverse b)) (Laws.sum_eq c (product x (sum b x)) r)
      ∙ spread b x (inverse b) ∙ ap (λ (e : ℕ). product t (sum t e)) unit))
      (half_small t (Laws.product_lt x (inverse b)))

  -- ---- and back

  gathered : (b y e : ℕ) → product (product b y) (sum (product b e) (product b y)) ≡ product (product b b) (product y (sum y e))
  gathered b y e = simp Laws.ring

  squares : (b c i : ℕ) → product (product b b) (product (product c i) i) ≡ product c (product (product b i) (product b i))
  squares b c i = simp Laws.ring

  module _ (cl : c < 64) (y : ℕ) (half : product y (sum y 1) ≡ product (product c (inverse b)) (inverse b)) where
    square_is : product (product b y) (sum b (product b y)) ≡ c
    square_is =
        ap (λ (e : ℕ). product (product b y) (sum e (product b y))) (sym (Laws.product_one b bl))
        ∙ gathered b y 1 ∙ ap (product (product b b)) half ∙ squares b c (inverse b)
        ∙ ap (λ (e : ℕ). product c (product e e)) unit ∙ ap (product c) (Laws.product_one 1 (omega arith)) ∙ Laws.product_one c cl

    pub half_root : quadratic b c (product b y) ≡ 0
    half_root = ap (sum c) square_is ∙ Laws.sum_self c

-- the other root of two
pub other_root : (b c x : ℕ) → quadratic b c (sum x b) ≡ quadratic b c x
other_root b c x = simp Laws.ring

pub at_zero : (b c : ℕ) → quadratic b c 0 ≡ c
at_zero b c = simp Laws.ring

pub other_apart : (b x : ℕ) → 0 < b → sum x b ≡ x → ⊥
other_apart b x p e =
    let z : b ≡ 0 = sym (Laws.sum_undo x b) ∙ ap (sum x) e ∙ Laws.sum_self x in
    omega arith

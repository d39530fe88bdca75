-- The ways in which roots are found, or told to be none.
use mathlib.Core.Path.{◌≡◌, refl, sym, ap, ap₂, ◌∙◌, subst}
use mathlib.Core.List.{List, [], ◌∷◌}
use Prim.Native.Nat.{ℕ, zero, suc, ◌-◌, ◌%◌, ◌<◌, ◌≤◌}
use native.Mathlib.Nat.{mod-eq_of_lt}
use native.Mathlib.Omega.{arith}
use lib.ListN.{length, get_or, set, drop, length-set}
use lib.Seq.{drop-cons, get_or-set_same, drop-set-lt}
use lib.Bits.{bit_xor}
use Rattle.std.specs.Prelude.{Some, None}
use Rattle.std.proofs.lemmas.Option.{none-some, same_Some}
use Rattle.numbers.proofs.Cases.{pos_of_not_zero}
use Rattle.field.specs.Field.{sum, product}
use Rattle.field.specs.Inside.{inverse}
use Rattle.field.proofs.Laws
use Rattle.polynomial.specs.Polynomial.{poly_at, over}
use Rattle.polynomial.specs.Roots.{Monic, Split}
use Rattle.polynomial.proofs.Division.{over_get, tail_value}
use Rattle.polynomial.proofs.Splitting.{divided_monic, split_back, others_split, simple}
use Rattle.locations.specs.declared.Division.{Division}
use Rattle.locations.specs.Roots.{Finds, Divides, Root, Tried, halves}
use Rattle.locations.proofs.Halving.{half_is, quadratic, linear_pos, constant_pos, quotient_small, half_root, other_root, at_zero, other_apart}

-- ---- what is found, and what is told to be none

found_told : (p : List ℕ) (d : ℕ) (rs : List ℕ) → length rs ≡ 5 → (Monic p d → Split p d (drop (5 - d) rs)) → Finds p d (Some rs)
found_told p d rs long split =
    record {
      long = λ r e. subst (λ (r : List ℕ). length r ≡ 5) (same_Some rs r e) long;
      split = λ r e m. subst (λ (r : List ℕ). Split p d (drop (5 - d) r)) (same_Some rs r e) (split m);
      none = λ e. absurd (none-some rs (sym e));
    }

none_told : (p : List ℕ) (d : ℕ) → ((rs : List ℕ) → Split p d rs → ⊥) → Finds p d None
none_told p d never = record { long = λ r e. absurd (none-some r e); split = λ r e. absurd (none-some r e); none = λ _. never }

-- ---- the value where the degree is one or two, of each coefficient the low six bits

coefficient : (p : List ℕ) (d k : ℕ) → Monic p d → get_or p k 0 ≡ get_or p k 0 % 64
coefficient p d k m = sym (mod-eq_of_lt (m.small k))

top_value : (p : List ℕ) (n x : ℕ) → Monic p (suc n) → poly_at (drop (suc n) p) x ≡ 1
top_value p n x m = sym (over_get p x n) ∙ (divided_monic p n x m).top

linear_value : (p : List ℕ) (x : ℕ) → x < 64 → Monic p 1 → poly_at p x ≡ sum (get_or p 0 0 % 64) x
linear_value p x h m =
    tail_value p x 0 ∙ ap₂ (λ (c t : ℕ). sum c (product x t)) (coefficient p 1 0 m) (top_value p 0 x m) ∙ ap (sum (get_or p 0 0 % 64)) (Laws.product_one x h)

quadratic_value : (p : List ℕ) (x : ℕ) → x < 64 → Monic p 2 → poly_at p x ≡ quadratic (get_or p 1 0 % 64) (get_or p 0 0 % 64) x
quadratic_value p x h m =
    tail_value p x 0
    ∙ ap₂ (λ (c t : ℕ). sum c (product x t)) (coefficient p 2 0 m)
    (tail_value p x 1
    ∙ ap₂ (λ (b t : ℕ). sum b (product x t)) (coefficient p 2 1 m) (top_value p 1 x m)
    ∙ ap (sum (get_or p 1 0 % 64)) (Laws.product_one x h))

-- ---- degree one

pub linear_none : (p : List ℕ) → get_or p 0 0 % 64 ≡ 0 → Finds p 1 None
linear_none p e = none_told p 1 never
  where
    never : (rs : List ℕ) → Split p 1 rs → ⊥
    never [] s = let m = s.many in omega arith
    never (x ∷ rs) s =
        let same : get_or p 0 0 % 64 ≡ x = Laws.sum_eq (get_or p 0 0 % 64) x (sym (linear_value p x s.places.1 s.monic) ∙ s.zeros.0) in
        let pos = s.places.0 in
        omega arith

pub linear_found : (p : List ℕ) → (get_or p 0 0 % 64 ≡ 0 → ⊥) → Finds p 1 (Some (0 ∷ 0 ∷ 0 ∷ 0 ∷ get_or p 0 0 % 64 ∷ []))
linear_found p d = found_told p 1 (0 ∷ 0 ∷ 0 ∷ 0 ∷ get_or p 0 0 % 64 ∷ []) refl split
  where
    split : Monic p 1 → Split p 1 (get_or p 0 0 % 64 ∷ [])
    split m =
        let c : ℕ = get_or p 0 0 % 64 in
        let small : c < 64 = omega arith in
        record {
          monic = m;
          places = (pos_of_not_zero c d, small, tt, tt);
          many = refl;
          zeros = (linear_value p c small m ∙ Laws.sum_self c, tt);
        }

-- ---- degree two

record TwoRoots (b c x y : ℕ) : Type 0 where
  x_pos : 0 < x
  x_lt : x < 64
  x_root : quadratic b c x ≡ 0
  y_pos : 0 < y
  y_lt : y < 64
  y_root : quadratic b c y ≡ 0
  apart : y ≡ x → ⊥

two_roots : (p rs : List ℕ) → Split p 2 rs → (x : ℕ) × (y : ℕ) × TwoRoots (get_or p 1 0 % 64) (get_or p 0 0 % 64) x y
two_roots p [] s = let m = s.many in absurd (omega arith)
two_roots p (x ∷ []) s = let m = s.many in absurd (omega arith)
two_roots p (x ∷ y ∷ rs) s = (
  x,
  y,
  record {
    x_pos = s.places.0;
    x_lt = s.places.1;
    x_root = sym (quadratic_value p x s.places.1 s.monic) ∙ s.zeros.0;
    y_pos = s.places.3.0;
    y_lt = s.places.3.1;
    y_root = sym (quadratic_value p y s.places.3.1 s.monic) ∙ s.zeros.1.0;
    apart = s.places.2.0;
  },
)

pub double_root : (p : List ℕ) → get_or p 1 0 % 64 ≡ 0 → Finds p 2 None
double_root p e = none_told p 2 never
  where
    never : (rs : List ℕ) → Split p 2 rs → ⊥
    never rs s =
        let (x, y, t) = two_roots p rs s in
        let pos = linear_pos (get_or p 1 0 % 64) (get_or p 0 0 % 64) x y (omega arith) t.x_lt t.y_lt t.apart t.x_root t.y_root in
        omega arith

pub root_zero : (p : List ℕ) → get_or p 0 0 % 64 ≡ 0 → Finds p 2 None
root_zero p e = none_told p 2 never
  where
    never : (rs : List ℕ) → Split p 2 rs → ⊥
    never rs s =
        let (x, y, t) = two_roots p rs s in
        let pos =
        constant_pos (get_or p 1 0 % 64) (get_or p 0 0 % 64) x y (omega arith) t.x_lt t.y_lt t.apart t.x_root t.y_root t.x_pos t.y_pos
        in
        omega arith

-- u is c / b²
quotient_is : (b c v u : ℕ) → v ≡ product c (inverse b) → u ≡ product v (inverse b) → u ≡ product (product c (inverse b)) (inverse b)
quotient_is b c v u ev eu = eu ∙ ap (λ (z : ℕ). product z (inverse b)) ev

pub no_half : (p : List ℕ) (v u : ℕ) → (get_or p 1 0 % 64 ≡ 0 → ⊥) → v ≡ product (get_or p 0 0 % 64) (inverse (get_or p 1 0 % 64))
    → u ≡ product v (inverse (get_or p 1 0 % 64)) → 32 ≤ u → Finds p 2 None
no_half p v u d ev eu h = none_told p 2 never
  where
    never : (rs : List ℕ) → Split p 2 rs → ⊥
    never rs s =
        let b : ℕ = get_or p 1 0 % 64 in
        let c : ℕ = get_or p 0 0 % 64 in
        let (x, y, t) = two_roots p rs s in
        let small = quotient_small b c (pos_of_not_zero b d) (omega arith) x t.x_root in
        let is = quotient_is b c v u ev eu in
        omega arith

-- each way to none of degree two
pub ruleset none_of_two = (double_root, root_zero, no_half)

pub two_found : (p : List ℕ) (v u y x : ℕ) → (get_or p 1 0 % 64 ≡ 0 → ⊥) → (get_or p 0 0 % 64 ≡ 0 → ⊥)
    → v ≡ product (get_or p 0 0 % 64) (inverse (get_or p 1 0 % 64)) → u ≡ product v (inverse (get_or p 1 0 % 64)) → u < 32 → y ≡ get_or halves u 0
    → x ≡ product (get_or p 1 0 % 64) y → Finds p 2 (Some (0 ∷ 0 ∷ 0 ∷ x ∷ bit_xor x (get_or p 1 0 % 64) ∷ []))
unfolding sum
two_found p v u y x db dc ev eu small ey ex = found_told p 2 (0 ∷ 0 ∷ 0 ∷ x ∷ sum x b ∷ []) refl two
  where
    b : ℕ
    b = get_or p 1 0 % 64

    c : ℕ
    c = get_or p 0 0 % 64

    half : product y (sum y 1) ≡ product (product c (inverse b)) (inverse b)
    half = ap (λ (z : ℕ). product z (sum z 1)) ey ∙ half_is u small ∙ quotient_is b c v u ev eu

    root : quadratic b c x ≡ 0
    root = ap (quadratic b c) ex ∙ half_root b c (pos_of_not_zero b db) (omega arith) (omega arith) y half

    -- 0 is no root
    not-zero : (z : ℕ) → quadratic b c z ≡ 0 → 0 < z
    not-zero z r = pos_of_not_zero z (λ e. dc (sym (at_zero b c) ∙ ap (quadratic b c) (sym e) ∙ r))

    x_lt : x < 64
    x_lt = subst (λ (z : ℕ). z < 64) (sym ex) (Laws.product_lt b y)

    other : quadratic b c (sum x b) ≡ 0
    other = other_root b c x ∙ root

    other-lt : sum x b < 64
    other-lt = Laws.sum_lt x b x_lt (omega arith)

    two : Monic p 2 → Split p 2 (x ∷ sum x b ∷ [])
    two m =
        record {
          monic = m;
          places = (not-zero x root, x_lt, (other_apart b x (pos_of_not_zero b db), tt), (not-zero (sum x b) other, other-lt, tt, tt));
          many = refl;
          zeros = (quadratic_value p x x_lt m ∙ root, (quadratic_value p (sum x b) other-lt m ∙ other, tt));
        }

-- ---- any degree

pub no_root : (p : List ℕ) (d : ℕ) → (d ≡ 0 → ⊥) → Tried p None → Finds p d None
no_root p d h t = none_told p d never
  where
    never : (rs : List ℕ) → Split p d rs → ⊥
    never [] s = h (sym s.many)
    never (y ∷ rs) s = t.none refl y (record { pos = s.places.0; small = s.places.1; zero = s.zeros.0 })

-- ---- a root divided out

pub root_twice : (p : List ℕ) (d x : ℕ) (once twice : Division) → (d ≡ 0 → ⊥) → Tried p (Some x) → Divides p x once → Divides once.quotient x twice
    → twice.remainder ≡ 0 → Finds p d None
root_twice p zero x once twice h t o w z = absurd (h refl)
root_twice p (suc k) x once twice h t o w z =
    let a = t.found x refl in
    none_told p (suc k)
    (λ rs s. simple p k x s.monic a.pos a.small a.zero rs s (ap (λ (q : List ℕ). poly_at q x) (sym o.quotient) ∙ sym w.remainder ∙ z))

less : (n : ℕ) → suc n - 1 ≡ n
less n = omega arith

pub rest_none : (p : List ℕ) (d x : ℕ) (once : Division) → (d ≡ 0 → ⊥) → Tried p (Some x) → Divides p x once → Finds once.quotient (d - 1) None
    → Finds p d None
rest_none p zero x once h t o f = absurd (h refl)
rest_none p (suc n) x once h t o f =
    let a = t.found x refl in
    none_told p (suc n)
    (λ rs s.
    let others = others_split p n x s.monic a.pos a.small a.zero rs s in
    f.none refl others.0
    (subst (λ (k : ℕ). Split once.quotient k others.0) (sym (less n)) (subst (λ (q : List ℕ). Split q n others.0) (sym o.quotient) others.1)))

pub one_more : (p : List ℕ) (d x : ℕ) (once twice : Division) (rs : List ℕ) → (d ≡ 0 → ⊥) → d ≤ 5 → Tried p (Some x) → Divides p x once
    → Divides once.quotient x twice → (twice.remainder ≡ 0 → ⊥) → Finds once.quotient (d - 1) (Some rs) → Finds p d (Some (set rs (5 - d) x))
one_more p zero x once twice rs h b t o w z f = absurd (h refl)
one_more p (suc n) x once twice rs h b t o w z f =
    found_told p (suc n) (set rs (5 - suc n) x) (length-set rs (5 - suc n) x ∙ f.long rs refl)
    (λ m.
    subst (Split p (suc n)) (sym (list rs n b (f.long rs refl)))
    (split_back p n x m a.pos a.small a.zero (drop (5 - n) rs) not-again (rest.split rs refl (divided_monic p n x m))))
  where
    a : Root p x
    a = t.found x refl

    rest : Finds (over p x) n (Some rs)
    rest = subst (λ (k : ℕ). Finds (over p x) k (Some rs)) (less n) (subst (λ (q : List ℕ). Finds q (suc n - 1) (Some rs)) o.quotient f)

    not-again : poly_at (over p x) x ≡ 0 → ⊥
    not-again q = z (w.remainder ∙ ap (λ (l : List ℕ). poly_at l x) o.quotient ∙ q)

    -- x stands before the rest
    list : (l : List ℕ) (n : ℕ) → suc n ≤ 5 → length l ≡ 5 → drop (5 - suc n) (set l (5 - suc n) x) ≡ x ∷ drop (5 - n) l
    list l n b long =
        let at : ℕ = 5 - suc n in
        let inside : at < length l = omega arith in
        let next : suc at ≡ 5 - n = omega arith in
        drop-cons (set l at x) at 0 (let k = length-set l at x in omega arith)
        ∙ ap₂ (λ (y : ℕ) (m : List ℕ). y ∷ m) (get_or-set_same l at x 0 inside)
        (drop-set-lt (suc at) l at x (omega arith) ∙ ap (λ (k : ℕ). drop k l) next)

-- A polynomial with as many roots as its degree, divided by x + r for one of them.
use mathlib.Core.Path.{◌≡◌, refl, ap, ap₂, ◌∙◌, subst}
use mathlib.Core.Logic.{⊎_elim}
use mathlib.Core.List.{List, [], ◌∷◌}
use Prim.Native.Nat.{ℕ, suc, ◌<◌}
use native.Mathlib.Omega.{arith}
use lib.ListN.{length, get_or}
use Rattle.numbers.proofs.Cases.{same_or_not}
use Rattle.field.specs.Field.{sum, product}
use Rattle.field.proofs.Laws
use Rattle.polynomial.specs.Sums.{Fresh, Places}
use Rattle.polynomial.specs.Polynomial.{poly_at, ZeroAt, over}
use Rattle.polynomial.specs.Roots.{Monic, Split}
use Rattle.polynomial.proofs.Division.{over_at, over_get, tail_value, poly_past, over_small, over_zeros, roots_all}

-- ---- one of some places left out

record Without (x : ℕ) (rs os : List ℕ) : Type 0 where
  many : length rs ≡ suc (length os)
  places : Places os
  fresh : Fresh x os
  apart : (y : ℕ) → Fresh y rs → Fresh y os
  zeros : (ps : List ℕ) → ZeroAt ps rs → ZeroAt ps os

without : (x : ℕ) (rs : List ℕ) → Places rs → (Fresh x rs → ⊥) → (os : List ℕ) × Without x rs os
without x [] pl h = absurd (h tt)
without x (y ∷ ys) pl h =
    ⊎_elim
    (λ (e : y ≡ x).
    (ys, record { many = refl; places = pl.3; fresh = subst (λ (z : ℕ). Fresh z ys) e pl.2; apart = λ z f. f.1; zeros = λ ps z. z.1 }))
    (λ (d : y ≡ x → ⊥).
    let r = without x ys pl.3 (λ f. h (d, f)) in (
      y ∷ r.0,
      record {
        many = ap suc r.1.many;
        places = (pl.0, pl.1, r.1.apart y pl.2, r.1.places);
        fresh = (d, r.1.fresh);
        apart = λ z f. (f.0, r.1.apart z f.1);
        zeros = λ ps z. (z.0, r.1.zeros ps z.1);
      },
    ))
    (same_or_not y x)

-- ---- no more roots than the degree

pub too_many : (p rs : List ℕ) (d : ℕ) → Monic p d → Places rs → d < length rs → ZeroAt p rs → ⊥
too_many p rs d m pl l z =
    let e : get_or p d 0 ≡ 0 = roots_all rs p (suc d) l m.past pl m.small z d in
    let t = m.top in
    omega arith

-- ---- the quotient by x + r

module _ (p : List ℕ) (n x : ℕ) (m : Monic p (suc n)) where
  pub divided_monic : Monic (over p x) n
  divided_monic =
      record {
        top =
            over_get p x n ∙ tail_value p x (suc n)
            ∙ ap₂ (λ (u v : ℕ). sum u (product x v)) m.top (poly_past p x (suc (suc n)) m.past)
            ∙ ap (sum 1) (Laws.product_zero x) ∙ Laws.sum_zero 1;
        past = λ k h. over_get p x k ∙ poly_past p x (suc k) (λ i g. m.past i (omega arith));
        small = over_small p x m.small;
      }

  module _ (pos : 0 < x) (lt : x < 64) (root : poly_at p x ≡ 0) where
    back-zeros : (os : List ℕ) → ZeroAt (over p x) os → ZeroAt p os
    back-zeros [] z = tt
    back-zeros (y ∷ ys) z = (
      over_at p x y ∙ ap₂ (λ (u v : ℕ). sum (product (sum y x) u) v) z.0 root ∙ ap (λ (u : ℕ). sum u 0) (Laws.product_zero (sum y x)) ∙ Laws.sum_self 0,
      back-zeros ys z.1,
    )

    others : (poly_at (over p x) x ≡ 0 → ⊥) → (os : List ℕ) → ZeroAt (over p x) os → Fresh x os
    others simple [] z = tt
    others simple (y ∷ ys) z = (λ e. simple (subst (λ (t : ℕ). poly_at (over p x) t ≡ 0) e z.0), others simple ys z.1)

    -- where x is not a root twice, p splits where the quotient does
    pub split_back : (os : List ℕ) → (poly_at (over p x) x ≡ 0 → ⊥) → Split (over p x) n os → Split p (suc n) (x ∷ os)
    split_back os simple s =
        record {
          monic = m;
          places = (pos, lt, others simple os s.zeros, s.places);
          many = ap suc s.many;
          zeros = (root, back-zeros os s.zeros);
        }

    -- and the quotient where p does, over the other roots
    module _ (rs : List ℕ) (s : Split p (suc n) rs) where
      not-fresh : Fresh x rs → ⊥
      not-fresh f = too_many p (x ∷ rs) (suc n) m (pos, lt, f, s.places) (let l = s.many in omega arith) (root, s.zeros)

      split-over : (os : List ℕ) × Split (over p x) n os × Fresh x os
      split-over =
          let w = without x rs s.places not-fresh in (
            w.0,
            record {
              monic = divided_monic;
              places = w.1.places;
              many = (let a = w.1.many in let b = s.many in omega arith);
              zeros = over_zeros p x w.0 m.small lt w.1.fresh w.1.places root (w.1.zeros p s.zeros);
            },
            w.1.fresh,
          )

      pub others_split : (os : List ℕ) × Split (over p x) n os
      others_split = (split-over.0, split-over.1)

      -- of which x is none
      pub simple : poly_at (over p x) x ≡ 0 → ⊥
      simple z =
          let o = split-over in
          too_many (over p x) (x ∷ o.0) n divided_monic (pos, lt, o.2, o.1.places) (let l = o.1.many in omega arith) (z, o.1.zeros)

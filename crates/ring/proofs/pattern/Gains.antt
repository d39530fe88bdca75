-- What the marks of a start add to a pattern of errors: one mark, and the three of each start, from the errors twice round the ring.
use mathlib.Core.Path.{◌≡◌, sym, ap, ap₂, ◌∙◌, subst}
use mathlib.Core.Bool.{Bool, true, false, cond}
use mathlib.Core.Logic.{⊎_elim}
use mathlib.Core.List.{List}
use Prim.Native.Nat.{ℕ, ◌+◌, ◌-◌, ◌%◌, ◌<◌, ◌≤◌}
use native.Mathlib.Omega.{arith}
use lib.Dec.{eqb}
use lib.ListN.{length, get_or, set, length-set}
use lib.Seq.{get_or-set_same, get_or-set_other}
use borrow.Author.Count.{below_none, below_more}
use borrow.Author.Tests.{eq-eqb, ne_eqb}
use Rattle.numbers.proofs.Cases.{le_or_lt}
use Rattle.ring.specs.Inside.{place_of, gain, gains, AllGains, Twice}
use Rattle.ring.proofs.Loops.{place_forward, place_backward}

-- ---- one mark

module _ (v m : ℕ) where
  pub gain_same : v ≡ m → 0 ≡ gain v m
  unfolding gain
  gain_same e = ap (λ (b : Bool). cond b 0 (cond (eqb v 0) 2 1)) (sym (eq-eqb v m e))

  module _ (d : v ≡ m → ⊥) where
    pub gain_none : v ≡ 0 → 2 ≡ gain v m
    unfolding gain
    gain_none e = ap₂ (λ (b c : Bool). cond b 0 (cond c 2 1)) (sym (ne_eqb v m d)) (sym (eq-eqb v 0 e))

    pub gain_other : (v ≡ 0 → ⊥) → 1 ≡ gain v m
    unfolding gain
    gain_other z = ap₂ (λ (b c : Bool). cond b 0 (cond c 2 1)) (sym (ne_eqb v m d)) (sym (ne_eqb v 0 z))

  pub gain_most : gain v m ≤ 2
  unfolding gain
  gain_most = by (eqb v m) (eqb v 0)
    where
      by : (b c : Bool) → cond b 0 (cond c 2 1) ≤ 2
      by true c = omega arith
      by false true = omega arith
      by false false = omega arith

-- ---- 126 entries, filled from the first on and from the 64th on

pub record FilledTo (f : ℕ → ℕ) (r : List ℕ) (n : ℕ) : Type 0 where
  pub most : n ≤ 63
  pub long : length r ≡ 126
  pub low : (k : ℕ) → k < n → get_or r k 0 ≡ f k
  pub high : (k : ℕ) → k < n → get_or r (k + 63) 0 ≡ f (k + 63)

module _ (f : ℕ → ℕ) (r : List ℕ) where
  filled_none : length r ≡ 126 → FilledTo f r 0
  filled_none l =
      record {
        most = omega arith;
        long = l;
        low = below_none (λ k. get_or r k 0 ≡ f k);
        high = below_none (λ k. get_or r (k + 63) 0 ≡ f (k + 63));
      }

  module _ (n : ℕ) (t : FilledTo f r n) where
    filled_more : (x y : ℕ) → n < 63 → x ≡ f n → y ≡ f (n + 63) → FilledTo f (set (set r n x) (n + 63) y) (n + 1)
    filled_more x y h ex ey =
        let l : length (set r n x) ≡ 126 = length-set r n x ∙ t.long in
        record {
          most = omega arith;
          long = length-set (set r n x) (n + 63) y ∙ l;
          low = below_more (λ k. get_or (set (set r n x) (n + 63) y) k 0 ≡ f k) n
              (λ k g.
              get_or-set_other (set r n x) (n + 63) k y 0 (λ q. omega arith) ∙ get_or-set_other r n k x 0 (λ q. omega arith) ∙ t.low k g)
              (get_or-set_other (set r n x) (n + 63) n y 0 (λ q. omega arith) ∙ get_or-set_same r n x 0 (omega (arith, t.long)) ∙ ex);
          high = below_more (λ k. get_or (set (set r n x) (n + 63) y) (k + 63) 0 ≡ f (k + 63)) n
              (λ k g.
              get_or-set_other (set r n x) (n + 63) (k + 63) y 0 (λ q. omega arith) ∙ get_or-set_other r n (k + 63) x 0 (λ q. omega arith) ∙ t.high k g)
              (get_or-set_same (set r n x) (n + 63) y 0 (omega arith) ∙ ey);
        }

    filled_all : 63 ≤ n → (k : ℕ) → k < 126 → get_or r k 0 ≡ f k
    filled_all h k g =
        ⊎_elim (λ (l : 63 ≤ k). subst (λ (i : ℕ). get_or r i 0 ≡ f i) (again l) (t.high (k - 63) (omega arith))) (λ (l : k < 63). t.low k (omega arith))
        (le_or_lt 63 k)
      where
        again : 63 ≤ k → k - 63 + 63 ≡ k
        again l = omega arith

-- ---- errors twice round the ring

abbrev pub TwiceTo : List ℕ → List ℕ → ℕ → Type 0
TwiceTo e r n = FilledTo (λ p. get_or e (p % 63) 0) r n

module _ (e r : List ℕ) where
  pub twice_none : length r ≡ 126 → TwiceTo e r 0
  twice_none = filled_none (λ p. get_or e (p % 63) 0) r

  pub twice_more : (n : ℕ) → TwiceTo e r n → n < 63 → TwiceTo e (set (set r n (get_or e n 0)) (n + 63) (get_or e n 0)) (n + 1)
  twice_more n t h =
      filled_more (λ p. get_or e (p % 63) 0) r n t (get_or e n 0) (get_or e n 0) h (ap (λ (p : ℕ). get_or e p 0) (omega arith)) (ap (λ (p : ℕ). get_or e p 0) (omega arith))

  pub twice_all : (n : ℕ) → TwiceTo e r n → 63 ≤ n → Twice e r
  twice_all n t h = record { long = t.long; at = filled_all (λ p. get_or e (p % 63) 0) r n t h }

-- ---- the marks of each start

abbrev pub GainsTo : List ℕ → List ℕ → ℕ → Type 0
GainsTo e r n = FilledTo (λ k. gains k e) r n

module _ (e r : List ℕ) where
  pub gains_none : length r ≡ 126 → GainsTo e r 0
  gains_none = filled_none (λ k. gains k e) r

  pub gains_more : (round : List ℕ) (n x y : ℕ) → Twice e round → GainsTo e r n → n < 63
      → x ≡ gain (get_or round (n + 52) 0) 32 + gain (get_or round (n + 55) 0) 8 + gain (get_or round (n + 62) 0) 1
      → y ≡ gain (get_or round (n + 63 - 52) 0) 32 + gain (get_or round (n + 63 - 55) 0) 8 + gain (get_or round (n + 63 - 62) 0) 1
      → GainsTo e (set (set r n x) (n + 63) y) (n + 1)
  gains_more round n x y w t h ex ey =
      let at : (a p : ℕ) → p < 126 → p % 63 ≡ a → (m : ℕ) → gain (get_or round p 0) m ≡ gain (get_or e a 0) m =
      λ a p l q m. ap (λ (v : ℕ). gain v m) (w.at p l ∙ ap (λ (i : ℕ). get_or e i 0) q)
      in
      let f : (a m : ℕ) → a < 63 → gain (get_or round (n + a) 0) m ≡ gain (get_or e (place_of n a) 0) m =
      λ a m l. at (place_of n a) (n + a) (omega arith) (place_forward n a h) m
      in
      let b : (a m : ℕ) → a < 63 → gain (get_or round (n + 63 - a) 0) m ≡ gain (get_or e (place_of (n + 63) a) 0) m =
      λ a m l. at (place_of (n + 63) a) (n + 63 - a) (omega arith) (place_backward (n + 63) a (omega arith)) m
      in
      filled_more (λ k. gains k e) r n t x y h
      (omega (arith, ex, f 52 32 (omega arith), f 55 8 (omega arith), f 62 1 (omega arith)))
      (omega (arith, ey, b 52 32 (omega arith), b 55 8 (omega arith), b 62 1 (omega arith)))

  pub gains_all : (n : ℕ) → GainsTo e r n → 63 ≤ n → AllGains e r
  gains_all n t h = record { long = t.long; at = filled_all (λ k. gains k e) r n t h }

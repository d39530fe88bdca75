-- The two ways out of the ratio of two sides.
use mathlib.Core.Path.{◌≡◌, refl, ap, ◌∙◌}
use Prim.Native.Nat.{ℕ, ◌+◌, ◌-◌, ◌*◌}
use lib.Ieee.{Float}
use borrow.Author.Tests.{eq-eqb, ne_eqb}
use Rattle.clarity.specs.declared.Clarity.TheVariants.{Ratio, NoSpread}
use Rattle.clarity.specs.Scan.{numerator, denominator, quotient, clarity_of}

pub flat : (n1 s1 q1 n2 s2 q2 u v a b : ℕ) → u ≡ n1 * q1 - s1 * s1 → a ≡ n2 * n2 * u → v ≡ n2 * q2 - s2 * s2 → b ≡ n1 * n1 * v → a + b ≡ 0
    → NoSpread ≡ clarity_of n1 s1 q1 n2 s2 q2
unfolding clarity_of
flat n1 s1 q1 n2 s2 q2 u v a b e f g h z =
    let d : denominator n1 s1 q1 n2 s2 q2 ≡ 0 = rw (e, g) at (rw (f, h) at z) in
    simp (eq-eqb _ 0 d)

pub steep : (n1 s1 q1 n2 s2 q2 u v a b x : ℕ) (r : Float) → u ≡ n1 * q1 - s1 * s1 → a ≡ n2 * n2 * u → v ≡ n2 * q2 - s2 * s2 → b ≡ n1 * n1 * v
    → (a + b ≡ 0 → ⊥) → x ≡ numerator n1 s1 n2 s2 → r ≡ quotient x (a + b) → Ratio r ≡ clarity_of n1 s1 q1 n2 s2 q2
unfolding clarity_of
steep n1 s1 q1 n2 s2 q2 u v a b x r e f g h z k l =
    let d : a + b ≡ denominator n1 s1 q1 n2 s2 q2 = rw (f, h, e, g) refl in
    simp (ne_eqb (denominator n1 s1 q1 n2 s2 q2) 0 (λ p. z (d ∙ p))) (ap Ratio (l ∙ rw (k, d) refl))

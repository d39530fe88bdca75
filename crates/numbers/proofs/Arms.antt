-- A `match` on a number, an arm for each number from some number on and `_` for what is left: what the last arm is told.
use mathlib.Core.Path.{◌≡◌, sym}
use mathlib.Core.Logic.{⊎_elim}
use Prim.Native.Nat.{ℕ, zero, suc, ◌+◌, ◌<◌, ◌≤◌}
use native.Mathlib.Nat.{eq-or-lt_of_le}
use native.Mathlib.Omega.{arith}

-- x is none of the n numbers from k on
abbrev pub NoneFrom : ℕ → ℕ → ℕ → Type 0
NoneFrom k zero x = Unit
NoneFrom k (suc n) x = NoneFrom k n x × (x ≡ n + k → ⊥)

-- x is none of 0 to n - 1
abbrev pub NoneBelow : ℕ → ℕ → Type 0
NoneBelow = NoneFrom 0

none_from : (k n x : ℕ) → k ≤ x → NoneFrom k n x → n + k ≤ x
none_from k zero x b h = omega arith
none_from k (suc n) x b h = let l : n + k ≤ x = none_from k n x b h.0 in ⊎_elim (λ e. absurd (h.1 (sym e))) (λ (g : n + k < x). omega arith) (eq-or-lt_of_le l)

pub none_below : (n x : ℕ) → NoneBelow n x → n ≤ x
none_below n x h = omega (arith, none_from 0 n x (omega arith) h)

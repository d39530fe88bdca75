-- A system and that of the low six bits of its entries are solved by the same numbers.
use mathlib.Core.Path.{◌≡◌, sym, ap, ◌∙◌, subst}
use mathlib.Core.List.{List, []}
use Prim.Native.Nat.{ℕ, ◌%◌, ◌<◌}
use native.Mathlib.Nat.{mod-lt, zero-lt-suc}
use lib.ListN.{get_or}
use Rattle.std.proofs.Math.ListN.{get_or-map}
use Rattle.matrix.specs.System.{at, dot, Null}
use Rattle.matrix.specs.Inside.{Entries, low_row, low_rows}
use Rattle.matrix.proofs.Dots.{dot_low}

low_at : (m : List (List ℕ)) (i k : ℕ) → at (low_rows m) i k ≡ at m i k % 64
low_at m i k = ap (λ (row : List ℕ). get_or row k 0) (get_or-map low_row m i []) ∙ get_or-map (λ (x : ℕ). x % 64) (get_or m i []) k 0

pub low_entries : (m l : List (List ℕ)) → l ≡ low_rows m → Entries l
low_entries m l e =
    subst Entries (sym e) (record { small = λ i k. subst (λ (x : ℕ). x < 64) (sym (low_at m i k)) (mod-lt (at m i k) (zero-lt-suc 63)) })

low_dot : (n : ℕ) (m : List (List ℕ)) (q : ℕ → ℕ) (i : ℕ) → dot n (at (low_rows m) i) q ≡ dot n (at m i) q
low_dot n m q i = dot_low n (at m i) (at (low_rows m) i) q (λ k _. low_at m i k)

pub low_null : (n : ℕ) (m : List (List ℕ)) (q : ℕ → ℕ) → Null n m q → Null n (low_rows m) q
low_null n m q z i l = low_dot n m q i ∙ z i l

pub null_low : (n : ℕ) (m : List (List ℕ)) (q : ℕ → ℕ) → Null n (low_rows m) q → Null n m q
null_low n m q z i l = sym (low_dot n m q i) ∙ z i l

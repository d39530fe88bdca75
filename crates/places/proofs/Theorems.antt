-- The logarithm that is promised is one.
use mathlib.Core.Path.{◌≡◌, sym, ◌∙◌}
use mathlib.Core.Logic.{⊎_elim}
use Prim.Native.Nat.{ℕ, ◌%◌}
use Rattle.numbers.proofs.Cases.{same_or_not}
use Rattle.field.proofs.Theorems.{one_log}
use Rattle.places.specs.Logs.{LogOf}

pub one_log_of : (x r s : ℕ) → LogOf x r → LogOf x s → r ≡ s
one_log_of x r s p q =
    ⊎_elim (λ (z : x % 64 ≡ 0). p.none z ∙ sym (q.none z))
    (λ (d : x % 64 ≡ 0 → ⊥).
    one_log (x % 64) r s (record { below = p.below; is = p.is d }) (record { below = q.below; is = q.is d }))
    (same_or_not (x % 64) 0)

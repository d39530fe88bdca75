-- The tables of powers and of logarithms: a test over the whole of each, and the rule that it gives at each entry.
use mathlib.Core.Path.{◌≡◌, refl, sym, ◌∙◌, subst}
use mathlib.Core.Bool.{Bool, cond}
use mathlib.Core.Logic.{⊎_elim}
use mathlib.Core.List.{List}
use Prim.Native.Nat.{ℕ, ◌%◌}
use native.Mathlib.Omega.{arith}
use lib.Dec.{T, eqb, eqb→eq, ltb, ltb→lt}
use lib.ListN.{get_or}
use borrow.Author.Tests.{ne_eqb}
use Rattle.numbers.proofs.Cases.{not_zero_of_pos, same_or_not}
use Rattle.numbers.proofs.Entries.{full, full_at, unless}
use Rattle.numbers.proofs.Range.{both, both_left, both_right}
use Rattle.field.specs.Field.{α, power}
use Rattle.field.proofs.Laws
use Rattle.places.specs.Logs.{LogOf}

abbrev pub right_power : ℕ → ℕ → Bool
right_power k v = eqb v (power α k)

pub power_there : (vs : List ℕ) → T (full 64 right_power vs) → (l : ℕ) → get_or vs (l % 64) 0 ≡ power α (l % 64)
power_there vs t l = eqb→eq _ _ (full_at 64 right_power 0 vs t (l % 64) (omega arith))

-- r is an exponent below 63 whose power is k, and 0 where k is 0
abbrev pub right_log : ℕ → ℕ → Bool
right_log k r = cond (eqb k 0) (eqb r 0) (both (ltb r 63) (eqb (power α r) k))

log_none : (x r : ℕ) → T (right_log 0 r) → x % 64 ≡ 0 → LogOf x r
log_none x r t q = let z : r ≡ 0 = eqb→eq r 0 t in record { below = omega arith; is = λ d. absurd (d q); none = λ e. z }

log_some : (x k r : ℕ) → x % 64 ≡ k → (k ≡ 0 → ⊥) → T (right_log k r) → LogOf x r
log_some x k r q d t =
    let s : T (both (ltb r 63) (eqb (power α r) k)) = unless (eqb k 0) (eqb r 0) (both (ltb r 63) (eqb (power α r) k)) (ne_eqb k 0 d) t in
    let e : power α r ≡ x % 64 = eqb→eq (power α r) k (both_right (ltb r 63) (eqb (power α r) k) s) ∙ sym q in
    record {
      below = ltb→lt r 63 (both_left (ltb r 63) (eqb (power α r) k) s);
      is = λ z. e;
      none = λ z. absurd (not_zero_of_pos (Laws.power_pos α r (omega arith) (omega arith)) (e ∙ z));
    }

pub log_there : (rs : List ℕ) → T (full 64 right_log rs) → (x : ℕ) → LogOf x (get_or rs (x % 64) 0)
log_there rs t x =
    let here : T (right_log (x % 64) (get_or rs (x % 64) 0)) = full_at 64 right_log 0 rs t (x % 64) (omega arith) in
    ⊎_elim (λ (e : x % 64 ≡ 0). log_none x (get_or rs (x % 64) 0) (subst (λ (k : ℕ). T (right_log k (get_or rs (x % 64) 0))) e here) e)
    (λ (d : x % 64 ≡ 0 → ⊥). log_some x (x % 64) (get_or rs (x % 64) 0) refl d here) (same_or_not (x % 64) 0)

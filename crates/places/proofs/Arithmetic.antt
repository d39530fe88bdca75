-- Products and quotients by logarithms: what is not 0 is a power of α, and exponents are added and subtracted modulo 63.
use mathlib.Core.Path.{◌≡◌, sym, ap, ap₂, ◌∙◌}
use Prim.Native.Nat.{ℕ, ◌+◌, ◌-◌, ◌%◌, ◌<◌, ◌≤◌}
use native.Mathlib.Omega.{arith}
use Rattle.numbers.proofs.Cases.{not_zero_of_pos}
use Rattle.field.specs.Field.{product, α, power}
use Rattle.field.specs.Inside.{inverse}
use Rattle.field.proofs.Laws
use Rattle.places.specs.Logs.{LogOf}

-- a power whose exponent the code took modulo 63, in a byte
power_taken : (k : ℕ) → power α (k % 63 % 64) ≡ power α k
power_taken k = ap (power α) (low k) ∙ Laws.power_mod k
  where
    low : (k : ℕ) → k % 63 % 64 ≡ k % 63
    low k = omega arith

low_lt : (u : ℕ) → u % 64 < 64
low_lt u = omega arith

-- ---- products

pub times_zero : (u v : ℕ) → u % 64 ≡ 0 → 0 ≡ product u v
times_zero u v z = sym (sym (Laws.product_low u v) ∙ ap (λ (t : ℕ). product t v) z ∙ Laws.zero_product v)

pub times_zero_right : (u v : ℕ) → v % 64 ≡ 0 → 0 ≡ product u v
times_zero_right u v z = times_zero v u z ∙ Laws.product_comm v u

pub times_logs : (u v m n : ℕ) → LogOf u m → LogOf v n → m + n < 256
times_logs u v m n g h = let a = g.below in let b = h.below in omega arith

pub times_is : (u v m n r : ℕ) → (u % 64 ≡ 0 → ⊥) → (v % 64 ≡ 0 → ⊥) → LogOf u m → LogOf v n → r ≡ power α ((m + n) % 63 % 64) → r ≡ product u v
times_is u v m n r d f g h e =
    e ∙ power_taken (m + n) ∙ Laws.power_add α m n ∙ ap₂ product (g.is d) (h.is f) ∙ Laws.product_low u (v % 64) ∙ Laws.product_low_right u v

-- ---- quotients

pub over_zero : (u v : ℕ) → u % 64 ≡ 0 → 0 ≡ product u (inverse v)
over_zero u v z = times_zero u (inverse v) z

pub over_logs : (u v m n : ℕ) → LogOf u m → LogOf v n → (m + 63 < 256) × (n ≤ m + 63)
over_logs u v m n g h = let a = g.below in let b = h.below in (omega arith, omega arith)

pub over_is : (u v m n r : ℕ) → 0 < v % 64 → (u % 64 ≡ 0 → ⊥) → LogOf u m → LogOf v n → r ≡ power α ((m + 63 - n) % 63 % 64) → r ≡ product u (inverse v)
over_is u v m n r b d g h e =
    let a : ℕ = u % 64 in
    let c : ℕ = v % 64 in
    let iu : power α m ≡ a = g.is d in
    let iv : power α n ≡ c = h.is (not_zero_of_pos b) in
    -- times the divisor it is the dividend
    let back : product (power α (m + 63 - n)) c ≡ a =
    ap (product (power α (m + 63 - n))) (sym iv) ∙ sym (Laws.power_add α (m + 63 - n) n) ∙ ap (power α) (whole m n h.below) ∙ Laws.power_add α m 63
    ∙ ap₂ product iu Laws.power_period ∙ Laws.product_one a (low_lt u)
    in
    e ∙ power_taken (m + 63 - n)
    ∙ sym (Laws.product_one (power α (m + 63 - n)) (Laws.power_lt α (m + 63 - n)))
    ∙ ap (product (power α (m + 63 - n))) (sym (Laws.inverse_right c b (low_lt v)))
    ∙ sym (Laws.product_assoc (power α (m + 63 - n)) c (inverse c))
    ∙ ap₂ product back (sym (Laws.inverse_low v)) ∙ Laws.product_low u (inverse v)
  where
    whole : (m n : ℕ) → n < 63 → m + 63 - n + n ≡ m + 63
    whole m n l = omega arith

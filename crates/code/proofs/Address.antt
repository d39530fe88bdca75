-- One wrong character of a clean word: its sums, and the address that they give.
use mathlib.Core.Path.{◌≡◌, sym, ap, ap₂, ◌∙◌}
use mathlib.Core.List.{List}
use Prim.Native.Nat.{ℕ, ◌+◌, ◌-◌, ◌*◌, ◌%◌, ◌<◌}
use native.Mathlib.Omega.{arith}
use lib.ListN.{get_or}
use Rattle.field.specs.Field.{sum, product, α, power, Log, Quotient}
use Rattle.field.proofs.Laws
use Rattle.field.proofs.Theorems.{one_log}
use Rattle.code.specs.Word.{power_sum, Clean}
use Rattle.code.specs.Wrong.{wrong_at}
use Rattle.code.proofs.Sums.{power_sum_mod, power_sum_set}

module _ (w : List ℕ) (a v : ℕ) (c : Clean w) (ha : a < 63) (hv : v < 64) where
  wrong-sum : (j : ℕ) → power_sum j w ≡ 0 → power_sum j (wrong_at w a v) ≡ product v (power α (j * (62 - a) % 63))
  wrong-sum j z =
      power_sum_set j w a (sum (get_or w a 0) v) ha (let l = c.long in omega arith)
      ∙ ap₂ (λ (s x : ℕ). sum s (product x (power α (j * (62 - a) % 63)))) z (Laws.sum_undo (get_or w a 0) v)
      ∙ Laws.zero_sum (product v (power α (j * (62 - a) % 63)))

  -- S_0 is v
  pub zeroth_sum : power_sum 0 (wrong_at w a v) ≡ v
  unfolding power
  zeroth_sum =
      let none : 0 * (62 - a) % 63 ≡ 0 = omega arith in
      wrong-sum 0 (power_sum_mod 63 w ∙ c.sums 5 (omega arith)) ∙ ap (λ (n : ℕ). product v (power α n)) none ∙ Laws.product_one v hv

  -- S_1 is v α^(62 - a)
  pub first_sum : power_sum 1 (wrong_at w a v) ≡ product v (power α (62 - a))
  first_sum = wrong-sum 1 (power_sum_mod 64 w ∙ c.sums 6 (omega arith)) ∙ ap (λ (n : ℕ). product v (power α n)) (omega arith)

  pub sums_ratio : 0 < v → Quotient (power_sum 1 (wrong_at w a v)) (power_sum 0 (wrong_at w a v)) (power α (62 - a))
  sums_ratio p =
      record {
        divisor = rw zeroth_sum p;
        element = Laws.power_lt α (62 - a);
        exact = ap (λ (x : ℕ). product x (power α (62 - a))) zeroth_sum ∙ sym first_sum;
      }

  -- α^m is α^n α^(62 - a)
  logs-differ : (m n : ℕ) → Log (power_sum 1 (wrong_at w a v)) m → Log (power_sum 0 (wrong_at w a v)) n → m ≡ (n + (62 - a)) % 63
  logs-differ m n p q =
      one_log (power_sum 1 (wrong_at w a v)) m ((n + (62 - a)) % 63) p
      (record {
        below = omega arith;
        is = Laws.power_mod (n + (62 - a)) ∙ Laws.power_add α n (62 - a)
            ∙ ap (λ (x : ℕ). product x (power α (62 - a))) (q.is ∙ zeroth_sum) ∙ sym first_sum;
      })

  pub address_by_logs : (m n : ℕ) → Log (power_sum 1 (wrong_at w a v)) m → Log (power_sum 0 (wrong_at w a v)) n → a ≡ (62 + (63 + n - m)) % 63
  address_by_logs m n p q =
      let e = logs-differ m n p q in
      let h = p.below in
      let l = q.below in
      omega arith

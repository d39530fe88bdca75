-- One wrong character of a clean word, and what the first two power sums tell of it: its value and its address.
use Rattle.std.specs.Prelude.{◌≡◌, List, ℕ, ◌+◌, ◌-◌, ◌%◌, get_or, set}
use Rattle.field.specs.Field.{sum, product, α, power, Log, Quotient}
use Rattle.code.specs.Word.{power_sum}

-- v added at address a
abbrev pub wrong_at : List ℕ → ℕ → ℕ → List ℕ
wrong_at w a v = set w a (sum (get_or w a 0) v)

-- v, which is not 0, added at address a of a clean word: S_0 is v and S_1 is v α^(62 - a),
-- so the address of the one wrong character is 62 - (log S_1 - log S_0), modulo 63
pub record WrongCharacter (x : List ℕ) (a v : ℕ) : Type 0 where
  pub zeroth : power_sum 0 x ≡ v
  pub first : power_sum 1 x ≡ product v (power α (62 - a))
  pub ratio : Quotient (power_sum 1 x) (power_sum 0 x) (power α (62 - a))
  pub first_log : (m : ℕ) × Log (power_sum 1 x) m
  pub zeroth_log : (n : ℕ) × Log (power_sum 0 x) n
  pub address : (m n : ℕ) → Log (power_sum 1 x) m → Log (power_sum 0 x) n → a ≡ (62 + (63 + n - m)) % 63

-- Tests that the checker computes over two, three and four ranges at once, and the law that each gives at every place.
use mathlib.Core.Bool.{Bool, true, false}
use Prim.Native.Nat.{ℕ, ◌<◌}
use lib.Dec.{T}
use Rattle.numbers.proofs.Range.{each, each_at}

abbrev pub either : Bool → Bool → Bool
either true b = true
either false b = b

abbrev pub each_two : ℕ → ℕ → (ℕ → ℕ → Bool) → Bool
each_two m n f = each m (λ i. each n (f i))

pub two_at : (m n : ℕ) (f : ℕ → ℕ → Bool) → T (each_two m n f) → (i j : ℕ) → i < m → j < n → T (f i j)
two_at m n f t i j hi hj = each_at n (f i) (each_at m (λ i. each n (f i)) t i hi) j hj

abbrev pub each_three : ℕ → ℕ → ℕ → (ℕ → ℕ → ℕ → Bool) → Bool
each_three m n p f = each m (λ i. each_two n p (f i))

pub three_at : (m n p : ℕ) (f : ℕ → ℕ → ℕ → Bool) → T (each_three m n p f) → (i j k : ℕ) → i < m → j < n → k < p → T (f i j k)
three_at m n p f t i j k hi hj hk = two_at n p (f i) (each_at m (λ i. each_two n p (f i)) t i hi) j k hj hk

abbrev pub each_four : ℕ → ℕ → ℕ → ℕ → (ℕ → ℕ → ℕ → ℕ → Bool) → Bool
each_four m n p q f = each_two m n (λ i j. each_two p q (f i j))

pub four_at : (m n p q : ℕ) (f : ℕ → ℕ → ℕ → ℕ → Bool) → T (each_four m n p q f) → (i j k l : ℕ) → i < m → j < n → k < p → l < q → T (f i j k l)
four_at m n p q f t i j k l hi hj hk hl = two_at p q (f i j) (two_at m n (λ i j. each_two p q (f i j)) t i j hi hj) k l hk hl

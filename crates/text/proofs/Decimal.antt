-- The laws of decimal numbers: the last digit apart, how long they are, and numbers after spaces.
use mathlib.Core.Path.{◌≡◌, refl, sym, ap, ◌∙◌}
use mathlib.Core.Bool.{cond}
use mathlib.Core.List.{List, [], ◌∷◌, ◌++◌, append_assoc}
use Prim.Native.Nat.{ℕ, zero, suc, ◌/◌, ◌%◌, ◌^◌, ◌<◌, ◌≤◌}
use native.Mathlib.Decide.{dec_lt}
use native.Mathlib.Nat.{not-suc-le-zero, pow-suc}
use native.Mathlib.Omega.{arith}
use lib.Dec.{ltb}
use lib.ListN.{length, length-append}
use borrow.Author.Tests.{lt-ltb, le-ltb}
use Rattle.text.specs.Text.{digit, digits_in, decimal, fields}

-- more room than digits changes nothing
same_room : (f g n : ℕ) → n < f → n < g → digits_in f n ≡ digits_in g n
unfolding digits_in
same_room zero g n h k = absurd (not-suc-le-zero h)
same_room (suc f) zero n h k = absurd (not-suc-le-zero k)
same_room (suc f) (suc g) n h k = go (dec_lt n 10) (λ l. same_room f g (n / 10) (omega arith) (omega arith))
  where
    go : Dec (n < 10) → (10 ≤ n → digits_in f (n / 10) ≡ digits_in g (n / 10))
        → cond (ltb n 10) (digit n ∷ []) (digits_in f (n / 10) ++ (digit (n % 10) ∷ [])) ≡ cond (ltb n 10) (digit n ∷ []) (digits_in g (n / 10) ++ (digit (n % 10) ∷ []))
    go (yes l) r = simp (lt-ltb n 10 l)
    go (no l) r = let m : 10 ≤ n = omega arith in simp (le-ltb n 10 m, r m)

pub decimal_small : (n : ℕ) → n < 10 → decimal n ≡ digit n ∷ []
unfolding decimal digits_in
decimal_small n h = simp (lt-ltb n 10 h)

pub decimal_more : (n : ℕ) → 10 ≤ n → decimal n ≡ decimal (n / 10) ++ (digit (n % 10) ∷ [])
unfolding decimal digits_in
decimal_more n h =
    simp (le-ltb n 10 h) (ap (λ (l : List ℕ). l ++ (digit (n % 10) ∷ [])) (same_room n (suc (n / 10)) (n / 10) (omega arith) (omega arith)))

-- what holds of one digit, and of a number where it holds of all digits but the last, holds of every number
pub by_digits : (P : ℕ → Type 0) → ((n : ℕ) → n < 10 → P n) → ((n : ℕ) → 10 ≤ n → P (n / 10) → P n) → (n : ℕ) → P n
by_digits P small more n = go (suc n) n (omega arith)
  where
    at : (m : ℕ) → Dec (m < 10) → (10 ≤ m → P (m / 10)) → P m
    at m (yes l) r = small m l
    at m (no l) r = more m (omega arith) (r (omega arith))

    go : (f m : ℕ) → m < f → P m
    go zero m h = absurd (not-suc-le-zero h)
    go (suc f) m h = at m (dec_lt m 10) (λ l. go f (m / 10) (omega arith))

-- a number has a digit
pub decimal_positive : (n : ℕ) → 0 < length (decimal n)
decimal_positive =
    by_digits (λ (n : ℕ). 0 < length (decimal n)) (λ n h. rw (decimal_small n h) (omega arith))
    (λ n h p. rw (decimal_more n h) (simp length-append (omega arith)))

-- a number below 10^(k + 1) has at most k + 1 digits
pub decimal_length : (k n : ℕ) → n < 10 ^ suc k → length (decimal n) ≤ suc k
decimal_length zero n h = rw (decimal_small n h) (omega arith)
decimal_length (suc k) n h = go (dec_lt n 10) (λ l. decimal_length k (n / 10) (omega (arith, rw pow-suc at h)))
  where
    go : Dec (n < 10) → (10 ≤ n → length (decimal (n / 10)) ≤ suc k) → length (decimal n) ≤ suc (suc k)
    go (yes l) r = rw (decimal_small n l) (omega arith)
    go (no l) r =
        let m : 10 ≤ n = omega arith in
        let i : length (decimal (n / 10)) ≤ suc k = r m in
        rw (decimal_more n m) (simp length-append (omega arith))

-- numbers after numbers
pub fields_append : (ms ns : List ℕ) → fields (ms ++ ns) ≡ fields ms ++ fields ns
unfolding fields
fields_append [] ns = refl
fields_append (m ∷ ms) ns = ap (λ (l : List ℕ). 32 ∷ (decimal m ++ l)) (fields_append ms ns) ∙ ap (λ (l : List ℕ). 32 ∷ l) (sym (append_assoc (decimal m) (fields ms) (fields ns)))

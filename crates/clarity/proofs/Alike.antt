-- There is no spread exactly where the cells of each side are all alike.
use mathlib.Core.Path.{◌≡◌, refl, sym, ap, ap₂, ◌∙◌}
use mathlib.Core.Bool.{Bool}
use mathlib.Core.Logic.{◌⊎◌, inl, inr, ⊎_elim}
use mathlib.Core.List.{List}
use Prim.Native.Nat.{ℕ, zero, suc, ◌+◌, ◌-◌, ◌*◌, ◌<◌, ◌≤◌}
use native.Mathlib.Nat.{mul_comm, mul_assoc, mul_left_comm, mul-le-mul_left, mul-pos, mul-zero, zero-mul, add-mul, zero-lt-suc, eq_of_mul-eq-mul_left, eq-or-lt_of_le, eq-zero-or-pos}
use native.Mathlib.Omega.{arith}
use lib.ListN.{length, get_or}
use Rattle.numbers.proofs.Cases.{le_or_lt}
use Rattle.clarity.specs.Scan.{dark_side, bright_side, on_side, sum_to, count, sum, squares, denominator}
use Rattle.clarity.specs.Promises.{BothSides}
use Rattle.clarity.specs.Alike.{Every, Alike}
use Rattle.clarity.proofs.Spread.{squares_grow, two_squares, cross_left, cross_right, cross, square_left, square_right, spread}

-- ---- equal only where alike

no_square : (k : ℕ) → k * k ≡ 0 → k ≡ 0
no_square zero e = refl
no_square (suc k) e = absurd (let p : 0 < suc k * suc k = mul-pos (zero-lt-suc k) (zero-lt-suc k) in omega arith)

-- 2 x c is x² + c² only where x is c
same_squares : (x c : ℕ) → x * c + x * c ≡ x * x + c * c → c ≡ x
same_squares x c e = ⊎_elim (λ (h : x ≤ c). from x c h e) (λ (h : c < x). sym (from c x (omega arith) (turned x c e))) (le_or_lt x c)
  where
    turned : (x c : ℕ) → x * c + x * c ≡ x * x + c * c → c * x + c * x ≡ c * c + x * x
    turned x c e = let m = mul_comm x c in omega arith

    up : (x k : ℕ) → x * (x + k) + x * (x + k) ≡ x * x + (x + k) * (x + k) → k ≡ 0
    up x k e = let g = squares_grow x k in no_square k (omega arith)

    from : (x c : ℕ) → x ≤ c → x * c + x * c ≡ x * x + c * c → c ≡ x
    from x c h e = let m : x + (c - x) ≡ c = omega arith in let z = up x (c - x) (rw m e) in omega arith

-- a factor above 0 goes
cancelled : (b x y : ℕ) → 0 < b → b * x ≡ b * y → x ≡ y
cancelled b x y p e = eq_of_mul-eq-mul_left b p x y e

module _ (b c : ℕ → ℕ) where
  abbrev S : ℕ → ℕ
  S n = sum_to n (λ a. b a * c a)

  abbrev N : ℕ → ℕ
  N n = sum_to n b

  abbrev Q : ℕ → ℕ
  Q n = sum_to n (λ a. b a * (c a * c a))

  -- 2 x s is x² n + q only where each value that counts is x
  each-is : (n x : ℕ) → x * S n + x * S n ≡ x * x * N n + Q n → (a : ℕ) → a < n → 0 < b a → c a ≡ x
  unfolding sum_to
  each-is zero x e a h p = absurd (omega arith)
  each-is (suc n) x e a h p =
      let i = cross n b c x in
      let j = mul-le-mul_left (b n) (two_squares x (c n)) in
      let l = cross_left x (S n) (b n) (c n) in
      let r = cross_right x (N n) (Q n) (b n) (c n) in
      let before : x * S n + x * S n ≡ x * x * N n + Q n = omega arith in
      let here : b n * (x * c n + x * c n) ≡ b n * (x * x + c n * c n) = omega arith in
      ⊎_elim
      (λ (q : a ≡ n). ap c q ∙ same_squares x (c n) (cancelled (b n) _ _ (rw q at p) here))
      (λ (q : a < n). each-is n x before a q p)
      (eq-or-lt_of_le (before-or-at a n h))
    where
      before-or-at : (a n : ℕ) → a < suc n → a ≤ n
      before-or-at a n h = omega arith

  -- s² is n q only where the values that count are all alike
  all_alike : (n : ℕ) → S n * S n ≡ N n * Q n → (i j : ℕ) → i < n → j < n → 0 < b i → 0 < b j → c i ≡ c j
  unfolding sum_to
  all_alike zero e i j hi hj pi pj = absurd (omega arith)
  all_alike (suc n) e i j hi hj pi pj =
      go (λ x y. all_alike n before i j x y pi pj) (eq-or-lt_of_le (before-or-at i hi)) (eq-or-lt_of_le (before-or-at j hj))
    where
      before-or-at : (a : ℕ) → a < suc n → a ≤ n
      before-or-at a h = omega arith

      before : S n * S n ≡ N n * Q n
      before =
          let i = spread n b c in
          let j = mul-le-mul_left (b n) (cross n b c (c n)) in
          let l = square_left (S n) (b n) (c n) in
          let r = square_right (N n) (Q n) (b n) (c n) in
          omega arith

      here : b n * (c n * S n + c n * S n) ≡ b n * (c n * c n * N n + Q n)
      here =
          let i = spread n b c in
          let j = mul-le-mul_left (b n) (cross n b c (c n)) in
          let l = square_left (S n) (b n) (c n) in
          let r = square_right (N n) (Q n) (b n) (c n) in
          omega arith

      -- those before are alike the last
      last : 0 < b n → (a : ℕ) → a < n → 0 < b a → c a ≡ c n
      last p = each-is n (c n) (cancelled (b n) _ _ p here)

      go : (i < n → j < n → c i ≡ c j) → (i ≡ n) ⊎ (i < n) → (j ≡ n) ⊎ (j < n) → c i ≡ c j
      go both (inl x) (inl y) = ap c (x ∙ sym y)
      go both (inl x) (inr y) = ap c x ∙ sym (last (rw x at pi) j y pj)
      go both (inr x) (inl y) = last (rw y at pj) i x pi ∙ sym (ap c y)
      go both (inr x) (inr y) = both x y

  -- ---- and equal where alike

  sum_alike : (n x : ℕ) → ((a : ℕ) → a < n → 0 < b a → c a ≡ x) → (S n ≡ N n * x) × (Q n ≡ N n * (x * x))
  unfolding sum_to
  sum_alike zero x h = (sym (zero-mul x), sym (zero-mul (x * x)))
  sum_alike (suc n) x h = let earlier = sum_alike n x (λ a l p. h a (omega arith) p) in (sums earlier.0, squared earlier.1)
    where
      term : (f : ℕ → ℕ) → b n * f (c n) ≡ b n * f x
      term f =
          ⊎_elim
          (λ (z : b n ≡ 0). rw z (zero-mul (f (c n)) ∙ sym (zero-mul (f x))))
          (λ (p : 0 < b n). ap (λ (v : ℕ). b n * f v) (h n (omega arith) p))
          (eq-zero-or-pos (b n))

      sums : S n ≡ N n * x → S n + b n * c n ≡ (N n + b n) * x
      sums e = ap₂ ◌+◌ e (term (λ v. v)) ∙ sym (add-mul (N n) (b n) x)

      squared : Q n ≡ N n * (x * x) → Q n + b n * (c n * c n) ≡ (N n + b n) * (x * x)
      squared e = ap₂ ◌+◌ e (term (λ v. v * v)) ∙ sym (add-mul (N n) (b n) (x * x))

  flat : (n x : ℕ) → ((a : ℕ) → a < n → 0 < b a → c a ≡ x) → S n * S n ≡ N n * Q n
  flat n x h =
      let e = sum_alike n x h in
      rw (e.0, e.1) (shifted (N n) x)
    where
      shifted : (n x : ℕ) → n * x * (n * x) ≡ n * (n * (x * x))
      shifted n x = simp (mul_assoc, mul_left_comm)

-- ---- a scan

-- a sum of two products is 0 only where each is, and a product only where one of the two is
no_part : (a b x y : ℕ) → 0 < a → 0 < b → a * a * x + b * b * y ≡ 0 → (x ≡ 0) × (y ≡ 0)
no_part a b x y p q e =
    (cancelled (a * a) x 0 (mul-pos p p) (nothing (a * a) x (omega arith)), cancelled (b * b) y 0 (mul-pos q q) (nothing (b * b) y (omega arith)))
  where
    nothing : (m x : ℕ) → m * x ≡ 0 → m * x ≡ m * 0
    nothing m x e = e ∙ sym (mul-zero m)

module _ (t : ℕ) (cells : List ℕ) where
  level : (side : Bool) → count side t cells * squares side t cells - sum side t cells * sum side t cells ≡ 0 → Alike t cells side
  unfolding count sum squares
  level side e =
      let h = spread (length cells) (λ a. on_side side t (get_or cells a 0)) (λ a. get_or cells a 0) in
      all_alike (λ a. on_side side t (get_or cells a 0)) (λ a. get_or cells a 0) (length cells) (omega arith)

  -- no spread: then the cells of each side are all alike
  pub no_spread_alike : BothSides t cells
      → denominator (count dark_side t cells) (sum dark_side t cells) (squares dark_side t cells) (count bright_side t cells) (sum bright_side t cells) (squares bright_side t cells) ≡ 0
      → Alike t cells dark_side × Alike t cells bright_side
  no_spread_alike sides e =
      let z = no_part (count bright_side t cells) (count dark_side t cells)
      (count dark_side t cells * squares dark_side t cells - sum dark_side t cells * sum dark_side t cells)
      (count bright_side t cells * squares bright_side t cells - sum bright_side t cells * sum bright_side t cells)
      sides.some_bright sides.some_dark e in
      (level dark_side z.0, level bright_side z.1)

  no_difference : (side : Bool) (x : ℕ) → Every t cells side x → count side t cells * squares side t cells - sum side t cells * sum side t cells ≡ 0
  unfolding count sum squares
  no_difference side x h =
      let e = flat (λ a. on_side side t (get_or cells a 0)) (λ a. get_or cells a 0) (length cells) x h in omega arith

  -- and where all dark cells are x and all bright ones y there is none
  pub alike_no_spread : (x y : ℕ) → Every t cells dark_side x → Every t cells bright_side y
      → denominator (count dark_side t cells) (sum dark_side t cells) (squares dark_side t cells) (count bright_side t cells) (sum bright_side t cells) (squares bright_side t cells) ≡ 0
  alike_no_spread x y d b =
      rw (no_difference dark_side x d, no_difference bright_side y b)
      (ap₂ ◌+◌ (mul-zero (count bright_side t cells * count bright_side t cells)) (mul-zero (count dark_side t cells * count dark_side t cells)))

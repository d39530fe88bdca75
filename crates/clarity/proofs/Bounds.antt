-- How large the numbers of a scan get: below 2^53, and so below 2^64.
use Prim.Native.Nat.{ℕ, ◌-◌, ◌*◌, ◌≤◌}
use native.Mathlib.Nat.{mul-le-mul}
use native.Mathlib.Omega.{arith}
use Rattle.clarity.specs.Scan.{numerator, denominator}
use Rattle.clarity.specs.Inside.{Bounded, Ordered}

pub byte_square : {x : ℕ} → x ≤ 255 → x * x ≤ 65025
byte_square h = mul-le-mul h h

pub count_squares : {n s q : ℕ} → Bounded n s q → n * q ≤ 9291032100
count_squares h = mul-le-mul h.few h.less

pub sum_sum : {n s q : ℕ} → Bounded n s q → s * s ≤ 9291032100
sum_sum h = mul-le-mul h.low h.low

pub count_count : {n : ℕ} → n ≤ 378 → n * n ≤ 142884
count_count h = mul-le-mul h h

pub weighed_le : {n v : ℕ} → n ≤ 378 → v ≤ 9291032100 → n * n * v ≤ 1327539830576400
weighed_le h k = mul-le-mul (count_count h) k

pub sum_count : {s n : ℕ} → s ≤ 96390 → n ≤ 378 → s * n ≤ 36435420
sum_count h k = mul-le-mul h k

pub square_le : {x : ℕ} → x ≤ 36435420 → x * x ≤ 1327539830576400
square_le h = mul-le-mul h h

pub difference : {n1 s1 n2 s2 : ℕ} → Ordered n1 s1 n2 s2 → s2 * n1 - s1 * n2 ≤ 36435420
difference h = omega (arith, sum_count h.low2 h.few1)

pub spread_le : {n s q : ℕ} → Bounded n s q → n * q - s * s ≤ 9291032100
spread_le h = omega (arith, count_squares h)

-- both are whole numbers that a double holds exactly
pub numerator_le : {n1 s1 n2 s2 : ℕ} → Ordered n1 s1 n2 s2 → numerator n1 s1 n2 s2 ≤ 1327539830576400
numerator_le h = square_le (difference h)

pub denominator_le : {n1 s1 q1 n2 s2 q2 : ℕ} → Bounded n1 s1 q1 → Bounded n2 s2 q2 → denominator n1 s1 q1 n2 s2 q2 ≤ 2655079661152800
denominator_le h k = omega (arith, weighed_le k.few (spread_le h), weighed_le h.few (spread_le k))

-- What the inner functions are told and tell: a side's numbers, how large they are, and that what is subtracted is never the greater.
use Rattle.std.specs.Prelude.{◌≡◌, Bool, List, ℕ, ◌+◌, ◌*◌, ◌≤◌, Result}
use Rattle.refusal.specs.declared.Refusal.{Refusal}
use Rattle.clarity.specs.declared.Scan.{Scan}
use Rattle.clarity.specs.Scan.{dark_side, on_side, count, sum, squares}
use Rattle.clarity.specs.Promises.{is_ratio, is_no_spread, is_refused, many}

-- what one cell adds: to the dark side n, s and q, and to all its value and its square
pub record Adds (t c n s q value square : ℕ) : Type 0 where
  pub count_is : n ≡ on_side dark_side t c
  pub sum_is : s ≡ on_side dark_side t c * c
  pub squares_is : q ≡ on_side dark_side t c * (c * c)
  pub value_is : value ≡ c
  pub square_is : square ≡ c * c
  pub one : n ≤ 1
  pub below : s ≤ value
  pub under : q ≤ square
  pub byte : value ≤ 255
  pub small : square ≤ 65025

-- a side's numbers
pub record Tallied (side : Bool) (t : ℕ) (cells : List ℕ) (n s q : ℕ) : Type 0 where
  pub count_is : n ≡ count side t cells
  pub sum_is : s ≡ sum side t cells
  pub squares_is : q ≡ squares side t cells
  pub few : n ≤ 378
  pub low : s ≤ 96390
  pub less : q ≤ 24579450

-- what has to be known of a side before its spread is worked out: it is small enough, and its spread is not below 0
pub record Bounded (n s q : ℕ) : Type 0 where
  pub few : n ≤ 378
  pub low : s ≤ 96390
  pub less : q ≤ 24579450
  pub spread : s * s ≤ n * q

-- and of both: the mean of the bright ones is not below that of the dark ones
pub record Ordered (n1 s1 n2 s2 : ℕ) : Type 0 where
  pub few1 : n1 ≤ 378
  pub few2 : n2 ≤ 378
  pub low1 : s1 ≤ 96390
  pub low2 : s2 ≤ 96390
  pub above : s1 * n2 ≤ s2 * n1

-- the counts of the first i scans, which add up
pub record CountedTo (cells : List ℕ) (t i ratios noSpreads refusals : ℕ) : Type 0 where
  pub ratios_are : ratios ≡ many is_ratio cells t i
  pub no_spreads_are : noSpreads ≡ many is_no_spread cells t i
  pub refusals_are : refusals ≡ many is_refused cells t i
  pub add_up : ratios + noSpreads + refusals ≡ i

-- and what one answer more makes of them
pub record OneMore (answer : Result Scan Refusal) (ratios noSpreads refusals ratios' noSpreads' refusals' : ℕ) : Type 0 where
  pub ratios_are : ratios' ≡ ratios + is_ratio answer
  pub no_spreads_are : noSpreads' ≡ noSpreads + is_no_spread answer
  pub refusals_are : refusals' ≡ refusals + is_refused answer

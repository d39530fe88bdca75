-- The turns of the loop over the cells of a scan, and what the numbers of a side are good for.
use mathlib.Core.Path.{◌≡◌, refl, sym, ap, ap₂, ◌∙◌}
use mathlib.Core.Bool.{Bool, true, false}
use mathlib.Core.List.{List}
use Prim.Native.Nat.{ℕ, zero, suc, ◌+◌, ◌-◌, ◌*◌, ◌<◌, ◌≤◌}
use native.Mathlib.Nat.{zero-mul, one-mul, add-mul, mul-suc, mul-le-mul}
use native.Mathlib.Numerals.{add-one}
use native.Mathlib.Omega.{arith}
use lib.Dec.{ltb}
use lib.ListN.{length, get_or}
use borrow.Author.Tests.{le-ltb, lt-ltb}
use Rattle.numbers.specs.Below.{AllBelow}
use Rattle.clarity.specs.Scan.{dark_side, bright_side, side_of, on_side, sum_to, count, sum, squares}
use Rattle.clarity.specs.Inside.{Adds, Tallied, Bounded}
use Rattle.clarity.proofs.Spread.{spread}

-- ---- one cell

pub dark_adds : (t c v q : ℕ) → c < t → c ≤ 255 → v ≡ c → (q ≡ c * c) × (q ≤ 65025) → Adds t c 1 v q v q
unfolding on_side
dark_adds t c v q d l i h =
    let e : on_side dark_side t c ≡ 1 = simp (lt-ltb c t d) in
    record {
      count_is = sym e;
      sum_is = rw (e, one-mul c) i;
      squares_is = rw (e, one-mul (c * c)) h.0;
      value_is = i;
      square_is = h.0;
      one = omega arith;
      below = omega arith;
      under = omega arith;
      byte = omega arith;
      small = h.1;
    }

pub bright_adds : (t c v q : ℕ) → t ≤ c → c ≤ 255 → v ≡ c → (q ≡ c * c) × (q ≤ 65025) → Adds t c 0 0 0 v q
unfolding on_side
bright_adds t c v q d l i h =
    let e : on_side dark_side t c ≡ 0 = simp (le-ltb c t d) in
    record {
      count_is = sym e;
      sum_is = rw (e, zero-mul c) refl;
      squares_is = rw (e, zero-mul (c * c)) refl;
      value_is = i;
      square_is = h.0;
      one = omega arith;
      below = omega arith;
      under = omega arith;
      byte = omega arith;
      small = h.1;
    }

-- a cell is on one side and not on the other
one_side : (b : Bool) → side_of dark_side b + side_of bright_side b ≡ 1
one_side true = refl
one_side false = refl

on_one : (t c : ℕ) → on_side dark_side t c + on_side bright_side t c ≡ 1
unfolding on_side
on_one t c = one_side (ltb c t)

shared : (t c x : ℕ) → x ≡ on_side dark_side t c * x + on_side bright_side t c * x
shared t c x = sym (sym (add-mul (on_side dark_side t c) (on_side bright_side t c) x) ∙ rw (on_one t c) (one-mul x))

-- ---- the first i cells: the dark ones, and what is left of all of them

pub record SidesTo (t : ℕ) (cells : List ℕ) (i n s q sum squares : ℕ) : Type 0 where
  pub long : length cells ≡ 378
  pub most : i ≤ 378
  pub count_is : n ≡ sum_to i (λ a. on_side dark_side t (get_or cells a 0))
  pub sum_is : s ≡ sum_to i (λ a. on_side dark_side t (get_or cells a 0) * get_or cells a 0)
  pub squares_is : q ≡ sum_to i (λ a. on_side dark_side t (get_or cells a 0) * (get_or cells a 0 * get_or cells a 0))
  pub count_left : i ≡ n + sum_to i (λ a. on_side bright_side t (get_or cells a 0))
  pub sum_left : sum ≡ s + sum_to i (λ a. on_side bright_side t (get_or cells a 0) * get_or cells a 0)
  pub squares_left : squares ≡ q + sum_to i (λ a. on_side bright_side t (get_or cells a 0) * (get_or cells a 0 * get_or cells a 0))
  pub low : sum ≤ 255 * i
  pub less : squares ≤ 65025 * i

pub sides_none : (t : ℕ) (cells : List ℕ) → length cells ≡ 378 → SidesTo t cells 0 0 0 0 0 0
unfolding sum_to
sides_none t cells long =
    record {
      long = long;
      most = omega arith;
      count_is = refl;
      sum_is = refl;
      squares_is = refl;
      count_left = refl;
      sum_left = refl;
      squares_left = refl;
      low = omega arith;
      less = omega arith;
    }

pub sides_more : (t : ℕ) (cells : List ℕ) (i n s q sum squares a b d v e : ℕ) → SidesTo t cells i n s q sum squares → i < length cells
    → Adds t (get_or cells i 0) a b d v e → SidesTo t cells (i + 1) (n + a) (s + b) (q + d) (sum + v) (squares + e)
unfolding sum_to
sides_more t cells i n s q sum squares a b d v e h l p =
    let c : ℕ = get_or cells i 0 in
    let one = on_one t c in
    let half = shared t c c in
    let half-square = shared t c (c * c) in
    record {
      long = h.long;
      most = omega (arith, h.long);
      count_is = rw add-one (ap₂ ◌+◌ h.count_is p.count_is);
      sum_is = rw add-one (ap₂ ◌+◌ h.sum_is p.sum_is);
      squares_is = rw add-one (ap₂ ◌+◌ h.squares_is p.squares_is);
      count_left = rw add-one (omega (arith, h.count_left, p.count_is));
      sum_left = rw add-one (omega (arith, h.sum_left, p.sum_is, p.value_is));
      squares_left = rw add-one (omega (arith, h.squares_left, p.squares_is, p.square_is));
      low = omega (arith, h.low, p.byte);
      less = omega (arith, h.less, p.small);
    }

module _ (t : ℕ) (cells : List ℕ) (i n s q all squared : ℕ) (h : SidesTo t cells i n s q all squared) (l : length cells ≤ i) where
  whole : i ≡ length cells
  whole = omega (arith, h.long, h.most)

  pub dark_tally : Tallied dark_side t cells n s q
  unfolding count sum squares
  dark_tally =
      record {
        count_is = h.count_is ∙ ap (λ (k : ℕ). sum_to k (λ a. on_side dark_side t (get_or cells a 0))) whole;
        sum_is = h.sum_is ∙ ap (λ (k : ℕ). sum_to k (λ a. on_side dark_side t (get_or cells a 0) * get_or cells a 0)) whole;
        squares_is = h.squares_is ∙ ap (λ (k : ℕ). sum_to k (λ a. on_side dark_side t (get_or cells a 0) * (get_or cells a 0 * get_or cells a 0))) whole;
        few = omega (arith, h.count_left, h.most);
        low = omega (arith, h.sum_left, h.low, h.most);
        less = omega (arith, h.squares_left, h.less, h.most);
      }

  pub bright_tally : Tallied bright_side t cells (378 - n) (all - s) (squared - q)
  unfolding count sum squares
  bright_tally =
      record {
        count_is =
            left 378 n (sum_to i (λ a. on_side bright_side t (get_or cells a 0))) (sym h.long ∙ sym whole ∙ h.count_left)
            ∙ ap (λ (k : ℕ). sum_to k (λ a. on_side bright_side t (get_or cells a 0))) whole;
        sum_is = left all s _ h.sum_left ∙ ap (λ (k : ℕ). sum_to k (λ a. on_side bright_side t (get_or cells a 0) * get_or cells a 0)) whole;
        squares_is =
            left squared q _ h.squares_left
            ∙ ap (λ (k : ℕ). sum_to k (λ a. on_side bright_side t (get_or cells a 0) * (get_or cells a 0 * get_or cells a 0))) whole;
        few = omega arith;
        low = omega (arith, h.low, h.most);
        less = omega (arith, h.less, h.most);
      }
    where
      left : (x y z : ℕ) → x ≡ y + z → x - y ≡ z
      left x y z e = omega arith

-- ---- one side

at_most_one : (side b : Bool) → side_of side b ≤ 1
at_most_one false true = omega arith
at_most_one false false = omega arith
at_most_one true true = omega arith
at_most_one true false = omega arith

on_side_le : (side : Bool) (t c : ℕ) → on_side side t c ≤ 1
unfolding on_side
on_side_le side t c = at_most_one side (ltb c t)

sum_le : (n b : ℕ) (f : ℕ → ℕ) → ((a : ℕ) → f a ≤ b) → sum_to n f ≤ b * n
unfolding sum_to
sum_le zero b f h = omega arith
sum_le (suc n) b f h = let i = sum_le n b f h in let j = h n in rw mul-suc (omega arith)

-- the numbers of a side are those of 378 bytes
pub tallied : (side : Bool) (t : ℕ) (cells : List ℕ) → length cells ≡ 378 → AllBelow 256 cells
    → Tallied side t cells (count side t cells) (sum side t cells) (squares side t cells)
unfolding count sum squares
tallied side t cells long bytes =
    record {
      count_is = refl;
      sum_is = refl;
      squares_is = refl;
      few = few;
      low = low;
      less = less;
    }
  where
    on : (a : ℕ) → on_side side t (get_or cells a 0) ≤ 1
    on a = on_side_le side t (get_or cells a 0)

    byte : (a : ℕ) → get_or cells a 0 ≤ 255
    byte a = let h = bytes a in omega arith

    few : count side t cells ≤ 378
    few = let h = sum_le (length cells) 1 (λ a. on_side side t (get_or cells a 0)) on in omega (arith, long)

    low : sum side t cells ≤ 96390
    low =
        let h = sum_le (length cells) 255 (λ a. on_side side t (get_or cells a 0) * get_or cells a 0) (λ a. mul-le-mul (on a) (byte a)) in
        omega (arith, long)

    less : squares side t cells ≤ 24579450
    less =
        let h = sum_le (length cells) 65025 (λ a. on_side side t (get_or cells a 0) * (get_or cells a 0 * get_or cells a 0))
        (λ a. mul-le-mul (on a) (mul-le-mul (byte a) (byte a))) in
        omega (arith, long)

-- its spread is not below 0
pub bounded : (side : Bool) (t : ℕ) (cells : List ℕ) (n s q : ℕ) → Tallied side t cells n s q → Bounded n s q
unfolding count sum squares
bounded side t cells n s q h =
    record {
      few = h.few;
      low = h.low;
      less = h.less;
      spread = rw (h.count_is, h.sum_is, h.squares_is) (spread (length cells) (λ a. on_side side t (get_or cells a 0)) (λ a. get_or cells a 0));
    }

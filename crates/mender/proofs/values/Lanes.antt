-- Numbers of several lanes: multiplied lane by lane, moved down by one lane, and put side by side.
use mathlib.Core.Path.{◌≡◌, sym, ap, ◌∙◌}
use Prim.Native.Nat.{ℕ, suc, ◌+◌, ◌-◌, ◌*◌, ◌/◌, ◌%◌, ◌^◌, ◌<◌}
use native.Mathlib.Omega.{arith}
use borrow.Author.Count.{below_more}
use Rattle.field.specs.Field.{product}
use Rattle.field.proofs.Laws
use Rattle.lanes.specs.Lanes.{pack, lane}
use Rattle.lanes.proofs.Laws.{lane_lt, lane_zero, lane_suc, lane_after, lane_pack, pack_equal, pack_lanes, pack_all}

-- the lanes of what is left of a number
pub low_lanes : (p a n k : ℕ) → a < 64 ^ n → p % 64 ^ n ≡ a → k < n → lane p k ≡ lane a k
low_lanes p a n k h e l = pack_equal n (lane p) (lane a) (lane_lt p) (lane_lt a) (sym (pack_lanes n p) ∙ e ∙ pack_all n a h) k l

pub products_lane : (p q r k : ℕ) → r ≡ pack 10 (λ k. product (lane p k) (lane q k)) → k < 10 → lane r k ≡ product (lane p k) (lane q k)
products_lane p q r k e l =
    ap (λ (n : ℕ). lane n k) e ∙ lane_pack 10 (λ k. product (lane p k) (lane q k)) (λ k. Laws.product_lt (lane p k) (lane q k)) k l

pub scale_lane : (p f r k : ℕ) → r ≡ pack 10 (λ k. product (lane p k) f) → k < 10 → lane r k ≡ product (lane p k) f
scale_lane p f r k e l = ap (λ (n : ℕ). lane n k) e ∙ lane_pack 10 (λ k. product (lane p k) f) (λ k. Laws.product_lt (lane p k) f) k l

-- five lanes, each moved down by one, and another after them
module _ (x c : ℕ) (h : x < 64 ^ 5) (g : c < 64) where
  pub pushed_below : x / 64 + c * 16777216 < 64 ^ 5
  pushed_below = omega arith

  pushed-moved : (k : ℕ) → k < 4 → lane (x / 64 + c * 16777216) k ≡ lane x (suc k)
  pushed-moved k l = low_lanes (x / 64 + c * 16777216) (x / 64) 4 k (omega arith) (omega arith) l ∙ sym (lane_suc x k)

  pushed-last : lane (x / 64 + c * 16777216) 4 ≡ c
  pushed-last = sym (lane_after (x / 64 + c * 16777216) 4 0) ∙ lane_zero ((x / 64 + c * 16777216) / 64 ^ 4) ∙ (omega arith)

  -- i lanes are in, as f has them
  pub pushed_more : (i : ℕ) (f : ℕ → ℕ) → i < 5 → ((j : ℕ) → j < i → lane x (5 - i + j) ≡ f j) → c ≡ f i
      → (j : ℕ) → j < i + 1 → lane (x / 64 + c * 16777216) (5 - (i + 1) + j) ≡ f j
  pushed_more i f l d e =
      below_more (λ j. lane (x / 64 + c * 16777216) (5 - (i + 1) + j) ≡ f j) i
      (λ j m. pushed-moved (5 - (i + 1) + j) (omega arith) ∙ ap (lane x) (omega arith) ∙ d j m)
      (ap (lane (x / 64 + c * 16777216)) (omega arith) ∙ pushed-last ∙ e)

-- two numbers side by side, the first in five lanes
module _ (a b : ℕ) (h : a < 64 ^ 5) where
  pub joined_low : (k : ℕ) → k < 5 → lane (a + b * 1073741824) k ≡ lane a k
  joined_low k l = low_lanes (a + b * 1073741824) a 5 k h (omega arith) l

  pub joined_high : (k : ℕ) → lane (a + b * 1073741824) (5 + k) ≡ lane b k
  joined_high k = sym (lane_after (a + b * 1073741824) 5 k) ∙ ap (λ (n : ℕ). lane n k) (omega arith)

-- one element in each of five lanes
pub five_lanes : (a k : ℕ) → a < 64 → k < 5 → lane (a * 17043521) k ≡ a
unfolding pack
five_lanes a k h l = ap (λ (n : ℕ). lane n k) (omega arith) ∙ lane_pack 5 (λ k. a) (λ k. h) k l

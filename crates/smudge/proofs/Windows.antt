-- Windows in one number: which cells a window has, the sixteen ways to fill it, and that each is found again from the parities that it turns.
use mathlib.Core.Path.{◌≡◌, refl, sym, ap, ◌∙◌}
use mathlib.Core.Bool.{Bool, true, false, cond}
use Prim.Native.Nat.{ℕ, ◌+◌, ◌*◌, ◌/◌, ◌%◌, ◌^◌, ◌<◌, ◌≤◌}
use native.Mathlib.Nat.{add-zero}
use native.Mathlib.Omega.{arith}
use lib.Dec.{T, eqb, eqb→eq, leb, leb→le, le→leb}
use lib.Bits.{bit_xor, bit_and}
use lib.Count.{ones_in, count_trailing_zeros, ones_cat}
use lib.Pow.{pow_pos}
use Rattle.numbers.specs.Total.{total}
use Rattle.numbers.proofs.Range.{both, both_left, both_right}
use Rattle.numbers.proofs.Linear.{Linear, shifted_down, shifted_up, lowest, masked, added, after, same_maps}
use Rattle.eights.specs.Inside.{byte}
use Rattle.smudge.specs.Smudge.{side, Window, Inside}
use Rattle.smudge.specs.Inside.{window, up, left, straight, right, down, stagger, odd_bytes, odd_rows, crossings, holding, windows_with, first_of, first_with, smudge_for}
use Rattle.smudge.proofs.Ranges.{each_two, two_at, each_three, three_at, each_four, four_at}
use Rattle.smudge.proofs.Parities.{columns}
use Rattle.smudge.proofs.Turns.{bit_of}

pub none_turned : lib.Count.ones 0 ≡ 0
unfolding lib.Count.ones
none_turned = refl

-- the cells of the window at (r, c)
abbrev pub cells_of : ℕ → ℕ → ℕ
cells_of r c = window * 2 ^ bit_of r c

-- ---- which cells those are

abbrev inside : ℕ → ℕ → ℕ → ℕ → Bool
inside r c i j = both (both (leb r i) (leb i (r + 1))) (both (leb c j) (leb j (c + 1)))

abbrev one_if : Bool → ℕ
one_if b = cond b 1 0

cells_test : T (each_four 7 7 8 8 (λ r c i j. eqb (cells_of r c / 2 ^ bit_of i j % 2) (one_if (inside r c i j))))
cells_test = tt

cells_are : (r c i j : ℕ) → r < 7 → c < 7 → i < 8 → j < 8 → cells_of r c / 2 ^ bit_of i j % 2 ≡ one_if (inside r c i j)
cells_are r c i j hr hc hi hj =
    eqb→eq (cells_of r c / 2 ^ bit_of i j % 2) (one_if (inside r c i j))
    (four_at 7 7 8 8 (λ r c i j. eqb (cells_of r c / 2 ^ bit_of i j % 2) (one_if (inside r c i j))) cells_test r c i j hr hc hi hj)

told : (r c i j : ℕ) → T (inside r c i j) → Inside r c i j
told r c i j t =
    let rows : T (both (leb r i) (leb i (r + 1))) = both_left (both (leb r i) (leb i (r + 1))) (both (leb c j) (leb j (c + 1))) t in
    let cols : T (both (leb c j) (leb j (c + 1))) = both_right (both (leb r i) (leb i (r + 1))) (both (leb c j) (leb j (c + 1))) t in
    record {
      from_row = leb→le r i (both_left (leb r i) (leb i (r + 1)) rows);
      to_row = leb→le i (r + 1) (both_right (leb r i) (leb i (r + 1)) rows);
      from_column = leb→le c j (both_left (leb c j) (leb j (c + 1)) cols);
      to_column = leb→le j (c + 1) (both_right (leb c j) (leb j (c + 1)) cols);
    }

-- outside the window a number of its cells has none
module _ (r c i j : ℕ) (w : Window r c) (hi : i < side) (hj : j < side) where
  -- a cell that is not one of them is outside, and the other way round
  pub none_outside : (Inside r c i j → ⊥) → cells_of r c / 2 ^ bit_of i j % 2 ≡ 0
  none_outside out = cells_are r c i j (rows-most w) (columns-most w) hi hj ∙ go (inside r c i j) (told r c i j)
    where
      rows-most : Window r c → r < 7
      rows-most w = let h : r + 1 < side = w.rows in omega arith

      columns-most : Window r c → c < 7
      columns-most w = let h : c + 1 < side = w.columns in omega arith

      go : (b : Bool) → (T b → Inside r c i j) → one_if b ≡ 0
      go true t = absurd (out (t tt))
      go false t = refl

  pub outside_none : cells_of r c / 2 ^ bit_of i j % 2 ≡ 0 → Inside r c i j → ⊥
  outside_none z s = go (inside r c i j) all (sym (cells_are r c i j (omega (arith, w.rows)) (omega (arith, w.columns)) hi hj) ∙ z)
    where
      joined : (a b : Bool) → T a → T b → T (both a b)
      joined true b t u = u
      joined false b t u = absurd t

      all : T (inside r c i j)
      all =
          joined (both (leb r i) (leb i (r + 1))) (both (leb c j) (leb j (c + 1)))
          (joined (leb r i) (leb i (r + 1)) (le→leb r i s.from_row) (le→leb i (r + 1) s.to_row))
          (joined (leb c j) (leb j (c + 1)) (le→leb c j s.from_column) (le→leb j (c + 1) s.to_column))

      go : (b : Bool) → T b → one_if b ≡ 0 → ⊥
      go true t e = absurd (omega arith)
      go false t e = t

-- ---- the sixteen ways to fill a window

-- cells a of its first row and b of its second
abbrev pub filled : ℕ → ℕ → ℕ → ℕ
filled t a b = bit_xor a (b * 256) * 2 ^ t

-- what a number has in the window whose first cell is bit t
abbrev in_window : ℕ → ℕ → ℕ
in_window t x = filled t (x / 2 ^ t % 4) (x / 2 ^ t / 256 % 4)

in_window_linear : (t : ℕ) → Linear (in_window t)
in_window_linear t =
    after (λ x. x * 2 ^ t) (λ x. bit_xor (x / 2 ^ t % 4) (x / 2 ^ t / 256 % 4 * 256)) (shifted_up t)
    (added (λ x. x / 2 ^ t % 4) (λ x. x / 2 ^ t / 256 % 4 * 256) (after (λ x. x % 4) (λ x. x / 2 ^ t) (lowest 2) (shifted_down t))
    (after (λ x. x * 256) (λ x. x / 2 ^ t / 256 % 4) (shifted_up 8)
    (after (λ x. x % 4) (λ x. x / 2 ^ t / 256) (lowest 2) (after (λ x. x / 256) (λ x. x / 2 ^ t) (shifted_down 8) (shifted_down t)))))

window_test : T (each_three 7 7 64 (λ r c k. eqb (bit_and (2 ^ k) (cells_of r c)) (in_window (bit_of r c) (2 ^ k))))
window_test = tt

window_filled : (r c : ℕ) → r < 7 → c < 7 → (x : ℕ) → x < 2 ^ 64 → bit_and x (cells_of r c) ≡ in_window (bit_of r c) x
window_filled r c hr hc =
    same_maps 64 (λ x. bit_and x (cells_of r c)) (in_window (bit_of r c)) (masked (cells_of r c)) (in_window_linear (bit_of r c))
    (λ k h.
    eqb→eq (bit_and (2 ^ k) (cells_of r c)) (in_window (bit_of r c) (2 ^ k))
    (three_at 7 7 64 (λ r c k. eqb (bit_and (2 ^ k) (cells_of r c)) (in_window (bit_of r c) (2 ^ k))) window_test r c k hr hc h))

-- ---- each of them is found again from its parities

-- p straightened is z: computed once
abbrev again_from : ℕ → ℕ → Bool
again_from p z = eqb (smudge_for (odd_bytes z) (total 8 (byte z))) p

again : ℕ → Bool
again p = again_from p (straight p)

all_again : T (each_four 7 7 4 4 (λ r c a b. again (filled (bit_of r c) a b)))
unfolding up left straight right down stagger odd_bytes total byte ones_in crossings holding windows_with first_of first_with smudge_for count_trailing_zeros again
all_again = tt

found_again : (r c a b : ℕ) → r < 7 → c < 7 → a < 4 → b < 4
    → smudge_for (odd_rows (filled (bit_of r c) a b)) (columns (filled (bit_of r c) a b)) ≡ filled (bit_of r c) a b
unfolding again
found_again r c a b hr hc ha hb =
    eqb→eq _ (filled (bit_of r c) a b) (four_at 7 7 4 4 (λ r c a b. again (filled (bit_of r c) a b)) all_again r c a b hr hc ha hb)

-- a number that has nothing outside a window is found again from its parities
pub inside_found : (r c p : ℕ) → r < 7 → c < 7 → p < 2 ^ 64 → bit_and p (cells_of r c) ≡ p → smudge_for (odd_rows p) (columns p) ≡ p
inside_found r c p hr hc h e =
    let f : p ≡ in_window (bit_of r c) p = sym e ∙ window_filled r c hr hc p h in
    ap (λ (q : ℕ). smudge_for (odd_rows q) (columns q)) f
    ∙ found_again r c (p / 2 ^ bit_of r c % 4) (p / 2 ^ bit_of r c / 256 % 4) hr hc (omega arith) (omega arith)
    ∙ sym f

-- ---- and has at most four cells

few_test : T (each_two 4 4 (λ a b. leb (lib.Count.ones (bit_xor a (b * 256))) 4))
unfolding lib.Count.ones
few_test = tt

pub inside_few : (r c p : ℕ) → r < 7 → c < 7 → p < 2 ^ 64 → bit_and p (cells_of r c) ≡ p → lib.Count.ones p ≤ 4
inside_few r c p hr hc h e =
    let t : ℕ = bit_of r c in
    let a : ℕ = p / 2 ^ t % 4 in
    let b : ℕ = p / 2 ^ t / 256 % 4 in
    let f : p ≡ filled t a b = sym e ∙ window_filled r c hr hc p h in
    let few : lib.Count.ones (bit_xor a (b * 256)) ≤ 4 =
    leb→le (lib.Count.ones (bit_xor a (b * 256))) 4 (two_at 4 4 (λ a b. leb (lib.Count.ones (bit_xor a (b * 256))) 4) few_test a b (omega arith) (omega arith))
    in
    let shifted : lib.Count.ones (filled t a b) ≡ lib.Count.ones (bit_xor a (b * 256)) + lib.Count.ones 0 =
    ap lib.Count.ones (sym (add-zero (filled t a b))) ∙ ones_cat t (bit_xor a (b * 256)) 0 (pow_pos t)
    in
    let none : lib.Count.ones 0 ≡ 0 = none_turned in
    rw (← f) at (omega-le shifted none few)
  where
    omega-le : {x y z : ℕ} → x ≡ y + z → z ≡ 0 → y ≤ 4 → x ≤ 4
    omega-le e f l = omega arith

-- Two cells of a window come to different places, as the checker computes it; and what is left wrong of dark rows.
use mathlib.Core.Path.{◌≡◌, refl, sym, ap, ap₂, ◌∙◌}
use mathlib.Core.Bool.{Bool, true, false, not}
use Prim.Native.Nat.{ℕ, ◌+◌, ◌-◌}
use native.Mathlib.Omega.{arith}
use lib.Bits.{bit_xor}
use lib.Count.{ones_in}
use lib.Dec.{T, eqb, eqb→eq}
use lib.ListN.{replicate}
use Rattle.numbers.specs.Total.{total}
use Rattle.numbers.proofs.Range.{both, both_left, both_right, eq→eqb}
use Rattle.eights.specs.Inside.{byte}
use Rattle.block.specs.Inside.{wanted}
use Rattle.smudge.specs.Smudge.{side, Window, Inside, Mendable}
use Rattle.smudge.specs.Inside.{up, left, straight, right, down, stagger, odd_bytes, wrong_columns, crossings, holding, windows_with, first_of, first_with, smudge_for, smudge_in}
use Rattle.smudge.proofs.Ranges.{either, each_two, two_at, each_four, four_at}
use Rattle.smudge.proofs.Turns.{InOne, in_rows}
use Rattle.smudge.proofs.Mending.{smudged_mended}

-- ---- different places

-- cells (a, b) and (x, y) of the window at (r, c) do not share their place, or are one
abbrev apart : (ℕ → ℕ → ℕ) → ℕ → ℕ → ℕ → ℕ → ℕ → ℕ → Bool
apart f r c a b x y = either (not (eqb (f (r + a) (c + b)) (f (r + x) (c + y)))) (both (eqb a x) (eqb b y))

-- of every window
abbrev pub Spread : (ℕ → ℕ → ℕ) → Type 0
Spread f = T (each_two 7 7 (λ r c. each_four 2 2 2 2 (apart f r c)))

pub spread : (f : ℕ → ℕ → ℕ) → Spread f → (r c i j k l : ℕ) → Window r c → Inside r c i j → Inside r c k l → f i j ≡ f k l → (i ≡ k) × (j ≡ l)
spread f t r c i j k l w p q e =
    let a : ℕ = i - r in
    let b : ℕ = j - c in
    let x : ℕ = k - r in
    let y : ℕ = l - c in
    let ea : r + a ≡ i = omega (arith, p.from_row) in
    let eb : c + b ≡ j = omega (arith, p.from_column) in
    let ex : r + x ≡ k = omega (arith, q.from_row) in
    let ey : c + y ≡ l = omega (arith, q.from_column) in
    let s : T (either (not (eqb (f (r + a) (c + b)) (f (r + x) (c + y)))) (both (eqb a x) (eqb b y))) =
    four_at 2 2 2 2 (apart f r c)
    (two_at 7 7 (λ r c. each_four 2 2 2 2 (apart f r c)) t r c (omega (arith, w.rows)) (omega (arith, w.columns)))
    a
    b
    x
    y
    (omega (arith, p.to_row))
    (omega (arith, p.to_column))
    (omega (arith, q.to_row))
    (omega (arith, q.to_column))
    in
    let shared : f (r + a) (c + b) ≡ f (r + x) (c + y) = ap₂ f ea eb ∙ e ∙ sym (ap₂ f ex ey) in
    let same : T (both (eqb a x) (eqb b y)) = told (f (r + a) (c + b)) (f (r + x) (c + y)) (both (eqb a x) (eqb b y)) shared s in
    let u : a ≡ x = eqb→eq a x (both_left (eqb a x) (eqb b y) same) in
    let v : b ≡ y = eqb→eq b y (both_right (eqb a x) (eqb b y) same) in
    (sym ea ∙ ap (λ (n : ℕ). r + n) u ∙ ex, sym eb ∙ ap (λ (n : ℕ). c + n) v ∙ ey)
  where
    told : (m n : ℕ) (b : Bool) → m ≡ n → T (either (not (eqb m n)) b) → T b
    told m n b e t = go (eqb m n) (eq→eqb m n e) t
      where
        go : (d : Bool) → T d → T (either (not d) b) → T b
        go true h t = t
        go false h t = absurd h

-- ---- dark rows

dark_in : InOne (replicate side 0) 0
unfolding byte
dark_in = in_rows 0 (omega arith)

dark_left : wrong_columns (bit_xor 0 (smudge_in 0)) ≡ 255
unfolding up left straight right down stagger odd_bytes total byte ones_in crossings holding windows_with first_of first_with smudge_for wanted
dark_left = refl

pub dark_none : Mendable (replicate side 0) → ⊥
dark_none m =
    let z : wrong_columns (bit_xor 0 (smudge_in 0)) ≡ 0 = (smudged_mended (replicate side 0) 0 dark_in m.0 m.1).1.columns in
    let d : wrong_columns (bit_xor 0 (smudge_in 0)) ≡ 255 = dark_left in
    omega arith

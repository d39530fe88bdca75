-- The bench sheet's starred rows, in its order: one table, and one statement that every row of it is true.
use mathlib.Core.Path.{◌≡◌, refl, ap, subst}
use mathlib.Core.List.{List, [], ◌∷◌, ◌++◌}
use Prim.Native.Nat.{ℕ, ◌≤◌}
use native.Mathlib.Omega.{arith}
use lib.ListN.{get_or, set, replicate}
use Rattle.field.specs.Field.{sum, times_x, shifted, product}
use Rattle.field.proofs.Theorems.{refused_by_zero}
use Rattle.code.specs.Word.{added, marks, Clean, Line, distance}
use Rattle.code.proofs.Theorems.{zero_line, twelve_apart, one_wrong_character}
use Rattle.code.proofs.Lines.{unmarked}
use Rattle.encoder.proofs.Bench.{text65, checks65, line_65, checks_65}
use Rattle.block.specs.Bench as Block
use Rattle.block.proofs.Bench.{bench_sheet}
use Rattle.smudge.specs.Bench as Smudge
use Rattle.smudge.proofs.Bench as Smudged
use Rattle.bench_sheet.specs.Sheet.{Z, Row, product_is, no_quotient, a_line, no_line, checks_are, one_wrong, rows_are, of_smudges, Wrong, Every}

abbrev pub table : List Row
table =
    product_is 32 2 3
    ∷ product_is 33 2 1
    ∷ no_quotient 5 0 13
    ∷ a_line Z
    ∷ no_line (replicate 63 0) 3 Z
    ∷ checks_are text65 65 (32 ∷ 0 ∷ 0 ∷ 8 ∷ 0 ∷ 0 ∷ 0 ∷ 1 ∷ 1 ∷ 0 ∷ 1 ∷ [])
    ∷ one_wrong (set Z 60 5) 2 60
    ∷ rows_are (3 ∷ 252 ∷ []) Block.proper
    ∷ rows_are (3 ∷ 253 ∷ []) (Block.read_as (3 ∷ 252 ∷ []) 1)
    ∷ rows_are (3 ∷ 3 ∷ []) (Block.refused 9)
    ∷ rows_are (3 ∷ 0 ∷ []) (Block.refused 9)
    ∷ of_smudges (Smudge.stored_as (1 ∷ 2 ∷ 3 ∷ 4 ∷ 5 ∷ 6 ∷ 7 ∷ []) (131 ∷ 170 ∷ 129 ∷ 26 ∷ 7 ∷ 18 ∷ 5 ∷ 93 ∷ []))
    ∷ of_smudges (Smudge.come_to (0 ∷ 0 ∷ 0 ∷ 0 ∷ 24 ∷ 24 ∷ 0 ∷ 0 ∷ []) (0 ∷ 0 ∷ 8 ∷ 2 ∷ 16 ∷ 4 ∷ 0 ∷ 0 ∷ []))
    ∷ []

-- ---- the proof

products : (product 32 2 ≡ 3) × (product 33 2 ≡ 1)
unfolding product shifted times_x sum
products = (refl, refl)

z_line : Line Z
unfolding marks
z_line = zero_line

dark_distance : distance (replicate 63 0) Z ≡ 3
unfolding distance
dark_distance = refl

not_dark : replicate 63 0 ≡ Z → ⊥
not_dark e = let z : ◌≡◌ {A = ℕ} 0 32 = ap (λ (l : List ℕ). get_or l 52 0) e in omega arith

dark_no_line : Line (replicate 63 0) → ⊥
dark_no_line l =
    let d : 12 ≤ distance (replicate 63 0) Z = twelve_apart (replicate 63 0) Z l z_line not_dark in
    let e : distance (replicate 63 0) Z ≡ 3 = dark_distance in
    omega arith

-- Z with the marks off is 63 zeros
z_unmarked : added Z marks ≡ replicate 63 0
unfolding added marks sum
z_unmarked = refl

zeros_clean : Clean (replicate 63 0)
zeros_clean = subst Clean z_unmarked (unmarked Z z_line)

wrong_unmarked : added (set Z 60 5) marks ≡ set (replicate 63 0) 60 (sum (get_or (replicate 63 0) 60 0) 5)
unfolding added marks sum
wrong_unmarked = refl

wrong_60 : Wrong (set Z 60 5) 2 60
wrong_60 =
    let w = one_wrong_character (replicate 63 0) 60 5 zeros_clean (omega arith) (omega arith) (omega arith) in
    let e = wrong_unmarked in
    record {
      ratio = rw e w.ratio;
      address = rw e w.address;
    }

-- the whole sheet
pub starred_rows : Every table
starred_rows = (
  products.0,
  (
    products.1,
    (
      refused_by_zero 5 (omega arith),
      (
        z_line,
        (
          (dark_no_line, z_line, dark_distance),
          (
            (text65 ++ 1 ∷ 1 ∷ checks65, line_65, checks_65 (text65 ++ 1 ∷ 1 ∷ checks65) line_65),
            (
              wrong_60,
              (
                bench_sheet.0,
                (
                  bench_sheet.1.0,
                  (
                    bench_sheet.1.1.0,
                    (bench_sheet.1.1.1.0, Smudged.bench_sheet),
                  ),
                ),
              ),
            ),
          ),
        ),
      ),
    ),
  ),
)

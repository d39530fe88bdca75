-- The table of terms: one test over the whole of it, from the written powers of the ten points, and the rule that the test gives at each entry.
use mathlib.Core.Path.{◌≡◌, sym, ap, ◌∙◌}
use mathlib.Core.Bool.{Bool}
use mathlib.Core.List.{List, [], ◌∷◌}
use Prim.Native.Nat.{ℕ, ◌%◌, ◌<◌}
use native.Mathlib.Omega.{arith}
use lib.ListN.{get_or}
use lib.Dec.{T, eqb, eqb→eq}
use Rattle.numbers.proofs.Entries.{full, full_at}
use Rattle.numbers.proofs.Range.{each, each_at}
use Rattle.field.specs.Field.{sum, times_x, shifted, product, power}
use Rattle.field.proofs.Laws
use Rattle.lanes.specs.Lanes.{pack}
use Rattle.lanes.proofs.Laws as Lanes
use Rattle.terms.specs.Terms.{point, term}
use Rattle.terms.proofs.Powers.{powers}

-- ---- the powers of the ten points

abbrev points : List ℕ
points = 63 ∷ 61 ∷ 57 ∷ 49 ∷ 33 ∷ 2 ∷ 4 ∷ 8 ∷ 16 ∷ 32 ∷ []

points_test : T (each 10 (λ i. eqb (point i) (get_or points i 0)))
unfolding point power product shifted times_x sum
points_test = tt

-- what is written is the n-th power of point i
abbrev is_power : ℕ → ℕ → ℕ → Bool
is_power n i v = eqb v (power (get_or points i 0) n)

powers_test : T (full 21 (λ n. full 10 (is_power n)) powers)
unfolding power product shifted times_x sum
powers_test = tt

power_there : (n i : ℕ) → n < 21 → i < 10 → get_or (get_or powers n []) i 0 ≡ power (point i) n
power_there n i hn hi =
    eqb→eq _ _ (full_at 10 (is_power n) 0 (get_or powers n []) (full_at 21 (λ n. full 10 (is_power n)) [] powers powers_test n hn) i hi)
    ∙ ap (λ (x : ℕ). power x n) (sym (eqb→eq (point i) (get_or points i 0) (each_at 10 (λ i. eqb (point i) (get_or points i 0)) points_test i hi)))

-- ---- the table

-- an entry of row n holds the products of its character and the powers n
abbrev pub right_entry : ℕ → ℕ → ℕ → Bool
right_entry n c v = eqb v (pack 10 (λ i. product c (get_or (get_or powers n []) i 0)))

-- the test: 21 rows, and in each 64 such entries
abbrev pub right_table : List (List ℕ) → Bool
right_table = full 21 (λ n. full 64 (right_entry n))

-- the rule, for a table that passes the test
pub term_there : (rows : List (List ℕ)) → T (right_table rows) → (n c : ℕ) → n < 21 → get_or (get_or rows n []) (c % 64) 0 ≡ pack 10 (term n c)
unfolding term
term_there rows t n c h =
    eqb→eq _ _ (full_at 64 (right_entry n) 0 (get_or rows n []) (full_at 21 (λ n. full 64 (right_entry n)) [] rows t n h) (c % 64) (omega arith))
    ∙ Lanes.pack_same 10 (λ i. product (c % 64) (get_or (get_or powers n []) i 0)) (term n c)
    (λ i l. ap (product (c % 64)) (power_there n i h l) ∙ Laws.product_low c (power (point i) n))

-- The table of products: one test over the whole of it, the rule that the test gives at each entry, and what is looked up.
use mathlib.Core.Path.{◌≡◌, ◌∙◌}
use mathlib.Core.Bool.{Bool}
use mathlib.Core.List.{List, []}
use Prim.Native.Nat.{ℕ, ◌%◌}
use native.Mathlib.Omega.{arith}
use lib.Dec.{T, eqb, eqb→eq}
use lib.ListN.{get_or}
use Rattle.numbers.proofs.Entries.{full, full_at}
use Rattle.field.specs.Field.{product}
use Rattle.field.specs.Inside.{looked_up, Products}
use Rattle.field.proofs.Laws

-- an entry of row u and column v is their product
abbrev pub right_entry : ℕ → ℕ → ℕ → Bool
right_entry u v w = eqb w (product u v)

-- the test: 64 rows, and in each 64 such entries
abbrev pub right_table : List (List ℕ) → Bool
right_table = full 64 (λ u. full 64 (right_entry u))

-- the rule, for the whole table: one that passes the test is a table of products
pub right_table_lem : (rows : List (List ℕ)) → T (right_table rows) → Products rows
right_table_lem rows t =
    record {
      entry = λ u v hu hv.
          eqb→eq (looked_up rows u v) (product u v) (full_at 64 (right_entry u) 0 (get_or rows u []) (full_at 64 (λ u. full 64 (right_entry u)) [] rows t u hu) v hv);
    }

-- of any two bytes the low six bits count
pub looked_up_lem : (rows : List (List ℕ)) (u v : ℕ) → Products rows → looked_up rows (u % 64) (v % 64) ≡ product u v
looked_up_lem rows u v p = p.entry (u % 64) (v % 64) (omega arith) (omega arith) ∙ Laws.product_low u (v % 64) ∙ Laws.product_low_right u v

-- Each way in which reading a block ends.
use mathlib.Core.Path.{◌≡◌, sym, ap, ◌∙◌}
use mathlib.Core.Logic.{⊎_elim}
use mathlib.Core.List.{List, [], ◌∷◌}
use Prim.Native.Nat.{ℕ, ◌+◌, ◌%◌, ◌<◌, ◌≤◌}
use native.Mathlib.Nat.{eq-or-lt_of_le}
use native.Mathlib.Omega.{arith}
use lib.ListN.{length, get_or, set, length-set}
use lib.Bits.{bit_xor, xor_comm, xor_lt}
use Rattle.numbers.proofs.Xor.{xor_undo}
use Rattle.refusal.specs.Promise.{Test}
use Rattle.refusal.proofs.Ladder.{No, FailsAt, answer_at, ◌then◌, refuses, succeeds, denied}
use Rattle.block.specs.declared.Faults.{Faults}
use Rattle.block.specs.Block.{ones, distance, Near, Mendable}
use Rattle.block.specs.Promises.{reading_tests, ReadAs, Reads}
use Rattle.block.specs.Inside.{odd_rows, summed, wanted, Counted}
use Rattle.block.proofs.Bits.{ones_parity}
use Rattle.block.proofs.Columns.{summed_lt, wanted_lt, is_proper, wrong_parity, odd_set, summed_set, distance_set, bytes_set}
use Rattle.block.proofs.Apart.{near_rows, wrong_columns_lem}

module _ (rows old : List ℕ) where
  abbrev tests : List Test
  tests = reading_tests rows (length old)

  pub refused : (n : ℕ) → FailsAt n tests → Reads rows old (answer_at n tests ∷ 0 ∷ []) old
  unfolding Reads
  refused = refuses (ReadAs rows) 1 old tests

  -- where a proper block lies within one bit it is what is read
  pub near_reads : (block : List ℕ) (d : ℕ) → length old ≡ length rows → Near rows block → d ≡ distance rows block → Reads rows old (0 ∷ d ∷ []) block
  unfolding Reads
  near_reads block d room n e =
      let l : length block ≡ length rows = n.long in
      let least : 2 ≤ length block = n.proper.block.least in
      let most : length block ≤ 64 = n.proper.block.most in
      succeeds (ReadAs rows) 1 old tests _ _ ((omega arith, omega arith) then room then (block, n) then tt) (n, ap (λ (k : ℕ). k ∷ []) e)

  pub none_near : 2 ≤ length rows → length rows ≤ 64 → length old ≡ length rows → (Mendable rows → ⊥) → Reads rows old (9 ∷ 0 ∷ []) old
  none_near least most room none = refused 2 ((least, most) then room then denied none)

-- the odd row is one of the copy's
pub row_inside : (rows copied : List ℕ) (f : Faults) → 2 ≤ length rows → Counted rows f → copied ≡ rows → f.row < length copied
row_inside rows copied f least counted e = rw e (counted.inside (omega arith))

module _ (rows : List ℕ) (f : Faults) (counted : Counted rows f) where
  -- two odd rows are too many
  pub many_odd : 1 < f.rows → No (Mendable rows)
  many_odd h = record {
    not = λ m.
        let o : f.rows ≡ distance rows m.0 = counted.rows_odd ∙ near_rows rows m.0 m.1 in
        let w : distance rows m.0 ≤ 1 = m.1.within in
        omega arith;
  }

  module _ (d : ℕ) (ends : d ≡ ones f.columns) where
    -- and so are two columns of the wrong parity
    pub many_columns : 1 < d → No (Mendable rows)
    many_columns h =
        let e : d ≡ ones (bit_xor wanted (summed rows)) = ends ∙ ap ones counted.columns_wrong in
        record { not = wrong_columns_lem rows (omega arith) }

    module _ (old : List ℕ) (least : 2 ≤ length rows) (most : length rows ≤ 64) (room : length old ≡ length rows) where
      module _ (few : f.rows ≤ 1) (small : d ≤ 1) where
        -- the odd row with the wrong column's bit turned, and the rows with it
        abbrev turned : ℕ
        turned = bit_xor (get_or rows f.row 0) f.columns

        abbrev mended : List ℕ
        mended = set rows f.row turned

        inside : f.row < length rows
        inside = counted.inside (omega arith)

        columns-byte : f.columns < 256
        columns-byte = rw counted.columns_wrong (xor_lt 8 wanted (summed rows) wanted_lt (summed_lt rows counted.bytes))

        -- there are as many of the one as of the other
        as_many : f.rows ≡ d
        as_many =
            let o : f.rows ≡ odd_rows rows = counted.rows_odd in
            let p : ones f.columns % 2 ≡ odd_rows rows % 2 = ap (λ (c : ℕ). ones c % 2) counted.columns_wrong ∙ wrong_parity rows in
            omega arith

        none-odd : odd_rows mended ≡ 0
        none-odd =
            let x : ℕ = get_or rows f.row 0 in
            let s : odd_rows mended + ones x % 2 ≡ odd_rows rows + ones turned % 2 = odd_set rows f.row turned inside in
            let q : ones turned % 2 ≡ (ones x + ones f.columns) % 2 = ones_parity x f.columns in
            let o : f.rows ≡ odd_rows rows = counted.rows_odd in
            let a : f.rows ≡ d = as_many in
            ⊎_elim (λ (one : d ≡ 1). let k : ones x % 2 ≡ 1 = counted.row_odd (omega arith) in omega arith) (λ (none : d < 1). omega arith) (eq-or-lt_of_le small)

        near : Near rows mended
        near =
            let l : length mended ≡ length rows = length-set rows f.row turned in
            record {
              long = l;
              proper = is_proper mended
                  (record {
                    least = omega arith;
                    most = omega arith;
                    bytes = bytes_set rows f.row turned counted.bytes (xor_lt 8 (get_or rows f.row 0) f.columns (counted.bytes f.row) columns-byte);
                  })
                  none-odd
                  (summed_set rows f.row f.columns inside ∙ ap (λ (c : ℕ). bit_xor (summed rows) c) (counted.columns_wrong ∙ xor_comm wanted (summed rows)) ∙ xor_undo (summed rows) wanted);
              within = rw (distance_set rows f.row f.columns inside) (omega arith);
            }

        -- else the bit where the odd row and the wrong column meet is turned, if there are any
        pub found : (copied : List ℕ) → copied ≡ rows
            → Reads rows old (0 ∷ d ∷ []) (set copied f.row (bit_xor (get_or copied f.row 0) f.columns))
        found copied e =
            rw e (near_reads rows old mended d room near (ends ∙ sym (distance_set rows f.row f.columns inside)))

-- The loops of this crate: for each a record of what the turns so far have done, with its start, its turn and its end.
use mathlib.Core.Path.{◌≡◌, refl, sym, ap, ap₂, ◌∙◌}
use mathlib.Core.Bool.{Bool, true, false}
use mathlib.Core.List.{List, [], ◌∷◌, ◌++◌}
use Prim.Native.Nat.{ℕ, zero, suc, ◌+◌, ◌*◌, ◌/◌, ◌%◌, ◌<◌, ◌≤◌}
use native.Mathlib.Nat.{not-suc-le-zero, add-zero}
use native.Mathlib.Numerals.{add-one}
use native.Mathlib.Decide.{dec_lt}
use native.Mathlib.Omega.{arith}
use lib.ListN.{length, get_or, set, take, drop, length-map, length-set, get_or-eq_default}
use lib.Seq.{drop-drop, drop-cons, drop-length, take-suc, take-length, set_at, append_snoc, length-take-le}
use lib.Bits.{bit_xor, xor_zero_r}
use lib.Dec.{leb}
use mir.Syntax.{w64}
use Rattle.std.specs.Int.{from_le_bytes}
use Rattle.std.specs.Simd.{first_chunks}
use Rattle.std.specs.List.{list_all}
use Rattle.std.proofs.lemmas.List.{get_or-take, get_or-drop}
use Rattle.std.proofs.lemmas.Bool.{leb-true, le-leb, false≢true}
use Rattle.std.proofs.lemmas.Grind.{get_or_default_zero}
use Rattle.std.proofs.lemmas.List.Sums.{AllPass-from_list_all, list_all-from_AllPass}
use Rattle.numbers.proofs.Cases.{pos_of_not_zero}
use Rattle.numbers.proofs.Xor.{xor_assoc, xor_undo}
use Rattle.refusal.specs.Promise.{Tells}
use Rattle.refusal.proofs.Laws.{tells_yes, tells_no}
use Rattle.numbers.specs.Total.{total}
use Rattle.numbers.proofs.Totals.{total_none, total_front}
use Rattle.eights.specs.Inside.{byte, HoldsBytes, eight_from}
use Rattle.eights.proofs.Laws.{none_byte, eight_holds}
use Rattle.eights.proofs.Loops.{holds_at, eight_more}
use Rattle.block.specs.Block.{Bytes, ones, Sevens}
use Rattle.block.specs.Inside.{odd_rows, summed, wanted, Counted, checked, with_checks, encoded}
use Rattle.block.specs.Lanes.{count, CountedTo, OddBytes, SomeByte}
use Rattle.block.proofs.Encoding.{checks_at, summed_snoc}
use Rattle.block.proofs.Lanes.{bytes_counted, count_same, count_most, count_append, count_front}

-- ---- the faults of rows, one at a time

module _ (rows : List ℕ) (i odd row columns n odd' row' : ℕ) (t : CountedTo rows i odd row columns) (h : i < length rows) (c : n ≡ ones (get_or rows i 0)) where
  columns-next : bit_xor columns (get_or rows i 0) ≡ bit_xor wanted (total (i + 1) (λ a. get_or rows a 0))
  unfolding total
  columns-next =
      rw (add-one i, t.columns_wrong) (xor_assoc wanted (total i (λ a. get_or rows a 0)) (get_or rows i 0))

  odd-next : count (i + 1) (λ a. ones (get_or rows a 0) % 2) ≡ count i (λ a. ones (get_or rows a 0) % 2) + n % 2
  unfolding count
  odd-next = rw (add-one i, c) refl

  pub counted_odd : n % 2 ≡ 1 → odd' ≡ odd + 1 → row' ≡ i → CountedTo rows (i + 1) odd' row' (bit_xor columns (get_or rows i 0))
  counted_odd e o r =
      record {
        most = omega arith;
        few = omega arith;
        rows_odd = omega (arith, odd-next);
        columns_wrong = columns-next;
        inside = λ _. omega arith;
        row_odd = λ _. rw (r, ← c) e;
      }

  pub counted_even : (n % 2 ≡ 1 → ⊥) → odd' ≡ odd → row' ≡ row → CountedTo rows (i + 1) odd' row' (bit_xor columns (get_or rows i 0))
  counted_even e o r =
      record {
        most = omega arith;
        few = omega arith;
        rows_odd = omega (arith, odd-next);
        columns_wrong = columns-next;
        inside = λ k. rw r (t.inside k);
        row_odd = λ k. rw r (t.row_odd (omega arith));
      }

odd_rows_count : (rows : List ℕ) → odd_rows rows ≡ count (length rows) (λ a. ones (get_or rows a 0) % 2)
unfolding odd_rows count
odd_rows_count [] = refl
odd_rows_count (x ∷ xs) =
    ap (λ (n : ℕ). ones x % 2 + n) (odd_rows_count xs) ∙ sym (count_front (length xs) (λ a. ones (get_or (x ∷ xs) a 0) % 2))

pub summed_total : (rows : List ℕ) → summed rows ≡ total (length rows) (λ a. get_or rows a 0)
unfolding summed total
summed_total [] = refl
summed_total (x ∷ xs) = ap (bit_xor x) (summed_total xs) ∙ sym (total_front (length xs) (λ a. get_or (x ∷ xs) a 0))

pub counted_all : (rows : List ℕ) (i odd row columns : ℕ) → Bytes rows → CountedTo rows i odd row columns → length rows ≤ i
    → Counted rows (record { rows = odd; row = row; columns = columns })
counted_all rows i odd row columns b t h =
    let e : i ≡ length rows = omega arith in
    record {
      bytes = b;
      rows_odd = t.rows_odd ∙ ap (λ (n : ℕ). count n (λ a. ones (get_or rows a 0) % 2)) e ∙ sym (odd_rows_count rows);
      columns_wrong = t.columns_wrong ∙ ap (λ (n : ℕ). bit_xor wanted (total n (λ a. get_or rows a 0))) e ∙ ap (bit_xor wanted) (sym (summed_total rows));
      inside = t.inside;
      row_odd = t.row_odd;
    }

-- ---- eight rows in one number

-- the chunks of eight
chunk_at : (m k : ℕ) (rows d : List ℕ) → k < m → get_or (first_chunks 8 m rows) k d ≡ take 8 (drop (8 * k) rows)
chunk_at zero k rows d h = absurd (omega arith)
chunk_at (suc m) zero rows d h = refl
chunk_at (suc m) (suc k) rows d h =
    let e : 8 + 8 * k ≡ 8 * suc k = omega arith in
    chunk_at m k (drop 8 rows) d (omega arith) ∙ ap (take 8) (drop-drop (8 * k) 8 rows ∙ ap (λ (n : ℕ). drop n rows) e)

-- the number of the bytes of one holds them
pub chunk_holds : (rows d : List ℕ) (chunks : List (List ℕ)) (k x : ℕ) → Bytes rows → chunks ≡ first_chunks 8 (length rows / 8) rows → k < length rows / 8
    → x ≡ from_le_bytes w64 (get_or chunks k d) → HoldsBytes (eight_from rows (8 * k)) x
chunk_holds rows d chunks k x b e h q =
    let i : ℕ = 8 * k in
    eight_holds _ _ _ _ _ _ _ _ x (b i) (b (i + 1)) (b (i + 2)) (b (i + 3)) (b (i + 4)) (b (i + 5)) (b (i + 6)) (b (i + 7))
    (q ∙ rw (first, at 1 (omega arith), at 2 (omega arith), at 3 (omega arith), at 4 (omega arith), at 5 (omega arith), at 6 (omega arith), at 7 (omega arith)) refl)
  where
    at : (j : ℕ) → j < 8 → get_or (get_or chunks k d) j 0 ≡ get_or rows (8 * k + j) 0
    at j l =
        ap (λ (c : List (List ℕ)). get_or (get_or c k d) j 0) e ∙ ap (λ (c : List ℕ). get_or c j 0) (chunk_at (length rows / 8) k rows d h)
        ∙ get_or-take 8 (drop (8 * k) rows) j 0 l ∙ get_or-drop (8 * k) rows j 0

    first : get_or (get_or chunks k d) 0 0 ≡ get_or rows (8 * k) 0
    first = at 0 (omega arith) ∙ ap (λ (n : ℕ). get_or rows n 0) (add-zero (8 * k))

-- ---- eight at a time: the columns are the bytes of z

-- the rows of the first k eights are counted
abbrev pub EightsTo : List ℕ → ℕ → ℕ → ℕ → ℕ → Type 0
EightsTo rows k odd row z = CountedTo rows (8 * k) odd row (bit_xor wanted (total 8 (byte z)))

pub eights_none : (rows : List ℕ) → EightsTo rows 0 0 0 0
unfolding count total
eights_none rows =
    record {
      most = omega arith;
      few = omega arith;
      rows_odd = refl;
      columns_wrong = ap (bit_xor wanted) (total_none 8 (byte 0) (λ k l. none_byte k));
      inside = λ h. h;
      row_odd = λ h. absurd (not-suc-le-zero h);
    }

module _ (rows : List ℕ) (k odd row z x p odd' row' : ℕ) (t : EightsTo rows k odd row z) (h : k < length rows / 8) (s : HoldsBytes (eight_from rows (8 * k)) x) (o : OddBytes x p) where
  -- the row that this eight begins with, and that it ends before
  abbrev i : ℕ
  i = 8 * k

  next : 8 * (k + 1) ≡ i + 8
  next = omega arith

  odd_byte : (j : ℕ) → j < 8 → byte p j ≡ ones (get_or rows (i + j) 0) % 2
  odd_byte j l = o.at j l ∙ ap (λ (r : ℕ). ones r % 2) (holds_at rows i x s j l)

  odd-bit : (j : ℕ) → j < 8 → byte p j ≤ 1
  odd-bit j l = omega (arith, odd_byte j l)

  counted-here : p % 255 ≡ count 8 (byte p)
  counted-here = bytes_counted 8 p (omega arith) o.small odd-bit

  few-here : p % 255 ≤ 8
  few-here = omega (arith, counted-here, count_most 8 (byte p) odd-bit)

  count_more : count (i + 8) (λ a. ones (get_or rows a 0) % 2) ≡ odd + p % 255
  count_more =
      count_append i 8 (λ a. ones (get_or rows a 0) % 2)
      ∙ ap₂ ◌+◌ (sym t.rows_odd) (count_same 8 (λ j. ones (get_or rows (i + j) 0) % 2) (byte p) (λ j l. sym (odd_byte j l)) ∙ sym counted-here)

  columns-more : bit_xor wanted (total 8 (byte (bit_xor z x))) ≡ bit_xor wanted (total (i + 8) (λ a. get_or rows a 0))
  columns-more =
      let e : total 8 (byte z) ≡ total i (λ a. get_or rows a 0) =
      sym (xor_undo wanted (total 8 (byte z))) ∙ ap (bit_xor wanted) t.columns_wrong ∙ xor_undo wanted (total i (λ a. get_or rows a 0))
      in ap (bit_xor wanted) (eight_more rows i z x e (holds_at rows i x s))

  pub eights_odd : (p ≡ 0 → ⊥) → (j : ℕ) → SomeByte p j → odd' ≡ odd + p % 255 → row' ≡ i + j → EightsTo rows (k + 1) odd' row' (bit_xor z x)
  eights_odd d j f e r =
      let l : j < 8 = f.inside d in
      rw next
      (record {
        most = omega arith;
        few = omega (arith, t.few, few-here);
        rows_odd = e ∙ sym count_more;
        columns_wrong = columns-more;
        inside = λ _. omega arith;
        row_odd = λ _. rw r (omega (arith, odd_byte j l, pos_of_not_zero (byte p j) (f.is d)));
      })

  pub eights_even : p ≡ 0 → odd' ≡ odd → row' ≡ row → EightsTo rows (k + 1) odd' row' (bit_xor z x)
  eights_even d e r =
      rw next
      (record {
        most = omega arith;
        few = omega (arith, t.few);
        rows_odd = omega (arith, count_more);
        columns_wrong = columns-more;
        inside = λ q. rw r (t.inside q);
        row_odd = λ q. rw r (t.row_odd (omega arith));
      })

pub eights_all : (rows : List ℕ) (k odd row z c : ℕ) → EightsTo rows k odd row z → length rows / 8 ≤ k → k ≤ length rows / 8 → c ≡ total 8 (byte z)
    → CountedTo rows (length rows / 8 * 8) odd row (bit_xor wanted c)
eights_all rows k odd row z c t least most e =
    let j : 8 * k ≡ length rows / 8 * 8 = omega arith in
    rw (e, ← j) t

-- ---- data rows of seven bits

-- the test of every row tells it: past the end a row counts as 0
pub tells_sevens : (given : List ℕ) (b : Bool) → b ≡ list_all (λ x. leb x 127) given → Tells (Sevens given) b
tells_sevens given true e = tells_yes (λ k. at k (dec_lt k (length given)))
  where
    at : (k : ℕ) → Dec (k < length given) → get_or given k 0 ≤ 127
    at k (yes h) = leb-true (get_or given k 0) 127 (AllPass-from_list_all (λ x. leb x 127) given (sym e) k 0 h)
    at k (no h) = rw (get_or-eq_default given 0 {n = k} (omega arith)) (omega arith)
tells_sevens given false e =
    tells_no
    (λ s. false≢true
    (e ∙ list_all-from_AllPass (λ x. leb x 127) given (λ k d h. rw (get_or_default_zero given k d h) (le-leb (get_or given k 0) 127 (s k)))))

-- ---- rows with their checks, written over what was there

-- the first i are written
pub record PutTo (given old out : List ℕ) (columns i : ℕ) : Type 0 where
  pub most : i ≤ length given
  pub room : length old ≡ length given + 1
  pub long : length out ≡ length given + 1
  pub done : out ≡ take i (with_checks given) ++ drop i old
  pub sums : columns ≡ bit_xor wanted (summed (take i (with_checks given)))

pub put_none : (given old : List ℕ) (columns : ℕ) → length old ≡ length given + 1 → columns ≡ wanted → PutTo given old old columns 0
unfolding summed
put_none given old columns r e = record { most = omega arith; room = r; long = r; done = refl; sums = e ∙ sym (xor_zero_r wanted) }

pub put_more : (given old out : List ℕ) (columns i x : ℕ) → PutTo given old out columns i → i < length given → x ≡ checked (get_or given i 0)
    → PutTo given old (set out i x) (bit_xor columns x) (i + 1)
put_more given old out columns i x p h e =
    let s : List ℕ = with_checks given in
    let l : i < length s = rw (length-map given checked) h in
    let r : length old ≡ length given + 1 = p.room in
    let v : x ≡ get_or s i 0 = e ∙ sym (checks_at given i h) in
    record {
      most = omega arith;
      room = p.room;
      long = length-set out i x ∙ p.long;
      done = rw (p.done, v, add-one) (one_more old s i (omega arith) l);
      sums = rw (p.sums, v, add-one)
          (xor_assoc wanted (summed (take i s)) (get_or s i 0) ∙ ap (bit_xor wanted) (sym (summed_snoc (take i s) (get_or s i 0)) ∙ ap summed (sym (take-suc s i 0 l))));
    }
  where
    one_more : (d s : List ℕ) (j : ℕ) → j < length d → j < length s → set (take j s ++ drop j d) j (get_or s j 0) ≡ take (suc j) s ++ drop (suc j) d
    one_more d s j hd hs =
        ap (λ (t : List ℕ). set (take j s ++ t) j (get_or s j 0)) (drop-cons d j 0 hd)
        ∙ set_at (take j s) (get_or d j 0) (drop (suc j) d) (get_or s j 0) j (length-take-le j s (omega arith))
        ∙ sym (append_snoc (take j s) (get_or s j 0) (drop (suc j) d))
        ∙ ap (λ (t : List ℕ). t ++ drop (suc j) d) (sym (take-suc s j 0 hs))

pub put_all : (given old out : List ℕ) (columns i : ℕ) → PutTo given old out columns i → length given ≤ i → set out i columns ≡ encoded given
unfolding encoded
put_all given old out columns i p h =
    let s : List ℕ = with_checks given in
    let r : length old ≡ length given + 1 = p.room in
    let m : i ≤ length given = p.most in
    let l : length s ≡ i = length-map given checked ∙ omega arith in
    let t : take i s ≡ s = rw (sym l) (take-length s) in
    let z : suc i ≡ length old = omega arith in
    let d : drop i old ≡ get_or old i 0 ∷ [] = drop-cons old i 0 (omega arith) ∙ ap (λ (q : List ℕ). get_or old i 0 ∷ q) (ap (λ (k : ℕ). drop k old) z ∙ drop-length old) in
    ap₂ (λ (o : List ℕ) (c : ℕ). set o i c) (p.done ∙ ap₂ ◌++◌ t d) (p.sums ∙ ap (λ (q : List ℕ). bit_xor wanted (summed q)) t)
    ∙ set_at s (get_or old i 0) [] (bit_xor wanted (summed s)) i l

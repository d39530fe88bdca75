-- There is one proper block with given data rows, and no other; and each way in which encoding ends.
use mathlib.Core.Path.{◌≡◌, refl, sym, ap, ap₂, ◌∙◌}
use mathlib.Core.List.{List, [], ◌∷◌, ◌++◌, map}
use Prim.Native.Nat.{ℕ, zero, suc, ◌+◌, ◌-◌, ◌*◌, ◌%◌, ◌<◌, ◌≤◌}
use native.Mathlib.Nat.{not-suc-le-zero, le_of_suc-le-suc}
use native.Mathlib.Omega.{arith}
use lib.Dec.{T, eqb, eqb→eq}
use lib.ListN.{length, get_or, take, length-append, length-map, drop_of_length-le}
use lib.Seq.{split_at, take_at}
use lib.Bits.{bit_xor, xor_comm, xor_lt, xor_mod, xor_zero_r}
use lib.Count.{ones_in}
use Rattle.numbers.proofs.Cases.{bit_cases}
use Rattle.numbers.proofs.Range.{each, each_at}
use Rattle.numbers.proofs.Xor.{xor_assoc, xor_undo}
use Rattle.refusal.specs.Promise.{Test}
use Rattle.refusal.proofs.Ladder.{Met, FailsAt, answer_at, refuses, succeeds}
use Rattle.block.specs.Block.{Bytes, data_of, ones, Sevens, Holds}
use Rattle.block.specs.Promises.{encoding_tests, EncodedAs, Encodes}
use Rattle.block.specs.Inside.{odd_rows, summed, wanted, checked, with_checks, encoded}
use Rattle.block.proofs.Bits.{ones_parity}
use Rattle.block.proofs.Columns.{summed_lt, wanted_lt, proper_summed, is_proper, wrong_parity}

-- ---- a row with its check

-- the highest bit alone
check_ones : (n : ℕ) → ones (n % 2 * 128) ≡ n % 2
unfolding ones_in
check_ones = bit_cases (λ (b : ℕ). ones (b * 128) ≡ b) refl refl

checked_even : (x : ℕ) → ones (checked x) % 2 ≡ 0
unfolding checked
checked_even x =
    let p : ones (bit_xor x (ones x % 2 * 128)) % 2 ≡ (ones x + ones (ones x % 2 * 128)) % 2 = ones_parity x (ones x % 2 * 128) in
    twice (ones (bit_xor x (ones x % 2 * 128))) (ones x) (ones (ones x % 2 * 128)) p (check_ones (ones x))
  where
    twice : (a b c : ℕ) → a % 2 ≡ (b + c) % 2 → c ≡ b % 2 → a % 2 ≡ 0
    twice a b c p e = omega arith

checked_byte : (x : ℕ) → x < 256 → checked x < 256
unfolding checked
checked_byte x h = xor_lt 8 x (ones x % 2 * 128) h (omega arith)

checked_low : (x : ℕ) → checked x % 128 ≡ x % 128
unfolding checked
checked_low x = xor_mod x (ones x % 2 * 128) 7 ∙ ap (bit_xor (x % 128)) (omega arith) ∙ xor_zero_r (x % 128)

even_stays : (x : ℕ) → ones x % 2 ≡ 0 → checked x ≡ x
unfolding checked
even_stays x e = ap (λ (b : ℕ). bit_xor x (b * 128)) e ∙ xor_zero_r x

-- an even byte is its lowest seven bits with their check
same_test : T (each 256 (λ x. eqb (checked (x % 128)) (checked x)))
unfolding checked ones_in
same_test = tt

even_checked : (x : ℕ) → x < 256 → ones x % 2 ≡ 0 → checked (x % 128) ≡ x
even_checked x h e = eqb→eq (checked (x % 128)) (checked x) (each_at 256 (λ x. eqb (checked (x % 128)) (checked x)) same_test x h) ∙ even_stays x e

-- ---- rows with their checks

pub checks_at : (xs : List ℕ) (i : ℕ) → i < length xs → get_or (with_checks xs) i 0 ≡ checked (get_or xs i 0)
checks_at [] i h = absurd (not-suc-le-zero h)
checks_at (x ∷ xs) zero h = refl
checks_at (x ∷ xs) (suc i) h = checks_at xs i (le_of_suc-le-suc h)

checks_bytes : (xs : List ℕ) → Sevens xs → Bytes (with_checks xs)
checks_bytes [] s i = omega arith
checks_bytes (x ∷ xs) s zero = let h : x ≤ 127 = s 0 in checked_byte x (omega arith)
checks_bytes (x ∷ xs) s (suc i) = checks_bytes xs (λ i. s (suc i)) i

checks_even : (xs : List ℕ) → odd_rows (with_checks xs) ≡ 0
unfolding odd_rows
checks_even [] = refl
checks_even (x ∷ xs) =
    let i : odd_rows (with_checks xs) ≡ 0 = checks_even xs in
    let e : ones (checked x) % 2 ≡ 0 = checked_even x in
    omega arith

-- the data of rows with their checks are the rows
checks_low : (xs : List ℕ) → Sevens xs → map (λ (row : ℕ). row % 128) (with_checks xs) ≡ xs
checks_low [] s = refl
checks_low (x ∷ xs) s =
    let h : x ≤ 127 = s 0 in
    let l : x % 128 ≡ x = omega arith in
    ap₂ (λ (y : ℕ) (ys : List ℕ). y ∷ ys) (checked_low x ∙ l) (checks_low xs (λ i. s (suc i)))

-- even rows are their data with their checks
low_checks : (n : ℕ) (xs : List ℕ) → Bytes xs → ((i : ℕ) → ones (get_or xs i 0) % 2 ≡ 0) → with_checks (map (λ (row : ℕ). row % 128) (take n xs)) ≡ take n xs
low_checks zero xs b e = refl
low_checks (suc n) [] b e = refl
low_checks (suc n) (x ∷ xs) b e =
    ap₂ (λ (y : ℕ) (ys : List ℕ). y ∷ ys) (even_checked x (b 0) (e 0)) (low_checks n xs (λ i. b (suc i)) (λ i. e (suc i)))

-- ---- one row more at the end

bytes_snoc : (xs : List ℕ) (y : ℕ) → Bytes xs → y < 256 → Bytes (xs ++ (y ∷ []))
bytes_snoc [] y b h zero = h
bytes_snoc [] y b h (suc i) = omega arith
bytes_snoc (x ∷ xs) y b h zero = b 0
bytes_snoc (x ∷ xs) y b h (suc i) = bytes_snoc xs y (λ i. b (suc i)) h i

odd_snoc : (xs : List ℕ) (y : ℕ) → odd_rows (xs ++ (y ∷ [])) ≡ odd_rows xs + ones y % 2
unfolding odd_rows
odd_snoc [] y = omega arith
odd_snoc (x ∷ xs) y = let i : odd_rows (xs ++ (y ∷ [])) ≡ odd_rows xs + ones y % 2 = odd_snoc xs y in omega arith

pub summed_snoc : (xs : List ℕ) (y : ℕ) → summed (xs ++ (y ∷ [])) ≡ bit_xor (summed xs) y
unfolding summed
summed_snoc [] y = xor_zero_r y
summed_snoc (x ∷ xs) y = ap (bit_xor x) (summed_snoc xs y) ∙ sym (xor_assoc x (summed xs) y)

data_snoc : (xs : List ℕ) (y : ℕ) → data_of (xs ++ (y ∷ [])) ≡ map (λ (row : ℕ). row % 128) xs
unfolding data_of
data_snoc xs y =
    let l : length (xs ++ (y ∷ [])) ≡ length xs + 1 = length-append xs (y ∷ []) in
    let n : length (xs ++ (y ∷ [])) - 1 ≡ length xs = omega arith in
    ap (map (λ (row : ℕ). row % 128)) (ap (λ (k : ℕ). take k (xs ++ (y ∷ []))) n ∙ take_at xs (y ∷ []) (length xs) refl)

-- ---- there is such a block

module _ (given : List ℕ) (least : 1 ≤ length given) (most : length given ≤ 63) (sevens : Sevens given) where
  pub encoded_holds : Holds given (encoded given)
  unfolding encoded
  encoded_holds =
      let s : List ℕ = with_checks given in
      let c : ℕ = bit_xor wanted (summed s) in
      let l : length (s ++ (c ∷ [])) ≡ length given + 1 = length-append s (c ∷ []) ∙ ap (λ (n : ℕ). n + 1) (length-map given checked) in
      let o : odd_rows s ≡ 0 = checks_even given in
      let p : ones c % 2 ≡ odd_rows s % 2 = wrong_parity s in
      record {
        proper = is_proper (s ++ (c ∷ []))
            (record { least = omega arith; most = omega arith; bytes = bytes_snoc s c (checks_bytes given sevens) (xor_lt 8 wanted (summed s) wanted_lt (summed_lt s (checks_bytes given sevens))) })
            (odd_snoc s c ∙ none (odd_rows s) (ones c) o p)
            (summed_snoc s c ∙ ap (bit_xor (summed s)) (xor_comm wanted (summed s)) ∙ xor_undo (summed s) wanted);
        rows = data_snoc s c ∙ checks_low given sevens;
      }
    where
      none : (m n : ℕ) → m ≡ 0 → n % 2 ≡ m % 2 → m + n % 2 ≡ 0
      none m n o p = omega arith

-- ---- there is no other

module _ (given block : List ℕ) (h : Holds given block) where
  last : ℕ
  last = get_or block (length block - 1) 0

  block-is : block ≡ with_checks given ++ (last ∷ [])
  unfolding last data_of
  block-is =
      let n : ℕ = length block - 1 in
      let l : 2 ≤ length block = h.proper.block.least in
      let f : with_checks given ≡ take n block = ap with_checks (sym h.rows) ∙ low_checks n block h.proper.block.bytes h.proper.even in
      split_at block n 0 (omega arith)
      ∙ ap₂ (λ (s t : List ℕ). s ++ (get_or block n 0 ∷ t)) (sym f) (drop_of_length-le block {i = suc n} (omega arith))

  -- its last row is forced
  pub holds_encoded : block ≡ encoded given
  unfolding encoded
  holds_encoded =
      let s : ℕ = summed (with_checks given) in
      let e : bit_xor s last ≡ wanted = sym (summed_snoc (with_checks given) last) ∙ ap summed (sym block-is) ∙ proper_summed block h.proper in
      block-is ∙ ap (λ (y : ℕ). with_checks given ++ (y ∷ [])) (sym (xor_undo s last) ∙ ap (bit_xor s) e ∙ xor_comm s wanted)

-- ---- each way in which encoding ends

module _ (given old : List ℕ) where
  abbrev tests : List Test
  tests = encoding_tests given (length old)

  pub refused : (n : ℕ) → FailsAt n tests → Encodes given old (answer_at n tests ∷ []) old
  unfolding Encodes
  refused = refuses (EncodedAs given) 0 old tests

  pub written : Met tests → (new : List ℕ) → new ≡ encoded given → Encodes given old (0 ∷ []) new
  unfolding Encodes
  written m new e = rw e (succeeds (EncodedAs given) 0 old tests _ _ m (encoded_holds given m.0.is.0 m.0.is.1 m.1.1.0.is, refl))

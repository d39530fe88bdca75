-- What the loops of the paper's way do, a turn and a way out at a time, over plain variables: the sums and the two systems.
use mathlib.Core.Path.{◌≡◌, sym, ap, ap₂, ◌∙◌, subst}
use mathlib.Core.List.{List, []}
use Prim.Native.Nat.{ℕ, zero, suc, ◌+◌, ◌-◌, ◌%◌, ◌<◌, ◌≤◌}
use native.Mathlib.Nat.{add-zero, zero-add}
use native.Mathlib.Omega.{arith}
use borrow.Author.Count.{below_none, below_more}
use lib.Bits.{bit_xor}
use Rattle.std.specs.List.{fold, range_with_len}
use lib.ListN.{length, get_or, set, length-set}
use lib.Seq.{get_or-set_same, get_or-set_other}
use Rattle.field.specs.Field.{sum, product, α, power}
use Rattle.polynomial.specs.Polynomial.{value_at}
use Rattle.code.specs.Word.{power_sum, marks}
use Rattle.code.specs.Inside.{PowerSums}
use Rattle.code.proofs.Sums.{power_sum_value}
use Rattle.code.proofs.Loops.{first_point, value_by_fold}
use Rattle.paper.specs.Inside.{ErrorsHave, SumRow, SumRows, PowerRow, PowerRows}

-- ---- the power sums

-- k of them are done, and x is the point of the next
pub record SummedTo (w ms s : List ℕ) (x k : ℕ) : Type 0 where
  pub most : k ≤ 11
  pub word_long : length w ≡ 63
  pub of_marks_lem : PowerSums marks ms
  pub long : length s ≡ 11
  pub point : x ≡ power α (58 + k)
  pub done : (i : ℕ) → i < k → get_or s i 0 ≡ sum (power_sum (58 + i) w) (power_sum (58 + i) marks)

pub summed_none : (w ms s : List ℕ) → length w ≡ 63 → PowerSums marks ms → length s ≡ 11 → SummedTo w ms s 63 0
summed_none w ms s h p l =
    record {
      most = omega arith;
      word_long = h;
      of_marks_lem = p;
      long = l;
      point = first_point;
      done = below_none (λ i. get_or s i 0 ≡ sum (power_sum (58 + i) w) (power_sum (58 + i) marks));
    }

pub summed_again : (w ms s : List ℕ) (x y v k : ℕ) → SummedTo w ms s x k → k < 11 → v ≡ value_at x w → y ≡ product α x
    → SummedTo w ms (set s k (bit_xor v (get_or ms k 0))) y (k + 1)
unfolding power sum
summed_again w ms s x y v k t h e f =
    record {
      most = omega arith;
      word_long = t.word_long;
      of_marks_lem = t.of_marks_lem;
      long = length-set s k (bit_xor v (get_or ms k 0)) ∙ t.long;
      point = f ∙ ap (product α) t.point ∙ ap (power α) (one k);
      done =
          below_more (λ i. get_or (set s k (bit_xor v (get_or ms k 0))) i 0 ≡ sum (power_sum (58 + i) w) (power_sum (58 + i) marks)) k
          (λ i l. get_or-set_other s k i (bit_xor v (get_or ms k 0)) 0 (λ q. omega arith) ∙ t.done i l)
          (get_or-set_same s k (bit_xor v (get_or ms k 0)) 0 (omega (arith, t.long))
          ∙ ap₂ sum (e ∙ ap (λ (z : ℕ). value_at z w) t.point ∙ sym (power_sum_value (58 + k) w t.word_long)) (t.of_marks_lem.sum_at k h));
    }
  where
    one : (k : ℕ) → suc (58 + k) ≡ 58 + (k + 1)
    one k = omega arith

pub summed_all : (w ms s : List ℕ) (x k : ℕ) → SummedTo w ms s x k → 11 ≤ k → ErrorsHave w s
summed_all w ms s x k t h = record { sum_at = λ i l. t.done i (omega arith) }

-- a circuit, as the code of words has it
pub circuit_is : (w : List ℕ) (x v : ℕ) → v ≡ fold (λ v c. bit_xor (product v x) (c % 64)) 0 w → v ≡ value_at x w
unfolding sum
circuit_is w x v e = value_by_fold w x v e

-- ---- the system of the sums

pub record RowsTo (s : List ℕ) (n : ℕ) (m : List (List ℕ)) (i : ℕ) : Type 0 where
  pub most : i ≤ n
  pub few : n ≤ 5
  pub long : length m ≡ 5
  pub done : (j : ℕ) → j < i → SumRow s (6 - n + j) n (get_or m j [])

pub rows_none : (s : List ℕ) (n : ℕ) (m : List (List ℕ)) → n ≤ 5 → length m ≡ 5 → RowsTo s n m 0
rows_none s n m few l = record { most = omega arith; few = few; long = l; done = below_none (λ j. SumRow s (6 - n + j) n (get_or m j [])) }

pub rows_again : (s : List ℕ) (n : ℕ) (m : List (List ℕ)) (i : ℕ) (row : List ℕ) → RowsTo s n m i → i < n
    → SumRow s (6 - n + i) n row → RowsTo s n (set m i row) (i + 1)
rows_again s n m i row t h r =
    record {
      most = omega arith;
      few = t.few;
      long = length-set m i row ∙ t.long;
      done =
          below_more (λ j. SumRow s (6 - n + j) n (get_or (set m i row) j [])) i
          (λ j l. subst (SumRow s (6 - n + j) n) (sym (get_or-set_other m i j row [] (λ q. omega arith))) (t.done j l))
          (subst (SumRow s (6 - n + i) n) (sym (get_or-set_same m i row [] (let few = t.few in omega (arith, t.long)))) r);
    }

pub rows_all : (s : List ℕ) (n : ℕ) (m : List (List ℕ)) (i : ℕ) → RowsTo s n m i → n ≤ i → SumRows s n m
rows_all s n m i t h = record { row = λ j l. t.done j (omega arith) }

-- ---- the system of the powers

-- from x to the power i on
raised_from : (x i s j : ℕ) → fold (λ v k. product x v) (power x i) (range_with_len s j) ≡ power x (j + i)
unfolding power
raised_from x i s zero = ap (power x) (sym (zero-add i))
raised_from x i s (suc j) = raised_from x (suc i) (s + 1) j ∙ ap (power x) (let same : j + suc i ≡ suc j + i = omega arith in same)

pub raised_is : (x v j : ℕ) → v ≡ fold (λ v k. product x v) 1 (range_with_len 0 j) → v ≡ power x j
unfolding power
raised_is x v j e = e ∙ raised_from x 0 0 j ∙ ap (power x) (add-zero j)

pub record PowerTo (xs : List ℕ) (s n i : ℕ) (row : List ℕ) (k : ℕ) : Type 0 where
  pub most : k ≤ n
  pub few : n ≤ 5
  pub long : length row ≡ 6
  pub done : (j : ℕ) → j < k → get_or row j 0 ≡ power (get_or xs (5 - n + j) 0) i
  pub last : get_or row n 0 ≡ s

pub power_none : (xs : List ℕ) (s n i : ℕ) (row : List ℕ) → n ≤ 5 → length row ≡ 6 → PowerTo xs s n i (set row n s) 0
power_none xs s n i row few l =
    record {
      most = omega arith;
      few = few;
      long = length-set row n s ∙ l;
      done = below_none (λ j. get_or (set row n s) j 0 ≡ power (get_or xs (5 - n + j) 0) i);
      last = get_or-set_same row n s 0 (omega arith);
    }

pub power_again : (xs : List ℕ) (s n i : ℕ) (row : List ℕ) (k v : ℕ) → PowerTo xs s n i row k → k < n → v ≡ power (get_or xs (5 - n + k) 0) i
    → PowerTo xs s n i (set row k v) (k + 1)
power_again xs s n i row k v t h e =
    record {
      most = omega arith;
      few = t.few;
      long = length-set row k v ∙ t.long;
      done =
          below_more (λ j. get_or (set row k v) j 0 ≡ power (get_or xs (5 - n + j) 0) i) k (λ j l. get_or-set_other row k j v 0 (λ q. omega arith) ∙ t.done j l)
          (get_or-set_same row k v 0 (let few = t.few in omega (arith, t.long)) ∙ e);
      last = get_or-set_other row k n v 0 (λ q. omega arith) ∙ t.last;
    }

pub power_all : (xs : List ℕ) (s n i : ℕ) (row : List ℕ) (k : ℕ) → PowerTo xs s n i row k → n ≤ k → PowerRow xs s n i row
power_all xs s n i row k t h = record { entry = λ j l. t.done j (omega arith); last = t.last }

pub record PowersTo (xs s : List ℕ) (n : ℕ) (m : List (List ℕ)) (i : ℕ) : Type 0 where
  pub most : i ≤ n
  pub few : n ≤ 5
  pub long : length m ≡ 5
  pub done : (j : ℕ) → j < i → PowerRow xs (get_or s (5 + j) 0) n j (get_or m j [])

pub powers_none : (xs s : List ℕ) (n : ℕ) (m : List (List ℕ)) → n ≤ 5 → length m ≡ 5 → PowersTo xs s n m 0
powers_none xs s n m few l =
    record { most = omega arith; few = few; long = l; done = below_none (λ j. PowerRow xs (get_or s (5 + j) 0) n j (get_or m j [])) }

pub powers_again : (xs s : List ℕ) (n : ℕ) (m : List (List ℕ)) (i : ℕ) (row : List ℕ) → PowersTo xs s n m i → i < n → PowerRow xs (get_or s (5 + i) 0) n i row
    → PowersTo xs s n (set m i row) (i + 1)
powers_again xs s n m i row t h r =
    record {
      most = omega arith;
      few = t.few;
      long = length-set m i row ∙ t.long;
      done =
          below_more (λ j. PowerRow xs (get_or s (5 + j) 0) n j (get_or (set m i row) j [])) i
          (λ j l. subst (PowerRow xs (get_or s (5 + j) 0) n j) (sym (get_or-set_other m i j row [] (λ q. omega arith))) (t.done j l))
          (subst (PowerRow xs (get_or s (5 + i) 0) n i) (sym (get_or-set_same m i row [] (let few = t.few in omega (arith, t.long)))) r);
    }

pub powers_all : (xs s : List ℕ) (n : ℕ) (m : List (List ℕ)) (i : ℕ) → PowersTo xs s n m i → n ≤ i → PowerRows xs s n m
powers_all xs s n m i t h = record { row = λ j l. t.done j (omega arith) }

-- What shows that a table holds the marks' power sums: its first entry's, and that each entry after it is the one before, turned back.
use mathlib.Core.Path.{◌≡◌, sym, ap, ap₂, ◌∙◌, subst}
use mathlib.Core.Bool.{Bool, true, cond}
use mathlib.Core.Logic.{⊎_elim}
use mathlib.Core.List.{List, [], ◌∷◌}
use Prim.Native.Nat.{ℕ, zero, suc, ◌+◌, ◌*◌, ◌%◌, ◌<◌}
use native.Mathlib.Numerals.{add-one}
use native.Mathlib.Omega.{arith}
use lib.Dec.{T, eqb, eqb→eq}
use lib.ListN.{get_or}
use borrow.Author.Tests.{ne_eqb}
use Rattle.numbers.proofs.Cases.{same_or_not}
use Rattle.numbers.proofs.Range.{each, each_at}
use Rattle.field.specs.Field.{sum, times_x, shifted, product, α, power}
use Rattle.field.proofs.Laws
use Rattle.regular.specs.Pivots.{element_in}
use Rattle.code.specs.Word.{listed}
use Rattle.sums.specs.declared.Sums.{Sums}
use Rattle.sums.specs.Held.{eleven_at}
use Rattle.sums.proofs.Holding.{eleven_long, eleven_get}
use Rattle.code.proofs.Words.{listed_long, listed_get}
use Rattle.ring.specs.Inside.{MarkSums}
use Rattle.ring.specs.Marks.{MarksIn, marks_of, MarksAtAll}
use Rattle.ring.proofs.marks.Marks.{TurnedBack, next_sums}

-- the eleven sums at a start
abbrev pub eleven_of : List (ℕ × ℕ) → ℕ → Sums
eleven_of m k = record { first = (get_or m k (0, 0)).0; last = (get_or m k (0, 0)).1 }

-- ---- the words

-- the powers of α that turn the eleven sums back by one character
unfoldable pub backs : List ℕ
backs = 32 ∷ 16 ∷ 8 ∷ 4 ∷ 2 ∷ 1 ∷ 33 ∷ 49 ∷ 57 ∷ 61 ∷ 63 ∷ []

backs_test : T (each 11 (λ k. eqb (get_or backs k 0) (power α ((58 + k) * 62 % 63))))
unfolding backs power product shifted times_x sum
backs_test = tt

back : (k : ℕ) → k < 11 → get_or backs k 0 ≡ power α ((58 + k) * 62)
back k h =
    eqb→eq (get_or backs k 0) (power α ((58 + k) * 62 % 63)) (each_at 11 (λ k. eqb (get_or backs k 0) (power α ((58 + k) * 62 % 63))) backs_test k h)
    ∙ Laws.power_mod ((58 + k) * 62)

-- the sums at start l, and that each is that of the start before it, turned back
unfoldable pub sums_in : List ℕ → ℕ → List ℕ
sums_in words l = listed (λ k. element_in words k l) 0 11

unfoldable pub turned_in : List ℕ → Bool
turned_in words = each 62 (λ l. each 11 (λ k. eqb (element_in words k (suc l)) (product (element_in words k l) (get_or backs k 0))))

turned_in_lem : (words : List ℕ) → T (turned_in words) → (l : ℕ) → l < 62 → TurnedBack (sums_in words l) (sums_in words (suc l))
unfolding turned_in sums_in
turned_in_lem words t l h =
    record {
      long = listed_long (λ k. element_in words k (suc l)) 0 11;
      entry = λ k g.
          listed_get (λ k. element_in words k (suc l)) 11 k g
          ∙ eqb→eq (element_in words k (suc l)) (product (element_in words k l) (get_or backs k 0))
          (each_at 11 (λ k. eqb (element_in words k (suc l)) (product (element_in words k l) (get_or backs k 0)))
          (each_at 62 (λ l. each 11 (λ k. eqb (element_in words k (suc l)) (product (element_in words k l) (get_or backs k 0)))) t l h) k g)
          ∙ ap₂ product (sym (listed_get (λ k. element_in words k l) 11 k g)) (back k g);
    }

module _ (first : ℕ) (words : List ℕ) (t : T (turned_in words)) (apart : (l : ℕ) → l < 62 → first + l ≡ 62 → ⊥) (begins : MarkSums first (sums_in words 0)) where
  sums_in_lem : (l : ℕ) → l < 63 → MarkSums (first + l) (sums_in words l)
  sums_in_lem zero h = subst (λ (k : ℕ). MarkSums k (sums_in words 0)) (omega arith) begins
  sums_in_lem (suc l) h =
      subst (λ (k : ℕ). MarkSums k (sums_in words (suc l))) (omega arith)
      (next_sums (first + l) (sums_in words l) (sums_in words (suc l)) (apart l (omega arith)) (sums_in_lem l (omega arith)) (turned_in_lem words t l (omega arith)))

  pub marks_in : MarksIn first words
  unfolding sums_in
  marks_in = record { at = λ l k h g. sym (listed_get (λ k. element_in words k l) 11 k g) ∙ (sums_in_lem l h).sum_at k g }

-- ---- the marks at all starts

unfoldable pub turned_all : List (ℕ × ℕ) → Bool
turned_all m =
    each 125
    (λ k. cond (eqb k 62) true (each 11 (λ i. eqb (eleven_at (eleven_of m (suc k)) i) (product (eleven_at (eleven_of m k) i) (get_or backs i 0)))))

module _ (m : List (ℕ × ℕ)) (t : T (turned_all m)) (begins : MarkSums 0 (marks_of m 0)) (returns : MarkSums 63 (marks_of m 63)) where
  turned-at : (k : ℕ) → k < 125 → (k ≡ 62 → ⊥) → TurnedBack (marks_of m k) (marks_of m (suc k))
  unfolding turned_all
  turned-at k h d =
      record {
        long = eleven_long (eleven_of m (suc k));
        entry = λ i g.
            eleven_get (eleven_of m (suc k)) i g
            ∙ eqb→eq (eleven_at (eleven_of m (suc k)) i) (product (eleven_at (eleven_of m k) i) (get_or backs i 0))
            (each_at 11 (λ i. eqb (eleven_at (eleven_of m (suc k)) i) (product (eleven_at (eleven_of m k) i) (get_or backs i 0)))
            (subst (λ (b : Bool). T (cond b true (each 11 (λ i. eqb (eleven_at (eleven_of m (suc k)) i) (product (eleven_at (eleven_of m k) i) (get_or backs i 0)))))) (ne_eqb k 62 d)
            (each_at 125
            (λ k. cond (eqb k 62) true (each 11 (λ i. eqb (eleven_at (eleven_of m (suc k)) i) (product (eleven_at (eleven_of m k) i) (get_or backs i 0))))) t k h))
            i g)
            ∙ ap₂ product (sym (eleven_get (eleven_of m k) i g)) (back i g);
      }

  sums_at : (k : ℕ) → k < 126 → MarkSums k (marks_of m k)
  sums_at zero h = begins
  sums_at (suc k) h =
      ⊎_elim (λ (e : k ≡ 62). subst (λ (n : ℕ). MarkSums n (marks_of m n)) (ap suc (sym e)) returns)
      (λ (d : k ≡ 62 → ⊥).
      subst (λ (n : ℕ). MarkSums n (marks_of m (suc k))) (add-one k)
      (next_sums k (marks_of m k) (marks_of m (suc k)) d (sums_at k (omega arith)) (turned-at k (omega arith) d)))
      (same_or_not k 62)

  pub marks_at_all : MarksAtAll m
  marks_at_all = record { at = sums_at }

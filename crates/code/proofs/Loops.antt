-- What the code of words does, a turn and a way out of a loop at a time, over plain variables.
use mathlib.Core.Path.{◌≡◌, refl, sym, ap, ◌∙◌}
use mathlib.Core.Bool.{Bool, true, false}
use mathlib.Core.List.{List, [], ◌∷◌}
use Prim.Native.Nat.{ℕ, suc, ◌+◌, ◌%◌, ◌<◌, ◌≤◌}
use native.Mathlib.Omega.{arith}
use lib.ListN.{length, get_or}
use borrow.Author.Count.{below_none, below_more}
use Rattle.std.specs.List.{list_all, fold}
use Rattle.std.proofs.lemmas.Bool.{leb-true, le-leb, false≢true}
use Rattle.std.proofs.lemmas.List.{get_or_default}
use Rattle.std.proofs.lemmas.List.Sums.{AllPass-from_list_all, list_all-from_AllPass}
use lib.Dec.{leb}
use Rattle.refusal.specs.Promise.{Tells}
use Rattle.refusal.proofs.Laws.{tells_yes, tells_no}
use Rattle.field.specs.Field.{sum, times_x, shifted, product, α, power}
use Rattle.field.proofs.Laws
use Rattle.polynomial.specs.Polynomial.{value_at}
use Rattle.code.specs.Word.{Characters, marks, Line}
use Rattle.code.specs.Inside.{PowerSums}
use Rattle.code.proofs.Words.{characters_below}
use Rattle.code.proofs.Sums.{power_sum_value}
use Rattle.code.proofs.Lines.{line_long, line_characters, line_sums, sums_line}

-- ---- whether each character is at most 63

low_list : (w : List ℕ) → list_all (λ x. leb x 63) w ≡ true → Characters w
low_list w e = characters_below w (length w) (omega arith) (λ a h. below (get_or w a 0) (AllPass-from_list_all (λ x. leb x 63) w e a 0 h))
  where
    below : (x : ℕ) → leb x 63 ≡ true → x < 64
    below x t = let l = leb-true x 63 t in omega arith

list_low : (w : List ℕ) → Characters w → list_all (λ x. leb x 63) w ≡ true
list_low w c = list_all-from_AllPass (λ x. leb x 63) w (λ a d h. at a d h)
  where
    at : (a d : ℕ) → a < length w → leb (get_or w a d) 63 ≡ true
    at a d h = le-leb (get_or w a d) 63 (let l = c a in let e = get_or_default w a d 0 h in omega arith)

pub tells_low : (w : List ℕ) (b : Bool) → b ≡ list_all (λ x. leb x 63) w → Tells (Characters w) b
tells_low w b e = record { holds = λ t. low_list w (sym e ∙ t); fails = λ f c. false≢true (sym f ∙ e ∙ list_low w c) }

-- ---- the value at x

one_more : (a x c p v : ℕ) → sum (product (sum (product a x) (c % 64)) p) v ≡ sum (product a (product x p)) (sum (product c p) v)
one_more a x c p v = ap (λ (n : ℕ). sum n v) (Laws.sum_product (product a x) (c % 64) p ∙ ap (sum (product (product a x) p)) (Laws.product_low c p)) ∙ simp Laws.ring

-- from a on, by Horner's rule
value_from : (x a : ℕ) (w : List ℕ) → a < 64 → fold (λ v c. sum (product v x) (c % 64)) a w ≡ sum (product a (power x (length w))) (value_at x w)
unfolding value_at power
value_from x a [] h = sym (Laws.sum_zero (product a 1) ∙ Laws.product_one a h)
value_from x a (c ∷ cs) h =
    value_from x (sum (product a x) (c % 64)) cs (Laws.sum_lt (product a x) (c % 64) (Laws.product_lt a x) (omega arith))
    ∙ one_more a x c (power x (length cs)) (value_at x cs)

pub value_by_fold : (w : List ℕ) (x v : ℕ) → v ≡ fold (λ v c. sum (product v x) (c % 64)) 0 w → v ≡ value_at x w
value_by_fold w x v e =
    e ∙ value_from x 0 w (omega arith) ∙ ap (λ (n : ℕ). sum n (value_at x w)) (Laws.zero_product (power x (length w))) ∙ Laws.zero_sum (value_at x w)

-- ---- whether they have these sums

-- k of them are those of w, and x is the point of the next
pub record SumsTo (w sums : List ℕ) (x k : ℕ) : Type 0 where
  pub most : k ≤ 11
  pub word_long : length w ≡ 63
  pub long : length sums ≡ 11
  pub point : x ≡ power α (58 + k)
  pub passed : (m : ℕ) → m < k → get_or sums m 0 ≡ value_at (power α (58 + m)) w

pub first_point : 63 ≡ power α 58
unfolding power product shifted times_x sum
first_point = refl

pub sums_none : (w sums : List ℕ) → length w ≡ 63 → length sums ≡ 11 → SumsTo w sums 63 0
sums_none w sums h l =
    record {
      most = omega arith;
      word_long = h;
      long = l;
      point = first_point;
      passed = below_none (λ m. get_or sums m 0 ≡ value_at (power α (58 + m)) w);
    }

pub sums_again : (w sums : List ℕ) (x y v k : ℕ) → SumsTo w sums x k → k < 11 → v ≡ value_at x w → v ≡ get_or sums k 0 → y ≡ product α x
    → SumsTo w sums y (k + 1)
unfolding power
sums_again w sums x y v k s h e f g =
    record {
      most = omega arith;
      word_long = s.word_long;
      long = s.long;
      point = g ∙ ap (product α) s.point ∙ ap (power α) (one k);
      passed = below_more (λ m. get_or sums m 0 ≡ value_at (power α (58 + m)) w) k s.passed
          (sym f ∙ e ∙ ap (λ (z : ℕ). value_at z w) s.point);
    }
  where
    one : (k : ℕ) → suc (58 + k) ≡ 58 + (k + 1)
    one k = omega arith

pub sums_all : (w sums : List ℕ) (x k : ℕ) → SumsTo w sums x k → 11 ≤ k → Tells (PowerSums w sums) true
sums_all w sums x k s h =
    tells_yes
    (record {
      long = s.long;
      sum_at = λ m b. s.passed m (omega arith) ∙ sym (power_sum_value (58 + m) w s.word_long);
    })

pub sums_not : (w sums : List ℕ) (x v k : ℕ) → SumsTo w sums x k → k < 11 → v ≡ value_at x w → (v ≡ get_or sums k 0 → ⊥)
    → Tells (PowerSums w sums) false
sums_not w sums x v k s h e d =
    tells_no
    (λ p. d (e ∙ ap (λ (z : ℕ). value_at z w) s.point ∙ sym (power_sum_value (58 + k) w s.word_long) ∙ sym (p.sum_at k h)))

-- ---- whether it is a line

pub wrong_length : (w : List ℕ) → (length w ≡ 63 → ⊥) → Tells (Line w) false
wrong_length w d = tells_no (λ l. d (line_long w l))

pub wrong_characters : (w : List ℕ) (b : Bool) → Tells (Characters w) b → b ≡ false → Tells (Line w) false
wrong_characters w b t e = tells_no (λ l. t.fails e (line_characters w l))

-- a line has the sums of the marks, and what has them is a line
pub line_by_sums : (w v : List ℕ) (b r : Bool) → length w ≡ 63 → Tells (Characters w) b → b ≡ true → PowerSums marks v
    → Tells (PowerSums w v) r → Tells (Line w) r
line_by_sums w v b r h t e q s =
    record {
      holds = λ y. sums_line w h (t.holds e) (λ k l. sym ((s.holds y).sum_at k l) ∙ q.sum_at k l);
      fails = λ n line. s.fails n (record { long = q.long; sum_at = λ k l. q.sum_at k l ∙ sym (line_sums w line k l) });
    }

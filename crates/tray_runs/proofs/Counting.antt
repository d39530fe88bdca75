-- Sums and counts worked out afresh: how many lines are wrong as lines come, change and go, what a change adds to the sums, and that a line with no sum but 0 is one of the code.
use mathlib.Core.Path.{◌≡◌, refl, sym, ap, ◌∙◌, subst}
use mathlib.Core.Logic.{⊎_elim}
use mathlib.Core.List.{List, [], ◌∷◌, ◌++◌}
use Prim.Native.Nat.{ℕ, zero, suc, ◌+◌, ◌-◌, ◌*◌, ◌%◌, ◌<◌, ◌≤◌}
use native.Mathlib.Omega.{arith}
use lib.ListN.{length, get_or, set, take, drop, length-set, drop_of_length-le}
use lib.Seq.{split_at, set_split, ext_get_or, get_or-take, get_or-drop, get_or-set_same, get_or-set_other}
use Rattle.numbers.specs.Below.{AllBelow}
use Rattle.numbers.proofs.Cases.{le_or_lt, same_or_not}
use Rattle.field.specs.Field.{sum, product, α, power}
use Rattle.field.proofs.Laws.{ring}
use Rattle.code.specs.Word.{Characters, power_sum, added, marks, Line}
use Rattle.code.proofs.Words.{characters_below, length_added, characters_added}
use Rattle.code.proofs.Sums.{power_sum_lt, power_sum_added, power_sum_set}
use Rattle.code.proofs.Lines.{marks_long, marks_characters, marked_line, unmarked}
use Rattle.open_tray.specs.Tray.{fresh_sums, wrong, share, with_shares}
use Rattle.open_tray.proofs.Sums.{wrong_most, fresh_long, fresh_get, with_shares_long, with_shares_get}
use Rattle.tray_runs.specs.Runs.{fresh_count}

-- ---- sums that are 0

not_wrong : (ss : List ℕ) → wrong ss ≡ 0 → (k : ℕ) → get_or ss k 0 ≡ 0
unfolding wrong
not_wrong [] e k = refl
not_wrong (zero ∷ ss) e zero = refl
not_wrong (zero ∷ ss) e (suc k) = not_wrong ss e k
not_wrong (suc s ∷ ss) e k = absurd (omega arith)

all_zero : (ss : List ℕ) → ((k : ℕ) → k < length ss → get_or ss k 0 ≡ 0) → wrong ss ≡ 0
unfolding wrong
all_zero [] h = refl
all_zero (zero ∷ ss) h = all_zero ss (λ k l. h (suc k) (omega arith))
all_zero (suc s ∷ ss) h = absurd (let e = h 0 (omega arith) in omega arith)

-- ---- the sums of a line

pub fresh_below : (w : List ℕ) → AllBelow 64 (fresh_sums w)
fresh_below w = characters_below (fresh_sums w) 11 (omega (arith, fresh_long w)) (λ k h. rw (fresh_get w k h) (power_sum_lt (58 + k) (added w marks)))

-- the characters and the sums of a room are all it holds
pub halves_below : (x : List ℕ) → AllBelow 64 (take 63 x) → AllBelow 64 (drop 63 x) → AllBelow 64 x
halves_below x low high a =
    ⊎_elim (λ (h : 63 ≤ a). let e : 63 + (a - 63) ≡ a = omega arith in subst (λ (k : ℕ). get_or x k 0 < 64) e (rw (get_or-drop 63 x (a - 63) 0) at (high (a - 63))))
    (λ (h : a < 63). rw (get_or-take 63 x a 0 h) at (low a)) (le_or_lt 63 a)

pub characters_set : (w : List ℕ) (a c : ℕ) → Characters w → a < length w → c ≤ 63 → Characters (set w a c)
characters_set w a c h l m b =
    ⊎_elim (λ (e : b ≡ a). subst (λ (k : ℕ). get_or (set w a c) k 0 < 64) (sym e) (rw (get_or-set_same w a c 0 l) (omega arith)))
    (λ d. rw (get_or-set_other w a b c 0 d) (h b)) (same_or_not b a)

-- ---- what a change adds to the sums

moved : (a b c : ℕ) → sum (sum a b) c ≡ sum (sum a c) b
moved a b c = simp ring

changed_sum : (j : ℕ) (w : List ℕ) (a c : ℕ) → length w ≡ 63 → a < 63
    → power_sum j (added (set w a c) marks) ≡ sum (power_sum j (added w marks)) (product (sum (get_or w a 0) c) (power α (j * (62 - a) % 63)))
changed_sum j w a c l h =
    power_sum_added j (set w a c) marks (length-set w a c ∙ l ∙ sym marks_long)
    ∙ ap (λ (x : ℕ). sum x (power_sum j marks)) (power_sum_set j w a c h (omega arith))
    ∙ moved (power_sum j w) (product (sum (get_or w a 0) c) (power α (j * (62 - a) % 63))) (power_sum j marks)
    ∙ ap (λ (x : ℕ). sum x (product (sum (get_or w a 0) c) (power α (j * (62 - a) % 63)))) (sym (power_sum_added j w marks (l ∙ sym marks_long)))

-- the sums of a changed line are the old ones with the change's share added
pub changed_sums : (w : List ℕ) (a c : ℕ) → length w ≡ 63 → a ≤ 62 → with_shares a (sum (get_or w a 0) c) (fresh_sums w) ≡ fresh_sums (set w a c)
changed_sums w a c l h =
    ext_get_or 0 (with_shares a d (fresh_sums w)) (fresh_sums (set w a c)) (with_shares_long a d (fresh_sums w) ∙ sym (fresh_long (set w a c)))
    (λ k b. same k (subst (λ (n : ℕ). k < n) (with_shares_long a d (fresh_sums w)) b))
  where
    d : ℕ
    d = sum (get_or w a 0) c

    same : (k : ℕ) → k < 11 → get_or (with_shares a d (fresh_sums w)) k 0 ≡ get_or (fresh_sums (set w a c)) k 0
    same k b =
        with_shares_get a d (fresh_sums w) k b ∙ ap (λ (x : ℕ). sum x (share a d k)) (fresh_get w k b)
        ∙ sym (changed_sum (58 + k) w a c l (omega arith)) ∙ sym (fresh_get (set w a c) k b)

-- ---- how many lines are wrong

pub count_most : (ls : List (List ℕ)) → fresh_count ls ≤ length ls
unfolding fresh_count
count_most [] = omega arith
count_most (w ∷ ws) = let h = wrong_most (fresh_sums w) in let m = count_most ws in omega arith

count_append : (xs ys : List (List ℕ)) → fresh_count (xs ++ ys) ≡ fresh_count xs + fresh_count ys
unfolding fresh_count
count_append [] ys = omega arith
count_append (x ∷ xs) ys = let e = count_append xs ys in omega arith

pub count_more : (ls : List (List ℕ)) (w : List ℕ) → fresh_count (ls ++ w ∷ []) ≡ fresh_count ls + wrong (fresh_sums w)
unfolding fresh_count
count_more ls w = let e = count_append ls (w ∷ []) in omega arith

module _ (ls : List (List ℕ)) (i : ℕ) (h : i < length ls) where
  count-split : fresh_count ls ≡ fresh_count (take i ls) + (wrong (fresh_sums (get_or ls i [])) + fresh_count (drop (suc i) ls))
  unfolding fresh_count
  count-split = ap fresh_count (split_at ls i [] h) ∙ count_append (take i ls) (get_or ls i [] ∷ drop (suc i) ls)

  pub count_least : wrong (fresh_sums (get_or ls i [])) ≤ fresh_count ls
  count_least = let e = count-split in omega arith

  pub count_set : (w : List ℕ) → fresh_count (set ls i w) ≡ fresh_count ls - wrong (fresh_sums (get_or ls i [])) + wrong (fresh_sums w)
  unfolding fresh_count
  count_set w =
      let e = count-split in
      let f : fresh_count (set ls i w) ≡ fresh_count (take i ls) + (wrong (fresh_sums w) + fresh_count (drop (suc i) ls)) =
      ap fresh_count (set_split ls i w h) ∙ count_append (take i ls) (w ∷ drop (suc i) ls) in
      omega arith

  -- the last one dropped
  pub count_less : length ls ≡ suc i → fresh_count (take i ls) ≡ fresh_count ls - wrong (fresh_sums (get_or ls i []))
  unfolding fresh_count
  count_less l =
      let e = count-split in
      let z : fresh_count (drop (suc i) ls) ≡ 0 = ap fresh_count (drop_of_length-le ls {i = suc i} (omega arith)) in
      omega arith

pub count_none : (ls : List (List ℕ)) → ((i : ℕ) → i < length ls → wrong (fresh_sums (get_or ls i [])) ≡ 0) → fresh_count ls ≡ 0
unfolding fresh_count
count_none [] h = refl
count_none (w ∷ ws) h = let e = h 0 (omega arith) in let f = count_none ws (λ i l. h (suc i) (omega arith)) in omega arith

-- ---- lines of the code

module _ (w : List ℕ) where
  pub zero_sums_line : length w ≡ 63 → Characters w → wrong (fresh_sums w) ≡ 0 → Line w
  zero_sums_line l c e =
      marked_line w l
      (record {
        long = length_added w marks (l ∙ sym marks_long) ∙ l;
        characters = characters_added w marks c marks_characters;
        sums = λ k h. sym (fresh_get w k h) ∙ not_wrong (fresh_sums w) e k;
      })

  pub line_zero_sums : Line w → wrong (fresh_sums w) ≡ 0
  line_zero_sums line =
      all_zero (fresh_sums w)
      (λ k h. let b : k < 11 = subst (λ (n : ℕ). k < n) (fresh_long w) h in fresh_get w k b ∙ (unmarked w line).sums k b)

-- The turns of the loops over a line's sums: whether all are 0, and the share of a change added to each; and the sums of a line worked out afresh.
use mathlib.Core.Path.{◌≡◌, refl, sym, ap, ap₂, ◌∙◌}
use mathlib.Core.Bool.{Bool, false, not}
use mathlib.Core.List.{List, [], ◌∷◌}
use Prim.Native.Nat.{ℕ, zero, suc, ◌+◌, ◌-◌, ◌*◌, ◌%◌, ◌<◌, ◌≤◌}
use native.Mathlib.Nat.{suc-mul, mod-lt, zero-lt-suc}
use native.Mathlib.Omega.{arith}
use borrow.Author.Count.{below_none, below_more}
use lib.Bits.{bit_xor}
use lib.Dec.{eqb}
use Rattle.std.proofs.lemmas.Bool.Decides.{nat_tests}
use Rattle.std.specs.Int.{from_bool}
use Rattle.std.specs.List.{list_any}
use lib.ListN.{length, get_or, set, length-set}
use lib.Seq.{get_or-set_same, get_or-set_other, ext_get_or}
use Rattle.field.specs.Field.{sum, product, α, power}
use Rattle.field.proofs.Laws as Laws
use Rattle.places.specs.Logs.{LogOf}
use Rattle.code.specs.Word.{power_sum, added, marks}
use Rattle.code.proofs.Words.{listed_long, listed_get, length_added, added_get}
use Rattle.code.proofs.Sums.{power_sum_added}
use Rattle.code.proofs.Lines.{marks_long}
use Rattle.line.specs.Inside.{ErrorSums}
use Rattle.open_tray.specs.Tray.{fresh_sums, wrong, share, with_shares}
use Rattle.open_tray.specs.Inside.{FirstLog}

-- ---- whether some of the sums is not 0

pub wrong_most : (s : List ℕ) → wrong s ≤ 1
unfolding wrong
wrong_most [] = omega arith
wrong_most (zero ∷ s) = wrong_most s
wrong_most (suc x ∷ s) = omega arith

any_wrong : (s : List ℕ) → from_bool (list_any (λ x. not (eqb x 0)) s) ≡ wrong s
unfolding wrong
any_wrong [] = refl
any_wrong (zero ∷ s) = any_wrong s
any_wrong (suc x ∷ s) = let e : eqb (suc x) 0 ≡ false = grind (arith, nat_tests) in rw e refl

pub some_wrong : (s : List ℕ) (b : Bool) → b ≡ list_any (λ x. not (eqb x 0)) s → from_bool b ≡ wrong s
some_wrong s b e = ap from_bool e ∙ any_wrong s

-- ---- the share of a change added to each

-- α to a sum of powers, of which the first may be taken modulo 63
power_next : (d n m : ℕ) → product (product d (power α (n % 63))) (power α m) ≡ product d (power α ((n + m) % 63))
power_next d n m =
    Laws.product_assoc d (power α (n % 63)) (power α m)
    ∙ ap (product d)
    (ap (λ (x : ℕ). product x (power α m)) (Laws.power_mod n) ∙ sym (Laws.power_add α n m) ∙ sym (Laws.power_mod (n + m)))

next_share : (k m : ℕ) → (58 + k) * m + m ≡ (58 + (k + 1)) * m
next_share k m = sym (ap (λ (n : ℕ). n * m) (omega arith) ∙ suc-mul (58 + k) m)

-- the first k have their shares, and l is the logarithm of the next one
pub record SharedTo (old : List ℕ) (a d : ℕ) (s : List ℕ) (l k : ℕ) : Type 0 where
  pub most : k ≤ 11
  pub long : length s ≡ 11
  pub below : l < 63
  pub next : power α l ≡ share a d k
  pub done : (j : ℕ) → j < k → get_or s j 0 ≡ sum (get_or old j 0) (share a d j)
  pub rest : (j : ℕ) → k ≤ j → get_or s j 0 ≡ get_or old j 0

pub shared_none : (old : List ℕ) (a d l : ℕ) → length old ≡ 11 → FirstLog d (62 - a) l → SharedTo old a d old l 0
shared_none old a d l long f =
    record {
      most = omega arith;
      long = long;
      below = f.below;
      next = f.is ∙ ap (product d) (sym (Laws.power_mod (58 * (62 - a))));
      done = below_none (λ j. get_or old j 0 ≡ sum (get_or old j 0) (share a d j));
      rest = λ j h. refl;
    }

pub shared_again : (old : List ℕ) (a d : ℕ) (s : List ℕ) (l k p : ℕ) → SharedTo old a d s l k → k < 11 → p ≡ power α (l % 64)
    → SharedTo old a d (set s k (bit_xor (get_or s k 0) p)) ((l + (62 - a)) % 63) (k + 1)
unfolding sum
shared_again old a d s l k p z h e =
    record {
      most = omega arith;
      long = length-set s k (sum (get_or s k 0) p) ∙ z.long;
      below = mod-lt (l + (62 - a)) (zero-lt-suc 62);
      next =
          Laws.power_mod (l + (62 - a)) ∙ Laws.power_add α l (62 - a)
          ∙ ap (λ (x : ℕ). product x (power α (62 - a))) z.next
          ∙ power_next d ((58 + k) * (62 - a)) (62 - a)
          ∙ ap (λ (n : ℕ). product d (power α (n % 63))) (next_share k (62 - a));
      done = below_more (λ j. get_or (set s k (sum (get_or s k 0) p)) j 0 ≡ sum (get_or old j 0) (share a d j)) k
          (λ j l. get_or-set_other s k j (sum (get_or s k 0) p) 0 (λ q. omega arith) ∙ z.done j l)
          (get_or-set_same s k (sum (get_or s k 0) p) 0 (omega (arith, z.long)) ∙ ap₂ sum (z.rest k (omega arith)) power-is);
      rest = λ j m. get_or-set_other s k j (sum (get_or s k 0) p) 0 (λ q. omega arith) ∙ z.rest j (omega arith);
    }
  where
    low : l % 64 ≡ l
    low = let b = z.below in omega arith

    power-is : p ≡ share a d k
    power-is = e ∙ ap (power α) low ∙ z.next

pub with_shares_get : (a d : ℕ) (s : List ℕ) (k : ℕ) → k < 11 → get_or (with_shares a d s) k 0 ≡ sum (get_or s k 0) (share a d k)
unfolding with_shares
with_shares_get a d s k h = listed_get (λ k. sum (get_or s k 0) (share a d k)) 11 k h

pub with_shares_long : (a d : ℕ) (s : List ℕ) → length (with_shares a d s) ≡ 11
unfolding with_shares
with_shares_long a d s = listed_long (λ k. sum (get_or s k 0) (share a d k)) 0 11

pub shared_all : (old : List ℕ) (a d : ℕ) (s : List ℕ) (l k : ℕ) → SharedTo old a d s l k → 11 ≤ k → s ≡ with_shares a d old
shared_all old a d s l k z h =
    ext_get_or 0 s (with_shares a d old) (z.long ∙ sym (with_shares_long a d old))
    (λ j b. let below : j < 11 = omega (arith, z.long) in z.done j (omega arith) ∙ sym (with_shares_get a d old j below))

-- no change, no share
pub unchanged : (old : List ℕ) (a d : ℕ) → length old ≡ 11 → d ≡ 0 → old ≡ with_shares a d old
unchanged old a d long e =
    ext_get_or 0 old (with_shares a d old) (long ∙ sym (with_shares_long a d old))
    (λ j b.
    sym
    (with_shares_get a d old j (omega arith)
    ∙ ap (λ (x : ℕ). sum (get_or old j 0) (product x (power α ((58 + j) * (62 - a) % 63)))) e
    ∙ ap (sum (get_or old j 0)) (Laws.zero_product (power α ((58 + j) * (62 - a) % 63))) ∙ Laws.sum_zero (get_or old j 0)))

pub first_log : (d m l : ℕ) → d < 64 → (d ≡ 0 → ⊥) → LogOf d l → FirstLog d m ((l + 58 * m) % 63)
first_log d m l h n g =
    record {
      below = mod-lt (l + 58 * m) (zero-lt-suc 62);
      is =
          Laws.power_mod (l + 58 * m) ∙ Laws.power_add α l (58 * m)
          ∙ ap (λ (x : ℕ). product x (power α (58 * m))) (g.is (λ e. n (omega arith)) ∙ low);
    }
  where
    low : d % 64 ≡ d
    low = omega arith

-- ---- the sums of a line worked out afresh

pub fresh_long : (w : List ℕ) → length (fresh_sums w) ≡ 11
unfolding fresh_sums
fresh_long w = listed_long (λ k. power_sum (58 + k) (added w marks)) 0 11

pub fresh_get : (w : List ℕ) (k : ℕ) → k < 11 → get_or (fresh_sums w) k 0 ≡ power_sum (58 + k) (added w marks)
unfolding fresh_sums
fresh_get w k h = listed_get (λ k. power_sum (58 + k) (added w marks)) 11 k h

pub afresh : (w s d : List ℕ) → length w ≡ 63 → ErrorSums w d → s ≡ d → s ≡ fresh_sums w
afresh w s d long es e =
    e ∙ es.both
    ∙ ext_get_or 0 (added es.of_word es.of_marks) (fresh_sums w) (both_long ∙ sym (fresh_long w))
    (λ k h. let b : k < 11 = omega (arith, both_long) in at k b ∙ sym (fresh_get w k b))
  where
    same_long : length es.of_word ≡ length es.of_marks
    same_long = es.word_sums.long ∙ sym es.mark_sums.long

    both_long : length (added es.of_word es.of_marks) ≡ 11
    both_long = length_added es.of_word es.of_marks same_long ∙ es.word_sums.long

    at : (k : ℕ) → k < 11 → get_or (added es.of_word es.of_marks) k 0 ≡ power_sum (58 + k) (added w marks)
    at k b =
        added_get es.of_word es.of_marks same_long k ∙ ap₂ sum (es.word_sums.sum_at k b) (es.mark_sums.sum_at k b)
        ∙ sym (power_sum_added (58 + k) w marks (long ∙ sym marks_long))

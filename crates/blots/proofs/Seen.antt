-- What is seen of a word outside the blots: its laws, and that errors with given sums, few of them outside the blots, are one pattern at most.
use mathlib.Core.Path.{◌≡◌, refl, sym, ap, ap₂, ◌∙◌}
use mathlib.Core.List.{List, [], ◌∷◌}
use Prim.Native.Nat.{ℕ, zero, suc, ◌+◌, ◌<◌, ◌≤◌}
use native.Mathlib.Omega.{arith}
use lib.ListN.{length, get_or, set, replicate}
use Rattle.field.specs.Field.{sum}
use Rattle.field.proofs.Laws
use Rattle.polynomial.specs.Sums.{weight, nonzero}
use Rattle.polynomial.proofs.Vandermonde.{nonzero_le}
use Rattle.polynomial.proofs.Theorems.{vanishing_sums}
use Rattle.code.specs.Word.{added}
use Rattle.code.proofs.Words.{cons, length_added, characters_added, added_zeros}
use Rattle.code.proofs.Distances.{weight_added}
use Rattle.code.proofs.Sums.{places, places_good, values_63, power_sum_moment, power_sum_added}
use Rattle.blots.specs.Promises.{seen}
use Rattle.blots.specs.Inside.{FitsBlotted}

-- ---- what is seen

pub seen_added : (m u v : List ℕ) → seen m (added u v) ≡ added (seen m u) (seen m v)
unfolding seen added
seen_added [] u v = refl
seen_added (b ∷ m) [] v = refl
seen_added (zero ∷ m) (c ∷ u) [] = refl
seen_added (suc b ∷ m) (c ∷ u) [] = refl
seen_added (zero ∷ m) (c ∷ u) (d ∷ v) = cons refl (seen_added m u v)
seen_added (suc b ∷ m) (c ∷ u) (d ∷ v) = cons (sym (Laws.sum_self 0)) (seen_added m u v)

pub seen_long : (m x : List ℕ) → length m ≡ length x → length (seen m x) ≡ length x
unfolding seen
seen_long [] [] h = refl
seen_long [] (c ∷ x) h = absurd (omega arith)
seen_long (b ∷ m) [] h = absurd (omega arith)
seen_long (zero ∷ m) (c ∷ x) h = ap suc (seen_long m x (omega arith))
seen_long (suc b ∷ m) (c ∷ x) h = ap suc (seen_long m x (omega arith))

-- a word has no more characters that are not 0 than are seen and blots hide
pub weight_seen : (m x : List ℕ) → length m ≡ length x → weight x ≤ weight (seen m x) + weight m
unfolding seen weight nonzero
weight_seen [] [] h = omega arith
weight_seen [] (c ∷ x) h = absurd (omega arith)
weight_seen (b ∷ m) [] h = absurd (omega arith)
weight_seen (zero ∷ m) (c ∷ x) h = let r = weight_seen m x (omega arith) in omega arith
weight_seen (suc b ∷ m) (c ∷ x) h = let r = weight_seen m x (omega arith) in let n = nonzero_le c in omega arith

-- a blot that is cleared shows a character that is 0
pub seen_set : (m x : List ℕ) (a : ℕ) → get_or x a 0 ≡ 0 → seen (set m a 0) x ≡ seen m x
unfolding seen
seen_set [] x a e = refl
seen_set (b ∷ m) [] zero e = refl
seen_set (b ∷ m) [] (suc a) e = refl
seen_set (zero ∷ m) (c ∷ x) zero e = refl
seen_set (suc b ∷ m) (c ∷ x) zero e = cons e refl
seen_set (zero ∷ m) (c ∷ x) (suc a) e = cons refl (seen_set m x a e)
seen_set (suc b ∷ m) (c ∷ x) (suc a) e = cons refl (seen_set m x a e)

-- and there is one blot less
pub weight_cleared : (m : List ℕ) (a : ℕ) → (get_or m a 0 ≡ 0 → ⊥) → weight m ≡ suc (weight (set m a 0))
unfolding weight nonzero
weight_cleared [] a d = absurd (d refl)
weight_cleared (zero ∷ m) zero d = absurd (d refl)
weight_cleared (suc b ∷ m) zero d = omega arith
weight_cleared (b ∷ m) (suc a) d = let r = weight_cleared m a d in omega arith

-- without blots all is seen
pub seen_all : (m x : List ℕ) → length m ≡ length x → ((k : ℕ) → k < length m → get_or m k 0 ≡ 0) → seen m x ≡ x
unfolding seen
seen_all [] [] h z = refl
seen_all [] (c ∷ x) h z = absurd (omega arith)
seen_all (b ∷ m) [] h z = absurd (omega arith)
seen_all (zero ∷ m) (c ∷ x) h z = cons refl (seen_all m x (omega arith) (λ k l. z (suc k) (omega arith)))
seen_all (suc b ∷ m) (c ∷ x) h z = absurd (let e : suc b ≡ 0 = z 0 (omega arith) in omega arith)

-- outside the blots a character is seen as it is
pub seen_shown : (m x : List ℕ) (a : ℕ) → length m ≡ length x → get_or m a 0 ≡ 0 → get_or (seen m x) a 0 ≡ get_or x a 0
unfolding seen
seen_shown [] [] a h e = refl
seen_shown [] (c ∷ x) a h e = absurd (omega arith)
seen_shown (b ∷ m) [] a h e = absurd (omega arith)
seen_shown (zero ∷ m) (c ∷ x) zero h e = refl
seen_shown (suc b ∷ m) (c ∷ x) zero h e = absurd (omega arith)
seen_shown (zero ∷ m) (c ∷ x) (suc a) h e = seen_shown m x a (omega arith) e
seen_shown (suc b ∷ m) (c ∷ x) (suc a) h e = seen_shown m x a (omega arith) e

-- of zeros nothing is seen
pub weight_seen_none : (m : List ℕ) (n : ℕ) → weight (seen m (replicate n 0)) ≡ 0
unfolding seen weight nonzero
weight_seen_none [] n = refl
weight_seen_none (b ∷ m) zero = refl
weight_seen_none (zero ∷ m) (suc n) = let r = weight_seen_none m n in omega arith
weight_seen_none (suc b ∷ m) (suc n) = let r = weight_seen_none m n in omega arith

pub weight_blank : (m : List ℕ) → ((k : ℕ) → k < length m → get_or m k 0 ≡ 0) → weight m ≡ 0
unfolding weight nonzero
weight_blank [] z = refl
weight_blank (zero ∷ m) z = let r = weight_blank m (λ k l. z (suc k) (omega arith)) in omega arith
weight_blank (suc b ∷ m) z = absurd (let e : suc b ≡ 0 = z 0 (omega arith) in omega arith)

nonzero_alike : (c d : ℕ) → (c ≡ 0 → d ≡ 0) → (d ≡ 0 → c ≡ 0) → nonzero c ≡ nonzero d
unfolding nonzero
nonzero_alike zero zero p q = refl
nonzero_alike zero (suc d) p q = absurd (let e : suc d ≡ 0 = p refl in omega arith)
nonzero_alike (suc c) zero p q = absurd (let e : suc c ≡ 0 = q refl in omega arith)
nonzero_alike (suc c) (suc d) p q = refl

-- words that are 0 at the same addresses outside the blots show as many characters that are not 0
pub seen_alike : (m u v : List ℕ) → length u ≡ length v
    → ((k : ℕ) → get_or m k 0 ≡ 0 → get_or u k 0 ≡ 0 → get_or v k 0 ≡ 0) → ((k : ℕ) → get_or m k 0 ≡ 0 → get_or v k 0 ≡ 0 → get_or u k 0 ≡ 0)
    → weight (seen m u) ≡ weight (seen m v)
unfolding seen weight
seen_alike [] u v h f g = refl
seen_alike (b ∷ m) [] [] h f g = refl
seen_alike (b ∷ m) [] (d ∷ v) h f g = absurd (omega arith)
seen_alike (b ∷ m) (c ∷ u) [] h f g = absurd (omega arith)
seen_alike (zero ∷ m) (c ∷ u) (d ∷ v) h f g =
    ap₂ (λ (i j : ℕ). i + j) (nonzero_alike c d (f 0 refl) (g 0 refl)) (seen_alike m u v (omega arith) (λ k. f (suc k)) (λ k. g (suc k)))
seen_alike (suc b ∷ m) (c ∷ u) (d ∷ v) h f g =
    ap (λ (i : ℕ). nonzero 0 + i) (seen_alike m u v (omega arith) (λ k. f (suc k)) (λ k. g (suc k)))

-- ---- never a second one

-- two patterns of errors with c sums alike, each in e characters outside the same f blots, 2 e + f at most c, are one
pub one_fits_blotted : (s : List ℕ) (c : ℕ) (m x y : List ℕ) → length m ≡ 63 → FitsBlotted s c m x → FitsBlotted s c m y → x ≡ y
one_fits_blotted s c m x y lm f g =
    let same : length x ≡ length y = f.long ∙ sym g.long in
    let long : length (added x y) ≡ 63 = length_added x y same ∙ f.long in
    added_zeros x y same
    (vanishing_sums (places 63) (added x y) c 58 (places_good 63 (omega arith))
    (values_63 (added x y) long (characters_added x y f.characters g.characters))
    (let w = weight_seen m (added x y) (lm ∙ sym long) in
    let e : weight (seen m (added x y)) ≡ weight (added (seen m x) (seen m y)) = ap weight (seen_added m x y) in
    let t = weight_added (seen m x) (seen m y) in
    let a = f.few in let b = g.few in omega arith)
    (λ k l.
    sym (power_sum_moment (58 + k) (added x y) long) ∙ power_sum_added (58 + k) x y same
    ∙ ap₂ sum (sym (f.sums k l)) (sym (g.sums k l)) ∙ Laws.sum_self (get_or s k 0)))

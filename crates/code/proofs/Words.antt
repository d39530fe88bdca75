-- Words by their characters: listed by a rule, and two words added.
use mathlib.Core.Path.{◌≡◌, refl, sym, ap, ap₂, ◌∙◌, subst}
use mathlib.Core.Logic.{⊎_elim}
use mathlib.Core.List.{List, [], ◌∷◌}
use Prim.Native.Nat.{ℕ, zero, suc, ◌+◌, ◌<◌, ◌≤◌}
use native.Mathlib.Nat.{add-zero, zero-add, add-suc, suc-add, not-suc-le-zero, le_of_suc-le-suc}
use native.Mathlib.Omega.{arith}
use lib.ListN.{length, get_or, replicate, take, get_or-eq_default}
use lib.Seq.{ext_get_or}
use Rattle.numbers.proofs.Cases.{le_or_lt}
use Rattle.field.specs.Field.{sum}
use Rattle.field.proofs.Laws
use Rattle.polynomial.specs.Sums.{Zeros}
use Rattle.code.specs.Word.{Characters, added, listed}

pub cons : {c d : ℕ} {cs ds : List ℕ} → c ≡ d → cs ≡ ds → c ∷ cs ≡ d ∷ ds
cons p q = ap₂ (λ (c : ℕ) (cs : List ℕ). c ∷ cs) p q

-- 63 characters are fixed by their addresses
pub same_word : (u v : List ℕ) → length u ≡ 63 → length v ≡ 63 → ((a : ℕ) → a < 63 → get_or u a 0 ≡ get_or v a 0) → u ≡ v
same_word u v hu hv h = ext_get_or 0 u v (hu ∙ sym hv) (λ a l. h a (subst (λ (n : ℕ). a < n) hu l))

-- zeros have 0 at every address, and past their end too
pub zero_get : (n k : ℕ) → ◌≡◌ {A = ℕ} (get_or (replicate n 0) k 0) 0
zero_get zero k = refl
zero_get (suc n) zero = refl
zero_get (suc n) (suc k) = zero_get n k

-- past its end a word has 0
pub characters_below : (w : List ℕ) (n : ℕ) → length w ≤ n → ((a : ℕ) → a < n → get_or w a 0 < 64) → Characters w
characters_below w n l h a =
    ⊎_elim (λ (b : n ≤ a). let e : get_or w a 0 ≡ 0 = get_or-eq_default w 0 (omega arith) in omega arith) (λ (b : a < n). h a b) (le_or_lt n a)

-- ---- characters listed by a rule

pub listed_long : (f : ℕ → ℕ) (b n : ℕ) → length (listed f b n) ≡ n
unfolding listed
listed_long f b zero = refl
listed_long f b (suc n) = ap suc (listed_long f (suc b) n)

listed_from : (f : ℕ → ℕ) (b n a : ℕ) → a < n → get_or (listed f b n) a 0 ≡ f (b + a)
unfolding listed
listed_from f b zero a h = absurd (not-suc-le-zero h)
listed_from f b (suc n) zero h = ap f (sym (add-zero b))
listed_from f b (suc n) (suc a) h = listed_from f (suc b) n a (le_of_suc-le-suc h) ∙ ap f (suc-add b a ∙ sym (add-suc b a))

pub listed_get : (f : ℕ → ℕ) (n a : ℕ) → a < n → get_or (listed f 0 n) a 0 ≡ f a
listed_get f n a h = listed_from f 0 n a h ∙ ap f (zero-add a)

-- ---- two words added

pub length_added : (u v : List ℕ) → length u ≡ length v → length (added u v) ≡ length u
unfolding added
length_added [] v h = refl
length_added (c ∷ cs) [] h = absurd (omega arith)
length_added (c ∷ cs) (d ∷ ds) h = ap suc (length_added cs ds (omega arith))

pub added_get : (u v : List ℕ) → length u ≡ length v → (a : ℕ) → get_or (added u v) a 0 ≡ sum (get_or u a 0) (get_or v a 0)
unfolding added
added_get [] [] h a = sym (Laws.sum_self 0)
added_get [] (d ∷ ds) h a = absurd (omega arith)
added_get (c ∷ cs) [] h a = absurd (omega arith)
added_get (c ∷ cs) (d ∷ ds) h zero = refl
added_get (c ∷ cs) (d ∷ ds) h (suc a) = added_get cs ds (omega arith) a

pub take_added : (n : ℕ) (u v : List ℕ) → take n (added u v) ≡ added (take n u) (take n v)
unfolding added
take_added zero u v = refl
take_added (suc n) [] v = refl
take_added (suc n) (c ∷ cs) [] = refl
take_added (suc n) (c ∷ cs) (d ∷ ds) = cons refl (take_added n cs ds)

pub characters_added : (u v : List ℕ) → Characters u → Characters v → Characters (added u v)
unfolding added
characters_added [] v hu hv a = omega arith
characters_added (c ∷ cs) [] hu hv a = omega arith
characters_added (c ∷ cs) (d ∷ ds) hu hv zero = Laws.sum_lt c d (hu 0) (hv 0)
characters_added (c ∷ cs) (d ∷ ds) hu hv (suc a) = characters_added cs ds (λ b. hu (suc b)) (λ b. hv (suc b)) a

pub added_comm : (u v : List ℕ) → added u v ≡ added v u
unfolding added
added_comm [] [] = refl
added_comm [] (d ∷ ds) = refl
added_comm (c ∷ cs) [] = refl
added_comm (c ∷ cs) (d ∷ ds) = cons (Laws.sum_comm c d) (added_comm cs ds)

pub added_assoc : (u v w : List ℕ) → added (added u v) w ≡ added u (added v w)
unfolding added
added_assoc [] v w = refl
added_assoc (c ∷ cs) [] w = refl
added_assoc (c ∷ cs) (d ∷ ds) [] = refl
added_assoc (c ∷ cs) (d ∷ ds) (e ∷ es) = cons (Laws.sum_assoc c d e) (added_assoc cs ds es)

pub added_four : (a b c d : List ℕ) → added (added a b) (added c d) ≡ added (added a c) (added b d)
added_four a b c d =
    added_assoc a b (added c d)
    ∙ ap (added a) (sym (added_assoc b c d) ∙ ap (λ (w : List ℕ). added w d) (added_comm b c) ∙ added_assoc c b d)
    ∙ sym (added_assoc a c (added b d))

-- zeros added change nothing
pub added_none : (n : ℕ) (u : List ℕ) → length u ≡ n → added u (replicate n 0) ≡ u
unfolding added
added_none n [] h = refl
added_none zero (c ∷ cs) h = absurd (omega arith)
added_none (suc n) (c ∷ cs) h = cons (Laws.sum_zero c) (added_none n cs (omega arith))

-- what is added twice goes away
pub added_twice : (u v : List ℕ) → length u ≡ length v → added (added u v) v ≡ u
unfolding added
added_twice [] v h = refl
added_twice (c ∷ cs) [] h = absurd (omega arith)
added_twice (c ∷ cs) (d ∷ ds) h =
    cons (Laws.sum_assoc c d d ∙ ap (sum c) (Laws.sum_self d) ∙ Laws.sum_zero c) (added_twice cs ds (omega arith))

-- what is added to both goes away
pub added_both : (u v m : List ℕ) → length u ≡ length m → length v ≡ length m → added (added u m) (added v m) ≡ added u v
unfolding added
added_both [] v m hu hv = refl
added_both (c ∷ cs) v [] hu hv = absurd (omega arith)
added_both (c ∷ cs) [] (k ∷ ks) hu hv = refl
added_both (c ∷ cs) (d ∷ ds) (k ∷ ks) hu hv =
    cons (Laws.sum_four c k d k ∙ ap (sum (sum c d)) (Laws.sum_self k) ∙ Laws.sum_zero (sum c d))
    (added_both cs ds ks (omega arith) (omega arith))

-- a word added to itself is 0
pub added_self : (u : List ℕ) → Zeros (added u u)
unfolding added
added_self [] = tt
added_self (c ∷ cs) = (Laws.sum_self c, added_self cs)

-- words whose sum is 0 are one
pub added_zeros : (u v : List ℕ) → length u ≡ length v → Zeros (added u v) → u ≡ v
unfolding added
added_zeros [] [] h z = refl
added_zeros [] (d ∷ ds) h z = absurd (omega arith)
added_zeros (c ∷ cs) [] h z = absurd (omega arith)
added_zeros (c ∷ cs) (d ∷ ds) h z = cons (Laws.sum_eq c d z.0) (added_zeros cs ds (omega arith) z.1)

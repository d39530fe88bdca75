-- The mender's theorems: one word at most fits the sums, and any two answers that its promises allow are equal.
use mathlib.Core.Path.{◌≡◌, refl, sym, ap, ap₂, ◌∙◌}
use mathlib.Core.Logic.{⊎_elim}
use mathlib.Core.List.{List}
use Rattle.std.specs.Prelude.{Option, Some, None}
use Prim.Native.Nat.{ℕ, min, ◌+◌, ◌/◌, ◌≤◌}
use native.Mathlib.Nat.{le_trans, le_of_eq}
use native.Mathlib.Omega.{arith}
use lib.ListN.{length, get_or, replicate}
use Rattle.numbers.proofs.Cases.{same_or_not}
use Rattle.field.specs.Field.{sum}
use Rattle.field.proofs.Laws
use Rattle.polynomial.specs.Sums.{weight}
use Rattle.polynomial.proofs.Theorems.{vanishing_sums}
use Rattle.code.specs.Word.{Clean, added, distance, first_changed, last_changed}
use Rattle.code.specs.Inside.{Ends}
use Rattle.code.proofs.Words.{length_added, characters_added, added_zeros}
use Rattle.code.proofs.Distances.{weight_added, distance_comm, triangle, distance_weight}
use Rattle.code.proofs.Theorems.{one_clean_near}
use Rattle.code.proofs.Sums.{places, places_good, values_63, power_sum_moment, power_sum_added}
use Rattle.mender.specs.declared.Mended.{Mended}
use Rattle.mender.specs.Mender.{Fits, Mends, Word, Near, Nearest, HasSums, NearestWith, NearestClean}
use Rattle.mender.specs.Found.{Repairs, Without, Corrects}

-- one word at most fits, where the errors are at most half the sums
pub one_fits : (s : List ℕ) (c e : ℕ) (u v : List ℕ) → e + e ≤ c → Fits s c e u → Fits s c e v → u ≡ v
one_fits s c e u v h f g =
    let same : length u ≡ length v = f.long ∙ sym g.long in
    let long : length (added u v) ≡ 63 = length_added u v same ∙ f.long in
    added_zeros u v same
    (vanishing_sums (places 63) (added u v) c 58 (places_good 63 (omega arith))
    (values_63 (added u v) long (characters_added u v f.characters g.characters))
    (let w = weight_added u v in let a = f.light in let b = g.light in omega arith)
    (λ k l.
    sym (power_sum_moment (58 + k) (added u v) long) ∙ power_sum_added (58 + k) u v same
    ∙ ap₂ sum (sym (f.sums k l)) (sym (g.sums k l)) ∙ Laws.sum_self (get_or s k 0)))

-- the parts of a word that is found fix it
one_mended : (m n : Mended) → m.weight ≡ n.weight → m.first ≡ n.first → m.last ≡ n.last → m.word ≡ n.word → m ≡ n
one_mended m n q f t r =
    ap₂ (λ (k : ℕ) (w : List ℕ). whole k m.first m.last w) q r
    ∙ ap₂ (λ (i j : ℕ). whole n.weight i j n.word) f t
  where
    whole : ℕ → ℕ → ℕ → List ℕ → Mended
    whole k i j w = record { weight = k; first = i; last = j; word = w }

-- where the ends of one change are told twice, they are the same
one_first : (w : List ℕ) {u v : List ℕ} {i j k l : ℕ} → u ≡ v → Ends w u i j → Ends w v k l → i ≡ k
one_first w z p q = p.from ∙ ap (first_changed w) z ∙ sym q.from

one_last : (w : List ℕ) {u v : List ℕ} {i j k l : ℕ} → u ≡ v → Ends w u i j → Ends w v k l → j ≡ l
one_last w z p q = p.to ∙ ap (last_changed w) z ∙ sym q.to

-- any two answers that mending allows are equal
pub one_mend : (s : List ℕ) (c e : ℕ) (m n : Option Mended) → Mends s c e m → Mends s c e n → m ≡ n
one_mend s c e (Some m) (Some n) p q =
    let z : m.word ≡ n.word = one_fits s (min c 11) (min e (min c 11 / 2)) m.word n.word (omega arith) p.fits q.fits in
    ap Some
    (one_mended m n (p.weighs ∙ ap weight z ∙ sym q.weighs) (one_first (replicate 63 0) z p.ends q.ends) (one_last (replicate 63 0) z p.ends q.ends) z)
one_mend s c e (Some m) None p q = absurd (q.none m.word p.fits)
one_mend s c e None (Some n) p q = absurd (p.none n.word q.fits)
one_mend s c e None None p q = refl

-- any two answers of repairing a word are equal
one_repair : (s w : List ℕ) (e : ℕ) (m n : Option Mended) → e ≤ 5 → Repairs s w e m → Repairs s w e n → m ≡ n
one_repair s w e (Some m) (Some n) h p q =
    let o : p.errors ≡ q.errors = one_fits s 11 e p.errors q.errors (omega arith) p.fits q.fits in
    let z : m.word ≡ n.word = p.word ∙ ap (added w) o ∙ sym q.word in
    ap Some (one_mended m n (p.weighs ∙ ap weight o ∙ sym q.weighs) (one_first w z p.ends q.ends) (one_last w z p.ends q.ends) z)
one_repair s w e (Some m) None h p q = absurd (q.none p.errors p.fits)
one_repair s w e None (Some n) h p q = absurd (p.none q.errors q.fits)
one_repair s w e None None h p q = refl

pub one_without : (s w : List ℕ) (e : ℕ) (m n : Option Mended) → Without s w e m → Without s w e n → m ≡ n
one_without s w e m n p q =
    ⊎_elim (λ l. one_repair s w (min e 5) m n (omega arith) (p.whole l) (q.whole l)) (λ d. p.other d ∙ sym (q.other d))
    (same_or_not (length w) 63)

-- and any two words with errors added
pub one_corrected : (w x r s : List ℕ) → Corrects w x r → Corrects w x s → r ≡ s
one_corrected w x r s p q = ⊎_elim (λ l. p.whole l ∙ sym (q.whole l)) (λ d. p.other d ∙ sym (q.other d)) (same_or_not (length w) 63)

-- any two answers of looking for the nearest word are equal, where one word at most has the property within the distance
pub one_nearest : (P : List ℕ → Type 0) (w : List ℕ) (e : ℕ) (m n : Option Mended)
    → (Word w → (u v : List ℕ) → P u → P v → distance w u ≤ e → distance w v ≤ e → u ≡ v) → Nearest P w e m → Nearest P w e n → m ≡ n
one_nearest P w e (Some m) (Some n) one p q =
    let z : m.word ≡ n.word = one p.of_word m.word n.word p.is q.is (near m p) (near n q) in
    ap Some (one_mended m n (p.apart ∙ ap (distance w) z ∙ sym q.apart) (one_first w z p.ends q.ends) (one_last w z p.ends q.ends) z)
  where
    near : (m : Mended) → Near P w e m → distance w m.word ≤ e
    near m p = le_trans (le_of_eq (sym p.apart)) p.within
one_nearest P w e (Some m) None one p q = absurd (q.none p.of_word m.word p.is (le_trans (le_of_eq (sym p.apart)) p.within))
one_nearest P w e None (Some n) one p q = absurd (p.none q.of_word n.word q.is (le_trans (le_of_eq (sym q.apart)) q.within))
one_nearest P w e None None one p q = refl

-- two words with the same eleven sums, within five of a word, are one
pub one_with_sums : (s w u v : List ℕ) → Word w → HasSums s u → HasSums s v → distance w u ≤ 5 → distance w v ≤ 5 → u ≡ v
one_with_sums s w u v y f g a b =
    let same : length u ≡ length v = f.word.long ∙ sym g.word.long in
    let long : length (added u v) ≡ 63 = length_added u v same ∙ f.word.long in
    let t : distance u v ≤ distance u w + distance w v = triangle u w v (f.word.long ∙ sym y.long) (g.word.long ∙ sym y.long) in
    let x : distance u w ≤ 5 = le_trans (le_of_eq (distance_comm u w)) a in
    let d : distance u v ≡ weight (added u v) = distance_weight u v in
    added_zeros u v same
    (vanishing_sums (places 63) (added u v) 11 58 (places_good 63 (omega arith))
    (values_63 (added u v) long (characters_added u v f.word.characters g.word.characters)) (omega arith)
    (λ k l.
    sym (power_sum_moment (58 + k) (added u v) long) ∙ power_sum_added (58 + k) u v same ∙ ap₂ sum (f.sums k l) (g.sums k l) ∙ Laws.sum_self (get_or s k 0)))

pub one_nearest_with : (s w : List ℕ) (e : ℕ) (m n : Option Mended) → NearestWith s w e m → NearestWith s w e n → m ≡ n
one_nearest_with s w e m n =
    one_nearest (HasSums s) w (min e 5) m n (λ y u v f g a b. one_with_sums s w u v y f g (omega arith) (omega arith))

pub one_nearest_clean : (w : List ℕ) (e : ℕ) (m n : Option Mended) → NearestClean w e m → NearestClean w e n → m ≡ n
one_nearest_clean w e m n =
    one_nearest Clean w (min e 5) m n (λ y u v f g a b. one_clean_near w u v (min e 5) y.long (omega arith) f g a b)

-- Clean words that are near, lines that are near, and lines with the same first 52 characters, are one.
use mathlib.Core.Path.{◌≡◌, refl, sym, ap, ap₂, ◌∙◌}
use mathlib.Core.List.{List, [], ◌∷◌, ◌++◌}
use Prim.Native.Nat.{ℕ, suc, ◌+◌, ◌*◌, ◌<◌, ◌≤◌}
use native.Mathlib.Omega.{arith}
use lib.ListN.{length, get_or, replicate, take, get_or-replicate}
use lib.Seq.{take-suc}
use Rattle.polynomial.specs.Sums.{weight}
use Rattle.polynomial.proofs.Vandermonde.{zeros_get}
use Rattle.code.specs.Word.{Clean, added, marks, Line, text, number, distance}
use Rattle.code.proofs.Words.{same_word, added_twice, added_zeros}
use Rattle.code.proofs.Distances.{distance_weight, distance_comm, distance_both, distance_take, triangle}
use Rattle.code.proofs.Lines.{clean_light, clean_added, marks_long, unmarked, line_long, line_characters}

pub clean_zero : (w : List ℕ) → Clean w → weight w ≤ 11 → w ≡ replicate 63 0
clean_zero w c h =
    same_word w (replicate 63 0) c.long refl (λ a l. zeros_get w (clean_light w c h) a ∙ sym (get_or-replicate 63 a 0 0 l))

pub clean_near : (u v : List ℕ) → Clean u → Clean v → distance u v ≤ 11 → u ≡ v
clean_near u v cu cv h =
    added_zeros u v (cu.long ∙ sym cv.long)
    (clean_light (added u v) (clean_added u v cu cv) (let e = distance_weight u v in omega arith))

-- the marks are on both
pub lines_near : (u v : List ℕ) → Line u → Line v → distance u v ≤ 11 → u ≡ v
lines_near u v lu lv h =
    let mu : length u ≡ length marks = line_long u lu ∙ sym marks_long in
    let mv : length v ≡ length marks = line_long v lv ∙ sym marks_long in
    sym (added_twice u marks mu)
    ∙ ap (λ (w : List ℕ). added w marks)
    (clean_near (added u marks) (added v marks) (unmarked u lu) (unmarked v lv) (let e = distance_both u v marks mu mv in omega arith))
    ∙ added_twice v marks mv

-- two words within t of a third are within t + t
pub both_near : (w u v : List ℕ) (t : ℕ) → length u ≡ length w → length v ≡ length w → distance w u ≤ t → distance w v ≤ t
    → distance u v ≤ t + t
both_near w u v t hu hv p q =
    let e = triangle u w v hu hv in
    let f = distance_comm u w in
    omega arith

-- ---- the first 52 characters

pub same_52 : (u v : List ℕ) → Line u → Line v → take 52 u ≡ take 52 v → u ≡ v
same_52 u v lu lv e = lines_near u v lu lv (let h = distance_take 52 u v e in let l = line_long u lu in omega arith)

take_more : (u v : List ℕ) (n : ℕ) → n < length u → n < length v → take n u ≡ take n v → get_or u n 0 ≡ get_or v n 0 → take (suc n) u ≡ take (suc n) v
take_more u v n hu hv e f = take-suc u n 0 hu ∙ ap₂ (λ (l : List ℕ) (c : ℕ). l ++ c ∷ []) e f ∙ sym (take-suc v n 0 hv)

-- a number has one high and one low half
high : (p q r s : ℕ) → q < 64 → s < 64 → p * 64 + q ≡ r * 64 + s → p ≡ r
high p q r s hq hs e = omega arith

pub same_information : (u v : List ℕ) → Line u → Line v → text u ≡ text v → number u ≡ number v → u ≡ v
same_information u v lu lv e f =
    let hu = line_long u lu in
    let hv = line_long v lv in
    let cu = line_characters u lu 51 in
    let cv = line_characters v lv 51 in
    let p : get_or u 50 0 ≡ get_or v 50 0 = high (get_or u 50 0) (get_or u 51 0) (get_or v 50 0) (get_or v 51 0) cu cv f in
    let q : get_or u 51 0 ≡ get_or v 51 0 = omega arith in
    same_52 u v lu lv (take_more u v 51 (omega arith) (omega arith) (take_more u v 50 (omega arith) (omega arith) e p) q)

-- A word is clean exactly when the generator divides its polynomial.
use mathlib.Core.Path.{◌≡◌, sym, ap, ap₂, ◌∙◌, subst}
use mathlib.Core.List.{List, ◌++◌}
use Prim.Native.Nat.{ℕ, ◌+◌}
use native.Mathlib.Omega.{arith}
use lib.ListN.{length, take, drop, replicate, length-append, take-append-drop}
use lib.Seq.{take_at, drop_at, length-take-le}
use Rattle.field.specs.Field.{α, power}
use Rattle.polynomial.specs.Polynomial.{value_at}
use Rattle.polynomial.proofs.Horner.{value_zeros}
use Rattle.code.specs.Word.{Characters, Clean}
use Rattle.code.proofs.Sums.{power_sum_value}
use Rattle.code.proofs.Distances.{distance_take}
use Rattle.code.proofs.Apart.{clean_near}
use Rattle.encoder.specs.Division.{plus, divide, left_of, remainder, GeneratorDivides}
use Rattle.encoder.proofs.Division.{root, plus_self, plus_parts, divide_plus, divide_zeros, divide_value, remainder_is, remainder_long}
use Rattle.encoder.proofs.Quotients.{quotients, left_none, multiple_left}
use Rattle.encoder.proofs.Encoding.{clean_remainder, characters_take}

left_52 : (w : List ℕ) → length w ≡ 63 → left_of w ≡ divide 52 w
unfolding left_of
left_52 w h = ap (λ (n : ℕ). divide n w) (omega arith)

-- ---- where the division leaves nothing the sums are 0, for it keeps the value at each root

divided_clean : (w : List ℕ) → length w ≡ 63 → Characters w → left_of w ≡ replicate 11 0 → Clean w
divided_clean w h c g =
    record {
      long = h;
      characters = c;
      sums = λ k b.
          power_sum_value (58 + k) w h ∙ sym (divide_value (power α (58 + k)) (root k b) 52 w h)
          ∙ ap (value_at (power α (58 + k))) (sym (left_52 w h) ∙ g) ∙ value_zeros (power α (58 + k)) 11;
    }

pub divides_clean : (w : List ℕ) → length w ≡ 63 → Characters w → GeneratorDivides w → Clean w
divides_clean w h c g = divided_clean w h c (ap left_of g.is ∙ multiple_left g.quotient)

-- ---- a clean word ends in the remainder of its first 52 characters, for no other clean word begins with them

pub clean_ends : (cs r : List ℕ) → length cs ≡ 52 → Characters cs → Clean (cs ++ r) → r ≡ remainder cs
clean_ends cs r hc h c =
    let whole = clean_remainder cs hc h in
    let d = distance_take 52 (cs ++ r) (cs ++ remainder cs) (take_at cs r 52 hc ∙ sym (take_at cs (remainder cs) 52 hc)) in
    sym (drop_at cs r 52 hc) ∙ ap (drop 52) (clean_near (cs ++ r) (cs ++ remainder cs) c whole (omega (arith, c.long))) ∙ drop_at cs (remainder cs) 52 hc

-- of characters with their remainder the division leaves nothing
whole_left : (cs : List ℕ) → length cs ≡ 52 → divide 52 (cs ++ remainder cs) ≡ replicate 11 0
whole_left cs h =
    let r : List ℕ = remainder cs in
    let hr : length r ≡ 11 = remainder_long cs in
    let long : length (cs ++ replicate 11 0) ≡ 63 = omega (arith, length-append cs (replicate 11 0)) in
    let other : length (replicate 52 0 ++ r) ≡ 63 = omega (arith, length-append (replicate 52 0) r) in
    ap (divide 52) (sym (plus_parts cs r) ∙ ap₂ (λ (i j : ℕ). plus (cs ++ replicate i 0) (replicate j 0 ++ r)) hr h)
    ∙ divide_plus 52 (cs ++ replicate 11 0) (replicate 52 0 ++ r) (long ∙ sym other) (omega arith)
    ∙ ap₂ plus (ap (λ (n : ℕ). divide n (cs ++ replicate 11 0)) (sym h) ∙ sym (remainder_is cs)) (divide_zeros 52 r (omega arith))
    ∙ plus_self r ∙ ap (λ (n : ℕ). replicate n 0) hr

pub clean_divides : (w : List ℕ) → Clean w → GeneratorDivides w
clean_divides w c =
    let h = c.long in
    let s : take 52 w ++ drop 52 w ≡ w = take-append-drop 52 w in
    let long : length (take 52 w) ≡ 52 = length-take-le 52 w (omega arith) in
    let ends : drop 52 w ≡ remainder (take 52 w) =
    clean_ends (take 52 w) (drop 52 w) long (characters_take 52 w c.characters) (subst Clean (sym s) c) in
    record {
      quotient = quotients 52 w;
      is = left_none 52 w h c.characters (ap (divide 52) (sym s ∙ ap (λ (r : List ℕ). take 52 w ++ r) ends) ∙ whole_left (take 52 w) long);
    }

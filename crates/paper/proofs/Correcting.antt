-- What adding the magnitudes at their addresses keeps, a magnitude at a time, and what looking for the first and the last change finds.
use mathlib.Core.Path.{◌≡◌, refl, sym, ap, ap₂, ◌∙◌, subst}
use mathlib.Core.Logic.{⊎_elim}
use mathlib.Core.List.{List, [], ◌∷◌}
use Prim.Native.Nat.{ℕ, zero, suc, ◌+◌, ◌-◌, ◌*◌, ◌%◌, ◌<◌, ◌≤◌}
use native.Mathlib.Nat.{mod-eq_of_lt}
use native.Mathlib.Numerals.{add-one}
use native.Mathlib.Omega.{arith}
use borrow.Author.Count.{below_none, below_more}
use lib.Bits.{bit_xor}
use lib.ListN.{length, get_or, set, drop, length-set, length-drop, get_or-eq_default}
use lib.Seq.{get_or-set_same, get_or-set_other, get_or-drop, ext_get_or}
use Rattle.numbers.specs.Total.{total}
use Rattle.numbers.proofs.Cases.{same_or_not, not_zero_of_pos}
use Rattle.field.specs.Field.{sum, product, α, power}
use Rattle.field.proofs.Laws
use Rattle.field.proofs.Totals.{total_next}
use Rattle.places.specs.Logs.{LogOf}
use Rattle.polynomial.specs.Sums.{Fresh, Places}
use Rattle.polynomial.specs.Polynomial.{Elements}
use Rattle.polynomial.proofs.Places.{place_pos, place_lt}
use Rattle.code.specs.Word.{Characters, power_sum, distance, first_changed, last_changed}
use Rattle.code.proofs.Sums.{power_sum_set}
use Rattle.code.proofs.Distances.{distance_self, distance_set, triangle}
use Rattle.code.proofs.Changes.{Same, first_at, last_at, nowhere_first, nowhere_last}
use Rattle.paper.specs.Inside.{Corrects}

-- ---- the magnitudes added

-- the place of magnitude i
abbrev place_of : List ℕ → ℕ → ℕ → ℕ
place_of xs n i = get_or xs (5 - n + i) 0

-- the share of k magnitudes in sum j
abbrev shares : List ℕ → List ℕ → ℕ → ℕ → ℕ → ℕ
shares xs vs n j k = total k (λ i. product (get_or vs i 0) (power (place_of xs n i) j))

pub record CorrectedTo (w xs vs : List ℕ) (n : ℕ) (r : List ℕ) (k : ℕ) : Type 0 where
  pub most : k ≤ n
  pub few : n ≤ 5
  pub word_long : length w ≡ 63
  pub places_long : length xs ≡ 5
  pub places : Places (drop (5 - n) xs)
  pub elements : Elements vs
  pub long : length r ≡ 63
  pub characters : Characters r
  pub near : distance w r ≤ k
  pub sums : (j : ℕ) → power_sum j r ≡ sum (power_sum j w) (shares xs vs n j k)
  pub beside : (a : ℕ) → a < 63 → ((i : ℕ) → i < k → place_of xs n i ≡ power α (62 - a) → ⊥) → get_or r a 0 ≡ get_or w a 0

pub corrected_none : (w xs vs : List ℕ) (n : ℕ) → n ≤ 5 → length w ≡ 63 → length xs ≡ 5 → Characters w → Elements vs → Places (drop (5 - n) xs)
    → CorrectedTo w xs vs n w 0
unfolding total
corrected_none w xs vs n few l lx c el pl =
    record {
      most = omega arith;
      few = few;
      word_long = l;
      places_long = lx;
      places = pl;
      elements = el;
      long = l;
      characters = c;
      near = (let e = distance_self w in omega arith);
      sums = λ j. sym (Laws.sum_zero (power_sum j w));
      beside = λ a h d. refl;
    }

-- one more, at the address of its place
module _ (w xs vs : List ℕ) (n : ℕ) (r : List ℕ) (k l : ℕ) (t : CorrectedTo w xs vs n r k) (h : k < n) (log : LogOf (get_or xs (5 - n + k) 0) l) where
  a : ℕ
  a = 62 - l

  c : ℕ
  c = bit_xor (get_or r (62 - l) 0) (get_or vs k 0)

  address-inside : 62 - l < 63
  address-inside = omega arith

  inside : a < length r
  unfolding a
  inside = omega (arith, t.long)

  k-inside : k < length (drop (5 - n) xs)
  k-inside = let b = t.few in let e = t.places_long in let d = length-drop (5 - n) xs in omega arith

  place_is : power α l ≡ place_of xs n k
  place_is =
      let here = get_or-drop (5 - n) xs k 0 in
      let pos : 0 < place_of xs n k = subst (λ (y : ℕ). 0 < y) here (place_pos (drop (5 - n) xs) k t.places k-inside) in
      let lt : place_of xs n k < 64 = subst (λ (y : ℕ). y < 64) here (place_lt (drop (5 - n) xs) k t.places k-inside) in
      let low = mod-eq_of_lt lt in
      log.is (λ z. not_zero_of_pos pos (sym low ∙ z)) ∙ low

  back : 62 - a ≡ l
  unfolding a
  back = let b = log.below in omega arith

  share : (j : ℕ) → product (sum (get_or r a 0) c) (power α (j * (62 - a) % 63)) ≡ product (get_or vs k 0) (power (place_of xs n k) j)
  unfolding a c sum
  share j =
      ap₂ product (Laws.sum_undo (get_or r a 0) (get_or vs k 0))
      (Laws.power_mod (j * (62 - a)) ∙ ap (λ (m : ℕ). power α (j * m)) back ∙ Laws.power_mul α j l ∙ ap (λ (y : ℕ). power y j) place_is)

  sums-more : (j : ℕ) → power_sum j (set r a c) ≡ sum (power_sum j w) (shares xs vs n j (k + 1))
  unfolding a
  sums-more j =
      power_sum_set j r a c address-inside inside
      ∙ ap₂ sum (t.sums j) (share j)
      ∙ Laws.sum_assoc (power_sum j w) (shares xs vs n j k) (product (get_or vs k 0) (power (place_of xs n k) j))
      ∙ ap (sum (power_sum j w))
      (sym (total_next k (λ i. product (get_or vs i 0) (power (place_of xs n i) j))) ∙ ap (shares xs vs n j) (sym (add-one k)))

  characters-more : Characters (set r a c)
  unfolding c sum
  characters-more b =
      ⊎_elim
      (λ (q : b ≡ a).
      subst (λ (i : ℕ). get_or (set r a c) i 0 < 64) (sym q)
      (subst (λ (y : ℕ). y < 64) (sym (get_or-set_same r a c 0 inside)) (Laws.sum_lt (get_or r (62 - l) 0) (get_or vs k 0) (t.characters (62 - l)) (t.elements k))))
      (λ (d : b ≡ a → ⊥). subst (λ (y : ℕ). y < 64) (sym (get_or-set_other r a b c 0 d)) (t.characters b))
      (same_or_not b a)

  pub corrected_again : CorrectedTo w xs vs n (set r (62 - l) (bit_xor (get_or r (62 - l) 0) (get_or vs k 0))) (k + 1)
  unfolding a c
  corrected_again =
      record {
        most = omega arith;
        few = t.few;
        word_long = t.word_long;
        places_long = t.places_long;
        places = t.places;
        elements = t.elements;
        long = length-set r a c ∙ t.long;
        characters = characters-more;
        near =
            (let b = t.near in
            let d = distance_set r a c in
            let g = triangle w r (set r a c) (t.word_long ∙ sym t.long) (length-set r a c) in
            omega arith);
        sums = sums-more;
        beside = λ b hb none.
            get_or-set_other r a b c 0
            (λ q. none k (omega arith) (sym place_is ∙ ap (power α) (sym back ∙ ap (λ (i : ℕ). 62 - i) (sym q))))
            ∙ t.beside b hb (λ i m. none i (omega arith));
      }

fresh_not : (rs : List ℕ) (x k : ℕ) → Fresh x rs → k < length rs → get_or rs k 0 ≡ x → ⊥
fresh_not [] x k f h e = absurd (omega arith)
fresh_not (r ∷ rs) x zero f h e = f.0 e
fresh_not (r ∷ rs) x (suc k) f h e = fresh_not rs x k f.1 (omega arith) e

pub corrected_all : (w xs vs : List ℕ) (n : ℕ) (r : List ℕ) (k : ℕ) → CorrectedTo w xs vs n r k → n ≤ k → Corrects w xs vs n r
corrected_all w xs vs n r k t h =
    let same : k ≡ n = (let m = t.most in omega arith) in
    record {
      long = t.long;
      characters = t.characters;
      near = (let d = t.near in omega arith);
      sums = λ j. t.sums j ∙ ap (λ (i : ℕ). sum (power_sum j w) (shares xs vs n j i)) same;
      beside = λ a b f.
          t.beside a b
          (λ i l e.
          fresh_not (drop (5 - n) xs) (power α (62 - a)) i f (let g = t.few in let p = t.places_long in let d = length-drop (5 - n) xs in omega arith)
          (get_or-drop (5 - n) xs i 0 ∙ e));
    }

-- ---- the first and the last changed address

abbrev pub SameTo : List ℕ → List ℕ → ℕ → Type 0
SameTo w l a = (i : ℕ) → i < a → Same w l i

pub same_none : (w l : List ℕ) → SameTo w l 0
same_none w l = below_none (λ i. Same w l i)

pub same_again : (w l : List ℕ) (a : ℕ) → get_or w a 0 ≡ get_or l a 0 → SameTo w l a → SameTo w l (a + 1)
same_again w l a e t = below_more (λ i. Same w l i) a t e

pub first_here : (w l : List ℕ) (a : ℕ) → length w ≡ 63 → length l ≡ 63 → a < 63 → (get_or w a 0 ≡ get_or l a 0 → ⊥) → SameTo w l a → a ≡ first_changed w l
first_here w l a hw hl h d t = first_at w l (hw ∙ sym hl) a (record { inside = omega arith; before = t; there = d })

all_same : (w l : List ℕ) (a : ℕ) → length w ≡ 63 → length l ≡ 63 → 63 ≤ a → SameTo w l a → w ≡ l
all_same w l a hw hl h t = ext_get_or 0 w l (hw ∙ sym hl) (λ i b. t i (omega arith))

pub first_nowhere : (w l : List ℕ) (a : ℕ) → length w ≡ 63 → length l ≡ 63 → 63 ≤ a → SameTo w l a → 63 ≡ first_changed w l
first_nowhere w l a hw hl h t = sym (ap (first_changed w) (sym (all_same w l a hw hl h t)) ∙ nowhere_first w)

-- and from the end
abbrev pub SameFrom : List ℕ → List ℕ → ℕ → Type 0
SameFrom w l a = (i : ℕ) → a ≤ i → Same w l i

pub from_none : (w l : List ℕ) → length w ≡ 63 → length l ≡ 63 → SameFrom w l 63
from_none w l hw hl i h = get_or-eq_default w 0 (omega arith) ∙ sym (get_or-eq_default l 0 (omega arith))

pub from_again : (w l : List ℕ) (a : ℕ) → 0 < a → get_or w (a - 1) 0 ≡ get_or l (a - 1) 0 → SameFrom w l a → SameFrom w l (a - 1)
from_again w l a p e t i h =
    ⊎_elim (λ (q : i ≡ a - 1). subst (Same w l) (sym q) e) (λ (d : i ≡ a - 1 → ⊥). t i (omega (arith, d))) (same_or_not i (a - 1))

pub last_here : (w l : List ℕ) (a : ℕ) → length w ≡ 63 → length l ≡ 63 → 0 < a → a ≤ 63 → (get_or w (a - 1) 0 ≡ get_or l (a - 1) 0 → ⊥) → SameFrom w l a
    → a - 1 ≡ last_changed w l
last_here w l a hw hl p h d t = last_at w l (hw ∙ sym hl) (a - 1) (record { inside = omega arith; after = λ i g. t i (omega arith); there = d })

pub last_nowhere : (w l : List ℕ) (a : ℕ) → length w ≡ 63 → length l ≡ 63 → a ≤ 0 → SameFrom w l a → 63 ≡ last_changed w l
last_nowhere w l a hw hl h t =
    let same : w ≡ l = ext_get_or 0 w l (hw ∙ sym hl) (λ i b. t i (omega arith)) in
    sym (ap (last_changed w) (sym same) ∙ nowhere_last w)

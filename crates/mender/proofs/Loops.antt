-- What the loops of the way in do, a turn at a time, over plain variables.
use mathlib.Core.Path.{◌≡◌, refl, sym, ap, ◌∙◌}
use mathlib.Core.Bool.{Bool, true}
use mathlib.Core.List.{List}
use Prim.Native.Nat.{ℕ, ◌+◌, ◌<◌, ◌≤◌}
use native.Mathlib.Omega.{arith}
use borrow.Author.Count.{below_more}
use lib.ListN.{get_or, length, set, length-set, take}
use lib.Seq.{get_or-set_same, get_or-set_other, ext_get_or}
use lib.Bits.{bit_xor}
use lib.Dec.{leb}
use Rattle.refusal.specs.Promise.{Tells}
use Rattle.std.specs.List.{list_all}
use Rattle.std.proofs.lemmas.Bool.{leb-true, le-leb, false≢true}
use Rattle.std.proofs.lemmas.List.{length-take-le, get_or-take, get_or_default}
use Rattle.std.proofs.lemmas.List.Sums.{AllPass-from_list_all, list_all-from_AllPass}
use Rattle.field.specs.Field.{sum}
use Rattle.code.specs.Word.{added}
use Rattle.code.proofs.Words.{length_added, added_get}
use Rattle.mender.specs.Found.{ElementsTo}

-- ---- whether the first c sums are elements

pub elements_are : (s : List ℕ) (c : ℕ) (b : Bool) → c ≤ length s → b ≡ list_all (λ x. leb x 63) (take c s) → Tells (ElementsTo s c) b
elements_are s c b h e =
    record {
      holds = λ q k l. below k l (AllPass-from_list_all (λ x. leb x 63) (take c s) (sym e ∙ q) k 0 (omega (arith, length-take-le c s h)));
      fails = λ q t. false≢true (sym q ∙ e ∙ list_all-from_AllPass (λ x. leb x 63) (take c s) (λ k d l. at t k d l));
    }
  where
    below : (k : ℕ) → k < c → leb (get_or (take c s) k 0) 63 ≡ true → get_or s k 0 < 64
    below k l t = let m = leb-true (get_or (take c s) k 0) 63 t in let e = get_or-take c s k 0 l in omega arith

    at : ElementsTo s c → (k d : ℕ) → k < length (take c s) → leb (get_or (take c s) k d) 63 ≡ true
    at t k d l =
        let few : k < c = omega (arith, length-take-le c s h) in
        le-leb (get_or (take c s) k d) 63 (let m = t k few in let e = get_or_default (take c s) k d 0 l in let f = get_or-take c s k 0 few in omega arith)

-- ---- two lists added, of n entries

-- the first k entries are added, and those after them are as they were
pub record SummedTo (n : ℕ) (u v was r : List ℕ) (k : ℕ) : Type 0 where
  pub long : length r ≡ n
  pub done : (i : ℕ) → i < k → get_or r i 0 ≡ sum (get_or u i 0) (get_or v i 0)
  pub rest : (i : ℕ) → k ≤ i → get_or r i 0 ≡ get_or was i 0

pub summed_none : (n : ℕ) (u v was : List ℕ) → length was ≡ n → SummedTo n u v was was 0
summed_none n u v was h = record { long = h; done = λ i l. absurd (omega arith); rest = λ i l. refl }

summed_turn : (n : ℕ) (u v was r : List ℕ) (k x : ℕ) → k < n → SummedTo n u v was r k → x ≡ sum (get_or u k 0) (get_or v k 0) → SummedTo n u v was (set r k x) (k + 1)
summed_turn n u v was r k x h a e =
    record {
      long = length-set r k x ∙ a.long;
      done =
          below_more (λ i. get_or (set r k x) i 0 ≡ sum (get_or u i 0) (get_or v i 0)) k
          (λ i l. get_or-set_other r k i x 0 (λ q. omega arith) ∙ a.done i l)
          (get_or-set_same r k x 0 (omega (arith, a.long)) ∙ e);
      rest = λ i l. get_or-set_other r k i x 0 (λ q. omega arith) ∙ a.rest i (omega arith);
    }

-- the array holds the second list
pub summed_second : (n : ℕ) (u v r : List ℕ) (k : ℕ) → k < n → SummedTo n u v v r k → SummedTo n u v v (set r k (bit_xor (get_or u k 0) (get_or r k 0))) (k + 1)
unfolding sum
summed_second n u v r k h a =
    summed_turn n u v v r k (bit_xor (get_or u k 0) (get_or r k 0)) h a (ap (sum (get_or u k 0)) (a.rest k (omega arith)))

pub summed_all : (n : ℕ) (u v was r : List ℕ) (k : ℕ) → n ≤ k → length u ≡ n → length v ≡ n → SummedTo n u v was r k → r ≡ added u v
summed_all n u v was r k h lu lv a =
    ext_get_or 0 r (added u v) (a.long ∙ sym (length_added u v (lu ∙ sym lv) ∙ lu))
    (λ i l. a.done i (omega (arith, a.long)) ∙ sym (added_get u v (lu ∙ sym lv) i))

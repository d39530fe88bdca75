-- What the loops over the bytes of a map and of a pattern do, a turn at a time, over plain variables.
use mathlib.Core.Path.{◌≡◌, refl, sym, ap, ◌∙◌}
use mathlib.Core.Bool.{Bool, true, false, not, cond}
use mathlib.Core.Logic.{⊎_elim}
use mathlib.Core.List.{List, [], ◌∷◌}
use Prim.Native.Nat.{ℕ, zero, suc, ◌+◌, ◌*◌, ◌/◌, ◌%◌, ◌^◌, ◌<◌, ◌≤◌}
use native.Mathlib.Nat.{div_self, one-le-pow, one-mul}
use native.Mathlib.Omega.{arith}
use lib.Dec.{leb, eqb}
use lib.ListN.{length, get_or, get_or-eq_default}
use borrow.Author.Tests.{leb-true, le-leb, ne_eqb}
use Rattle.std.specs.List.{list_all, count_by}
use Rattle.std.proofs.lemmas.Bool.{false≢true}
use Rattle.std.proofs.lemmas.Grind.{get_or_default_zero}
use Rattle.std.proofs.lemmas.List.Recursion.{is_count_by}
use Rattle.std.proofs.lemmas.List.Sums.{AllPass-from_list_all, list_all-from_AllPass}
use lib.Bits.{bit_or}
use lib.Pow.{shl_exact}
use Rattle.numbers.proofs.Cases.{le_or_lt, same_or_not}
use Rattle.refusal.specs.Promise.{Tells}
use Rattle.refusal.proofs.Laws.{tells_yes, tells_no}
use Rattle.polynomial.specs.Sums.{nonzero, weight}
use Rattle.blots.specs.Promises.{Marked}
use Rattle.planes.proofs.Bits.{or_between}
use Rattle.blots.specs.Inside.{Holds}

-- ---- whether each byte of a map is 0 or 1

-- the test of every byte tells it: past the end a byte counts as 0
pub tells_marked : (m : List ℕ) (b : Bool) → b ≡ list_all (λ x. leb x 1) m → Tells (Marked m) b
tells_marked m true e = tells_yes (λ k. ⊎_elim (past k) (here k) (le_or_lt (length m) k))
  where
    past : (k : ℕ) → length m ≤ k → get_or m k 0 < 2
    past k h = let z : get_or m k 0 ≡ 0 = get_or-eq_default m 0 h in omega arith

    here : (k : ℕ) → k < length m → get_or m k 0 < 2
    here k h = let z : get_or m k 0 ≤ 1 = leb-true (get_or m k 0) 1 (AllPass-from_list_all (λ x. leb x 1) m (sym e) k 0 h) in omega arith
tells_marked m false e =
    tells_no
    (λ s. false≢true
    (e ∙ list_all-from_AllPass (λ x. leb x 1) m
    (λ k d h. rw (get_or_default_zero m k d h) (le-leb (get_or m k 0) 1 (let z = s k in omega arith)))))

-- ---- how many bytes are not 0

weight_step : (b : ℕ) (bs : List ℕ) → weight (b ∷ bs) ≡ cond (not (eqb b 0)) (1 + weight bs) (weight bs)
unfolding weight nonzero
weight_step zero bs = omega arith
weight_step (suc b) bs = rw (ne_eqb (suc b) 0 (λ e. omega arith)) refl

weight_none : weight [] ≡ 0
unfolding weight
weight_none = refl

pub counted : (bs : List ℕ) (n : ℕ) → n ≡ count_by (λ x. not (eqb x 0)) bs → n ≡ weight bs
counted bs n e = e ∙ sym (is_count_by weight (λ x. not (eqb x 0)) weight_none weight_step bs)

-- ---- the last byte that is not 0: those from a on are 0

pub record NoneFrom (bs : List ℕ) (a : ℕ) : Type 0 where
  pub zero : (k : ℕ) → a ≤ k → k < 63 → get_or bs k 0 ≡ 0

-- ---- a bit for each

pub record HoldsTo (set : ℕ) (bs : List ℕ) (a : ℕ) : Type 0 where
  pub most : a ≤ 63
  pub clear : (k : ℕ) → k < a → set / 2 ^ k % 2 ≡ 0 → get_or bs k 0 ≡ 0

pub holds_none : (bs : List ℕ) → HoldsTo 0 bs 0
holds_none bs = record { most = omega arith; clear = λ k h. absurd (omega arith) }

-- a bit that is clear in both was clear
pub set_more : (set a k : ℕ) → bit_or set (2 ^ a) / 2 ^ k % 2 ≡ 0 → set / 2 ^ k % 2 ≡ 0
set_more set a k e = let b = (or_between set (2 ^ a) k).left in omega arith

-- and is not the one that was set
pub set_here : (set a k : ℕ) → bit_or set (2 ^ a) / 2 ^ k % 2 ≡ 0 → k ≡ a → ⊥
set_here set a k e q =
    let b = (or_between set (2 ^ a) k).right in
    let o : 2 ^ a / 2 ^ k % 2 ≡ 1 = ap (λ (i : ℕ). 2 ^ a / 2 ^ i % 2) q ∙ ap (λ (n : ℕ). n % 2) (div_self {n = 2 ^ a} (one-le-pow a 2 (omega arith))) in
    omega arith

pub bit_is : (a : ℕ) → a < 63 → (1 * 2 ^ a) % 2 ^ 64 ≡ 2 ^ a
bit_is a h = shl_exact {a = 1} 1 a 64 (omega arith) (omega arith) ∙ one-mul (2 ^ a)

pub holds_more : (set : ℕ) (bs : List ℕ) (a b set' : ℕ) → a < 63 → HoldsTo set bs a → b ≡ 2 ^ a → set' ≡ bit_or set b → HoldsTo set' bs (a + 1)
holds_more set bs a b set' h t eb e =
    rw (e ∙ ap (bit_or set) eb) (record {
      most = omega arith;
      clear = λ k l z. ⊎_elim (λ (q : k ≡ a). absurd (set_here set a k z q)) (λ (d : k ≡ a → ⊥). t.clear k (omega arith) (set_more set a k z)) (same_or_not k a);
    })

pub holds_skip : (set : ℕ) (bs : List ℕ) (a set' : ℕ) → a < 63 → HoldsTo set bs a → get_or bs a 0 ≡ 0 → set' ≡ set → HoldsTo set' bs (a + 1)
holds_skip set bs a set' h t z e =
    rw e (record {
      most = omega arith;
      clear = λ k l c. ⊎_elim (λ (q : k ≡ a). ap (λ (i : ℕ). get_or bs i 0) q ∙ z) (λ (d : k ≡ a → ⊥). t.clear k (omega arith) c) (same_or_not k a);
    })

pub holds_all : (set : ℕ) (bs : List ℕ) (a : ℕ) → 63 ≤ a → HoldsTo set bs a → Holds set bs
holds_all set bs a h t = record { clear = λ k l. t.clear k (omega arith) }

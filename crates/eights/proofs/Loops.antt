-- What the code does, a turn and a way out at a time, over plain variables.
use mathlib.Core.Path.{◌≡◌, refl, sym, ap, ap₂, ◌∙◌, subst}
use mathlib.Core.Bool.{Bool}
use mathlib.Core.List.{List, [], ◌∷◌}
use Prim.Native.Nat.{ℕ, zero, suc, ◌+◌, ◌-◌, ◌*◌, ◌/◌, ◌^◌, ◌<◌, ◌≤◌}
use native.Mathlib.Nat.{add-zero, add_assoc, zero-add}
use native.Mathlib.Decide.{dec_lt}
use native.Mathlib.Omega.{arith}
use borrow.Author.Count.{below_none}
use lib.Bits.{bit_xor, bit_or, xor_zero_r}
use lib.ListN.{length, get_or, get_or-eq_default}
use Rattle.refusal.specs.Promise.{Tells}
use Rattle.numbers.specs.Total.{total}
use Rattle.numbers.proofs.Totals.{total_same, total_none, total_xor, total_append}
use Rattle.eights.specs.Low.{Low}
use Rattle.eights.specs.Inside.{byte, HoldsBytes, eight_from, LowEight}
use Rattle.eights.proofs.Laws.{byte_shift, byte_xor, none_byte, low_both, low_left, low_right}

pub past_end : (w : List ℕ) (a : ℕ) → length w ≤ a → 0 ≡ get_or w a 0
past_end w a h = sym (get_or-eq_default w 0 h)

-- ---- what a number of eight bytes from i on holds

pub few_holds : (w : List ℕ) (a b c d e f g h n : ℕ) → a ≡ get_or w 0 0 → b ≡ get_or w 1 0 → c ≡ get_or w 2 0 → d ≡ get_or w 3 0 → e ≡ get_or w 4 0
    → f ≡ get_or w 5 0 → g ≡ get_or w 6 0 → h ≡ get_or w 7 0 → HoldsBytes (a ∷ b ∷ c ∷ d ∷ e ∷ f ∷ g ∷ h ∷ []) n → HoldsBytes (eight_from w 0) n
few_holds w a b c d e f g h n pa pb pc pd pe pf pg ph s = rw (pa, pb, pc, pd, pe, pf, pg, ph) at s

from_at : (w : List ℕ) (i k : ℕ) → k < 8 → get_or (eight_from w i) k 0 ≡ get_or w (i + k) 0
from_at w i zero h = ap (λ (a : ℕ). get_or w a 0) (sym (add-zero i))
from_at w i (suc zero) h = refl
from_at w i (suc (suc zero)) h = refl
from_at w i (suc (suc (suc zero))) h = refl
from_at w i (suc (suc (suc (suc zero)))) h = refl
from_at w i (suc (suc (suc (suc (suc zero))))) h = refl
from_at w i (suc (suc (suc (suc (suc (suc zero)))))) h = refl
from_at w i (suc (suc (suc (suc (suc (suc (suc zero))))))) h = refl
from_at w i (suc (suc (suc (suc (suc (suc (suc (suc k)))))))) h = absurd (omega arith)

module _ (w : List ℕ) (i n : ℕ) (s : HoldsBytes (eight_from w i) n) where
  pub holds_at : (k : ℕ) → k < 8 → byte n k ≡ get_or w (i + k) 0
  holds_at k h = s.at k ∙ from_at w i k h

  holds-past : (k : ℕ) → 8 ≤ k → byte n k ≡ 0
  holds-past k h = s.at k ∙ get_or-eq_default (eight_from w i) 0 h

  low-from : Low w → LowEight n
  low-from f k h = rw (holds_at k h) (f (i + k))

  from_low : LowEight n → (a : ℕ) → i ≤ a → a < i + 8 → get_or w a 0 < 64
  from_low f a l h =
      let k : ℕ = a - i in
      let b : k < 8 = omega arith in
      let e : i + k ≡ a = omega arith in
      rw (← e, ← holds_at k b) (f k b)

-- ---- whether each byte is below 64

pub record LowTo (w : List ℕ) (i met : ℕ) : Type 0 where
  pub most : i ≤ length w
  pub passed : LowEight met → (a : ℕ) → a < i → get_or w a 0 < 64
  pub last : LowEight met → (a : ℕ) → length w ≤ a + 8 → get_or w a 0 < 64
  pub kept : Low w → LowEight met

-- from the last eight on; past the end is 0
low_after : (w : List ℕ) (i n : ℕ) → HoldsBytes (eight_from w i) n → length w ≤ i + 8 → LowEight n → (a : ℕ) → i ≤ a → get_or w a 0 < 64
low_after w i n s h f a l = by_cases (dec_lt a (i + 8))
  where
    by_cases : Dec (a < i + 8) → get_or w a 0 < 64
    by_cases (yes b) = from_low w i n s f a l b
    by_cases (no b) = rw (← past_end w a (omega arith)) (omega arith)

pub low_start : (w : List ℕ) (met : ℕ) → 8 ≤ length w → HoldsBytes (eight_from w (length w - 8)) met → LowTo w 0 met
low_start w met h s =
    record {
      most = omega arith;
      passed = λ f. below_none (λ a. get_or w a 0 < 64);
      last = λ f a l. low_after w (length w - 8) met s (omega arith) f a (omega arith);
      kept = low-from w (length w - 8) met s;
    }

low_more : (w : List ℕ) (i met n : ℕ) → LowTo w i met → i + 8 < length w → HoldsBytes (eight_from w i) n → LowTo w (i + 8) (bit_or met n)
low_more w i met n t h s =
    record {
      most = omega arith;
      passed = λ f a l. by_cases f a l (dec_lt a i);
      last = λ f. t.last (low_left met n f);
      kept = λ f. low_both met n (t.kept f) (low-from w i n s f);
    }
  where
    by_cases : LowEight (bit_or met n) → (a : ℕ) → a < i + 8 → Dec (a < i) → get_or w a 0 < 64
    by_cases f a l (yes b) = t.passed (low_left met n f) a b
    by_cases f a l (no b) = from_low w i n s (low_right met n f) a (omega arith) l

-- a turn passes eight bytes, and one is left
eight_on : (k : ℕ) → 8 * k + 8 ≡ 8 * (k + 1)
eight_on k = omega arith

pub low_again : (w : List ℕ) (k met n : ℕ) → LowTo w (8 * k) met → k < (length w - 1) / 8 → HoldsBytes (eight_from w (8 * k)) n
    → LowTo w (8 * (k + 1)) (bit_or met n)
low_again w k met n t h s = subst (λ (i : ℕ). LowTo w i (bit_or met n)) (eight_on k) (low_more w (8 * k) met n t (omega arith) s)

same_tells : {P Q : Type 0} {b : Bool} → (P → Q) → (Q → P) → Tells P b → Tells Q b
same_tells to back t = record { holds = λ e. to (t.holds e); fails = λ e q. t.fails e (back q) }

pub low_all : (w : List ℕ) (i met : ℕ) (r : Bool) → LowTo w i met → length w ≤ i + 8 → Tells (LowEight met) r → Tells (Low w) r
low_all w i met r t h = same_tells (λ f a. by_cases f a (dec_lt a i)) t.kept
  where
    by_cases : LowEight met → (a : ℕ) → Dec (a < i) → get_or w a 0 < 64
    by_cases f a (yes b) = t.passed f a b
    by_cases f a (no b) = t.last f a (omega arith)

pub low_few : (w : List ℕ) (met : ℕ) (r : Bool) → length w < 8 → HoldsBytes (eight_from w 0) met → Tells (LowEight met) r → Tells (Low w) r
low_few w met r h s = same_tells (λ f a. low_after w 0 met s (omega arith) f a (omega arith)) (low-from w 0 met s)

-- ---- the exclusive or

-- what is past the end adds nothing
total_past : (w : List ℕ) (i : ℕ) → length w ≤ i → total i (λ a. get_or w a 0) ≡ total (length w) (λ a. get_or w a 0)
total_past w i h =
    let e : i ≡ length w + (i - length w) = omega arith in
    ap (λ (m : ℕ). total m (λ a. get_or w a 0)) e ∙ total_append (length w) (i - length w) (λ a. get_or w a 0)
    ∙ ap (bit_xor (total (length w) (λ a. get_or w a 0)))
    (total_none (i - length w) (λ k. get_or w (length w + k) 0) (λ k l. sym (past_end w (length w + k) (omega arith))))
    ∙ xor_zero_r (total (length w) (λ a. get_or w a 0))

pub record XorTo (w : List ℕ) (i z : ℕ) : Type 0 where
  pub most : i < length w
  pub passed : total 8 (byte z) ≡ total i (λ a. get_or w a 0)

pub xor_start : (w : List ℕ) → 8 ≤ length w → XorTo w 0 0
unfolding total
xor_start w h = record { most = omega arith; passed = total_none 8 (byte 0) (λ k l. none_byte k) }

pub eight_more : (w : List ℕ) (i z n : ℕ) → total 8 (byte z) ≡ total i (λ a. get_or w a 0) → ((k : ℕ) → k < 8 → byte n k ≡ get_or w (i + k) 0)
    → total 8 (byte (bit_xor z n)) ≡ total (i + 8) (λ a. get_or w a 0)
eight_more w i z n e f =
    total_same 8 (byte (bit_xor z n)) (λ k. bit_xor (byte z k) (byte n k)) (λ k l. byte_xor z n k) ∙ total_xor 8 (byte z) (byte n)
    ∙ ap₂ bit_xor e (total_same 8 (byte n) (λ k. get_or w (i + k) 0) f) ∙ sym (total_append i 8 (λ a. get_or w a 0))

xor_more : (w : List ℕ) (i z n : ℕ) → XorTo w i z → i + 8 < length w → HoldsBytes (eight_from w i) n → XorTo w (i + 8) (bit_xor z n)
xor_more w i z n t h s = record { most = h; passed = eight_more w i z n t.passed (holds_at w i n s) }

pub xor_again : (w : List ℕ) (k z n : ℕ) → XorTo w (8 * k) z → k < (length w - 1) / 8 → HoldsBytes (eight_from w (8 * k)) n
    → XorTo w (8 * (k + 1)) (bit_xor z n)
xor_again w k z n t h s = subst (λ (i : ℕ). XorTo w i (bit_xor z n)) (eight_on k) (xor_more w (8 * k) z n t (omega arith) s)

-- m bytes of eight shifted out, where the list ends with the eight
holds_shifted : (w : List ℕ) (i n m : ℕ) → HoldsBytes (eight_from w i) n → length w ≡ i + 8 → (k : ℕ) → byte (n / 2 ^ (8 * m)) k ≡ get_or w (i + m + k) 0
holds_shifted w i n m s e k = byte_shift n m k ∙ by_cases (dec_lt (m + k) 8) ∙ ap (λ (a : ℕ). get_or w a 0) (sym (add_assoc i m k))
  where
    by_cases : Dec (m + k < 8) → byte n (m + k) ≡ get_or w (i + (m + k)) 0
    by_cases (yes b) = holds_at w i n s (m + k) b
    by_cases (no b) = holds-past w i n s (m + k) (omega arith) ∙ past_end w (i + (m + k)) (omega arith)

xor_end : (w : List ℕ) (i z n r : ℕ) → 8 ≤ length w → XorTo w i z → length w ≤ i + 8 → HoldsBytes (eight_from w (length w - 8)) n
    → r ≡ total 8 (byte (bit_xor z (n / 2 ^ (8 * (i + 8 - length w))))) → r ≡ total (length w) (λ a. get_or w a 0)
xor_end w i z n r l t h s e =
    let m : ℕ = i + 8 - length w in
    let b : length w - 8 + m ≡ i = omega arith in
    e
    ∙ eight_more w i z (n / 2 ^ (8 * m)) t.passed
    (λ k _. holds_shifted w (length w - 8) n m s (omega arith) k ∙ ap (λ (j : ℕ). get_or w (j + k) 0) b)
    ∙ total_past w (i + 8) h

pub xor_all : (w : List ℕ) (k z n r : ℕ) → 8 ≤ length w → XorTo w (8 * k) z → (length w - 1) / 8 ≤ k → HoldsBytes (eight_from w (length w - 8)) n
    → r ≡ total 8 (byte (bit_xor z (n / 2 ^ (8 * (8 * ((length w - 1) / 8) + 8 - length w))))) → r ≡ total (length w) (λ a. get_or w a 0)
xor_all w k z n r l t h s e =
    let m = t.most in
    let q : (length w - 1) / 8 ≡ k = omega arith in
    xor_end w (8 * k) z n r l t (omega arith) s (e ∙ ap (λ (j : ℕ). total 8 (byte (bit_xor z (n / 2 ^ (8 * (8 * j + 8 - length w)))))) q)

pub xor_few : (w : List ℕ) (n r : ℕ) → length w < 8 → HoldsBytes (eight_from w 0) n → r ≡ total 8 (byte n) → r ≡ total (length w) (λ a. get_or w a 0)
xor_few w n r h s e =
    e ∙ total_same 8 (byte n) (λ a. get_or w a 0) (λ k l. s.at k ∙ from_at w 0 k l ∙ ap (λ (a : ℕ). get_or w a 0) (zero-add k))
    ∙ total_past w 8 (omega arith)

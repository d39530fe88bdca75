-- The eleven sums as they are held: which list it is, and what adding does to it.
use mathlib.Core.Path.{◌≡◌, refl, sym, ap, ap₂, ◌∙◌, subst}
use mathlib.Core.Bool.{Bool, true, false, cond}
use mathlib.Core.Logic.{⊎_elim}
use mathlib.Core.List.{List}
use Prim.Native.Nat.{ℕ, ◌%◌, ◌<◌}
use native.Mathlib.Nat.{eq-or-lt_of_le, le_of_suc-le-suc, le_of_eq}
use native.Mathlib.Omega.{arith}
use lib.Bits.{bit_xor, xor_mod}
use lib.Dec.{T, ltb, lt→ltb}
use lib.ListN.{length, get_or}
use lib.Seq.{ext_get_or}
use Rattle.field.specs.Field.{sum}
use Rattle.lanes.specs.Lanes.{lane}
use Rattle.lanes.proofs.Laws.{lane_lt, lane_xor}
use Rattle.code.specs.Word.{Characters, added}
use Rattle.code.proofs.Words.{characters_below, listed_long, listed_get, length_added, added_get}
use Rattle.sums.specs.declared.Sums.{Sums}
use Rattle.sums.specs.Held.{eleven_at, eleven}

-- ---- what is held

when_true : (b : Bool) (x y : ℕ) → T b → cond b x y ≡ x
when_true true x y t = refl
when_true false x y t = absurd t

pub eleven_long : (h : Sums) → length (eleven h) ≡ 11
unfolding eleven
eleven_long h = listed_long (eleven_at h) 0 11

pub eleven_get : (h : Sums) (k : ℕ) → k < 11 → get_or (eleven h) k 0 ≡ eleven_at h k
unfolding eleven
eleven_get h k l = listed_get (eleven_at h) 11 k l

at_first : (h : Sums) (k : ℕ) → k < 10 → eleven_at h k ≡ lane h.first k
unfolding eleven_at
at_first h k l = when_true (ltb k 10) (lane h.first k) (h.last % 64) (lt→ltb k 10 l)

at_last : (h : Sums) → eleven_at h 10 ≡ h.last % 64
unfolding eleven_at
at_last h = refl

pub eleven_first : (h : Sums) (k : ℕ) → k < 10 → get_or (eleven h) k 0 ≡ lane h.first k
eleven_first h k l = eleven_get h k (omega arith) ∙ at_first h k l

pub eleven_last : (h : Sums) → get_or (eleven h) 10 0 ≡ h.last % 64
eleven_last h = eleven_get h 10 (omega arith) ∙ at_last h

-- a list of eleven is held where its first ten and its last are
pub eleven_is : (h : Sums) (s : List ℕ) → length s ≡ 11 → ((k : ℕ) → k < 10 → lane h.first k ≡ get_or s k 0) → h.last % 64 ≡ get_or s 10 0 → eleven h ≡ s
eleven_is h s l f e =
    ext_get_or 0 (eleven h) s (eleven_long h ∙ sym l)
    (λ k b.
    let c : k < 11 = subst (λ (n : ℕ). k < n) (eleven_long h) b in
    ⊎_elim (λ (q : k ≡ 10). ap (λ (i : ℕ). get_or (eleven h) i 0) q ∙ eleven_last h ∙ e ∙ ap (λ (i : ℕ). get_or s i 0) (sym q))
    (λ (m : k < 10). eleven_first h k m ∙ f k m) (eq-or-lt_of_le (le_of_suc-le-suc c)))

below_eleven : (h : Sums) (k : ℕ) → k < 11 → get_or (eleven h) k 0 < 64
below_eleven h k l =
    ⊎_elim (λ (q : k ≡ 10). subst (λ (i : ℕ). get_or (eleven h) i 0 < 64) (sym q) (subst (λ (n : ℕ). n < 64) (sym (eleven_last h)) (omega arith)))
    (λ (m : k < 10). subst (λ (n : ℕ). n < 64) (sym (eleven_first h k m)) (lane_lt h.first k)) (eq-or-lt_of_le (le_of_suc-le-suc l))

pub eleven_characters : (h : Sums) → Characters (eleven h)
eleven_characters h = characters_below (eleven h) 11 (le_of_eq (eleven_long h)) (below_eleven h)

-- ---- added

pub eleven_added : (g h r : Sums) → r.first ≡ bit_xor g.first h.first → r.last ≡ bit_xor g.last h.last → eleven r ≡ added (eleven g) (eleven h)
unfolding sum
eleven_added g h r ef el =
    let long : length (eleven g) ≡ length (eleven h) = eleven_long g ∙ sym (eleven_long h) in
    eleven_is r (added (eleven g) (eleven h)) (length_added (eleven g) (eleven h) long ∙ eleven_long g)
    (λ k l.
    ap (λ (n : ℕ). lane n k) ef ∙ lane_xor g.first h.first k
    ∙ sym (added_get (eleven g) (eleven h) long k ∙ ap₂ sum (eleven_first g k l) (eleven_first h k l)))
    (ap (λ (n : ℕ). n % 64) el ∙ xor_mod g.last h.last 6 ∙ sym (added_get (eleven g) (eleven h) long 10 ∙ ap₂ sum (eleven_last g) (eleven_last h)))

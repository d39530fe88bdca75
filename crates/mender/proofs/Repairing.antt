-- From eleven sums to the repaired word: no error, one error, and any number; and the test of the sixth window.
use mathlib.Core.Path.{◌≡◌, refl, sym, ap, ap₂, ◌∙◌, subst}
use mathlib.Core.Bool.{Bool, true, false}
use mathlib.Core.Logic.{⊎_elim}
use mathlib.Core.List.{List}
use Rattle.std.specs.Prelude.{Option, Some, None}
use Prim.Native.Nat.{ℕ, min, ◌+◌, ◌*◌, ◌/◌, ◌%◌, ◌^◌, ◌<◌, ◌≤◌}
use native.Mathlib.Nat.{le_trans, le_of_eq, one-le-pow, one-mul}
use native.Mathlib.Omega.{arith}
use lib.ListN.{get_or, length, replicate, set, length-set, get_or-eq_default}
use lib.Seq.{ext_get_or, get_or-set_same, get_or-set_other}
use lib.Bits.{bit_xor}
use lib.Dec.{eqb}
use lib.Pow.{shl_exact}
use borrow.Author.Tests.{eqb-true, eqb-false}
use Rattle.numbers.proofs.Cases.{le_or_lt, same_or_not}
use Rattle.refusal.specs.Promise.{Tells}
use Rattle.refusal.proofs.Laws.{tells_no}
use Rattle.numbers.specs.Total.{total}
use Rattle.field.specs.Field.{sum, product}
use Rattle.field.proofs.Laws
use Rattle.numbers.proofs.Totals.{total_same}
use Rattle.lanes.specs.Lanes.{pack, lane}
use Rattle.lanes.proofs.Laws.{lane_lt, lane_after, pack_same, pack_more, pack_last, pack_equal, pack_lanes, lane_pack}
use Rattle.polynomial.specs.Sums.{weight}
use Rattle.code.specs.Word.{Characters, power_sum, added}
use Rattle.code.specs.Inside.{PowerSums, Ends}
use Rattle.sums.specs.declared.Sums.{Sums}
use Rattle.sums.specs.Held.{eleven, lowered}
use Rattle.code.proofs.Words.{zero_get, listed_get, length_added, added_get}
use Rattle.code.proofs.Sums.{power_sum_lt}
use Rattle.code.proofs.Changes.{ends_none, ends_one, ends_added}
use Rattle.sums.proofs.Holding.{eleven_first, eleven_last, eleven_long, eleven_characters}
use Rattle.mender.specs.declared.Mended.{Mended}
use Rattle.mender.specs.declared.Single.{Single}
use Rattle.mender.specs.Mender.{Fits, Fitting, NoneFits, MendsTo, Mends, NoneNear, Nearest, HasSums}
use Rattle.mender.specs.Inside.{Nothing}
use Rattle.mender.specs.Found.{lone, Lone, ElementsTo, ZeroTo, SumsTo, Clear, Repaired, Repairs, Without, Corrects, sixth}
use Rattle.mender.proofs.OneError.{lone_long, lone_here, lone_other, lone_weight, weight_nothing, sums_nothing}
use Rattle.mender.proofs.rows.Loops.{pow_lane}
use Rattle.mender.proofs.rows.Weaving.{pack_none}
use Rattle.mender.proofs.Finding.{none_near, one_near, mended}

-- ---- sums that are no elements are those of no word

pub not_elements : (s : List ℕ) (c e : ℕ) (b : Bool) → Tells (ElementsTo s c) b → b ≡ false → NoneFits s c e
not_elements s c e b t q =
    record { none = λ w f. t.fails q (λ k l. subst (λ (v : ℕ). v < 64) (sym (f.sums k l)) (power_sum_lt (58 + k) w)) }

-- ---- sums that agree mend alike

fits_same : (s t : List ℕ) (c e : ℕ) (w : List ℕ) → ((k : ℕ) → k < c → get_or s k 0 ≡ get_or t k 0) → Fits t c e w → Fits s c e w
fits_same s t c e w h g = record { long = g.long; characters = g.characters; light = g.light; sums = λ k l. h k l ∙ g.sums k l }

pub mends_same : (s t : List ℕ) (c e : ℕ) (m : Option Mended) → ((k : ℕ) → k < c → get_or s k 0 ≡ get_or t k 0) → MendsTo t c e m → MendsTo s c e m
mends_same s t c e (Some m) h f = record { fits = fits_same s t c e m.word h f.fits; weighs = f.weighs; ends = f.ends }
mends_same s t c e None h f = record { none = λ w g. f.none w (fits_same t s c e w (λ k l. sym (h k l)) g) }

low_same : (c : ℕ) → c < 64 → c ≡ c % 64
low_same c h = omega arith

pub lowered_same : (s : List ℕ) (c k : ℕ) → c ≤ 11 → ElementsTo s c → k < c → get_or s k 0 ≡ get_or (lowered s) k 0
unfolding lowered
lowered_same s c k b t h = low_same (get_or s k 0) (t k h) ∙ sym (listed_get (λ k. get_or s k 0 % 64) 11 k (omega arith))

-- ---- no error

sums_zero : (h : Sums) → h.first % 1152921504606846976 ≡ 0 → h.last % 64 ≡ 0 → Clear (eleven h)
unfolding pack
sums_zero h f l =
    record {
      zero = λ k b.
          ⊎_elim (λ (g : 10 ≤ k). ap (λ (i : ℕ). get_or (eleven h) i 0) (ten k g b) ∙ eleven_last h ∙ l)
          (λ (g : k < 10). eleven_first h k g ∙ pack_equal 10 (lane h.first) (λ k. 0) (lane_lt h.first) (λ k. omega arith) (sym (pack_lanes 10 h.first) ∙ f) k g)
          (le_or_lt 10 k);
    }
  where
    ten : (k : ℕ) → 10 ≤ k → k < 11 → k ≡ 10
    ten k g b = omega arith

first_zero : (h : Sums) → Clear (eleven h) → h.first % 1152921504606846976 ≡ 0
unfolding pack
first_zero h z = pack_lanes 10 h.first ∙ pack_same 10 (lane h.first) (λ k. 0) (λ k b. sym (eleven_first h k b) ∙ z.zero k (omega arith))

pub zero_not : (h : Sums) → (h.first % 1152921504606846976 ≡ 0 → ⊥) → Tells (Clear (eleven h)) false
zero_not h d = tells_no (λ z. d (first_zero h z))

pub zero_told : (h : Sums) → h.first % 1152921504606846976 ≡ 0 → Tells (Clear (eleven h)) (eqb (h.last % 64) 0)
zero_told h f =
    record { holds = λ q. sums_zero h f (eqb-true (h.last % 64) 0 q); fails = λ q z. eqb-false (h.last % 64) 0 q (sym (eleven_last h) ∙ z.zero 10 (omega arith)) }

-- ---- whether the first c sums are 0

module _ (h : Sums) (c : ℕ) (few : c ≤ 11) where
  pub zero_past : (b : Bool) → 10 < c → Tells (Clear (eleven h)) b → Tells (ZeroTo (eleven h) c) b
  zero_past b l t =
      let e : c ≡ 11 = omega arith in
      record {
        holds = λ q k g. (t.holds q).zero k (omega arith);
        fails = λ q z. t.fails q (record { zero = λ k g. z k (omega arith) });
      }

  module _ (l : c ≤ 10) where
    lanes_low : h.first % 2 ^ (6 * c) ≡ pack c (lane h.first)
    lanes_low = ap (λ (m : ℕ). h.first % m) (pow_lane c) ∙ pack_lanes c h.first

    none-set : (k : ℕ) → k < c → lane h.first k ≡ get_or (eleven h) k 0
    none-set k g = sym (eleven_first h k (omega arith))

    low-zero : h.first % 2 ^ (6 * c) ≡ 0 → ZeroTo (eleven h) c
    low-zero z k g =
        sym (none-set k g)
        ∙ pack_equal c (lane h.first) (λ k. 0) (lane_lt h.first) (λ k. omega arith) (sym lanes_low ∙ z ∙ sym (pack_none c (λ k. 0) (λ k b. refl))) k g

    zero-low : ZeroTo (eleven h) c → h.first % 2 ^ (6 * c) ≡ 0
    zero-low z = lanes_low ∙ pack_none c (lane h.first) (λ k g. none-set k g ∙ z k g)

    width : (1 * 2 ^ (6 * c)) % 18446744073709551616 ≡ 2 ^ (6 * c)
    width = shl_exact {a = 1} 1 (6 * c) 64 (omega arith) (omega arith) ∙ one-mul (2 ^ (6 * c))

    pub width_pos : 0 < (1 * 2 ^ (6 * c)) % 18446744073709551616
    width_pos = subst (λ (n : ℕ). 0 < n) (sym width) (one-le-pow (6 * c) 2 (omega arith))

    pub zero_lanes : Tells (ZeroTo (eleven h) c) (eqb (h.first % ((1 * 2 ^ (6 * c)) % 18446744073709551616)) 0)
    zero_lanes =
        record {
          holds = λ q. low-zero (ap (λ (m : ℕ). h.first % m) (sym width) ∙ eqb-true (h.first % ((1 * 2 ^ (6 * c)) % 18446744073709551616)) 0 q);
          fails = λ q z. eqb-false (h.first % ((1 * 2 ^ (6 * c)) % 18446744073709551616)) 0 q (ap (λ (m : ℕ). h.first % m) width ∙ zero-low z);
        }

-- a word has sums where, its own added, they are 0
pub has_them : (s w t d : List ℕ) (c : ℕ) (b : Bool) → c ≤ 11 → length s ≡ 11 → PowerSums w t → d ≡ added s t → Tells (ZeroTo d c) b → Tells (SumsTo s w c) b
has_them s w t d c b few ls p ed z =
    record {
      holds = λ q k g. Laws.sum_eq (get_or s k 0) (power_sum (58 + k) w) (sym (both k g) ∙ z.holds q k g);
      fails = λ q h. z.fails q (λ k g. both k g ∙ ap (λ (v : ℕ). sum v (power_sum (58 + k) w)) (h k g) ∙ Laws.sum_self (power_sum (58 + k) w));
    }
  where
    both : (k : ℕ) → k < c → get_or d k 0 ≡ sum (get_or s k 0) (power_sum (58 + k) w)
    both k g =
        ap (λ (u : List ℕ). get_or u k 0) ed ∙ added_get s t (ls ∙ sym p.long) k ∙ ap (sum (get_or s k 0)) (p.sum_at k (omega arith))

nothing_fits : (s : List ℕ) (c e : ℕ) → ((k : ℕ) → k < c → get_or s k 0 ≡ 0) → Fits s c e (replicate 63 0)
nothing_fits s c e z =
    record {
      long = refl;
      characters = λ a. subst (λ (v : ℕ). v < 64) (sym (zero_get 63 a)) (omega arith);
      light = le_trans (le_of_eq (weight_nothing 63)) (omega arith);
      sums = λ k l. z k l ∙ sym (sums_nothing (58 + k));
    }

-- ---- the ways out of the repair

-- the word is repaired by any errors that fit, and is changed where they are
repairs_by : (s w r x : List ℕ) (e k i j : ℕ) → length w ≡ 63 → Fits s 11 e x → k ≡ weight x → r ≡ added w x → Ends (replicate 63 0) x i j
    → Repaired s w e (record { weight = k; first = i; last = j; word = r })
repairs_by s w r x e k i j long fits weighs g ends =
    record { errors = x; fits = fits; weighs = weighs; word = g; ends = ends_added w x r i j long fits.long g ends }

pub repairs_none : (s w r : List ℕ) (e : ℕ) (b : Bool) → length w ≡ 63 → Tells (Clear s) b → b ≡ true → r ≡ added w (replicate 63 0)
    → Repaired s w e (record { weight = 0; first = 63; last = 63; word = r })
repairs_none s w r e b long t q g = repairs_by s w r (replicate 63 0) e 0 63 63 long (nothing_fits s 11 e (t.holds q).zero) (sym (weight_nothing 63)) g ends_none

lighter : (s : List ℕ) (e : ℕ) (w : List ℕ) → 0 < e → Fits s 11 1 w → Fits s 11 e w
lighter s e w h f = record { long = f.long; characters = f.characters; light = (let l = f.light in omega arith); sums = f.sums }

-- one error is the first and the last
lone_ends : (a v : ℕ) → a < 63 → 0 < v → Ends (replicate 63 0) (lone a v) a a
unfolding lone
lone_ends a v h p = ends_one (replicate 63 0) a v 63 63 refl h (λ i _. zero_get 63 i) (λ z. omega arith) ends_none refl

pub repairs_one : (s w r : List ℕ) (e : ℕ) (o : Single) → length w ≡ 63 → 0 < e → Lone s o → r ≡ added w (lone o.address o.value)
    → Repaired s w e (record { weight = 1; first = o.address; last = o.address; word = r })
repairs_one s w r e o long h a g =
    let b : ℕ = o.address in
    let v : ℕ = o.value in
    repairs_by s w r (lone b v) e 1 b b long (lighter s e (lone b v) h a.fits) (sym (lone_weight b v a.inside a.some)) g
    (lone_ends b v a.inside a.some)

pub repairs_more : (s w r : List ℕ) (e : ℕ) (f : Mended) → length w ≡ 63 → Fitting s 11 e f → r ≡ added w f.word
    → Repaired s w e (record { weight = f.weight; first = f.first; last = f.last; word = r })
repairs_more s w r e f long a g = repairs_by s w r f.word e f.weight f.first f.last long a.fits a.weighs g a.ends

-- a word of another length is not repaired, and one of 63 characters within five errors
pub without_other : (s w : List ℕ) (e : ℕ) (m : Option Mended) → (length w ≡ 63 → ⊥) → Nothing m → Without s w e m
without_other s w e m d n = record { whole = λ l. absurd (d l); other = λ _. n }

pub without_whole : (s w : List ℕ) (e x : ℕ) (m : Option Mended) → length w ≡ 63 → x ≡ min e 5 → Repairs s w x m → Without s w e m
without_whole s w e x m l q r = record { whole = λ _. subst (λ (k : ℕ). Repairs s w k m) q r; other = λ d. absurd (d l) }

-- ---- one character changed

pub one_changed : (w r : List ℕ) (a v : ℕ) → length w ≡ 63 → a < 63 → r ≡ added w (replicate 63 0) → set r a (bit_xor (get_or r a 0) v) ≡ added w (lone a v)
unfolding sum
one_changed w r a v l h e =
    let lr : length r ≡ 63 = ap length e ∙ length_added w (replicate 63 0) l ∙ l in
    let ll : length w ≡ length (lone a v) = l ∙ sym (lone_long a v) in
    ext_get_or 0 (set r a (bit_xor (get_or r a 0) v)) (added w (lone a v)) (length-set r a (bit_xor (get_or r a 0) v) ∙ lr ∙ sym (length_added w (lone a v) ll ∙ l))
    (λ i b.
    ⊎_elim
    (λ (q : i ≡ a).
    subst (λ (j : ℕ). get_or (set r a (bit_xor (get_or r a 0) v)) j 0 ≡ get_or (added w (lone a v)) j 0) (sym q)
    (get_or-set_same r a (bit_xor (get_or r a 0) v) 0 (omega arith) ∙ ap₂ bit_xor (was a) (sym (lone_here a v h)) ∙ sym (added_get w (lone a v) ll a)))
    (λ (d : i ≡ a → ⊥).
    get_or-set_other r a i (bit_xor (get_or r a 0) v) 0 d ∙ was i ∙ sym (added_get w (lone a v) ll i ∙ ap (sum (get_or w i 0)) (lone_other a v i d) ∙ Laws.sum_zero (get_or w i 0)))
    (same_or_not i a))
  where
    was : (i : ℕ) → get_or r i 0 ≡ get_or w i 0
    was i = ap (λ (t : List ℕ). get_or t i 0) e ∙ added_get w (replicate 63 0) l i ∙ ap (sum (get_or w i 0)) (zero_get 63 i) ∙ Laws.sum_zero (get_or w i 0)

-- ---- the nearest word

pub near : (w u s d : List ℕ) (e : ℕ) (b : Bool) (m : Option Mended) → length w ≡ 63 → Tells (Characters w) b → b ≡ true → PowerSums w u → length s ≡ 11
    → d ≡ added u s → Repairs d w e m → Nearest (HasSums s) w e m
near w u s d e b (Some m) l t q us ls ed r = one_near w u s d e b l t q us ls ed m r
near w u s d e b None l t q us ls ed r = none_near w u s d e b l t q us ls ed r

pub not_wanted : (w s : List ℕ) (e : ℕ) (b : Bool) → Tells (ElementsTo s 11) b → b ≡ false → NoneNear (HasSums s) w e
not_wanted w s e b t q =
    record { none = λ y v p l. t.fails q (λ k h. subst (λ (x : ℕ). x < 64) (p.sums k h) (power_sum_lt (58 + k) v)) }

-- the sums wanted, packed, are those sums
pub packed_same : (s : List ℕ) (h : Sums) (b : Bool) → length s ≡ 11 → Tells (ElementsTo s 11) b → b ≡ true → eleven h ≡ lowered s → eleven h ≡ s
packed_same s h b l t q e =
    ext_get_or 0 (eleven h) s (eleven_long h ∙ sym l)
    (λ k i. ap (λ (u : List ℕ). get_or u k 0) e ∙ sym (lowered_same s 11 k (omega arith) (t.holds q) (omega (arith, eleven_long h))))

-- ---- the sixth window

window : (h : Sums) (k : ℕ) → ℕ
window h k = get_or (eleven h) (5 + k) 0

window_past : (h : Sums) (k : ℕ) → 6 ≤ k → window h k ≡ 0
unfolding window
window_past h k g = get_or-eq_default (eleven h) 0 (le_trans (le_of_eq (eleven_long h)) (omega arith))

window_is : (h : Sums) → h.first / 1073741824 % 1073741824 + h.last % 64 * 1073741824 ≡ pack 10 (window h)
unfolding window
window_is h =
    ap₂ (λ (a b : ℕ). a + b * 1073741824)
    (pack_lanes 5 (h.first / 1073741824)
    ∙ pack_same 5 (lane (h.first / 1073741824)) (λ k. get_or (eleven h) (5 + k) 0) (λ k l. lane_after h.first 5 k ∙ sym (eleven_first h (5 + k) (omega arith))))
    (sym (eleven_last h))
    ∙ sym (pack_last 5 (λ k. get_or (eleven h) (5 + k) 0))
    ∙ sym (pack_more 6 (window h) (window_past h 6 (omega arith))) ∙ sym (pack_more 7 (window h) (window_past h 7 (omega arith)))
    ∙ sym (pack_more 8 (window h) (window_past h 8 (omega arith))) ∙ sym (pack_more 9 (window h) (window_past h 9 (omega arith)))

total_six : (f : ℕ → ℕ) → ((k : ℕ) → 6 ≤ k → f k ≡ 0) → total 10 f ≡ total 6 f
unfolding total sum
total_six f z =
    let t : ℕ = sum (sum (sum (sum (sum (sum 0 (f 0)) (f 1)) (f 2)) (f 3)) (f 4)) (f 5) in
    ap₂ sum (ap₂ sum (ap₂ sum (ap (sum t) (z 6 (omega arith)) ∙ Laws.sum_zero t) (z 7 (omega arith)) ∙ Laws.sum_zero t) (z 8 (omega arith)) ∙ Laws.sum_zero t) (z 9 (omega arith)) ∙ Laws.sum_zero t

sixth_is : (x : ℕ) (h : Sums) (y p v : ℕ) → y ≡ h.first / 1073741824 % 1073741824 + h.last % 64 * 1073741824
    → p ≡ pack 10 (λ k. product (lane (x / 1073741824) k) (lane y k)) → v ≡ total 10 (lane p) → v ≡ sixth x (eleven h)
unfolding sixth window
sixth_is x h y p v ey ep ev =
    ev
    ∙ total_same 10 (lane p) (λ k. product (lane x (5 + k)) (window h k))
    (λ k l.
    ap (λ (q : ℕ). lane q k) ep ∙ lane_pack 10 (λ k. product (lane (x / 1073741824) k) (lane y k)) (λ k. Laws.product_lt (lane (x / 1073741824) k) (lane y k)) k l
    ∙ ap₂ product (lane_after x 5 k) (ap (λ (q : ℕ). lane q k) (ey ∙ window_is h) ∙ lane_pack 10 (window h) (λ k. eleven_characters h (5 + k)) k l))
    ∙ total_six (λ k. product (lane x (5 + k)) (window h k)) (λ k g. ap (product (lane x (5 + k))) (window_past h k g) ∙ Laws.product_zero (lane x (5 + k)))

pub sixth_told : (x : ℕ) (h : Sums) (t p v : ℕ) → t ≡ h.last % 64
    → p ≡ pack 10 (λ k. product (lane (x / 1073741824) k) (lane (h.first / 1073741824 % 1073741824 + t * 1073741824) k)) → v ≡ total 10 (lane p)
    → Tells (sixth x (eleven h) ≡ 0) (eqb v 0)
sixth_told x h t p v et ep ev =
    record { holds = λ q. sym same ∙ eqb-true v 0 q; fails = λ q z. eqb-false v 0 q (same ∙ z) }
  where
    same : v ≡ sixth x (eleven h)
    same =
        sixth_is x h (h.first / 1073741824 % 1073741824 + t * 1073741824) p v
        (ap (λ (n : ℕ). h.first / 1073741824 % 1073741824 + n * 1073741824) et) ep ev

-- ---- eleven sums, packed

pub mended_eleven : (s : List ℕ) (e x : ℕ) (m : Option Mended) → x ≡ min e 5 → MendsTo s 11 x m → Mends s 11 e m
mended_eleven s e x m q f = subst (λ (k : ℕ). MendsTo s 11 k m) q f

-- ---- the first c of them

pub first_none : (h : Sums) (c e x : ℕ) (b : Bool) → x ≡ min c 11 → Tells (ZeroTo (eleven h) x) b → b ≡ true
    → Fitting (eleven h) (min c 11) (min e (min c 11 / 2)) (record { weight = 0; first = 63; last = 63; word = replicate 63 0 })
first_none h c e x b ex t q =
    subst (λ (n : ℕ). Fitting (eleven h) n (min e (n / 2)) (record { weight = 0; first = 63; last = 63; word = replicate 63 0 })) ex
    (record {
      fits = nothing_fits (eleven h) x (min e (x / 2)) (t.holds q);
      weighs = sym (weight_nothing 63);
      ends = ends_none;
    })

-- ---- errors added

pub corrects_other : (w x : List ℕ) → (length w ≡ 63 → ⊥) → Corrects w x x
corrects_other w x d = record { whole = λ l. absurd (d l); other = λ _. refl }

pub corrects_whole : (w x r : List ℕ) → length w ≡ 63 → r ≡ added w x → Corrects w x r
corrects_whole w x r l e = record { whole = λ _. e; other = λ d. absurd (d l) }

-- ---- mend

module _ (s : List ℕ) (c e x y : ℕ) (b : Bool) (ex : x ≡ min c 11) (ey : y ≡ min e (x / 2)) (t : Tells (ElementsTo s x) b) where
  pub mend_refused : b ≡ false → Mends s c e None
  mend_refused q = mended s c e x y None ex ey (not_elements s x y b t q)

  pub mend_found : (m : Option Mended) → b ≡ true → (h : Sums) → eleven h ≡ lowered s → MendsTo (eleven h) x y m → Mends s c e m
  mend_found m q h eh f =
      mended s c e x y m ex ey
      (mends_same s (eleven h) x y m (λ k l. lowered_same s x k (omega arith) (t.holds q) l ∙ ap (λ (u : List ℕ). get_or u k 0) (sym eh)) f)

-- one error lies inside the word, and so its address is a byte
pub one_inside : (s : List ℕ) (o : Single) → Lone s o → o.address < 63
one_inside s o a = a.inside

pub address_fits : (s : List ℕ) (o : Single) → Lone s o → o.address < 256
address_fits s o a = let h = a.inside in omega arith

-- what the nearest word asks of its parts
pub wanted_near : (w u s d : List ℕ) (h : Sums) (e : ℕ) (b f : Bool) (m : Option Mended) → length w ≡ 63 → Tells (Characters w) b → b ≡ true → PowerSums w u → length s ≡ 11
    → Tells (ElementsTo s 11) f → f ≡ true → eleven h ≡ lowered s → d ≡ added u (eleven h) → Without d w e m → Nearest (HasSums s) w (min e 5) m
wanted_near w u s d h e b f m l t q us ls te tq eh ed y =
    near w u s d (min e 5) b m l t q us ls (ed ∙ ap (added u) (packed_same s h f ls te tq eh)) (y.whole l)

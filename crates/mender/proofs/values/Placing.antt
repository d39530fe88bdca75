-- The values at the roots alone: from one set bit of the roots to the next, every place between has no value.
use mathlib.Core.Path.{◌≡◌, refl, sym, ap, ap₂, ◌∙◌, subst}
use mathlib.Core.Bool.{Bool, cond}
use mathlib.Core.Logic.{⊎_elim}
use mathlib.Core.List.{List}
use Prim.Native.Nat.{ℕ, suc, min, ◌+◌, ◌-◌, ◌/◌, ◌%◌, ◌^◌, ◌<◌, ◌≤◌}
use native.Mathlib.Nat.{add-zero, div-eq_of_lt, le_of_eq, le_trans, lt_of_lt_of_le, mod-lt, pow-le-pow_right}
use native.Mathlib.Omega.{arith}
use lib.ListN.{length, get_or, replicate, set, length-set, get_or-eq_default}
use lib.Seq.{ext_get_or, get_or-set_same, get_or-set_other}
use borrow.Author.Tests.{eq-eqb, ne_eqb}
use Rattle.numbers.proofs.Cases.{le_or_lt, same_or_not, pos_of_not_zero}
use Rattle.field.specs.Field.{product, α, power}
use Rattle.numbers.proofs.Totals.{total_same}
use Rattle.lanes.specs.Lanes.{lane}
use Rattle.lanes.proofs.Laws.{lane_lt, lane_zero, lane_suc, lane_after, lane_pack, pack_lanes}
use Rattle.polynomial.specs.Sums.{weight, nonzero}
use Rattle.polynomial.specs.Polynomial.{poly_at}
use Rattle.planes.specs.Roots.{RootsOf, FirstFrom}
use Rattle.planes.proofs.Theorems.{set_root, clear_other}
use Rattle.code.specs.Inside.{Ends}
use Rattle.code.specs.Word.{listed}
use Rattle.code.proofs.Words.{zero_get, listed_get}
use Rattle.sums.specs.declared.Sums.{Sums}
use Rattle.sums.specs.Held.{eleven}
use Rattle.sums.proofs.Holding.{eleven_first}
use Rattle.code.proofs.Distances.{weight_le}
use Rattle.code.proofs.Changes.{ends_none, ends_one, ends_more}
use Rattle.mender.specs.declared.Mended.{Mended}
use Rattle.mender.specs.declared.values.Ahead.{Ahead}
use Rattle.mender.specs.Inside.{value_of}
use Rattle.mender.specs.Rows.{Coefficients}
use Rattle.mender.specs.Values.{Patterned, root_after, root_at, numerator_at, denominator_at, numerator_of, denominator_of, quotient_at, FractionIn, QuotientsAhead, QuotientNext, Placed, last_of, lanes_of, Kills, inverse_or_none}
use Rattle.mender.proofs.OneError.{weight_set, weight_nothing, nonzero_pos}
use Rattle.mender.proofs.values.Fractions.{window_is, slope_is, value_is_quotient}
use Rattle.mender.proofs.rows.Loops.{coefficients_small}
use Rattle.mender.proofs.values.Roots.{root_after_lem, root_next}

-- ---- placed: the roots below l have their values, and no other place has one

pub record PlacedTo (roots f n : ℕ) (w : List ℕ) (count first last values left l : ℕ) : Type 0 where
  pub few : n ≤ 5
  pub ahead : QuotientsAhead f n roots l (record { values = values; left = left })
  pub most : l ≤ 63
  pub here : l < 63 → roots / 2 ^ l % 2 ≡ 1
  pub long : length w ≡ 63
  pub done : (k : ℕ) → k < l → roots / 2 ^ k % 2 ≡ 1 → get_or w (62 - k) 0 ≡ quotient_at f n (power α k)
  pub clear : (k : ℕ) → k < 63 → roots / 2 ^ k % 2 ≡ 0 → get_or w (62 - k) 0 ≡ 0
  pub later : (k : ℕ) → l ≤ k → k < 63 → get_or w (62 - k) 0 ≡ 0
  pub weighs : count ≡ weight w
  pub ends : Ends (replicate 63 0) w first last

pub placed_none : (r f n l : ℕ) → n ≤ 5 → FirstFrom r 0 l → PlacedTo r f n (replicate 63 0) 0 63 63 0 0 l
placed_none r f n l h a =
    record {
      few = h;
      ahead = record { few = omega arith; at = λ j g. absurd (omega arith) };
      most = a.most;
      here = a.here;
      long = refl;
      done = λ k b o. absurd (let z : r / 2 ^ k % 2 ≡ 0 = a.none k (omega arith) b in omega arith);
      clear = λ k b z. zero_get 63 (62 - k);
      later = λ k b g. zero_get 63 (62 - k);
      weighs = sym (weight_nothing 63);
      ends = ends_none;
    }

nothing_counts : nonzero 0 ≡ 0
unfolding nonzero
nothing_counts = refl

-- the last of some addresses and one before them all

pub last_none : (last address : ℕ) → last ≡ 63 → address ≡ last_of last address
unfolding last_of
last_none last address e = sym (ap (λ (b : Bool). cond b address last) (eq-eqb last 63 e))

pub last_some : (last address : ℕ) → (last ≡ 63 → ⊥) → last ≡ last_of last address
unfolding last_of
last_some last address d = sym (ap (λ (b : Bool). cond b address last) (ne_eqb last 63 d))

module _ (r f n : ℕ) (w : List ℕ) (count first last values left l : ℕ) (y : Ahead) (l' : ℕ) (h : l < 63)
    (a : PlacedTo r f n w count first last values left l) (q : QuotientNext f n r l y) (given : FirstFrom r ((l + 1) % 64) l') where
  next : FirstFrom r (l + 1) l'
  next = root_next r l l' h given

  v : ℕ
  v = y.values % 64

  value-here : v ≡ quotient_at f n (power α l)
  unfolding v root_at
  value-here = sym (lane_zero y.values) ∙ q.ahead.at 0 q.some

  same : get_or (set w (62 - l) v) (62 - l) 0 ≡ v
  same = get_or-set_same w (62 - l) v 0 (omega (arith, a.long))

  other : (k : ℕ) → k < 63 → (k ≡ l → ⊥) → get_or (set w (62 - l) v) (62 - k) 0 ≡ get_or w (62 - k) 0
  other k b d = get_or-set_other w (62 - l) (62 - k) v 0 (λ e. d (omega arith))

  weight_is : weight (set w (62 - l) v) ≡ count + nonzero v
  weight_is = weight_set w (62 - l) v (omega (arith, a.long)) (a.later l (omega arith) h) ∙ ap (λ (m : ℕ). m + nonzero v) (sym a.weighs)

  -- the values after this one
  moved : QuotientsAhead f n r l' (record { values = y.values / 64; left = y.left - 1 })
  unfolding root_at
  moved =
      let m : l + 1 ≡ min (l + 1) 63 = omega arith in
      let e : l' ≡ root_after r l = root_after_lem r l l' (subst (λ (m : ℕ). FirstFrom r m l') m next) in
      record {
        few = (let g = q.ahead.few in omega arith);
        at = λ j b. sym (lane_suc y.values j) ∙ q.ahead.at (suc j) (omega arith) ∙ ap (λ (m : ℕ). quotient_at f n (power α (root_at r m j))) (sym e);
      }

  turned : (count' first' last' : ℕ) → count' ≡ weight (set w (62 - l) v) → Ends (replicate 63 0) (set w (62 - l) v) first' last'
      → PlacedTo r f n (set w (62 - l) v) count' first' last' (y.values / 64) (y.left - 1) l'
  turned count' first' last' e ends =
      let m : l' ≤ 63 = next.most in
      let g : l + 1 ≤ l' = next.least in
      record {
        few = a.few;
        ahead = moved;
        most = m;
        here = next.here;
        long = length-set w (62 - l) v ∙ a.long;
        done = λ k b o.
            ⊎_elim (λ (q : k ≡ l). subst (λ (i : ℕ). get_or (set w (62 - l) v) (62 - i) 0 ≡ quotient_at f n (power α i)) (sym q) (same ∙ value-here))
            (λ (d : k ≡ l → ⊥).
            other k (omega arith) d
            ∙ ⊎_elim (λ (c : l ≤ k). absurd (let z : r / 2 ^ k % 2 ≡ 0 = next.none k (omega arith) b in omega arith)) (λ (c : k < l). a.done k c o) (le_or_lt l k))
            (same_or_not k l);
        clear = λ k b z.
            other k b (λ q. let o : r / 2 ^ k % 2 ≡ 1 = subst (λ (i : ℕ). r / 2 ^ i % 2 ≡ 1) (sym q) (a.here h) in omega arith) ∙ a.clear k b z;
        later = λ k b c. other k c (λ q. omega arith) ∙ a.later k (omega arith) c;
        weighs = e;
        ends = ends;
      }

  -- nothing stands at the address of l, nor before it
  none_before : (i : ℕ) → i ≤ 62 - l → get_or w i 0 ≡ 0
  none_before i b = ap (λ (j : ℕ). get_or w j 0) (back i (omega arith)) ∙ a.later (62 - i) (omega arith) (omega arith)
    where
      back : (i : ℕ) → i ≤ 62 → i ≡ 62 - (62 - i)
      back i b = omega arith

  -- what is not 0 stands before all others
  some-ends : (last' : ℕ) → (v ≡ 0 → ⊥) → last' ≡ last_of last (62 - l) → Ends (replicate 63 0) (set w (62 - l) v) (62 - l) last'
  some-ends last' d e =
      ⊎_elim
      (λ (t : last ≡ 63).
      subst (Ends (replicate 63 0) (set w (62 - l) v) (62 - l)) (last_none last (62 - l) t ∙ sym e)
      (ends_one w (62 - l) v first last a.long (omega arith) none_before d a.ends t))
      (λ (t : last ≡ 63 → ⊥).
      subst (Ends (replicate 63 0) (set w (62 - l) v) (62 - l)) (last_some last (62 - l) t ∙ sym e)
      (ends_more w (62 - l) v first last a.long (omega arith) none_before d a.ends t))
      (same_or_not last 63)

  -- and 0 changes nothing
  zero_same : v ≡ 0 → w ≡ set w (62 - l) v
  zero_same z =
      ext_get_or 0 w (set w (62 - l) v) (sym (length-set w (62 - l) v))
      (λ i b.
      ⊎_elim
      (λ (q : i ≡ 62 - l).
      subst (λ (j : ℕ). get_or w j 0 ≡ get_or (set w (62 - l) v) j 0) (sym q) (none_before (62 - l) (omega arith) ∙ sym (same ∙ z)))
      (λ (d : i ≡ 62 - l → ⊥). sym (get_or-set_other w (62 - l) i v 0 d)) (same_or_not i (62 - l)))

  pub turn_some : (count' first' last' seen : ℕ) → (y.values % 64 ≡ 0 → ⊥) → seen ≡ last_of last (62 - l) → count' ≡ count + 1 → first' ≡ 62 - l → last' ≡ seen
      → PlacedTo r f n (set w (62 - l) (y.values % 64)) count' first' last' (y.values / 64) (y.left - 1) l'
  unfolding v
  turn_some count' first' last' seen d g e i j =
      turned count' first' last' (e ∙ sym (weight_is ∙ ap (λ (m : ℕ). count + m) (nonzero_pos v (pos_of_not_zero v d)))) (rw i (some-ends last' d (j ∙ g)))

  pub turn_none : (count' first' last' : ℕ) → y.values % 64 ≡ 0 → count' ≡ count → first' ≡ first → last' ≡ last
      → PlacedTo r f n (set w (62 - l) (y.values % 64)) count' first' last' (y.values / 64) (y.left - 1) l'
  unfolding v
  turn_none count' first' last' z e i j =
      turned count' first' last' (e ∙ sym (weight_is ∙ ap (λ (m : ℕ). count + nonzero m) z ∙ ap (λ (m : ℕ). count + m) nothing_counts ∙ add-zero count))
      (rw i (rw j (subst (λ (x : List ℕ). Ends (replicate 63 0) x first last) (zero_same z) a.ends)))

module _ (r f n : ℕ) (w : List ℕ) (count first last values left l : ℕ) (a : PlacedTo r f n w count first last values left l) where
  pub placed_room : count + 1 < 256
  placed_room =
      let h : count ≤ 63 = le_trans (le_of_eq a.weighs) (le_trans (weight_le w) (le_of_eq a.long)) in
      omega arith

  pub placed_long : length w ≡ 63
  placed_long = a.long

  pub placed_all : 63 ≤ l → Placed r f n (record { word = w; weight = count; first = first; last = last })
  placed_all h = record { long = a.long; set = λ k b o. a.done k (omega arith) o; clear = a.clear; weighs = a.weighs; ends = a.ends }

-- ---- values_at_roots

past_lane : (q k : ℕ) → q < 64 ^ k → lane q k ≡ 0
unfolding lane
past_lane q k h = ap (λ (n : ℕ). n % 64) (div-eq_of_lt h)

-- the locator in six lanes
held_lane : (row : ℕ) (p : List ℕ) (k : ℕ) → Coefficients row p → lane (row / 1073741824 % 68719476736) k ≡ get_or p k 0
held_lane row p k c =
    ⊎_elim
    (λ (h : 6 ≤ k).
    past_lane (row / 1073741824 % 68719476736) k (lt_of_lt_of_le (mod-lt (row / 1073741824) (omega arith)) (pow-le-pow_right {n = 64} (omega arith) {i = 6} {j = k} h))
    ∙ sym (get_or-eq_default p 0 (omega (arith, c.wide))))
    (λ (h : k < 6).
    ap (λ (q : ℕ). lane q k) (pack_lanes 6 (row / 1073741824)) ∙ lane_pack 6 (lane (row / 1073741824)) (lane_lt (row / 1073741824)) k h ∙ lane_after row 5 k
    ∙ sym (c.entry k h))
    (le_or_lt 6 k)

-- the sums that a fraction takes are those of eleven
fraction_eleven : (q n f : ℕ) (h : Sums) → n ≤ 5 → FractionIn q (lanes_of h.first) n f → FractionIn q (eleven h) n f
unfolding numerator_of lanes_of
fraction_eleven q n f h l b =
    record {
      above = λ m g.
          b.above m g
          ∙ total_same 5 (λ k. product (lane q (suc (m + k))) (get_or (listed (lane h.first) 0 10) (n + k) 0)) (λ k. product (lane q (suc (m + k))) (get_or (eleven h) (n + k) 0))
          (λ k i. ap (product (lane q (suc (m + k)))) (listed_get (lane h.first) 10 (n + k) (omega arith) ∙ sym (eleven_first h (n + k) (omega arith))));
      under = b.under;
    }

module _ (row : ℕ) (p : List ℕ) (h : Sums) (n f : ℕ) (c : Coefficients row p) (k : Kills p (eleven h) n) (given : FractionIn (row / 1073741824 % 68719476736) (lanes_of h.first) n f) where
  b : FractionIn (row / 1073741824 % 68719476736) (eleven h) n f
  b = fraction_eleven (row / 1073741824 % 68719476736) n f h k.few given

  -- at a root the quotient is the value
  root-value : (x : ℕ) → poly_at p x ≡ 0 → quotient_at f n x ≡ value_of p (eleven h) x
  unfolding quotient_at numerator_at denominator_at numerator_of denominator_of
  root-value x root =
      ap (product (power x (5 - n)))
      (ap₂ (λ (u v : ℕ). product u (inverse_or_none v))
      (window_is p (eleven h) x c.wide n (lane f)
      (λ m l.
      b.above m l
      ∙ total_same 5 (λ i. product (lane (row / 1073741824 % 68719476736) (suc (m + i))) (get_or (eleven h) (n + i) 0)) (λ i. product (get_or p (suc (m + i)) 0) (get_or (eleven h) (n + i) 0))
      (λ i g. ap (λ (t : ℕ). product t (get_or (eleven h) (n + i) 0)) (held_lane row p (suc (m + i)) c))))
      (slope_is p (eleven h) x c.wide (λ m. lane f (5 + m)) (b.under 0 (omega arith) ∙ held_lane row p 1 c) (b.under 1 (omega arith))
      (b.under 2 (omega arith) ∙ held_lane row p 3 c) (b.under 3 (omega arith)) (b.under 4 (omega arith) ∙ held_lane row p 5 c)))
      ∙ value_is_quotient p (eleven h) x n c.wide root k

  -- where there is no root there is no value
  no_value : (r l : ℕ) → RootsOf p r → l < 63 → r / 2 ^ l % 2 ≡ 0 → 0 ≡ value_of p (eleven h) (power α l)
  unfolding value_of
  no_value r l o h z = simp (ne_eqb (poly_at p (power α l)) 0 (clear_other p r (coefficients_small row p c) o l h z))

  pub values_placed : (r m : ℕ) (y : Mended) → RootsOf p r → m ≡ n → Placed r f m y → Patterned p (eleven h) y
  values_placed r m y o em b =
      let a : Placed r f n y = subst (λ (k : ℕ). Placed r f k y) em b in
      record {
        valued = record {
          long = a.long;
          entry = λ l h.
              ⊎_elim (λ (z : r / 2 ^ l % 2 ≡ 0). a.clear l h z ∙ no_value r l o h z)
              (λ (d : r / 2 ^ l % 2 ≡ 0 → ⊥).
              let i : r / 2 ^ l % 2 ≡ 1 = omega arith in
              a.set l h i ∙ root-value (power α l) (set_root p r (coefficients_small row p c) o l h i))
              (same_or_not (r / 2 ^ l % 2) 0);
        };
        weighs = a.weighs;
        ends = a.ends;
      }

-- From cleared errors back to the errors, an address at a time, and what the blot gets.
use mathlib.Core.Path.{◌≡◌, refl, sym, ap, ap₂, ◌∙◌, subst}
use mathlib.Core.Logic.{⊎_elim}
use mathlib.Core.List.{List}
use Prim.Native.Nat.{ℕ, zero, suc, ◌+◌, ◌-◌, ◌*◌, ◌/◌, ◌%◌, ◌^◌, ◌<◌, ◌≤◌}
use native.Mathlib.Nat.{add-zero, mod-eq_of_lt}
use native.Mathlib.Omega.{arith}
use borrow.Author.Count.{below_more}
use lib.ListN as ListN
use lib.ListN.{length, get_or, set, length-set}
use lib.Seq.{get_or-set_same, get_or-set_other}
use lib.Bits.{bit_xor, bit_or}
use Rattle.numbers.proofs.Cases.{same_or_not}
use Rattle.numbers.specs.Total.{total}
use Rattle.numbers.proofs.Totals.{total_same, total_lt}
use Rattle.field.specs.Field.{sum, product, α, power}
use Rattle.field.specs.Inside.{inverse}
use Rattle.field.proofs.Laws
use Rattle.lanes.specs.Lanes.{pack, lane}
use Rattle.lanes.proofs.Laws.{lane_pack, lane_xor, lane_zero}
use Rattle.places.specs.Logs.{LogOf}
use Rattle.code.specs.Word.{power_sum}
use Rattle.code.proofs.Words.{characters_below}
use Rattle.code.proofs.Sums.{power_sum_set}
use Rattle.sums.specs.declared.Sums.{Sums}
use Rattle.sums.specs.Held.{eleven}
use Rattle.sums.proofs.Holding.{eleven_first, eleven_characters}
use Rattle.mender.specs.Mender.{Word}
use Rattle.mender.proofs.OneError.{after_first}
use Rattle.planes.specs.Roots.{FirstFrom}
use Rattle.blots.specs.Inside.{Holds, place_of, share_of, value_of, Cleared, Restored}
use Rattle.blots.proofs.Factors.{factor_pos, factor_lt}
use Rattle.blots.proofs.Loops.{set_more, set_here}

-- ---- a place, what a character has of S_-5, and the character that has so much

pub place_is : (a r : ℕ) → a < 63 → r ≡ power α ((62 - a) % 64) → r ≡ place_of a
unfolding place_of
place_is a r h e = e ∙ ap (power α) (omega arith)

low_63 : (n : ℕ) → n % 63 % 64 ≡ n % 63
low_63 n = omega arith

pub power_none : (v l : ℕ) → v ≡ 0 → 0 ≡ product v (power α l)
power_none v l z = sym (ap (λ (c : ℕ). product c (power α l)) z ∙ Laws.zero_product (power α l))

pub log_fits : (v m l : ℕ) → LogOf v m → l < 63 → m + l < 256
log_fits v m l g h = let b = g.below in omega arith

pub power_some : (v l m r : ℕ) → v < 64 → (v ≡ 0 → ⊥) → LogOf v m → r ≡ power α ((m + l) % 63 % 64) → r ≡ product v (power α l)
power_some v l m r h d g e =
    let q : v % 64 ≡ v = mod-eq_of_lt h in
    e ∙ ap (power α) (low_63 (m + l)) ∙ Laws.power_mod (m + l) ∙ Laws.power_add α m l
    ∙ ap (λ (c : ℕ). product c (power α l)) (g.is (λ z. d (sym q ∙ z)) ∙ q)

pub share_is : (v a r : ℕ) → r ≡ product v (power α (58 * (62 - a) % 63)) → r ≡ share_of v a
unfolding share_of
share_is v a r e = e

pub value_is : (s a r : ℕ) → r ≡ product s (power α (5 * (62 - a) % 63)) → r ≡ value_of s a
unfolding value_of
value_is s a r e = e

-- the one undoes the other
pub share_value : (s a : ℕ) → s < 64 → share_of (value_of s a) a ≡ s
unfolding share_of value_of
share_value s a h =
    let l : ℕ = 62 - a in
    Laws.product_assoc s (power α (5 * l % 63)) (power α (58 * l % 63))
    ∙ ap (product s)
    (ap₂ product (Laws.power_mod (5 * l)) (Laws.power_mod (58 * l)) ∙ sym (Laws.power_add α (5 * l) (58 * l)) ∙ ap (power α) (whole l)
    ∙ Laws.power_mul α 63 l ∙ Laws.power_63 (power α l) (Laws.power_pos α l (omega arith) (omega arith)) (Laws.power_lt α l))
    ∙ Laws.product_one s h
  where
    whole : (l : ℕ) → 5 * l + 58 * l ≡ 63 * l
    whole l = omega arith

-- ---- the sums

pub cleared_is : (h r : Sums) (y p : ℕ) → p ≡ pack 10 (λ k. product (lane h.first k) y)
    → r.first ≡ bit_xor (h.first / 64 % 18014398509481984 + h.last % 64 * 18014398509481984) p → Cleared (eleven h) y (eleven r)
unfolding sum
cleared_is h r y p ep er =
    record {
      sum_at = λ k l.
          eleven_first r k l ∙ ap (λ (n : ℕ). lane n k) er ∙ lane_xor (h.first / 64 % 18014398509481984 + h.last % 64 * 18014398509481984) p k
          ∙ ap₂ sum
          (ap (λ (n : ℕ). lane n k) (after_first h) ∙ lane_pack 10 (λ k. get_or (eleven h) (suc k) 0) (λ k. eleven_characters h (suc k)) k l)
          (ap (λ (n : ℕ). lane n k) ep ∙ lane_pack 10 (λ k. product (lane h.first k) y) (λ k. Laws.product_lt (lane h.first k) y) k l
          ∙ ap (λ (v : ℕ). product v y) (sym (eleven_first h k l)));
    }

-- S_-5 as the code takes it
pub first_is : (h : Sums) → h.first % 64 ≡ get_or (eleven h) 0 0
first_is h = sym (eleven_first h 0 (omega arith) ∙ lane_zero h.first)

-- ---- a character divided

pub divided_is : (v a b x y i m r : ℕ) → v < 64 → (v ≡ 0 → ⊥) → x ≡ place_of a → y ≡ place_of b → i ≡ inverse (bit_xor x y) → LogOf v m → r ≡ product i (power α m)
    → r ≡ product v (inverse (sum (place_of a) (place_of b)))
unfolding sum
divided_is v a b x y i m r h d ex ey ei g er =
    let q : v % 64 ≡ v = mod-eq_of_lt h in
    er ∙ ap₂ product (ei ∙ ap₂ (λ (p q : ℕ). inverse (bit_xor p q)) ex ey) (g.is (λ z. d (sym q ∙ z)) ∙ q)
    ∙ Laws.product_comm (inverse (bit_xor (place_of a) (place_of b))) v

pub inverse_fits : (x i : ℕ) → i ≡ inverse x → i < 64
inverse_fits x i e = subst (λ (c : ℕ). c < 64) (sym e) (Laws.inverse_lt x)

pub divides : (a b x y : ℕ) → x ≡ place_of a → y ≡ place_of b → a < 63 → b < 63 → (a ≡ b → ⊥) → 0 < bit_xor x y % 64
unfolding sum
divides a b x y ex ey h l d =
    let e : bit_xor x y ≡ sum (place_of a) (place_of b) = ap₂ bit_xor ex ey in
    let p : 0 < sum (place_of a) (place_of b) = factor_pos a b h l d in
    let q : sum (place_of a) (place_of b) < 64 = factor_lt a b in
    subst (λ (n : ℕ). 0 < n % 64) (sym e) (subst (λ (n : ℕ). 0 < n) (sym (mod-eq_of_lt q)) p)

-- times the factor again
divided_back : (v a b : ℕ) → v < 64 → a < 63 → b < 63 → (a ≡ b → ⊥) → v ≡ product (product v (inverse (sum (place_of a) (place_of b)))) (sum (place_of a) (place_of b))
divided_back v a b h la lb d =
    let f : ℕ = sum (place_of a) (place_of b) in
    sym (Laws.product_assoc v (inverse f) f ∙ ap (product v) (Laws.product_comm (inverse f) f ∙ Laws.inverse_right f (factor_pos a b la lb d) (factor_lt a b)) ∙ Laws.product_one v h)

-- ---- an address at a time

-- the first a characters are divided, and what they have of S_-5 is taken from it
pub record RestoredTo (u : List ℕ) (blot first : ℕ) (w : List ℕ) (left a : ℕ) : Type 0 where
  pub long : length w ≡ 63
  pub most : a ≤ 63
  pub done : (k : ℕ) → k < a → get_or u k 0 ≡ product (get_or w k 0) (sum (place_of k) (place_of blot))
  pub small : (k : ℕ) → k < a → get_or w k 0 < 64
  pub rest : (k : ℕ) → a ≤ k → get_or w k 0 ≡ get_or u k 0
  pub blank : get_or w blot 0 ≡ 0
  pub taken : left ≡ sum first (total a (λ k. share_of (get_or w k 0) k))

pub restored_start : (u : List ℕ) (blot first : ℕ) → length u ≡ 63 → get_or u blot 0 ≡ 0 → RestoredTo u blot first u first 0
unfolding total
restored_start u blot first l z =
    record {
      long = l;
      most = omega arith;
      done = λ k h. absurd (omega arith);
      small = λ k h. absurd (omega arith);
      rest = λ k h. refl;
      blank = z;
      taken = sym (Laws.sum_zero first);
    }

module _ (u : List ℕ) (blot first : ℕ) (w : List ℕ) (left a : ℕ) (t : RestoredTo u blot first w left a) (more : a < 63) where
  pub restored_read : a < length w
  restored_read = omega (arith, t.long)

  pub restored_small : Word u → get_or w a 0 < 64
  restored_small word = subst (λ (c : ℕ). c < 64) (sym (t.rest a (omega arith))) (word.characters a)

  pub not_blot : (get_or w a 0 ≡ 0 → ⊥) → a ≡ blot → ⊥
  not_blot d e = d (ap (λ (k : ℕ). get_or w k 0) e ∙ t.blank)

  one_more : a + 1 ≡ suc a
  one_more = omega arith

  pub skipped : get_or w a 0 ≡ 0 → RestoredTo u blot first w left (a + 1)
  unfolding total share_of sum
  skipped z =
      let f : ℕ → ℕ = λ k. product (get_or w k 0) (power α (58 * (62 - k) % 63)) in
      record {
        long = t.long;
        most = omega arith;
        done =
            below_more (λ k. get_or u k 0 ≡ product (get_or w k 0) (sum (place_of k) (place_of blot))) a t.done
            (sym (t.rest a (omega arith)) ∙ z ∙ sym (ap (λ (v : ℕ). product v (sum (place_of a) (place_of blot))) z ∙ Laws.zero_product (sum (place_of a) (place_of blot))));
        small = below_more (λ k. get_or w k 0 < 64) a t.small (omega arith);
        rest = λ k h. t.rest k (omega arith);
        blank = t.blank;
        taken =
            t.taken
            ∙ ap (sum first)
            (sym (ap (sum (total a f)) (ap (λ (v : ℕ). product v (power α (58 * (62 - a) % 63))) z ∙ Laws.zero_product (power α (58 * (62 - a) % 63))) ∙ Laws.sum_zero (total a f)))
            ∙ ap (λ (n : ℕ). sum first (total n f)) (sym one_more);
      }

  module _ (inside : blot < 63) (word : Word u) (d : get_or w a 0 ≡ 0 → ⊥) (v s : ℕ)
      (ev : v ≡ product (get_or w a 0) (inverse (sum (place_of a) (place_of blot)))) (es : s ≡ share_of v a) where
    here : get_or (set w a v) a 0 ≡ v
    here = get_or-set_same w a v 0 (omega (arith, t.long))

    there : (k : ℕ) → (k ≡ a → ⊥) → get_or (set w a v) k 0 ≡ get_or w k 0
    there k = get_or-set_other w a k v 0

    pub divided : RestoredTo u blot first (set w a v) (bit_xor left s) (a + 1)
    unfolding total sum
    divided =
        record {
          long = length-set w a v ∙ t.long;
          most = omega arith;
          done =
              below_more (λ k. get_or u k 0 ≡ product (get_or (set w a v) k 0) (sum (place_of k) (place_of blot))) a
              (λ k l. t.done k l ∙ ap (λ (c : ℕ). product c (sum (place_of k) (place_of blot))) (sym (there k (λ e. omega arith))))
              (sym (t.rest a (omega arith))
              ∙ divided_back (get_or w a 0) a blot (subst (λ (c : ℕ). c < 64) (sym (t.rest a (omega arith))) (word.characters a)) more inside (not_blot d)
              ∙ ap (λ (c : ℕ). product c (sum (place_of a) (place_of blot))) (sym ev ∙ sym here));
          small =
              below_more (λ k. get_or (set w a v) k 0 < 64) a
              (λ k l. subst (λ (c : ℕ). c < 64) (sym (there k (λ e. omega arith))) (t.small k l))
              (subst (λ (c : ℕ). c < 64) (sym (here ∙ ev)) (Laws.product_lt (get_or w a 0) (inverse (sum (place_of a) (place_of blot)))));
          rest = λ k h. there k (λ e. omega arith) ∙ t.rest k (omega arith);
          blank = there blot (λ e. not_blot d (sym e)) ∙ t.blank;
          taken =
              ap₂ bit_xor t.taken es
              ∙ Laws.sum_assoc first (total a (λ k. share_of (get_or w k 0) k)) (share_of v a)
              ∙ ap (bit_xor first)
              (ap₂ bit_xor (total_same a (λ k. share_of (get_or w k 0) k) (λ k. share_of (get_or (set w a v) k 0) k) (λ k l. ap (λ (c : ℕ). share_of c k) (sym (there k (λ e. omega arith)))))
              (ap (λ (c : ℕ). share_of c a) (sym here)))
              ∙ ap (λ (n : ℕ). bit_xor first (total n (λ k. share_of (get_or (set w a v) k 0) k))) (sym one_more);
        }

-- ---- from one address of the set to the next

-- addresses that have 0 are passed over
module _ (u : List ℕ) (blot first : ℕ) (w : List ℕ) (left : ℕ) where
  over : (a n : ℕ) → a + n ≤ 63 → ((k : ℕ) → a ≤ k → k < a + n → get_or w k 0 ≡ 0) → RestoredTo u blot first w left a → RestoredTo u blot first w left (a + n)
  over a zero h z t = subst (RestoredTo u blot first w left) (sym (add-zero a)) t
  over a (suc n) h z t =
      let s : RestoredTo u blot first w left (a + n) = over a n (omega arith) (λ k l b. z k l (omega arith)) t in
      subst (RestoredTo u blot first w left) (one_further a n) (skipped u blot first w left (a + n) s (omega arith) (z (a + n) (omega arith) (omega arith)))
    where
      one_further : (a n : ℕ) → a + n + 1 ≡ a + suc n
      one_further a n = omega arith

  -- those before the next one of the set
  jumped : (set a b : ℕ) → Holds set u → FirstFrom set a b → RestoredTo u blot first w left a → RestoredTo u blot first w left b
  jumped set a b holds next t =
      let l = next.least in
      let m = next.most in
      subst (RestoredTo u blot first w left) (let e : a + (b - a) ≡ b = omega arith in e)
      (over a (b - a) (omega arith) (λ k g h. t.rest k g ∙ holds.clear k (omega arith) (next.none k g (omega arith))) t)

pub restored_none : (u : List ℕ) (blot first set b : ℕ) → Word u → get_or u blot 0 ≡ 0 → Holds set u → FirstFrom set 0 b → RestoredTo u blot first u first b
restored_none u blot first set b word z holds next = jumped u blot first u first set 0 b holds next (restored_start u blot first word.long z)

module _ (u : List ℕ) (blot first : ℕ) (w : List ℕ) (left a : ℕ) (t : RestoredTo u blot first w left a) (more : a < 63) (set b : ℕ) (holds : Holds set u)
    (given : FirstFrom set ((a + 1) % 64) b) where
  next : FirstFrom set (a + 1) b
  next = subst (λ (i : ℕ). FirstFrom set i b) (let e : (a + 1) % 64 ≡ a + 1 = omega arith in e) given

  pub restored_skip : (w' : List ℕ) (left' : ℕ) → get_or w a 0 ≡ 0 → w' ≡ w → left' ≡ left → RestoredTo u blot first w' left' b
  restored_skip w' left' z ew el = rw ew (rw el (jumped u blot first w left set (a + 1) b holds next (skipped u blot first w left a t more z)))

  pub restored_more : (w' : List ℕ) (left' v s : ℕ) → blot < 63 → Word u → (get_or w a 0 ≡ 0 → ⊥) → v ≡ product (get_or w a 0) (inverse (sum (place_of a) (place_of blot))) → s ≡ share_of v a
      → w' ≡ ListN.set w a v → left' ≡ bit_xor left s → RestoredTo u blot first w' left' b
  restored_more w' left' v s inside word d ev es ew el =
      rw ew (rw el (jumped u blot first (ListN.set w a v) (bit_xor left s) set (a + 1) b holds next (divided u blot first w left a t more inside word d v s ev es)))

-- what is divided is a character
pub divided_small : (v c i : ℕ) → v ≡ product c i → v < 64
divided_small v c i e = subst (λ (n : ℕ). n < 64) (sym e) (Laws.product_lt c i)

-- the next one is nearer to the end
pub restored_next : (set a b : ℕ) → a < 63 → FirstFrom set ((a + 1) % 64) b → 63 - b < 63 - a
restored_next set a b h next = let l = next.least in let m = next.most in omega arith

-- ---- and the blot

-- what is left of S_-5 is an element
pub left_small : (u : List ℕ) (blot first : ℕ) (w : List ℕ) (left a : ℕ) → first < 64 → RestoredTo u blot first w left a → left < 64
unfolding share_of
left_small u blot first w left a h t =
    subst (λ (n : ℕ). n < 64) (sym t.taken)
    (Laws.sum_lt first (total a (λ k. product (get_or w k 0) (power α (58 * (62 - k) % 63)))) h
    (total_lt a (λ k. product (get_or w k 0) (power α (58 * (62 - k) % 63))) (λ k. Laws.product_lt (get_or w k 0) (power α (58 * (62 - k) % 63)))))

module _ (u : List ℕ) (blot first : ℕ) (w : List ℕ) (left a v : ℕ) (inside : blot < 63) (element : first < 64) (nothing : get_or u blot 0 ≡ 0)
    (t : RestoredTo u blot first w left a) (all : 63 ≤ a) (ev : v ≡ value_of left blot) where
  sum-here : left ≡ sum first (power_sum 58 w)
  unfolding power_sum share_of
  sum-here = t.taken ∙ ap (λ (n : ℕ). sum first (total n (λ k. product (get_or w k 0) (power α (58 * (62 - k) % 63))))) (let m = t.most in omega arith)

  left_lt : left < 64
  left_lt = left_small u blot first w left a element t

  at-blot : get_or (set w blot v) blot 0 ≡ v
  at-blot = get_or-set_same w blot v 0 (omega (arith, t.long))

  elsewhere : (k : ℕ) → (k ≡ blot → ⊥) → get_or (set w blot v) k 0 ≡ get_or w k 0
  elsewhere k = get_or-set_other w blot k v 0

  v-lt : v < 64
  unfolding value_of
  v-lt = subst (λ (c : ℕ). c < 64) (sym ev) (Laws.product_lt left (power α (5 * (62 - blot) % 63)))

  pub restored_all : Restored u blot first (set w blot v)
  unfolding share_of
  restored_all =
      record {
        long = length-set w blot v ∙ t.long;
        characters =
            characters_below (set w blot v) 63 (omega (arith, length-set w blot v, t.long))
            (λ k h.
            ⊎_elim (λ (e : k ≡ blot). subst (λ (c : ℕ). c < 64) (sym (ap (λ (i : ℕ). get_or (set w blot v) i 0) e ∙ at-blot)) v-lt)
            (λ (d : k ≡ blot → ⊥). subst (λ (c : ℕ). c < 64) (sym (elsewhere k d)) (t.small k (omega arith))) (same_or_not k blot));
        times = λ k h.
            ⊎_elim
            (λ (e : k ≡ blot).
            ap (λ (i : ℕ). get_or u i 0) e ∙ nothing
            ∙ sym (ap (λ (i : ℕ). product (get_or (set w blot v) k 0) (sum (place_of i) (place_of blot))) e
            ∙ ap (product (get_or (set w blot v) k 0)) (Laws.sum_self (place_of blot)) ∙ Laws.product_zero (get_or (set w blot v) k 0)))
            (λ (d : k ≡ blot → ⊥). t.done k (omega arith) ∙ ap (λ (c : ℕ). product c (sum (place_of k) (place_of blot))) (sym (elsewhere k d)))
            (same_or_not k blot);
        first_sum =
            power_sum_set 58 w blot v inside (omega (arith, t.long))
            ∙ ap (λ (c : ℕ). sum (power_sum 58 w) (product c (power α (58 * (62 - blot) % 63)))) (ap (λ (c : ℕ). sum c v) t.blank ∙ Laws.zero_sum v ∙ ev)
            ∙ ap (sum (power_sum 58 w)) (share_value left blot left_lt ∙ sum-here ∙ Laws.sum_comm first (power_sum 58 w))
            ∙ Laws.sum_undo (power_sum 58 w) first;
      }

-- what is restored has its addresses in the set and at the blot
pub holds_restored : (u : List ℕ) (blot first : ℕ) (x : List ℕ) (set : ℕ) → blot < 63 → Holds set u → Restored u blot first x → Holds (bit_or set (2 ^ blot)) x
holds_restored u blot first x set inside holds back =
    record {
      clear = λ k h z.
          Laws.product_cancel (get_or x k 0) (sum (place_of k) (place_of blot)) (back.characters k) (factor_pos k blot h inside (set_here set blot k z)) (factor_lt k blot)
          (sym (back.times k h) ∙ holds.clear k h (set_more set blot k z));
    }

-- What the loops of the sums do, a turn and a way out at a time, over plain variables.
use mathlib.Core.Path.{◌≡◌, refl, sym, ap, ap₂, ◌∙◌, subst}
use mathlib.Core.Logic.{⊎_elim}
use mathlib.Core.List.{List, ◌++◌}
use Prim.Native.Nat.{min, ℕ, zero, suc, ◌+◌, ◌-◌, ◌*◌, ◌/◌, ◌%◌, ◌^◌, ◌<◌, ◌≤◌}
use native.Mathlib.Nat.{add-zero, add-suc, suc-add, zero-add, pow-suc, le_trans, le_of_eq}
use native.Mathlib.Omega.{arith}
use borrow.Author.Count.{below_none, below_more}
use lib.ListN.{length, get_or, set, take, drop, replicate, length-set, length-append, get_or-append, get_or-eq_default}
use lib.Seq.{get_or-set_same, get_or-set_other}
use Rattle.std.proofs.lemmas.List.{length-take-le, length-drop, get_or-take, get_or-drop, get_or-append_right, get_or-replicate}
use Rattle.numbers.proofs.Cases.{le_or_lt, same_or_not}
use Rattle.lanes.specs.Lanes.{pack, lane}
use Rattle.lanes.proofs.Laws.{lane_zero, lane_suc, pack_same, pack_lt, lane_pack}
use Rattle.code.specs.Word.{power_sum}
use Rattle.code.specs.Inside.{PowerSums}
use Rattle.code.proofs.Words.{listed_long, listed_get}
use Rattle.code.proofs.Sums.{power_sum_lt}
use Rattle.sums.specs.declared.Sums.{Sums}
use Rattle.sums.specs.declared.PackedSums.{PackedSums}
use Rattle.sums.specs.Held.{eleven, lowered}
use Rattle.sums.specs.Packed.{Packed, Filled}
use Rattle.sums.proofs.Holding.{eleven_is}

-- ---- a word filled up to 63 characters

-- what is copied, and the zeros after it
pub filled_copied : (w v z : List ℕ) (n : ℕ) → n ≡ min (length w) 63 → v ≡ take n w → z ≡ replicate 63 0 → Filled w (v ++ drop n z)
filled_copied w v z n m e f =
    rw (e, f)
    record {
      long =
          length-append (take n w) (drop n (replicate 63 0)) ∙ ap₂ (λ (a b : ℕ). a + b) copied (length-drop n (replicate 63 0)) ∙ (omega arith);
      same = λ a h.
          ⊎_elim (λ (g : n ≤ a). past a h g)
          (λ (g : a < n).
          get_or-append (take n w) (drop n (replicate 63 0)) 0 a (omega (arith, copied)) ∙ get_or-take n w a 0 g)
          (le_or_lt n a);
    }
  where
    copied : length (take n w) ≡ n
    copied = length-take-le n w (omega arith)

    past : (a : ℕ) → a < 63 → n ≤ a → get_or (take n w ++ drop n (replicate 63 0)) a 0 ≡ get_or w a 0
    past a h g =
        get_or-append_right (take n w) (drop n (replicate 63 0)) n a 0 copied g
        ∙ get_or-drop n (replicate 63 0) (a - n) 0
        ∙ get_or-replicate 63 (n + (a - n)) 0 0 (omega arith)
        ∙ sym (get_or-eq_default w 0 (omega arith))

-- ---- the sums put in their places

-- k lanes are in their places, with S_0 in its own, and p holds those after them
pub record PlacedTo (w sums : List ℕ) (p k : ℕ) : Type 0 where
  pub most : k ≤ 10
  pub long : length sums ≡ 11
  pub after : (j : ℕ) → k + j < 10 → lane p j ≡ power_sum (58 + (k + j) + (k + j) / 5) w
  pub middle : get_or sums 5 0 ≡ power_sum 63 w
  pub passed : (m : ℕ) → m < k → get_or sums (m + m / 5) 0 ≡ power_sum (58 + m + m / 5) w

pub placed_none : (w sums : List ℕ) (r : PackedSums) → length sums ≡ 11 → Packed w r → PlacedTo w (set sums 5 r.middle) r.outer 0
placed_none w sums r h p =
    record {
      most = omega arith;
      long = length-set sums 5 r.middle ∙ h;
      after = λ j b.
          ap (λ (n : ℕ). lane n j) p.outer
          ∙ lane_pack 10 (λ k. power_sum (58 + k + k / 5) w) (λ k. power_sum_lt (58 + k + k / 5) w) j (omega arith)
          ∙ ap (λ (k : ℕ). power_sum (58 + k + k / 5) w) (sym (zero-add j));
      middle = get_or-set_same sums 5 r.middle 0 (omega arith) ∙ p.middle;
      passed = below_none (λ m. get_or (set sums 5 r.middle) (m + m / 5) 0 ≡ power_sum (58 + m + m / 5) w);
    }

pub placed_again : (w sums : List ℕ) (p k : ℕ) → PlacedTo w sums p k → k < 10 → PlacedTo w (set sums (k + k / 5) (p % 64)) (p / 64) (k + 1)
placed_again w sums p k u h =
    let v : ℕ = p % 64 in
    let a : ℕ = k + k / 5 in
    record {
      most = omega arith;
      long = length-set sums a v ∙ u.long;
      after = λ j b. sym (lane_suc p j) ∙ u.after (suc j) (omega arith) ∙ ap (λ (n : ℕ). power_sum (58 + n + n / 5) w) (shift k j);
      middle = get_or-set_other sums a 5 v 0 (λ q. omega arith) ∙ u.middle;
      passed = below_more (λ m. get_or (set sums a v) (m + m / 5) 0 ≡ power_sum (58 + m + m / 5) w) k
          (λ m b. get_or-set_other sums a (m + m / 5) v 0 (λ q. omega arith) ∙ u.passed m b)
          (get_or-set_same sums a v 0 (let l = u.long in omega arith) ∙ sym (lane_zero p) ∙ u.after 0 (omega arith)
          ∙ ap (λ (n : ℕ). power_sum (58 + n + n / 5) w) (add-zero k));
    }
  where
    shift : (k j : ℕ) → k + suc j ≡ k + 1 + j
    shift k j = omega arith

pub placed_all : (w sums : List ℕ) (p k : ℕ) → PlacedTo w sums p k → 10 ≤ k → PowerSums w sums
placed_all w sums p k u h =
    record {
      long = u.long;
      sum_at = λ j l.
          ⊎_elim
          (λ (e : j ≡ 5). rw e u.middle)
          (λ (d : j ≡ 5 → ⊥).
          ⊎_elim
          (λ (b : j ≤ 5). lane-at j j (omega arith) (omega arith))
          (λ (b : 5 < j). lane-at j (j - 1) (omega arith) (omega arith))
          (le_or_lt j 5))
          (same_or_not j 5);
    }
  where
    lane-at : (j m : ℕ) → m < k → m + m / 5 ≡ j → get_or sums j 0 ≡ power_sum (58 + j) w
    lane-at j m b e =
        let f : 58 + m + m / 5 ≡ 58 + j = omega arith in
        ap (λ (n : ℕ). get_or sums n 0) (sym e) ∙ u.passed m b ∙ ap (λ (n : ℕ). power_sum n w) f

-- ---- packed from an array: those from k on are there

pub record PackedFrom (s : List ℕ) (p k : ℕ) : Type 0 where
  pub most : k ≤ 10
  pub is : p ≡ pack (10 - k) (λ i. get_or s (k + i) 0 % 64)

low : (s : List ℕ) (k i : ℕ) → get_or s (k + i) 0 % 64 < 64
low s k i = omega arith

pub packed_none : (s : List ℕ) → PackedFrom s 0 10
unfolding pack
packed_none s = record { most = omega arith; is = refl }

more_lanes : (n d : ℕ) → 64 ^ n ≤ 64 ^ (d + n)
more_lanes n zero = le_of_eq (ap (λ (m : ℕ). 64 ^ m) (sym (zero-add n)))
more_lanes n (suc d) =
    let e : 64 ^ (suc d + n) ≡ 64 ^ (d + n) * 64 = ap (λ (m : ℕ). 64 ^ m) (suc-add d n) ∙ pow-suc 64 (d + n) in
    let h : 64 ^ n ≤ 64 ^ (d + n) = more_lanes n d in
    omega arith

-- the next fits beside them
pub packed_room : (s : List ℕ) (p k : ℕ) → 0 < k → PackedFrom s p k → p < 18014398509481984
packed_room s p k l r =
    let n : ℕ = 10 - k in
    let d : ℕ = 9 - n in
    let e : d + n ≡ 9 = (let m : k ≤ 10 = r.most in omega arith) in
    let b : 64 ^ n ≤ 18014398509481984 = le_trans (more_lanes n d) (le_of_eq (ap (λ (m : ℕ). 64 ^ m) e)) in
    let q : pack n (λ i. get_or s (k + i) 0 % 64) < 64 ^ n = pack_lt n (λ i. get_or s (k + i) 0 % 64) (low s k) in
    let z : p ≡ pack n (λ i. get_or s (k + i) 0 % 64) = r.is in
    omega arith

pub packed_fits : (s : List ℕ) (p k : ℕ) → 0 < k → PackedFrom s p k → p * 64 < 18446744073709551616
packed_fits s p k l r = let h : p < 18014398509481984 = packed_room s p k l r in omega arith

pub packed_adds : (s : List ℕ) (p k c : ℕ) → 0 < k → PackedFrom s p k → p * 64 + c % 64 < 18446744073709551616
packed_adds s p k c l r = let h : p < 18014398509481984 = packed_room s p k l r in omega arith

pub packed_again : (s : List ℕ) (p k : ℕ) → 0 < k → PackedFrom s p k → PackedFrom s (p * 64 + get_or s (k - 1) 0 % 64) (k - 1)
unfolding pack
packed_again s p zero l r = absurd (omega arith)
packed_again s p (suc k) l r =
    subst (λ (n : ℕ). PackedFrom s (p * 64 + get_or s n 0 % 64) n) (one k)
    record {
      most = (let m : suc k ≤ 10 = r.most in omega arith);
      is =
          ap₂ (λ (a b : ℕ). a * 64 + get_or s b 0 % 64)
          (r.is ∙ pack_same (10 - suc k) (λ i. get_or s (suc k + i) 0 % 64) (λ i. get_or s (k + suc i) 0 % 64) (λ i b. ap (λ (n : ℕ). get_or s n 0 % 64) (suc-add k i ∙ sym (add-suc k i))))
          (sym (add-zero k))
          ∙ sym (ap (λ (n : ℕ). pack n (λ i. get_or s (k + i) 0 % 64)) (down k r.most));
    }
  where
    one : (k : ℕ) → k ≡ suc k - 1
    one k = omega arith

    down : (k : ℕ) → suc k ≤ 10 → 10 - k ≡ suc (10 - suc k)
    down k h = omega arith

pub packed_all : (s : List ℕ) (p k : ℕ) → k ≤ 0 → PackedFrom s p k → eleven (record { first = p; last = get_or s 10 0 % 64 }) ≡ lowered s
unfolding lowered
packed_all s p k l r =
    let z : k ≡ 0 = omega arith in
    let e : p ≡ pack 10 (λ i. get_or s i 0 % 64) =
    r.is ∙ ap (λ (n : ℕ). pack (10 - n) (λ i. get_or s (n + i) 0 % 64)) z ∙ pack_same 10 (λ i. get_or s (0 + i) 0 % 64) (λ i. get_or s i 0 % 64) (λ i b. ap (λ (n : ℕ). get_or s n 0 % 64) (zero-add i))
    in
    eleven_is (record { first = p; last = get_or s 10 0 % 64 }) (lowered s) (listed_long (λ k. get_or s k 0 % 64) 0 11)
    (λ i b. ap (λ (n : ℕ). lane n i) e ∙ lane_pack 10 (λ i. get_or s i 0 % 64) (λ i. omega arith) i b ∙ sym (listed_get (λ k. get_or s k 0 % 64) 11 i (omega arith)))
    (low_twice (get_or s 10 0) ∙ sym (listed_get (λ k. get_or s k 0 % 64) 11 10 (omega arith)))
  where
    low_twice : (c : ℕ) → c % 64 % 64 ≡ c % 64
    low_twice c = omega arith

-- ---- unpacked: k of them are there, and p holds those after

pub record UnpackedTo (h : Sums) (s : List ℕ) (p k : ℕ) : Type 0 where
  pub most : k ≤ 10
  pub long : length s ≡ 11
  pub after : (i : ℕ) → lane p i ≡ lane h.first (k + i)
  pub passed : (i : ℕ) → i < k → get_or s i 0 ≡ lane h.first i

pub unpacked_none : (h : Sums) (s : List ℕ) → length s ≡ 11 → UnpackedTo h s h.first 0
unpacked_none h s l =
    record { most = omega arith; long = l; after = λ i. ap (lane h.first) (sym (zero-add i)); passed = below_none (λ i. get_or s i 0 ≡ lane h.first i) }

pub unpacked_again : (h : Sums) (s : List ℕ) (p k : ℕ) → k < 10 → UnpackedTo h s p k → UnpackedTo h (set s k (p % 64)) (p / 64) (k + 1)
unpacked_again h s p k l u =
    record {
      most = omega arith;
      long = length-set s k (p % 64) ∙ u.long;
      after = λ i. sym (lane_suc p i) ∙ u.after (suc i) ∙ ap (lane h.first) (omega arith);
      passed =
          below_more (λ i. get_or (set s k (p % 64)) i 0 ≡ lane h.first i) k
          (λ i b. get_or-set_other s k i (p % 64) 0 (λ e. omega arith) ∙ u.passed i b)
          (get_or-set_same s k (p % 64) 0 (omega (arith, u.long)) ∙ sym (lane_zero p) ∙ u.after 0 ∙ ap (lane h.first) (add-zero k));
    }

pub unpacked_all : (h : Sums) (s : List ℕ) (p k : ℕ) → 10 ≤ k → UnpackedTo h s p k → set s 10 (h.last % 64) ≡ eleven h
unpacked_all h s p k l u =
    sym (eleven_is h (set s 10 (h.last % 64)) (length-set s 10 (h.last % 64) ∙ u.long)
    (λ i b. sym (get_or-set_other s 10 i (h.last % 64) 0 (λ e. omega arith) ∙ u.passed i (omega arith)))
    (sym (get_or-set_same s 10 (h.last % 64) 0 (omega (arith, u.long)))))

pub unpacked_long : (h : Sums) (s : List ℕ) (p k : ℕ) → UnpackedTo h s p k → length s ≡ 11
unpacked_long h s p k u = u.long

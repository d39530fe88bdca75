-- What the code of lanes does, a turn of each loop at a time, over plain variables.
use mathlib.Core.Path.{◌≡◌, refl, sym, ap, ap₂, ◌∙◌, subst}
use Prim.Native.Nat.{ℕ, suc, ◌+◌, ◌-◌, ◌*◌, ◌/◌, ◌%◌, ◌^◌, ◌<◌, ◌≤◌}
use native.Mathlib.Nat.{mul_comm, mul-div_cancel, zero-mul, one-mul, mod-eq_of_lt, zero-lt-suc, add-zero}
use native.Mathlib.Omega.{arith}
use lib.Bits.{bit_xor, bit_and, and_mask, and_high, and_comm, and_le_r, and_zero_l}
use Rattle.numbers.proofs.Cases.{bit_cases}
use Rattle.numbers.proofs.Xor.{xor_assoc}
use Rattle.numbers.specs.Total.{total}
use Rattle.numbers.proofs.Totals.{total_same, total_append, total_xor}
use Rattle.field.specs.Field.{sum, times_x, shifted, product}
use Rattle.field.proofs.Laws
use Rattle.lanes.specs.Lanes.{pack, lane}
use Rattle.lanes.proofs.Laws.{lane_lt, lane_zero, lane_after, lane_xor, pack_same, pack_lt, low_pack, lane_pack, pack_lanes, xor_pack, and_lanes, times_pack}

-- ---- masks

mask : (c : ℕ) → c < 64 → (p m : ℕ) → m ≡ pack 10 (λ k. c) → bit_and p m ≡ pack 10 (λ k. bit_and (lane p k) c)
mask c h p m e = ap (bit_and p) e ∙ and_lanes 10 p (λ k. c) (λ k. h)

-- ---- x times each lane

pub low_fits : (p : ℕ) → bit_and p 567310581631940575 * 2 < 18446744073709551616
low_fits p = omega (arith, and_le_r p 567310581631940575)

pub high_fits : (p : ℕ) → bit_and p 585610922974906400 / 32 * 3 < 18446744073709551616
high_fits p = omega (arith, and_le_r p 585610922974906400)

low_doubled : (p : ℕ) → bit_and p 567310581631940575 * 2 ≡ pack 10 (λ k. lane p k % 32 * 2)
unfolding pack
low_doubled p =
    ap (λ (n : ℕ). n * 2) (mask 31 (omega arith) p 567310581631940575 refl)
    ∙ times_pack 10 2 (λ k. bit_and (lane p k) 31)
    ∙ pack_same 10 (λ k. bit_and (lane p k) 31 * 2) (λ k. lane p k % 32 * 2) (λ k l. ap (λ (n : ℕ). n * 2) (and_mask (lane p k) 5))

high_trebled : (p : ℕ) → bit_and p 585610922974906400 / 32 * 3 ≡ pack 10 (λ k. lane p k / 32 % 2 * 3)
unfolding pack
high_trebled p =
    ap (λ (n : ℕ). n / 32 * 3)
    (mask 32 (omega arith) p 585610922974906400 refl
    ∙ pack_same 10 (λ k. bit_and (lane p k) 32) (λ k. lane p k / 32 % 2 * 32) (λ k l. and_high (lane p k) 1 5)
    ∙ sym (times_pack 10 32 (λ k. lane p k / 32 % 2)))
    ∙ ap (λ (n : ℕ). n * 3) (mul-div_cancel (pack 10 (λ k. lane p k / 32 % 2)) (zero-lt-suc 31))
    ∙ times_pack 10 3 (λ k. lane p k / 32 % 2)

pub doubled_lanes : (p : ℕ) → bit_xor (bit_and p 567310581631940575 * 2) (bit_and p 585610922974906400 / 32 * 3) ≡ pack 10 (λ k. times_x (lane p k))
unfolding times_x
doubled_lanes p =
    ap₂ bit_xor (low_doubled p) (high_trebled p)
    ∙ xor_pack 10 (λ k. lane p k % 32 * 2) (λ k. lane p k / 32 % 2 * 3) (λ k. omega arith) (λ k. omega arith)

-- ---- shift and add on all lanes

-- i of the six bits of each B k are added: what is left of them makes each lane of s the product
pub record LanesTo (p : ℕ) (B : ℕ → ℕ) (C : ℕ → ℕ) (a s i : ℕ) : Type 0 where
  pub most : i ≤ 6
  pub A : ℕ → ℕ
  pub S : ℕ → ℕ
  pub a_small : (k : ℕ) → A k < 64
  pub s_small : (k : ℕ) → S k < 64
  pub a_is : a ≡ pack 10 A
  pub s_is : s ≡ pack 10 S
  pub rest : (k : ℕ) → sum (S k) (shifted (6 - i) (A k) (B k)) ≡ product (lane p k) (C k)

ten : 64 ^ 10 ≡ 1152921504606846976
ten = refl

pub lanes_none : (p : ℕ) (C : ℕ → ℕ) → LanesTo p C C (p % 1152921504606846976) 0 0
unfolding product pack
lanes_none p C =
    record {
      most = omega arith;
      A = lane p;
      S = λ k. 0;
      a_small = lane_lt p;
      s_small = λ k. omega arith;
      a_is = pack_lanes 10 p;
      s_is = refl;
      rest = λ k. Laws.zero_sum (shifted 6 (lane p k) (C k)) ∙ ap (λ (x : ℕ). shifted 6 x (C k)) (sym (mod-eq_of_lt (lane_lt p k)));
    }

one_bit : (s a b n : ℕ) → sum (sum s (b % 2 * a)) (shifted n (times_x a) (b / 2)) ≡ sum s (shifted (suc n) a b)
unfolding sum shifted
one_bit s a b n = xor_assoc s (b % 2 * a) (shifted n (times_x a) (b / 2))

pub chosen_lt : (b a : ℕ) → a < 64 → b % 2 * a < 64
chosen_lt b a h = bit_cases (λ (x : ℕ). x * a < 64) (omega arith) (omega arith) b

module _ (p : ℕ) (B C : ℕ → ℕ) (a s i t a' : ℕ) (h : i < 6) (l : LanesTo p B C a s i) (ea : a' ≡ pack 10 (λ k. times_x (lane a k)))
    (et : t ≡ pack 10 (λ k. B k % 2 * lane a k)) where
  lane-a : (k : ℕ) → k < 10 → lane a k ≡ l.A k
  lane-a k b = ap (λ (n : ℕ). lane n k) l.a_is ∙ lane_pack 10 l.A l.a_small k b

  pub lanes_turn : LanesTo p (λ k. B k / 2) C a' (bit_xor s t) (i + 1)
  lanes_turn =
      let n : ℕ = 6 - (i + 1) in
      let d : 6 - i ≡ suc n = omega arith in
      record {
        most = omega arith;
        A = λ k. times_x (l.A k);
        S = λ k. sum (l.S k) (B k % 2 * l.A k);
        a_small = λ k. Laws.times_x_lt (l.A k);
        s_small = λ k. Laws.sum_lt (l.S k) (B k % 2 * l.A k) (l.s_small k) (chosen_lt (B k) (l.A k) (l.a_small k));
        a_is = ea ∙ pack_same 10 (λ k. times_x (lane a k)) (λ k. times_x (l.A k)) (λ k b. ap times_x (lane-a k b));
        s_is =
            ap₂ bit_xor l.s_is (et ∙ pack_same 10 (λ k. B k % 2 * lane a k) (λ k. B k % 2 * l.A k) (λ k b. ap (λ (x : ℕ). B k % 2 * x) (lane-a k b)))
            ∙ xor_pack 10 l.S (λ k. B k % 2 * l.A k) l.s_small (λ k. chosen_lt (B k) (l.A k) (l.a_small k));
        rest = λ k. one_bit (l.S k) (l.A k) (B k) n ∙ sym (ap (λ (m : ℕ). sum (l.S k) (shifted m (l.A k) (B k))) d) ∙ l.rest k;
      }

pub lanes_all : (p : ℕ) (B C : ℕ → ℕ) (a s i : ℕ) → 6 ≤ i → LanesTo p B C a s i → s ≡ pack 10 (λ k. product (lane p k) (C k))
unfolding shifted
lanes_all p B C a s i h l =
    let e : 6 - i ≡ 0 = omega arith in
    l.s_is
    ∙ pack_same 10 l.S (λ k. product (lane p k) (C k))
    (λ k b. sym (Laws.sum_zero (l.S k)) ∙ sym (ap (λ (n : ℕ). sum (l.S k) (shifted n (l.A k) (B k))) e) ∙ l.rest k)

-- ---- all lanes times one element

abbrev pub ScaledTo : ℕ → ℕ → ℕ → ℕ → ℕ → ℕ → Type 0
ScaledTo p f a b s i = LanesTo p (λ k. b) (λ k. f) a s i

pub scaled_none : (p f : ℕ) → ScaledTo p f (p % 1152921504606846976) f 0 0
scaled_none p f = lanes_none p (λ k. f)

small_a : (p : ℕ) (B C : ℕ → ℕ) (a s i : ℕ) → LanesTo p B C a s i → a < 1152921504606846976
small_a p B C a s i l = subst (λ (n : ℕ). n < 1152921504606846976) (sym l.a_is) (pack_lt 10 l.A l.a_small)

pub bit_fits : (p f a b s i : ℕ) → ScaledTo p f a b s i → b % 2 * a < 18446744073709551616
bit_fits p f a b s i l =
    let h : a < 1152921504606846976 = small_a p (λ k. b) (λ k. f) a s i l in
    bit_cases (λ (x : ℕ). x * a < 18446744073709551616) (omega arith) (omega arith) b

a_lanes : (p : ℕ) (B C : ℕ → ℕ) (a s i : ℕ) → LanesTo p B C a s i → a ≡ pack 10 (lane a)
a_lanes p B C a s i l = sym (mod-eq_of_lt (small_a p B C a s i l)) ∙ pack_lanes 10 a

pub scaled_again : (p f a b s i a' : ℕ) → i < 6 → ScaledTo p f a b s i → a' ≡ pack 10 (λ k. times_x (lane a k))
    → ScaledTo p f a' (b / 2) (bit_xor s (b % 2 * a)) (i + 1)
scaled_again p f a b s i a' h l e =
    lanes_turn p (λ k. b) (λ k. f) a s i (b % 2 * a) a' h l e
    (mul_comm (b % 2) a ∙ ap (λ (x : ℕ). x * (b % 2)) (a_lanes p (λ k. b) (λ k. f) a s i l) ∙ times_pack 10 (b % 2) (lane a)
    ∙ pack_same 10 (λ k. lane a k * (b % 2)) (λ k. b % 2 * lane a k) (λ k m. mul_comm (lane a k) (b % 2)))

pub scaled_all : (p f a b s i : ℕ) → 6 ≤ i → ScaledTo p f a b s i → s ≡ pack 10 (λ k. product (lane p k) f)
scaled_all p f a b s i h l = lanes_all p (λ k. b) (λ k. f) a s i h l

-- one product: the lowest lane of any number is its low six bits
pub lowest_lane : (u v p : ℕ) → p ≡ pack 10 (λ k. product (lane u k) v) → p % 64 ≡ product u v
lowest_lane u v p e =
    ap (λ (n : ℕ). n % 64) e ∙ low_pack 9 (λ k. product (lane u k) v) (Laws.product_lt (lane u 0) v) ∙ ap (λ (x : ℕ). product x v) (lane_zero u)
    ∙ Laws.product_low u v

-- ---- lane by lane

pub record ProductsTo (p q a b s i : ℕ) : Type 0 where
  pub B : ℕ → ℕ
  pub b_small : (k : ℕ) → B k < 64
  pub b_is : b ≡ pack 10 B
  pub lanes_to : LanesTo p B (lane q) a s i

pub products_none : (p q : ℕ) → ProductsTo p q (p % 1152921504606846976) (q % 1152921504606846976) 0 0
products_none p q = record { B = lane q; b_small = lane_lt q; b_is = pack_lanes 10 q; lanes_to = lanes_none p (lane q) }

pub spread_fits : (b : ℕ) → bit_and b 18300341342965825 * 63 < 18446744073709551616
spread_fits b = omega (arith, and_le_r b 18300341342965825)

-- a bit spread over a lane chooses it
spread : (t k : ℕ) → k < 64 → bit_and (t % 2 * 63) k ≡ t % 2 * k
spread t k h = bit_cases (λ (x : ℕ). bit_and (x * 63) k ≡ x * k) (and_zero_l k ∙ sym (zero-mul k)) (and_comm 63 k ∙ and_mask k 6 ∙ mod-eq_of_lt h ∙ sym (one-mul k)) t

module _ (p q a b s i a' : ℕ) (h : i < 6) (l : ProductsTo p q a b s i) (ea : a' ≡ pack 10 (λ k. times_x (lane a k))) where
  lane-b : (k : ℕ) → k < 10 → lane b k ≡ l.B k
  lane-b k m = ap (λ (n : ℕ). lane n k) l.b_is ∙ lane_pack 10 l.B l.b_small k m

  lowest : bit_and b 18300341342965825 * 63 ≡ pack 10 (λ k. l.B k % 2 * 63)
  unfolding pack
  lowest =
      ap (λ (n : ℕ). n * 63) (mask 1 (omega arith) b 18300341342965825 refl)
      ∙ times_pack 10 63 (λ k. bit_and (lane b k) 1)
      ∙ pack_same 10 (λ k. bit_and (lane b k) 1 * 63) (λ k. l.B k % 2 * 63) (λ k m. ap (λ (n : ℕ). n * 63) (and_mask (lane b k) 1 ∙ ap (λ (n : ℕ). n % 2) (lane-b k m)))

  chosen : bit_and (bit_and b 18300341342965825 * 63) a ≡ pack 10 (λ k. l.B k % 2 * lane a k)
  chosen =
      ap₂ bit_and lowest (a_lanes p l.B (lane q) a s i l.lanes_to)
      ∙ and_lanes 10 (pack 10 (λ k. l.B k % 2 * 63)) (lane a) (lane_lt a)
      ∙ pack_same 10 (λ k. bit_and (lane (pack 10 (λ k. l.B k % 2 * 63)) k) (lane a k)) (λ k. l.B k % 2 * lane a k)
      (λ k m. ap (λ (n : ℕ). bit_and n (lane a k)) (lane_pack 10 (λ k. l.B k % 2 * 63) (λ k. omega arith) k m) ∙ spread (l.B k) (lane a k) (lane_lt a k))

  halved : bit_and b 1134621163263881150 / 2 ≡ pack 10 (λ k. l.B k / 2)
  unfolding pack
  halved =
      ap (λ (n : ℕ). n / 2)
      (mask 62 (omega arith) b 1134621163263881150 refl
      ∙ pack_same 10 (λ k. bit_and (lane b k) 62) (λ k. l.B k / 2 * 2)
      (λ k m. and_high (lane b k) 5 1 ∙ ap (λ (n : ℕ). n / 2 % 32 * 2) (lane-b k m) ∙ ap (λ (n : ℕ). n * 2) (mod-eq_of_lt (let g : l.B k < 64 = l.b_small k in omega arith)))
      ∙ sym (times_pack 10 2 (λ k. l.B k / 2)))
      ∙ mul-div_cancel (pack 10 (λ k. l.B k / 2)) (zero-lt-suc 1)

  pub products_again : ProductsTo p q a' (bit_and b 1134621163263881150 / 2) (bit_xor s (bit_and (bit_and b 18300341342965825 * 63) a)) (i + 1)
  products_again =
      record {
        B = λ k. l.B k / 2;
        b_small = λ k. let g : l.B k < 64 = l.b_small k in omega arith;
        b_is = halved;
        lanes_to = lanes_turn p l.B (lane q) a s i (bit_and (bit_and b 18300341342965825 * 63) a) a' h l.lanes_to ea chosen;
      }

pub products_all : (p q a b s i : ℕ) → 6 ≤ i → ProductsTo p q a b s i → s ≡ pack 10 (λ k. product (lane p k) (lane q k))
products_all p q a b s i h l = lanes_all p l.B (lane q) a s i h l.lanes_to

-- ---- the sum of ten lanes

module _ (p : ℕ) where
  -- five pairs
  pairs : ℕ
  pairs = bit_xor p (p / 1073741824)

  pair-at : (k : ℕ) → lane pairs k ≡ bit_xor (lane p k) (lane p (5 + k))
  unfolding pairs sum
  pair-at k = lane_xor p (p / 1073741824) k ∙ ap (bit_xor (lane p k)) (lane_after p 5 k)

  first_of : (n : ℕ) → lane (pairs / 64 ^ n) 0 ≡ lane pairs n
  first_of n = lane_after pairs n 0 ∙ ap (lane pairs) (add-zero n)

  five-pairs : total 10 (lane p) ≡ total 5 (lane pairs)
  five-pairs =
      total_append 5 5 (lane p) ∙ sym (total_xor 5 (lane p) (λ k. lane p (5 + k)))
      ∙ sym (total_same 5 (lane pairs) (λ k. bit_xor (lane p k) (lane p (5 + k))) (λ k _. pair-at k))

  pub ten_summed :
      bit_xor (bit_xor (bit_xor (bit_xor (bit_xor p (p / 1073741824)) (bit_xor p (p / 1073741824) / 64)) (bit_xor p (p / 1073741824) / 4096)) (bit_xor p (p / 1073741824) / 262144))
      (bit_xor p (p / 1073741824) / 16777216) % 64
      ≡ total 10 (lane p)
  unfolding total sum pairs
  ten_summed =
      let q : ℕ = bit_xor p (p / 1073741824) in
      sym (lane_zero (bit_xor (bit_xor (bit_xor (bit_xor q (q / 64)) (q / 4096)) (q / 262144)) (q / 16777216)))
      ∙ lane_xor (bit_xor (bit_xor (bit_xor q (q / 64)) (q / 4096)) (q / 262144)) (q / 16777216) 0
      ∙ ap₂ bit_xor
      (lane_xor (bit_xor (bit_xor q (q / 64)) (q / 4096)) (q / 262144) 0
      ∙ ap₂ bit_xor
      (lane_xor (bit_xor q (q / 64)) (q / 4096) 0
      ∙ ap₂ bit_xor (lane_xor q (q / 64) 0 ∙ ap₂ bit_xor (sym (Laws.zero_sum (lane q 0))) (first_of 1)) (first_of 2))
      (first_of 3))
      (first_of 4)
      ∙ sym five-pairs

-- The product of ten constant lanes by two choices of eight: what each arm of a choice gives, and what both make of each lane.
use mathlib.Core.Path.{◌≡◌, sym, ap, ap₂, ◌∙◌}
use Prim.Native.Nat.{ℕ, ◌+◌, ◌*◌, ◌/◌, ◌%◌, ◌<◌, ◌≤◌}
use native.Mathlib.Nat.{mul_comm, one-mul, zero-mul, mod-eq_of_lt}
use native.Mathlib.Omega.{arith}
use lib.Arith.{mod-mul}
use lib.Bits.{bit_xor, xor_zero_r}
use Rattle.numbers.proofs.Arms.{NoneBelow, none_below}
use Rattle.numbers.proofs.Cases.{bit_lt}
use Rattle.field.specs.Field.{sum, times_x, shifted, product}
use Rattle.field.proofs.Laws
use Rattle.lanes.specs.Lanes.{pack, lane}
use Rattle.lanes.proofs.Laws.{lane_lt, pack_same, lane_pack, pack_lanes, xor_pack, times_pack}
use Rattle.lanes.proofs.Loops.{chosen_lt}

-- ---- the arms of a choice

half : (m n x y : ℕ) → x < 2 → y < 2 → m * 2 + x ≡ n * 2 + y → m ≡ n
half m n x y hx hy e = omega arith

lowest : (m n x y : ℕ) → x < 2 → y < 2 → m * 2 + x ≡ n * 2 + y → x ≡ y
lowest m n x y hx hy e = omega arith

module _ (k a b c : ℕ) where
  -- the three bits
  by_bits : (x y z : ℕ) → x < 2 → y < 2 → k % 8 ≡ (z * 2 + y) * 2 + x → bit_xor (x * a) (bit_xor (y * b) (z * c)) ≡ bit_xor (k % 2 * a) (bit_xor (k / 2 % 2 * b) (k / 2 / 2 % 2 * c))
  by_bits x y z hx hy e =
      let d : k % 8 ≡ k / 2 % 4 * 2 + k % 2 = mod-mul k {m = 4} {c = 2} (omega arith) (omega arith) in
      let f : k / 2 % 4 ≡ k / 2 / 2 % 2 * 2 + k / 2 % 2 = mod-mul (k / 2) {m = 2} {c = 2} (omega arith) (omega arith) in
      let n : (z * 2 + y) * 2 + x ≡ (k / 2 / 2 % 2 * 2 + k / 2 % 2) * 2 + k % 2 = sym e ∙ d ∙ ap (λ (m : ℕ). m * 2 + k % 2) f in
      let h : z * 2 + y ≡ k / 2 / 2 % 2 * 2 + k / 2 % 2 = half (z * 2 + y) (k / 2 / 2 % 2 * 2 + k / 2 % 2) x (k % 2) hx (bit_lt k) n in
      let p : x ≡ k % 2 = lowest (z * 2 + y) (k / 2 / 2 % 2 * 2 + k / 2 % 2) x (k % 2) hx (bit_lt k) n in
      let q : y ≡ k / 2 % 2 = lowest z (k / 2 / 2 % 2) y (k / 2 % 2) hy (bit_lt (k / 2)) h in
      let r : z ≡ k / 2 / 2 % 2 = half z (k / 2 / 2 % 2) y (k / 2 % 2) hy (bit_lt (k / 2)) h in
      ap₂ bit_xor (ap (λ (x : ℕ). x * a) p) (ap₂ bit_xor (ap (λ (x : ℕ). x * b) q) (ap (λ (x : ℕ). x * c) r))

  pub chosen_none : k % 8 ≡ 0 → 0 ≡ bit_xor (k % 2 * a) (bit_xor (k / 2 % 2 * b) (k / 2 / 2 % 2 * c))
  chosen_none e = sym (simp (one-mul, zero-mul, xor_zero_r)) ∙ by_bits 0 0 0 (omega arith) (omega arith) e

  pub chosen_a : k % 8 ≡ 1 → a ≡ bit_xor (k % 2 * a) (bit_xor (k / 2 % 2 * b) (k / 2 / 2 % 2 * c))
  chosen_a e = sym (simp (one-mul, zero-mul, xor_zero_r)) ∙ by_bits 1 0 0 (omega arith) (omega arith) e

  pub chosen_b : k % 8 ≡ 2 → b ≡ bit_xor (k % 2 * a) (bit_xor (k / 2 % 2 * b) (k / 2 / 2 % 2 * c))
  chosen_b e = sym (simp (one-mul, zero-mul, xor_zero_r)) ∙ by_bits 0 1 0 (omega arith) (omega arith) e

  pub chosen_ab : k % 8 ≡ 3 → bit_xor a b ≡ bit_xor (k % 2 * a) (bit_xor (k / 2 % 2 * b) (k / 2 / 2 % 2 * c))
  chosen_ab e = sym (simp (one-mul, zero-mul, xor_zero_r)) ∙ by_bits 1 1 0 (omega arith) (omega arith) e

  pub chosen_c : k % 8 ≡ 4 → c ≡ bit_xor (k % 2 * a) (bit_xor (k / 2 % 2 * b) (k / 2 / 2 % 2 * c))
  chosen_c e = sym (simp (one-mul, zero-mul, xor_zero_r)) ∙ by_bits 0 0 1 (omega arith) (omega arith) e

  pub chosen_ac : k % 8 ≡ 5 → bit_xor a c ≡ bit_xor (k % 2 * a) (bit_xor (k / 2 % 2 * b) (k / 2 / 2 % 2 * c))
  chosen_ac e = sym (simp (one-mul, zero-mul, xor_zero_r)) ∙ by_bits 1 0 1 (omega arith) (omega arith) e

  pub chosen_bc : k % 8 ≡ 6 → bit_xor b c ≡ bit_xor (k % 2 * a) (bit_xor (k / 2 % 2 * b) (k / 2 / 2 % 2 * c))
  chosen_bc e = sym (simp (one-mul, zero-mul, xor_zero_r)) ∙ by_bits 0 1 1 (omega arith) (omega arith) e

  pub chosen_abc : NoneBelow 7 (k % 8) → bit_xor a (bit_xor b c) ≡ bit_xor (k % 2 * a) (bit_xor (k / 2 % 2 * b) (k / 2 / 2 % 2 * c))
  chosen_abc h =
      let l : 7 ≤ k % 8 = none_below 7 (k % 8) h in
      sym (simp (one-mul, zero-mul, xor_zero_r)) ∙ by_bits 1 1 1 (omega arith) (omega arith) (omega arith)

-- ---- what the choices make of each lane

-- of six bits three are chosen by, then three
six : (u f : ℕ) → u < 64
    → sum (sum (f % 2 * u) (sum (f / 2 % 2 * times_x u) (f / 2 / 2 % 2 * times_x (times_x u))))
    (sum (f / 8 % 2 * times_x (times_x (times_x u)))
    (sum (f / 8 / 2 % 2 * times_x (times_x (times_x (times_x u)))) (f / 8 / 2 / 2 % 2 * times_x (times_x (times_x (times_x (times_x u)))))))
    ≡ product u f
unfolding product shifted
six u f h =
    let e : f / 8 ≡ f / 2 / 2 / 2 = omega arith in
    let high : ℕ → ℕ =
    λ g. sum (g % 2 * times_x (times_x (times_x u))) (sum (g / 2 % 2 * times_x (times_x (times_x (times_x u)))) (g / 2 / 2 % 2 * times_x (times_x (times_x (times_x (times_x u)))))) in
    ap (sum (sum (f % 2 * u) (sum (f / 2 % 2 * times_x u) (f / 2 / 2 % 2 * times_x (times_x u))))) (ap high e)
    ∙ Laws.sum_assoc (f % 2 * u) (sum (f / 2 % 2 * times_x u) (f / 2 / 2 % 2 * times_x (times_x u))) (high (f / 2 / 2 / 2))
    ∙ ap (sum (f % 2 * u)) (Laws.sum_assoc (f / 2 % 2 * times_x u) (f / 2 / 2 % 2 * times_x (times_x u)) (high (f / 2 / 2 / 2)))
    ∙ ap (λ (last : ℕ). sum (f % 2 * u) (sum (f / 2 % 2 * times_x u) (sum (f / 2 / 2 % 2 * times_x (times_x u))
    (sum (f / 2 / 2 / 2 % 2 * times_x (times_x (times_x u))) (sum (f / 2 / 2 / 2 / 2 % 2 * times_x (times_x (times_x (times_x u)))) last)))))
    (sym (Laws.sum_zero (f / 2 / 2 / 2 / 2 / 2 % 2 * times_x (times_x (times_x (times_x (times_x u)))))))
    ∙ ap (λ (x : ℕ). shifted 6 x f) (sym (mod-eq_of_lt h))

bit_lanes : (t a : ℕ) (A : ℕ → ℕ) → a ≡ pack 10 A → t * a ≡ pack 10 (λ k. t * A k)
bit_lanes t a A e =
    ap (λ (n : ℕ). t * n) e ∙ mul_comm t (pack 10 A) ∙ times_pack 10 t A ∙ pack_same 10 (λ k. A k * t) (λ k. t * A k) (λ k l. mul_comm (A k) t)

choice_lt : (g a b c : ℕ) → a < 64 → b < 64 → c < 64 → sum (g % 2 * a) (sum (g / 2 % 2 * b) (g / 2 / 2 % 2 * c)) < 64
choice_lt g a b c ha hb hc =
    Laws.sum_lt (g % 2 * a) (sum (g / 2 % 2 * b) (g / 2 / 2 % 2 * c)) (chosen_lt g a ha)
    (Laws.sum_lt (g / 2 % 2 * b) (g / 2 / 2 % 2 * c) (chosen_lt (g / 2) b hb) (chosen_lt (g / 2 / 2) c hc))

choice_lanes : (g a b c : ℕ) (A B C : ℕ → ℕ) → ((k : ℕ) → A k < 64) → ((k : ℕ) → B k < 64) → ((k : ℕ) → C k < 64)
    → a ≡ pack 10 A → b ≡ pack 10 B → c ≡ pack 10 C
    → bit_xor (g % 2 * a) (bit_xor (g / 2 % 2 * b) (g / 2 / 2 % 2 * c)) ≡ pack 10 (λ k. sum (g % 2 * A k) (sum (g / 2 % 2 * B k) (g / 2 / 2 % 2 * C k)))
choice_lanes g a b c A B C ha hb hc ea eb ec =
    let x : (k : ℕ) → g % 2 * A k < 64 = λ k. chosen_lt g (A k) (ha k) in
    let y : (k : ℕ) → g / 2 % 2 * B k < 64 = λ k. chosen_lt (g / 2) (B k) (hb k) in
    let z : (k : ℕ) → g / 2 / 2 % 2 * C k < 64 = λ k. chosen_lt (g / 2 / 2) (C k) (hc k) in
    ap₂ bit_xor (bit_lanes (g % 2) a A ea)
    (ap₂ bit_xor (bit_lanes (g / 2 % 2) b B eb) (bit_lanes (g / 2 / 2 % 2) c C ec)
    ∙ xor_pack 10 (λ k. g / 2 % 2 * B k) (λ k. g / 2 / 2 % 2 * C k) y z)
    ∙ xor_pack 10 (λ k. g % 2 * A k) (λ k. sum (g / 2 % 2 * B k) (g / 2 / 2 % 2 * C k)) x
    (λ k. Laws.sum_lt (g / 2 % 2 * B k) (g / 2 / 2 % 2 * C k) (y k) (z k))

-- x times lanes that are known
next : (a b : ℕ) (A : ℕ → ℕ) → ((k : ℕ) → A k < 64) → a ≡ pack 10 A → b ≡ pack 10 (λ k. times_x (lane a k)) → b ≡ pack 10 (λ k. times_x (A k))
next a b A h e f =
    f ∙ pack_same 10 (λ k. times_x (lane a k)) (λ k. times_x (A k)) (λ k l. ap times_x (ap (λ (n : ℕ). lane n k) e ∙ lane_pack 10 A h k l))

pub by_choices : (p f b c d e g low high : ℕ) → b ≡ pack 10 (λ k. times_x (lane (p % 1152921504606846976) k)) → c ≡ pack 10 (λ k. times_x (lane b k))
    → d ≡ pack 10 (λ k. times_x (lane c k)) → e ≡ pack 10 (λ k. times_x (lane d k)) → g ≡ pack 10 (λ k. times_x (lane e k))
    → low ≡ bit_xor (f % 2 * (p % 1152921504606846976)) (bit_xor (f / 2 % 2 * b) (f / 2 / 2 % 2 * c))
    → high ≡ bit_xor (f / 8 % 2 * d) (bit_xor (f / 8 / 2 % 2 * e) (f / 8 / 2 / 2 % 2 * g))
    → bit_xor low high ≡ pack 10 (λ k. product (lane p k) f)
by_choices p f b c d e g low high eb ec ed ee eg el eh =
    let A : ℕ → ℕ = lane p in
    let B : ℕ → ℕ = λ k. times_x (A k) in
    let C : ℕ → ℕ = λ k. times_x (B k) in
    let D : ℕ → ℕ = λ k. times_x (C k) in
    let E : ℕ → ℕ = λ k. times_x (D k) in
    let G : ℕ → ℕ = λ k. times_x (E k) in
    let small : (F : ℕ → ℕ) (k : ℕ) → times_x (F k) < 64 = λ F k. Laws.times_x_lt (F k) in
    let pa : p % 1152921504606846976 ≡ pack 10 A = pack_lanes 10 p in
    let pb : b ≡ pack 10 B = next (p % 1152921504606846976) b A (lane_lt p) pa eb in
    let pc : c ≡ pack 10 C = next b c B (small A) pb ec in
    let pd : d ≡ pack 10 D = next c d C (small B) pc ed in
    let pe : e ≡ pack 10 E = next d e D (small C) pd ee in
    let pg : g ≡ pack 10 G = next e g E (small D) pe eg in
    let L : ℕ → ℕ = λ k. sum (f % 2 * A k) (sum (f / 2 % 2 * B k) (f / 2 / 2 % 2 * C k)) in
    let H : ℕ → ℕ = λ k. sum (f / 8 % 2 * D k) (sum (f / 8 / 2 % 2 * E k) (f / 8 / 2 / 2 % 2 * G k)) in
    ap₂ bit_xor (el ∙ choice_lanes f (p % 1152921504606846976) b c A B C (lane_lt p) (small A) (small B) pa pb pc)
    (eh ∙ choice_lanes (f / 8) d e g D E G (small C) (small D) (small E) pd pe pg)
    ∙ xor_pack 10 L H (λ k. choice_lt f (A k) (B k) (C k) (lane_lt p k) (small A k) (small B k))
    (λ k. choice_lt (f / 8) (D k) (E k) (G k) (small C k) (small D k) (small E k))
    ∙ pack_same 10 (λ k. sum (L k) (H k)) (λ k. product (lane p k) f) (λ k l. six (lane p k) f (lane_lt p k))

-- What each function does with elements in planes, over plain variables.
use mathlib.Core.Path.{◌≡◌, refl, sym, ap, ap₂, ◌∙◌}
use mathlib.Core.Bool.{Bool}
use mathlib.Core.List.{List, [], ◌∷◌}
use Prim.Native.Nat.{ℕ, suc, ◌+◌, ◌-◌, ◌*◌, ◌/◌, ◌%◌, ◌^◌, ◌<◌, ◌≤◌}
use native.Mathlib.Nat.{mod-eq_of_lt}
use native.Mathlib.Omega.{arith}
use lib.Bits.{bit_and, bit_or, bit_xor, xor_lt}
use lib.Dec.{T, eqb, eqb→eq}
use lib.ListN.{length, drop, get_or}
use lib.Seq.{drop-cons}
use Rattle.numbers.proofs.Cases.{bit_cases, bit_lt}
use Rattle.numbers.proofs.Range.{each, each_at}
use Rattle.field.specs.Field.{sum, times_x, shifted, product, α, power}
use Rattle.field.proofs.Laws
use Rattle.polynomial.specs.Polynomial.{poly_at}
use Rattle.planes.specs.declared.Planes.{Planes}
use Rattle.planes.specs.Roots.{RootsOf}
use Rattle.planes.specs.Slices.{bit_at, of_bits, element_at, BitSpread, Everywhere, Doubled, Added, OnlyAt, NextBit, Multiplied, PlaceMultiplied, ZerosOf}
use Rattle.planes.specs.Crossed.{Crossed, Squared}
use Rattle.planes.proofs.Bits.{xor_bit, and_bit, or_between, Between, low_bit, of_same, of_xor, of_lt, of_scaled, of_times_x}

pub element_lt : (v : Planes) (l : ℕ) → element_at v l < 64
unfolding element_at
element_lt v l = of_lt (v.b0 / 2 ^ l) (v.b1 / 2 ^ l) (v.b2 / 2 ^ l) (v.b3 / 2 ^ l) (v.b4 / 2 ^ l) (v.b5 / 2 ^ l)

-- ---- one bit, and one element, at each place

-- computed at the 63 places
ones_test : T (each 63 (λ l. eqb (bit_at 9223372036854775807 l) 1))
ones_test = tt

pub ones_bit : (l : ℕ) → l < 63 → bit_at 9223372036854775807 l ≡ 1
ones_bit l h = eqb→eq (bit_at 9223372036854775807 l) 1 (each_at 63 (λ k. eqb (bit_at 9223372036854775807 k) 1) ones_test l h)

zeros_test : T (each 63 (λ l. eqb (bit_at 0 l) 0))
zeros_test = tt

zeros_bit : (l : ℕ) → l < 63 → bit_at 0 l ≡ 0
zeros_bit l h = eqb→eq (bit_at 0 l) 0 (each_at 63 (λ k. eqb (bit_at 0 k) 0) zeros_test l h)

pub spread_bit : (c : ℕ) → BitSpread c (c % 2 * 9223372036854775807)
spread_bit c =
    record { bit = λ l h. bit_cases (λ (x : ℕ). bit_at (x * 9223372036854775807) l ≡ x) (zeros_bit l h) (ones_bit l h) c }

pub everywhere_bits : (c : ℕ) (r : Planes) → BitSpread c r.b0 → BitSpread (c / 2) r.b1 → BitSpread (c / 4) r.b2 → BitSpread (c / 8) r.b3
    → BitSpread (c / 16) r.b4 → BitSpread (c / 32) r.b5 → Everywhere c r
unfolding element_at
everywhere_bits c r h0 h1 h2 h3 h4 h5 =
    record {
      at = λ l h.
          of_same (h0.bit l h) (h1.bit l h) (h2.bit l h) (h3.bit l h) (h4.bit l h) (h5.bit l h) ∙ six-bits;
    }
  where
    from4 : c / 32 % 2 * 2 + c / 16 % 2 ≡ c / 16 % 4
    from4 = omega arith

    from3 : c / 16 % 4 * 2 + c / 8 % 2 ≡ c / 8 % 8
    from3 = omega arith

    from2 : c / 8 % 8 * 2 + c / 4 % 2 ≡ c / 4 % 16
    from2 = omega arith

    from1 : c / 4 % 16 * 2 + c / 2 % 2 ≡ c / 2 % 32
    from1 = omega arith

    from0 : c / 2 % 32 * 2 + c % 2 ≡ c % 64
    from0 = omega arith

    six-bits : of_bits (c % 2) (c / 2 % 2) (c / 4 % 2) (c / 8 % 2) (c / 16 % 2) (c / 32 % 2) ≡ c % 64
    six-bits =
        ap (λ (h : ℕ). (((h * 2 + c / 8 % 2) * 2 + c / 4 % 2) * 2 + c / 2 % 2) * 2 + c % 2) from4
        ∙ ap (λ (h : ℕ). ((h * 2 + c / 4 % 2) * 2 + c / 2 % 2) * 2 + c % 2) from3 ∙ ap (λ (h : ℕ). (h * 2 + c / 2 % 2) * 2 + c % 2) from2
        ∙ ap (λ (h : ℕ). h * 2 + c % 2) from1 ∙ from0

-- ---- sums and products, place by place

module _ (v r : Planes) where
  pub doubled_planes : r.b0 ≡ v.b5 → r.b1 ≡ bit_xor v.b0 v.b5 → r.b2 ≡ v.b1 → r.b3 ≡ v.b2 → r.b4 ≡ v.b3 → r.b5 ≡ v.b4
      → Doubled v r
  unfolding element_at
  doubled_planes e0 e1 e2 e3 e4 e5 =
      record {
        at = λ l.
            let at : ℕ → ℕ = λ w. bit_at w l in
            of_same (ap at e0) (ap at e1 ∙ xor_bit v.b0 v.b5 l) (ap at e2) (ap at e3) (ap at e4) (ap at e5)
            ∙ of_times_x (v.b0 / 2 ^ l) (v.b1 / 2 ^ l) (v.b2 / 2 ^ l) (v.b3 / 2 ^ l) (v.b4 / 2 ^ l) (v.b5 / 2 ^ l);
      }

  pub only_planes : (k : ℕ) → r.b0 ≡ bit_and k v.b0 → r.b1 ≡ bit_and k v.b1 → r.b2 ≡ bit_and k v.b2
      → r.b3 ≡ bit_and k v.b3 → r.b4 ≡ bit_and k v.b4 → r.b5 ≡ bit_and k v.b5 → OnlyAt k v r
  unfolding element_at
  only_planes k e0 e1 e2 e3 e4 e5 =
      record {
        at = λ l.
            let at : ℕ → ℕ = λ w. bit_at w l in
            of_same (ap at e0 ∙ and_bit k v.b0 l) (ap at e1 ∙ and_bit k v.b1 l) (ap at e2 ∙ and_bit k v.b2 l)
            (ap at e3 ∙ and_bit k v.b3 l) (ap at e4 ∙ and_bit k v.b4 l) (ap at e5 ∙ and_bit k v.b5 l)
            ∙ of_scaled (bit_at v.b0 l) (bit_at v.b1 l) (bit_at v.b2 l) (bit_at v.b3 l) (bit_at v.b4 l) (bit_at v.b5 l) (k / 2 ^ l);
      }

  pub added_planes : (s : Planes) → r.b0 ≡ bit_xor s.b0 v.b0 → r.b1 ≡ bit_xor s.b1 v.b1 → r.b2 ≡ bit_xor s.b2 v.b2
      → r.b3 ≡ bit_xor s.b3 v.b3 → r.b4 ≡ bit_xor s.b4 v.b4 → r.b5 ≡ bit_xor s.b5 v.b5 → Added s v r
  unfolding element_at
  added_planes s e0 e1 e2 e3 e4 e5 =
      record {
        at = λ l.
            let at : ℕ → ℕ = λ w. bit_at w l in
            of_same (ap at e0 ∙ xor_bit s.b0 v.b0 l) (ap at e1 ∙ xor_bit s.b1 v.b1 l) (ap at e2 ∙ xor_bit s.b2 v.b2 l)
            (ap at e3 ∙ xor_bit s.b3 v.b3 l) (ap at e4 ∙ xor_bit s.b4 v.b4 l) (ap at e5 ∙ xor_bit s.b5 v.b5 l)
            ∙ sym
            (of_xor (s.b0 / 2 ^ l) (s.b1 / 2 ^ l) (s.b2 / 2 ^ l) (s.b3 / 2 ^ l) (s.b4 / 2 ^ l) (s.b5 / 2 ^ l)
            (v.b0 / 2 ^ l) (v.b1 / 2 ^ l) (v.b2 / 2 ^ l) (v.b3 / 2 ^ l) (v.b4 / 2 ^ l) (v.b5 / 2 ^ l));
      }

pub next_bit : (s v t o r : Planes) (k : ℕ) → Doubled s t → OnlyAt k v o → Added t o r → NextBit s v k r
next_bit s v t o r k d h a = record { at = λ l. a.at l ∙ ap₂ sum (d.at l) (h.at l) }

-- ---- the product, from the highest bit of the second factor down

-- the highest bit alone
first_bit : (u y s : ℕ) → s ≡ y % 2 * u → s ≡ shifted 1 u (y % 2)
unfolding shifted
first_bit u y s e =
    e ∙ sym (Laws.sum_zero (y % 2 * u)) ∙ ap (λ (x : ℕ). sum (x * u) 0) (sym (mod-eq_of_lt (bit_lt y)))

-- one bit more, below those that are done
one_bit_more : (n u h y s r : ℕ) → s ≡ shifted n u h → r ≡ sum (times_x s) (y % 2 * u) → r ≡ shifted (suc n) u (h * 2 + y % 2)
unfolding shifted
one_bit_more n u h y s r q e =
    let low : y % 2 ≡ (h * 2 + y % 2) % 2 = omega arith in
    let up : h ≡ (h * 2 + y % 2) / 2 = omega arith in
    e ∙ Laws.sum_comm (times_x s) (y % 2 * u)
    ∙ ap₂ (λ (x t : ℕ). sum (x * u) t) low (ap times_x q ∙ sym (Laws.shifted_times_x n u h) ∙ ap (shifted n (times_x u)) up)

-- the product with six words, as planes
bits_multiplied : (a b c d e f : ℕ) (v s5 s4 s3 s2 s1 r : Planes) → OnlyAt f v s5 → NextBit s5 v e s4 → NextBit s4 v d s3
    → NextBit s3 v c s2 → NextBit s2 v b s1 → NextBit s1 v a r
    → (l : ℕ) → element_at r l ≡ product (element_at v l) (of_bits (bit_at a l) (bit_at b l) (bit_at c l) (bit_at d l) (bit_at e l) (bit_at f l))
unfolding product
bits_multiplied a b c d e f v s5 s4 s3 s2 s1 r h5 h4 h3 h2 h1 h0 l =
    let u : ℕ = element_at v l in
    let p5 = first_bit u (f / 2 ^ l) (element_at s5 l) (h5.at l) in
    let p4 = one_bit_more 1 u (bit_at f l) (e / 2 ^ l) (element_at s5 l) (element_at s4 l) p5 (h4.at l) in
    let p3 = one_bit_more 2 u _ (d / 2 ^ l) (element_at s4 l) (element_at s3 l) p4 (h3.at l) in
    let p2 = one_bit_more 3 u _ (c / 2 ^ l) (element_at s3 l) (element_at s2 l) p3 (h2.at l) in
    let p1 = one_bit_more 4 u _ (b / 2 ^ l) (element_at s2 l) (element_at s1 l) p2 (h1.at l) in
    let p0 = one_bit_more 5 u _ (a / 2 ^ l) (element_at s1 l) (element_at r l) p1 (h0.at l) in
    p0 ∙ ap (λ (x : ℕ). shifted 6 x (of_bits (bit_at a l) (bit_at b l) (bit_at c l) (bit_at d l) (bit_at e l) (bit_at f l))) (sym (mod-eq_of_lt (element_lt v l)))

pub multiplied : (v w s5 s4 s3 s2 s1 r : Planes) → OnlyAt w.b5 v s5 → NextBit s5 v w.b4 s4 → NextBit s4 v w.b3 s3
    → NextBit s3 v w.b2 s2 → NextBit s2 v w.b1 s1 → NextBit s1 v w.b0 r → Multiplied v w r
unfolding element_at
multiplied v w s5 s4 s3 s2 s1 r h5 h4 h3 h2 h1 h0 =
    record { at = bits_multiplied w.b0 w.b1 w.b2 w.b3 w.b4 w.b5 v s5 s4 s3 s2 s1 r h5 h4 h3 h2 h1 h0 }

-- planes hold the powers of α
abbrev pub are_places : Planes → Bool
are_places w = each 63 (λ l. eqb (element_at w l) (power α l))

pub place_planes : (w : Planes) → T (are_places w) → (v r : Planes) → Multiplied v w r → PlaceMultiplied v r
place_planes w t v r m =
    record {
      at = λ l h. m.at l ∙ ap (product (element_at v l)) (eqb→eq _ _ (each_at 63 (λ k. eqb (element_at w k) (power α k)) t l h));
    }

pub crossed_planes : (a x b y s t r : Planes) → Multiplied a x s → Multiplied b y t → Added s t r → Crossed a x b y r
crossed_planes a x b y s t r p q h = record { at = λ l. h.at l ∙ ap₂ sum (p.at l) (q.at l) }

-- ---- the square

-- what the bits of a number below 64 become
square_of : ℕ → ℕ
square_of u =
    of_bits (bit_xor (u % 2) (u / 8 % 2)) (u / 8 % 2) (bit_xor (u / 2 % 2) (u / 16 % 2)) (u / 16 % 2) (bit_xor (u / 4 % 2) (u / 32 % 2)) (u / 32 % 2)

-- computed at 64 numbers
square_test : T (each 64 (λ u. eqb (square_of u) (product u u)))
unfolding square_of product shifted times_x sum
square_test = tt

square_is : (u : ℕ) → u < 64 → square_of u ≡ product u u
square_is u h = eqb→eq (square_of u) (product u u) (each_at 64 (λ u. eqb (square_of u) (product u u)) square_test u h)

above : (h x : ℕ) → (h * 2 + x % 2) / 2 ≡ h
above h x = omega arith

lowest : (h x : ℕ) → (h * 2 + x % 2) % 2 ≡ x % 2
lowest h x = omega arith

of_square : (a b c d e f : ℕ) → of_bits (bit_xor (a % 2) (d % 2)) (d % 2) (bit_xor (b % 2) (e % 2)) (e % 2) (bit_xor (c % 2) (f % 2)) (f % 2)
    ≡ product (of_bits (a % 2) (b % 2) (c % 2) (d % 2) (e % 2) (f % 2)) (of_bits (a % 2) (b % 2) (c % 2) (d % 2) (e % 2) (f % 2))
unfolding square_of
of_square a b c d e f =
    let half : ℕ → ℕ = λ x. x / 2 in
    let low : ℕ → ℕ = λ x. x % 2 in
    let h4 : ℕ = f % 2 * 2 + e % 2 in
    let h3 : ℕ = h4 * 2 + d % 2 in
    let h2 : ℕ = h3 * 2 + c % 2 in
    let h1 : ℕ = h2 * 2 + b % 2 in
    let u : ℕ = h1 * 2 + a % 2 in
    let e1 : u / 2 ≡ h1 = above h1 a in
    let e2 : u / 4 ≡ h2 = fourth u ∙ ap half e1 ∙ above h2 b in
    let e3 : u / 8 ≡ h3 = eighth u ∙ ap half e2 ∙ above h3 c in
    let e4 : u / 16 ≡ h4 = sixteenth u ∙ ap half e3 ∙ above h4 d in
    let e5 : u / 32 ≡ f % 2 = last u ∙ ap half e4 ∙ above (f % 2) e in
    let u0 : a % 2 ≡ u % 2 = sym (lowest h1 a) in
    let u1 : b % 2 ≡ u / 2 % 2 = sym (ap low e1 ∙ lowest h2 b) in
    let u2 : c % 2 ≡ u / 4 % 2 = sym (ap low e2 ∙ lowest h3 c) in
    let u3 : d % 2 ≡ u / 8 % 2 = sym (ap low e3 ∙ lowest h4 d) in
    let u4 : e % 2 ≡ u / 16 % 2 = sym (ap low e4 ∙ lowest (f % 2) e) in
    let u5 : f % 2 ≡ u / 32 % 2 = sym (ap low e5 ∙ mod-eq_of_lt (bit_lt f)) in
    of_same (ap₂ bit_xor u0 u3) u3 (ap₂ bit_xor u1 u4) u4 (ap₂ bit_xor u2 u5) u5 ∙ square_is u (of_lt a b c d e f)
  where
    fourth : (u : ℕ) → u / 4 ≡ u / 2 / 2
    fourth u = omega arith

    eighth : (u : ℕ) → u / 8 ≡ u / 4 / 2
    eighth u = omega arith

    sixteenth : (u : ℕ) → u / 16 ≡ u / 8 / 2
    sixteenth u = omega arith

    last : (u : ℕ) → u / 32 ≡ u / 16 / 2
    last u = omega arith

pub square_planes : (v r : Planes) → r.b0 ≡ bit_xor v.b0 v.b3 → r.b1 ≡ v.b3 → r.b2 ≡ bit_xor v.b1 v.b4 → r.b3 ≡ v.b4
    → r.b4 ≡ bit_xor v.b2 v.b5 → r.b5 ≡ v.b5 → Squared v r
unfolding element_at
square_planes v r e0 e1 e2 e3 e4 e5 =
    record {
      at = λ l.
          let at : ℕ → ℕ = λ w. bit_at w l in
          of_same (ap at e0 ∙ xor_bit v.b0 v.b3 l) (ap at e1) (ap at e2 ∙ xor_bit v.b1 v.b4 l) (ap at e3) (ap at e4 ∙ xor_bit v.b2 v.b5 l) (ap at e5)
          ∙ of_square (v.b0 / 2 ^ l) (v.b1 / 2 ^ l) (v.b2 / 2 ^ l) (v.b3 / 2 ^ l) (v.b4 / 2 ^ l) (v.b5 / 2 ^ l);
    }

-- ---- the places whose element is 0

other_bit : (b o : ℕ) → b ≡ bit_xor 1 (o % 2) → (b ≡ 1 → o % 2 ≡ 0) × (b ≡ 0 → o % 2 ≡ 1)
other_bit b o =
    bit_cases (λ (x : ℕ). b ≡ bit_xor 1 x → (b ≡ 1 → x ≡ 0) × (b ≡ 0 → x ≡ 1))
    (λ e. ((λ p. refl), (λ p. absurd (omega arith)))) (λ e. ((λ p. absurd (omega arith)), (λ p. refl))) o

no_bit : {x y o : ℕ} → Between x y o → o ≡ 0 → (x ≡ 0) × (y ≡ 0)
no_bit h z = (omega arith, omega arith)

no_bits : {x y o : ℕ} → Between x y o → x ≡ 0 → y ≡ 0 → o ≡ 0
no_bits h p q = omega arith

all_none : (a b c d e f : ℕ) → of_bits a b c d e f ≡ 0 → (a ≡ 0) × (b ≡ 0) × (c ≡ 0) × (d ≡ 0) × (e ≡ 0) × (f ≡ 0)
all_none a b c d e f z = (omega arith, omega arith, omega arith, omega arith, omega arith, omega arith)

-- six bits of which none is set make 0
six_none : {a b c d e f p q r s t : ℕ} → Between a b p → Between p c q → Between q d r → Between r e s → Between s f t
    → t ≡ 0 → of_bits a b c d e f ≡ 0
six_none h1 h2 h3 h4 h5 z =
    let z5 = no_bit h5 z in
    let z4 = no_bit h4 z5.0 in
    let z3 = no_bit h3 z4.0 in
    let z2 = no_bit h2 z3.0 in
    let z1 = no_bit h1 z2.0 in
    of_same z1.0 z1.1 z2.1 z3.1 z4.1 z5.1

-- and only they
six_only : {a b c d e f p q r s t : ℕ} → Between a b p → Between p c q → Between q d r → Between r e s → Between s f t
    → of_bits a b c d e f ≡ 0 → t ≡ 0
six_only {a} {b} {c} {d} {e} {f} h1 h2 h3 h4 h5 z =
    let n = all_none a b c d e f z in
    no_bits h5 (no_bits h4 (no_bits h3 (no_bits h2 (no_bits h1 n.0 n.1) n.2) n.3) n.4) n.5

one_not_zero : ◌≡◌ {A = ℕ} 1 0 → ⊥
one_not_zero e = omega arith

pub zero_planes : (v : Planes) (o : ℕ) → o ≡ bit_or (bit_or (bit_or (bit_or (bit_or v.b0 v.b1) v.b2) v.b3) v.b4) v.b5
    → ZerosOf v (bit_xor 9223372036854775807 (o % 9223372036854775808))
unfolding element_at
zero_planes v o e =
    record {
      below = xor_lt 63 9223372036854775807 (o % 9223372036854775808) (omega arith) (omega arith);
      zero = λ l h p. all_zero l (sym (ap (λ (w : ℕ). bit_at w l) e) ∙ (turned l h).0 p);
      other = λ l h p q. some-set l (sym (ap (λ (w : ℕ). bit_at w l) e) ∙ (turned l h).1 p) q;
    }
  where
    turned : (l : ℕ) → l < 63 → (bit_at (bit_xor 9223372036854775807 (o % 9223372036854775808)) l ≡ 1 → bit_at o l ≡ 0)
        × (bit_at (bit_xor 9223372036854775807 (o % 9223372036854775808)) l ≡ 0 → bit_at o l ≡ 1)
    turned l h =
        other_bit _ (o / 2 ^ l)
        (xor_bit 9223372036854775807 (o % 9223372036854775808) l ∙ ap₂ bit_xor (ones_bit l h) (low_bit o l h))

    o1 : ℕ
    o1 = bit_or v.b0 v.b1

    o2 : ℕ
    o2 = bit_or o1 v.b2

    o3 : ℕ
    o3 = bit_or o2 v.b3

    o4 : ℕ
    o4 = bit_or o3 v.b4

    all_zero : (l : ℕ) → bit_at (bit_or o4 v.b5) l ≡ 0
        → of_bits (bit_at v.b0 l) (bit_at v.b1 l) (bit_at v.b2 l) (bit_at v.b3 l) (bit_at v.b4 l) (bit_at v.b5 l) ≡ 0
    all_zero l z =
        six_none (or_between v.b0 v.b1 l) (or_between o1 v.b2 l) (or_between o2 v.b3 l) (or_between o3 v.b4 l)
        (or_between o4 v.b5 l) z

    some-set : (l : ℕ) → bit_at (bit_or o4 v.b5) l ≡ 1
        → of_bits (bit_at v.b0 l) (bit_at v.b1 l) (bit_at v.b2 l) (bit_at v.b3 l) (bit_at v.b4 l) (bit_at v.b5 l) ≡ 0 → ⊥
    some-set l z n =
        one_not_zero (sym z ∙
        six_only (or_between v.b0 v.b1 l) (or_between o1 v.b2 l) (or_between o2 v.b3 l) (or_between o3 v.b4 l)
        (or_between o4 v.b5 l) n)

-- ---- Horner's rule at every place

-- of the coefficients, all from k on are taken
pub record TakenFrom (p : List ℕ) (v : Planes) (k : ℕ) : Type 0 where
  pub most : k ≤ 5
  pub at : (l : ℕ) → l < 63 → element_at v l ≡ poly_at (drop k p) (power α l) % 64

-- one coefficient more, below
horner : (c x u w : ℕ) (cs : List ℕ) → u ≡ poly_at cs x % 64 → w ≡ sum (product u x) (c % 64) → w ≡ poly_at (c ∷ cs) x % 64
unfolding poly_at
horner c x u w cs e q =
    let y : ℕ = poly_at cs x in
    let m : product u x ≡ product x y = ap (λ (t : ℕ). product t x) e ∙ Laws.product_low y x ∙ Laws.product_comm y x in
    q ∙ Laws.sum_comm (product u x) (c % 64)
    ∙ ap (sum (c % 64)) (m ∙ sym (mod-eq_of_lt (Laws.product_lt x y)))
    ∙ sym (Laws.sum_low c (product x y))

last_alone : (c x : ℕ) → c % 64 ≡ poly_at (c ∷ []) x % 64
unfolding poly_at
last_alone c x = ap (λ (t : ℕ). t % 64) (sym (Laws.sum_zero c) ∙ ap (sum c) (sym (Laws.product_zero x)))

last_of : (p : List ℕ) → length p ≡ 6 → drop 5 p ≡ get_or p 5 0 ∷ []
last_of [] e = absurd (omega arith)
last_of (a ∷ []) e = absurd (omega arith)
last_of (a ∷ (b ∷ [])) e = absurd (omega arith)
last_of (a ∷ (b ∷ (c ∷ []))) e = absurd (omega arith)
last_of (a ∷ (b ∷ (c ∷ (d ∷ [])))) e = absurd (omega arith)
last_of (a ∷ (b ∷ (c ∷ (d ∷ (g ∷ []))))) e = absurd (omega arith)
last_of (a ∷ (b ∷ (c ∷ (d ∷ (g ∷ (h ∷ [])))))) e = refl
last_of (a ∷ (b ∷ (c ∷ (d ∷ (g ∷ (h ∷ (i ∷ is))))))) e = absurd (omega arith)

pub taken_last : (p : List ℕ) (v : Planes) → length p ≡ 6 → Everywhere (get_or p 5 0) v → TakenFrom p v 5
taken_last p v n h =
    record {
      most = omega arith;
      at = λ l i. h.at l i ∙ last_alone (get_or p 5 0) (power α l) ∙ ap (λ (cs : List ℕ). poly_at cs (power α l) % 64) (sym (last_of p n));
    }

pub taken_again : (p : List ℕ) (v m b w : Planes) (k j : ℕ) → length p ≡ 6 → TakenFrom p v k → 0 < k → j ≡ k - 1 → PlaceMultiplied v m
    → Everywhere (get_or p j 0) b → Added m b w → TakenFrom p w j
taken_again p v m b w k j n t h e pm ev ad =
    let d : suc j ≡ k = omega arith in
    let i : j < length p = omega arith in
    record {
      most = omega arith;
      at = λ l g.
          let from : element_at v l ≡ poly_at (drop (suc j) p) (power α l) % 64 =
          t.at l g ∙ ap (λ (x : ℕ). poly_at (drop x p) (power α l) % 64) (sym d)
          in
          horner (get_or p j 0) (power α l) (element_at v l) (element_at w l) (drop (suc j) p) from (ad.at l ∙ ap₂ sum (pm.at l g) (ev.at l g))
          ∙ ap (λ (cs : List ℕ). poly_at cs (power α l) % 64) (sym (drop-cons p j 0 i));
    }

pub taken_all : (p : List ℕ) (v : Planes) (k r : ℕ) → TakenFrom p v k → k ≤ 0 → ZerosOf v r → RootsOf p r
taken_all p v k r t n z =
    let e : k ≡ 0 = omega arith in
    let at : (l : ℕ) → l < 63 → element_at v l ≡ poly_at p (power α l) % 64 =
    λ l h. t.at l h ∙ ap (λ (x : ℕ). poly_at (drop x p) (power α l) % 64) e
    in
    record {
      below = z.below;
      root = λ l h b. sym (at l h) ∙ z.zero l h b;
      other = λ l h b q. z.other l h b (at l h ∙ q);
    }

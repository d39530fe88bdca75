-- The turns of the loop over the scans of a spool.
use mathlib.Core.Path.{◌≡◌, refl, sym, ap, ap₂, ◌∙◌}
use mathlib.Core.List.{List, [], ◌∷◌}
use Prim.Native.Nat.{ℕ, zero, suc, ◌+◌, ◌-◌, ◌*◌, ◌<◌, ◌≤◌}
use native.Mathlib.Numerals.{add-one}
use native.Mathlib.Omega.{arith}
use lib.ListN.{length, take, drop}
use lib.Ieee.{Float}
use Rattle.std.specs.Prelude.{Result, Ok, Err}
use Rattle.clarity.specs.declared.Clarity.{Clarity}
use Rattle.clarity.specs.declared.Clarity.TheVariants.{Ratio, NoSpread}
use Rattle.numbers.specs.Parts.{part}
use Rattle.refusal.specs.declared.Refusal.{Refusal}
use Rattle.clarity.specs.declared.Scan.{Scan}
use Rattle.clarity.specs.Scan.{sum_to, answer_of}
use Rattle.clarity.specs.Promises.{kind_of, clarity_numbers, Given, Clarifies, is_ratio, is_no_spread, is_refused, many}
use Rattle.clarity.specs.Inside.{CountedTo, OneMore}
use Rattle.clarity.proofs.Results.{second, no_refusal, same_answer}

-- ---- what the numbers of an answer say of its kind

pub record SameKind (x y : Result Scan Refusal) : Type 0 where
  pub ratio : is_ratio x ≡ is_ratio y
  pub no_spread : is_no_spread x ≡ is_no_spread y
  pub refused : is_refused x ≡ is_refused y

pub same_kind : (x y : Result Scan Refusal) → clarity_numbers x ≡ clarity_numbers y → SameKind x y
same_kind (Ok s) (Ok u) e =
    let k : kind_of s.clarity ≡ kind_of u.clarity = second 0 0 (kind_of s.clarity) (kind_of u.clarity) [] [] e in
    record { ratio = ap (λ (n : ℕ). 1 - n) k; no_spread = k; refused = refl }
same_kind (Ok s) (Err r) e = absurd (no_refusal r (kind_of s.clarity ∷ []) (0 ∷ []) e)
same_kind (Err r) (Ok s) e = absurd (no_refusal r (kind_of s.clarity ∷ []) (0 ∷ []) (sym e))
same_kind (Err r) (Err u) e = record { ratio = refl; no_spread = refl; refused = refl }

pub sum_same : (n : ℕ) (f g : ℕ → ℕ) → ((i : ℕ) → i < n → f i ≡ g i) → sum_to n f ≡ sum_to n g
unfolding sum_to
sum_same zero f g h = refl
sum_same (suc n) f g h = ap₂ ◌+◌ (sum_same n f g (λ i l. h i (omega arith))) (h n (omega arith))

-- ---- one answer more

pub ratio_more : (a : Result Scan Refusal) (s : Scan) (x : Float) (r f e : ℕ) → a ≡ Ok s → s.clarity ≡ Ratio x → OneMore a r f e (r + 1) f e
ratio_more a s x r f e q k = rw (q, k) (record { ratios_are = refl; no_spreads_are = omega arith; refusals_are = omega arith })

pub no_spread_more : (a : Result Scan Refusal) (s : Scan) (r f e : ℕ) → a ≡ Ok s → s.clarity ≡ NoSpread → OneMore a r f e r (f + 1) e
no_spread_more a s r f e q k = rw (q, k) (record { ratios_are = omega arith; no_spreads_are = refl; refusals_are = omega arith })

pub refusal_more : (a : Result Scan Refusal) (x : Refusal) (r f e : ℕ) → a ≡ Err x → OneMore a r f e r f (e + 1)
refusal_more a x r f e q = rw q (record { ratios_are = omega arith; no_spreads_are = omega arith; refusals_are = refl })

-- ---- the first i scans

pub record CountingTo (cells : List ℕ) (t n i r f e : ℕ) : Type 0 where
  pub most : i ≤ n
  pub small : n ≤ 255
  pub long : length cells ≡ n * 378
  pub counted : CountedTo cells t i r f e

pub count_none : (cells : List ℕ) (t n : ℕ) → n ≤ 255 → length cells ≡ n * 378 → CountingTo cells t n 0 0 0 0
unfolding many sum_to
count_none cells t n s l =
    record {
      most = omega arith;
      small = s;
      long = l;
      counted = record { ratios_are = refl; no_spreads_are = refl; refusals_are = refl; add_up = refl };
    }

-- an answer is of one kind
pub one_kind : (a : Result Scan Refusal) → is_ratio a + is_no_spread a + is_refused a ≡ 1
one_kind (Ok s) = of_ratio s.clarity
  where
    of_ratio : (o : Clarity) → 1 - kind_of o + kind_of o + 0 ≡ 1
    of_ratio (Ratio r) = refl
    of_ratio NoSpread = refl
one_kind (Err r) = refl

pub count_more : (cells : List ℕ) (t n i r f e r' f' e' : ℕ) (a : Result Scan Refusal) (g : Given) → CountingTo cells t n i r f e → i < n
    → Clarifies (take (i * 378 + 378 - i * 378) (drop (i * 378) cells)) t (clarity_numbers a) g → OneMore a r f e r' f' e'
    → CountingTo cells t n (i + 1) r' f' e'
unfolding many sum_to
count_more cells t n i r f e r' f' e' a g h l p m =
    record {
      most = omega arith;
      small = h.small;
      long = h.long;
      counted =
          record {
            ratios_are = rw add-one (m.ratios_are ∙ ap₂ ◌+◌ h.counted.ratios_are k.ratio);
            no_spreads_are = rw add-one (m.no_spreads_are ∙ ap₂ ◌+◌ h.counted.no_spreads_are k.no_spread);
            refusals_are = rw add-one (m.refusals_are ∙ ap₂ ◌+◌ h.counted.refusals_are k.refused);
            add_up = omega (arith, m.ratios_are, m.no_spreads_are, m.refusals_are, h.counted.add_up, one_kind a);
          };
    }
  where
    width : i * 378 + 378 - i * 378 ≡ 378
    width = omega arith

    k : SameKind a (answer_of t (part 378 i cells))
    k = same_kind a (answer_of t (part 378 i cells)) (same_answer (part 378 i cells) t (clarity_numbers a) g (rw width at p))

pub count_all : (cells : List ℕ) (t n i r f e : ℕ) → CountingTo cells t n i r f e → n ≤ i → CountedTo cells t n r f e
count_all cells t n i r f e h l = let q : i ≡ n = omega (arith, h.most) in rw q at h.counted

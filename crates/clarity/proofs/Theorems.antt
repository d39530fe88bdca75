-- What is proved of a scan's clarity, in the request's words: nothing is cut off, both numbers are exact as doubles, each quotient is rounded once; how the
-- ratio and the means stand to 0 and to one another; what no spread and a refusal give; and what a spool's counts count.
use mathlib.Core.Path.{◌≡◌, refl, sym, ap, ◌∙◌}
use mathlib.Core.Bool.{false}
use mathlib.Core.List.{List, [], ◌∷◌}
use Prim.Native.Nat.{ℕ, zero, suc, ◌+◌, ◌*◌, ◌^◌, ◌<◌, ◌≤◌}
use native.Mathlib.Nat.{mul-pos}
use native.Mathlib.Omega.{arith}
use lib.Dec.{T, ltb→lt}
use lib.ListN.{length, get_or}
use lib.Ieee.{Float, binary64, round, le}
use lib.Ieee.Order.{round_mono}
use lib.Ieee.Exact.{round_exact}
use lib.Ieee.Back.{round_whole}
use lib.Ieee.Positive.{positive, positive_of_value, between}
use borrow.Author.Tests.{eq-eqb, ne_eqb}
use Rattle.numbers.specs.Below.{AllBelow}
use Rattle.numbers.specs.Parts.{part}
use Rattle.numbers.proofs.Cases.{pos_of_not_zero}
use Rattle.std.specs.Prelude.{Result}
use Rattle.clarity.specs.declared.Clarity.TheVariants.{Ratio, NoSpread}
use Rattle.refusal.specs.declared.Refusal.{Refusal}
use Rattle.refusal.proofs.Ladder.{denied, ◌then◌}
use Rattle.clarity.specs.declared.Scan.{Scan}
use Rattle.clarity.specs.Scan.{cell_count, dark_side, bright_side, on_side, sum_to, count, sum, squares, numerator, denominator, quotient, clarity_of, clarity_in, means_in, answer_of}
use Rattle.clarity.specs.Promises.{clarity_numbers, none, ratio_of, Given, nothing, BothSides, Clarifies, is_ratio, is_no_spread, is_refused, many, Whole, scan_count, CountsSpool}
use Rattle.clarity.specs.Inside.{Tallied}
use Rattle.clarity.proofs.Rounding.{once}
use Rattle.clarity.proofs.Spread.{spread}
use Rattle.clarity.proofs.Bounds.{numerator_le, denominator_le}
use Rattle.clarity.proofs.Tallying.{tallied, bounded}
use Rattle.clarity.proofs.Order.{not_below, difference_positive, ordered}
use Rattle.clarity.proofs.Ways.{refused, clear, declined, counts}
use Rattle.clarity.proofs.Results.{one_scan, one_spool, same_answer}
use Rattle.clarity.proofs.Loops.{one_kind, SameKind, same_kind, sum_same}

-- ---- doubles

-- two whole numbers up to 2^53, as doubles, divided: the exact quotient, rounded once
pub rounded_once : (n d : ℕ) → n ≤ 2 ^ 53 → 0 < d → d ≤ 2 ^ 53 → quotient n d ≡ round binary64 false n d
rounded_once = once

-- who compares two quotients as doubles never has them the wrong way round
pub never_reversed : (n d n' d' : ℕ) → n ≤ 2 ^ 53 → 0 < d → d ≤ 2 ^ 53 → n' ≤ 2 ^ 53 → 0 < d' → d' ≤ 2 ^ 53 → n * d' ≤ n' * d
    → T (le (quotient n d) (quotient n' d'))
never_reversed n d n' d' a b c a' b' c' h =
    rw (once n d a b c, once n' d' a' b' c') (round_mono binary64 n d n' d' b b' h)

-- a quotient of numbers above 0 is a finite double above 0.0
pub above_zero : (n d : ℕ) → 0 < n → n ≤ 2 ^ 53 → 0 < d → d ≤ 2 ^ 53 → T (positive (quotient n d))
above_zero n d p a b c = rw (once n d a b c) (between least (round binary64 false n d) most least-positive most-positive from to)
  where
    least : Float
    least = round binary64 false 1 (2 ^ 53)

    most : Float
    most = round binary64 false (2 ^ 53) 1

    least-positive : T (positive least)
    least-positive = positive_of_value least 1 (2 ^ 53) (round_exact binary64 false 1 (2 ^ 53) 1 1021 (omega arith) (omega arith) (ltb→lt (1 * 2 ^ 1021) (2 ^ 2098) tt) refl) (omega arith)

    most-positive : T (positive most)
    most-positive = positive_of_value most (2 ^ 53) 1 (round_whole binary64 false (2 ^ 53) (omega arith)) (omega arith)

    from : T (le least (round binary64 false n d))
    from = round_mono binary64 1 (2 ^ 53) n d (omega arith) b (omega arith)

    to : T (le (round binary64 false n d) most)
    to = round_mono binary64 n d (2 ^ 53) 1 b (omega arith) (omega arith)

-- ---- a scan: any cells and any threshold

module _ (t : ℕ) (cells : List ℕ) where
  -- 02's letters
  abbrev n1 : ℕ
  n1 = count dark_side t cells

  abbrev s1 : ℕ
  s1 = sum dark_side t cells

  abbrev q1 : ℕ
  q1 = squares dark_side t cells

  abbrev n2 : ℕ
  n2 = count bright_side t cells

  abbrev s2 : ℕ
  s2 = sum bright_side t cells

  abbrev q2 : ℕ
  q2 = squares bright_side t cells

  -- what is subtracted is never the greater, whatever the cells
  pub never_cut : (s1 * n2 ≤ s2 * n1) × ((s1 * s1 ≤ n1 * q1) × (s2 * s2 ≤ n2 * q2))
  unfolding count sum squares
  never_cut = (
    not_below t cells,
    (
      spread (length cells) (λ a. on_side dark_side t (get_or cells a 0)) (λ a. get_or cells a 0),
      spread (length cells) (λ a. on_side bright_side t (get_or cells a 0)) (λ a. get_or cells a 0),
    ),
  )

  -- no spread exactly where the denominator is 0
  pub no_spread : denominator n1 s1 q1 n2 s2 q2 ≡ 0 → clarity_in t cells ≡ NoSpread
  unfolding clarity_in clarity_of
  no_spread z = simp (eq-eqb (denominator n1 s1 q1 n2 s2 q2) 0 z)

  pub a_ratio : (denominator n1 s1 q1 n2 s2 q2 ≡ 0 → ⊥) → clarity_in t cells ≡ Ratio (quotient (numerator n1 s1 n2 s2) (denominator n1 s1 q1 n2 s2 q2))
  unfolding clarity_in clarity_of
  a_ratio some = simp (ne_eqb (denominator n1 s1 q1 n2 s2 q2) 0 some)

  module _ (long : length cells ≡ cell_count) (bytes : AllBelow 256 cells) where
    d : Tallied dark_side t cells n1 s1 q1
    d = tallied dark_side t cells long bytes

    b : Tallied bright_side t cells n2 s2 q2
    b = tallied bright_side t cells long bytes

    -- both numbers are below 2^53
    pub numerator_exact : numerator n1 s1 n2 s2 < 2 ^ 53
    numerator_exact = omega (arith, numerator_le (ordered t cells n1 s1 q1 n2 s2 q2 d b))

    pub denominator_exact : denominator n1 s1 q1 n2 s2 q2 < 2 ^ 53
    denominator_exact = omega (arith, denominator_le (bounded dark_side t cells n1 s1 q1 d) (bounded bright_side t cells n2 s2 q2 b))

    module _ (sides : BothSides t cells) where
      -- each mean is s / n, rounded once
      pub means_rounded : means_in t cells ≡ record { dark = round binary64 false s1 n1; bright = round binary64 false s2 n2 }
      unfolding means_in
      means_rounded =
          rw (
            once s1 n1 (omega (arith, d.low)) sides.some_dark (omega (arith, d.few)),
            once s2 n2 (omega (arith, b.low)) sides.some_bright (omega (arith, b.few)),
          )
          refl

      -- that of the dark cells is not above that of the bright ones, as doubles too
      pub dark_below_bright : T (le (means_in t cells).dark (means_in t cells).bright)
      unfolding means_in
      dark_below_bright =
          never_reversed s1 n1 s2 n2 (omega (arith, d.low)) sides.some_dark (omega (arith, d.few))
          (omega (arith, b.low)) sides.some_bright (omega (arith, b.few)) (not_below t cells)

      numerator-positive : 0 < numerator n1 s1 n2 s2
      numerator-positive =
          let p = difference_positive t cells sides.some_dark sides.some_bright in mul-pos p p

      module _ (some : denominator n1 s1 q1 n2 s2 q2 ≡ 0 → ⊥) where
        -- the ratio is the quotient of numerator and denominator, rounded once
        pub ratio_rounded : clarity_in t cells ≡ Ratio (round binary64 false (numerator n1 s1 n2 s2) (denominator n1 s1 q1 n2 s2 q2))
        ratio_rounded =
            a_ratio some
            ∙ ap Ratio
            (once (numerator n1 s1 n2 s2) (denominator n1 s1 q1 n2 s2 q2) (omega (arith, numerator_exact)) (pos_of_not_zero _ some) (omega (arith, denominator_exact)))

        -- and a finite double above 0.0
        pub ratio_positive : T (positive (ratio_of (clarity_in t cells)))
        ratio_positive =
            rw (a_ratio some)
            (above_zero (numerator n1 s1 n2 s2) (denominator n1 s1 q1 n2 s2 q2) numerator-positive (omega (arith, numerator_exact)) (pos_of_not_zero _ some) (omega (arith, denominator_exact)))

  -- ---- what a call gives

  -- where there is no spread the number is 0, the kind 1, and both means are told
  pub no_spread_given : length cells ≡ cell_count → BothSides t cells → denominator n1 s1 q1 n2 s2 q2 ≡ 0
      → (numbers : List ℕ) (given : Given) → Clarifies cells t numbers given → (numbers ≡ 0 ∷ 1 ∷ []) × (given ≡ record { ratio = none; means = means_in t cells })
  no_spread_given long sides z numbers given p =
      one_scan cells t numbers (0 ∷ 1 ∷ []) given (record { ratio = none; means = means_in t cells }) p (rw (no_spread z) at (clear cells t (long then sides then tt)))

  -- a ratio has the number 0 and the kind 0
  pub ratio_given : length cells ≡ cell_count → BothSides t cells → (denominator n1 s1 q1 n2 s2 q2 ≡ 0 → ⊥)
      → (numbers : List ℕ) (given : Given) → Clarifies cells t numbers given
      → (numbers ≡ 0 ∷ 0 ∷ []) × (given ≡ record { ratio = quotient (numerator n1 s1 n2 s2) (denominator n1 s1 q1 n2 s2 q2); means = means_in t cells })
  ratio_given long sides some numbers given p =
      one_scan cells t numbers (0 ∷ 0 ∷ []) given (record { ratio = quotient (numerator n1 s1 n2 s2) (denominator n1 s1 q1 n2 s2 q2); means = means_in t cells }) p
      (rw (a_ratio some) at (clear cells t (long then sides then tt)))

  -- 1 for another length, and then 20 where a side has no cell; either gives 0.0 three times
  pub length_refused : (length cells ≡ cell_count → ⊥) → (numbers : List ℕ) (given : Given) → Clarifies cells t numbers given → (numbers ≡ 1 ∷ 0 ∷ []) × (given ≡ nothing)
  length_refused n numbers given p = one_scan cells t numbers (1 ∷ 0 ∷ []) given nothing p (refused cells t 0 (denied n))

  pub side_refused : length cells ≡ cell_count → (BothSides t cells → ⊥) → (numbers : List ℕ) (given : Given) → Clarifies cells t numbers given
      → (numbers ≡ 20 ∷ 0 ∷ []) × (given ≡ nothing)
  side_refused long n numbers given p = one_scan cells t numbers (20 ∷ 0 ∷ []) given nothing p (refused cells t 1 (long then denied n))

-- ---- a spool of scans

module _ (cells : List ℕ) (t : ℕ) where
  kinds-add : (m : ℕ) → many is_ratio cells t m + many is_no_spread cells t m + many is_refused cells t m ≡ m
  unfolding many sum_to
  kinds-add zero = refl
  kinds-add (suc m) = let e = kinds-add m in let k = one_kind (answer_of t (part cell_count m cells)) in omega arith

  -- the counts add up to the scans
  pub add_up : (r f e : ℕ) → CountsSpool cells t (0 ∷ r ∷ f ∷ e ∷ []) → r + f + e ≡ scan_count cells
  unfolding CountsSpool
  add_up r f e p =
      let x : r ≡ many is_ratio cells t (scan_count cells) = ap (λ (l : List ℕ). get_or l 0 0) p.1 in
      let y : f ≡ many is_no_spread cells t (scan_count cells) = ap (λ (l : List ℕ). get_or l 1 0) p.1 in
      let z : e ≡ many is_refused cells t (scan_count cells) = ap (λ (l : List ℕ). get_or l 2 0) p.1 in
      let k = kinds-add (scan_count cells) in
      omega arith

  -- they count what the scans answer, one by one, whatever results their promise allows
  pub one_by_one : (answers : ℕ → Result Scan Refusal) (given : ℕ → Given)
      → ((i : ℕ) → i < scan_count cells → Clarifies (part cell_count i cells) t (clarity_numbers (answers i)) (given i))
      → (r f e : ℕ) → CountsSpool cells t (0 ∷ r ∷ f ∷ e ∷ [])
      → (r ≡ sum_to (scan_count cells) (λ i. is_ratio (answers i)))
      × ((f ≡ sum_to (scan_count cells) (λ i. is_no_spread (answers i))) × (e ≡ sum_to (scan_count cells) (λ i. is_refused (answers i))))
  unfolding CountsSpool many
  one_by_one answers given h r f e p =
      let same : (i : ℕ) → i < scan_count cells → SameKind (answer_of t (part cell_count i cells)) (answers i)
      = λ i l. same_kind (answer_of t (part cell_count i cells)) (answers i) (sym (same_answer (part cell_count i cells) t (clarity_numbers (answers i)) (given i) (h i l))) in (
        ap (λ (l : List ℕ). get_or l 0 0) p.1 ∙ sum_same (scan_count cells) _ _ (λ i l. (same i l).ratio),
        (
          ap (λ (l : List ℕ). get_or l 1 0) p.1 ∙ sum_same (scan_count cells) _ _ (λ i l. (same i l).no_spread),
          ap (λ (l : List ℕ). get_or l 2 0) p.1 ∙ sum_same (scan_count cells) _ _ (λ i l. (same i l).refused),
        ),
      )

  -- 1 for a length that is no multiple of 378 or over 96,390, with zeros
  pub spool_refused : (Whole (length cells) → ⊥) → (numbers : List ℕ) → CountsSpool cells t numbers → numbers ≡ 1 ∷ 0 ∷ 0 ∷ 0 ∷ []
  spool_refused d numbers p = one_spool cells t numbers (1 ∷ 0 ∷ 0 ∷ 0 ∷ []) p (declined cells t 0 (denied d))

  -- and no other refusal: of a scan that is refused the call tells in its counts
  pub spool_counted : (w : Whole (length cells)) (numbers : List ℕ) → CountsSpool cells t numbers
      → numbers ≡ 0 ∷ many is_ratio cells t (scan_count cells) ∷ many is_no_spread cells t (scan_count cells) ∷ many is_refused cells t (scan_count cells) ∷ []
  spool_counted w numbers p =
      one_spool cells t numbers _ p
      (counts cells t w _ _ _ (record { ratios_are = refl; no_spreads_are = refl; refusals_are = refl; add_up = kinds-add (scan_count cells) }))

-- no scans give zeros
pub no_scans : (t : ℕ) (numbers : List ℕ) → CountsSpool [] t numbers → numbers ≡ 0 ∷ 0 ∷ 0 ∷ 0 ∷ []
unfolding many sum_to
no_scans t numbers p = spool_counted [] t (record { scans = refl; few = omega arith }) numbers p

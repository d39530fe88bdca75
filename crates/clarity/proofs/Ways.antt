-- The ways out of a scan and of a spool of scans, and that each scan answers as it is said to.
use mathlib.Core.Path.{◌≡◌, refl, sym, ◌∙◌, subst}
use mathlib.Core.Logic.{◌⊎◌, inl, inr, ⊎_elim}
use mathlib.Core.List.{List, [], ◌∷◌}
use Prim.Native.Nat.{ℕ, ◌/◌, ◌%◌, ◌<◌, ◌≤◌}
use native.Mathlib.Omega.{arith}
use lib.ListN.{length}
use lib.Ieee.{Float}
use borrow.Author.Tests.{eq-eqb, ne_eqb}
use Rattle.numbers.proofs.Cases.{same_or_not, pos_of_not_zero}
use Rattle.std.specs.Prelude.{Result, Ok, Err}
use Rattle.clarity.specs.declared.Clarity.{Clarity}
use Rattle.refusal.specs.declared.Refusal.{Refusal}
use Rattle.refusal.specs.declared.Refusal.TheVariants.{InputLength, OneSided}
use Rattle.refusal.proofs.Ladder.{Met, FailsAt, answer_at, refuses, succeeds, declines, replies, denied, ◌then◌}
use Rattle.clarity.specs.declared.Means.{Means}
use Rattle.clarity.specs.declared.Scan.{Scan}
use Rattle.clarity.specs.Scan.{dark_side, bright_side, count, quotient, clarity_of, clarity_in, means_in, scan_in, answer_of}
use Rattle.clarity.specs.Promises.{kind_of, clarity_numbers, ratio_of, Given, given_of, nothing, BothSides, scan_tests, ClearAs, Clarifies, Whole, scan_count, spool_tests, CountedAs, CountsSpool}
use Rattle.clarity.specs.Inside.{Tallied, CountedTo}

module _ (cells : List ℕ) (t : ℕ) where
  pub refused : (n : ℕ) → FailsAt n (scan_tests cells t) → Clarifies cells t (answer_at n (scan_tests cells t) ∷ 0 ∷ []) nothing
  unfolding Clarifies
  refused = refuses (ClearAs cells t) 1 nothing (scan_tests cells t)

  pub clear : Met (scan_tests cells t) → Clarifies cells t (clarity_numbers (Ok (scan_in t cells))) (given_of (Ok (scan_in t cells)))
  unfolding Clarifies
  clear m =
      succeeds (ClearAs cells t) 1 nothing (scan_tests cells t) (kind_of (clarity_in t cells) ∷ []) (given_of (Ok (scan_in t cells))) m (refl, refl)

  -- ---- the returns of the code

  pub no_scan : (length cells ≡ 378 → ⊥) → Clarifies cells t (1 ∷ 0 ∷ []) nothing
  no_scan d = refused 0 (denied d)

  pub one_sided : length cells ≡ 378 → (n1 s1 q1 n2 s2 q2 : ℕ) → Tallied dark_side t cells n1 s1 q1 → Tallied bright_side t cells n2 s2 q2
      → (n1 ≡ 0) ⊎ ((n1 ≡ 0 → ⊥) × (n2 ≡ 0)) → Clarifies cells t (20 ∷ 0 ∷ []) nothing
  one_sided long n1 s1 q1 n2 s2 q2 d b (inl z) = refused 1 (long then denied (λ k. let h = k.some_dark in let i = d.count_is in omega arith))
  one_sided long n1 s1 q1 n2 s2 q2 d b (inr z) = refused 1 (long then denied (λ k. let h = k.some_bright in let i = b.count_is in let e = z.1 in omega arith))

  pub found : length cells ≡ 378 → (n1 s1 q1 n2 s2 q2 : ℕ) → Tallied dark_side t cells n1 s1 q1 → Tallied bright_side t cells n2 s2 q2
      → (n1 ≡ 0 → ⊥) → (n2 ≡ 0 → ⊥) → (x y : Float) → x ≡ quotient s1 n1 → y ≡ quotient s2 n2 → (a : Clarity) → a ≡ clarity_of n1 s1 q1 n2 s2 q2
      → Clarifies cells t (0 ∷ kind_of a ∷ []) (record { ratio = ratio_of a; means = record { dark = x; bright = y } })
  unfolding clarity_in means_in
  found long n1 s1 q1 n2 s2 q2 d b some_dark some_bright x y e f a g = rw (is, means-are) (clear (long then sides then tt))
    where
      sides : BothSides t cells
      sides =
          record {
            some_dark = rw (← d.count_is) (pos_of_not_zero n1 some_dark);
            some_bright = rw (← b.count_is) (pos_of_not_zero n2 some_bright);
          }

      is : a ≡ clarity_in t cells
      is = g ∙ rw (d.count_is, d.sum_is, d.squares_is, b.count_is, b.sum_is, b.squares_is) refl

      means-are : ◌≡◌ {A = Means} (record { dark = x; bright = y }) (means_in t cells)
      means-are = rw (e, f, d.count_is, d.sum_is, b.count_is, b.sum_is) refl

  -- ---- what a scan answers

  no_length : (length cells ≡ 378 → ⊥) → answer_of t cells ≡ Err InputLength
  unfolding answer_of
  no_length d = simp (ne_eqb (length cells) 378 d)

  no-dark : length cells ≡ 378 → count dark_side t cells ≡ 0 → answer_of t cells ≡ Err OneSided
  unfolding answer_of
  no-dark long z = simp (eq-eqb (length cells) 378 long, eq-eqb (count dark_side t cells) 0 z)

  no-bright : length cells ≡ 378 → (count dark_side t cells ≡ 0 → ⊥) → count bright_side t cells ≡ 0 → answer_of t cells ≡ Err OneSided
  unfolding answer_of
  no-bright long d z =
      simp (eq-eqb (length cells) 378 long, ne_eqb (count dark_side t cells) 0 d, eq-eqb (count bright_side t cells) 0 z)

  both-sides : length cells ≡ 378 → (count dark_side t cells ≡ 0 → ⊥) → (count bright_side t cells ≡ 0 → ⊥) → answer_of t cells ≡ Ok (scan_in t cells)
  unfolding answer_of
  both-sides long d b =
      simp (eq-eqb (length cells) 378 long, ne_eqb (count dark_side t cells) 0 d, ne_eqb (count bright_side t cells) 0 b)

  -- some result has the numbers of the answer
  pub record Answered : Type 0 where
    pub given : Given
    pub is : Clarifies cells t (clarity_numbers (answer_of t cells)) given

  by : (a : Result Scan Refusal) (g : Given) → answer_of t cells ≡ a → Clarifies cells t (clarity_numbers a) g → Answered
  by a g e p = record { given = g; is = subst (λ (c : Result Scan Refusal). Clarifies cells t (clarity_numbers c) g) (sym e) p }

  pub answered : Answered
  answered =
      ⊎_elim
      (λ (long : length cells ≡ 378).
      ⊎_elim
      (λ (z : count dark_side t cells ≡ 0).
      by (Err OneSided) nothing (no-dark long z) (refused 1 (long then denied (λ b. let h = b.some_dark in omega arith))))
      (λ (d : count dark_side t cells ≡ 0 → ⊥).
      ⊎_elim
      (λ (z : count bright_side t cells ≡ 0).
      by (Err OneSided) nothing (no-bright long d z) (refused 1 (long then denied (λ b. let h = b.some_bright in omega arith))))
      (λ (b : count bright_side t cells ≡ 0 → ⊥).
      by (Ok (scan_in t cells)) (given_of (Ok (scan_in t cells))) (both-sides long d b)
      (clear (long then record { some_dark = pos_of_not_zero _ d; some_bright = pos_of_not_zero _ b } then tt)))
      (same_or_not (count bright_side t cells) 0))
      (same_or_not (count dark_side t cells) 0))
      (λ (d : length cells ≡ 378 → ⊥). by (Err InputLength) nothing (no_length d) (refused 0 (denied d)))
      (same_or_not (length cells) 378)

  -- ---- a spool

  pub declined : (n : ℕ) → FailsAt n (spool_tests cells) → CountsSpool cells t (answer_at n (spool_tests cells) ∷ 0 ∷ 0 ∷ 0 ∷ [])
  unfolding CountsSpool
  declined = declines (CountedAs cells t) 3 (spool_tests cells)

  pub no_spool : (length cells % 378 ≡ 0 → ⊥) ⊎ ((length cells % 378 ≡ 0) × (96390 < length cells)) → CountsSpool cells t (1 ∷ 0 ∷ 0 ∷ 0 ∷ [])
  no_spool (inl d) = declined 0 (denied (λ w. d w.scans))
  no_spool (inr d) = declined 0 (denied (λ w. let f = w.few in let e = d.1 in omega arith))

  pub counts : Whole (length cells) → (r f e : ℕ) → CountedTo cells t (scan_count cells) r f e → CountsSpool cells t (0 ∷ r ∷ f ∷ e ∷ [])
  unfolding CountsSpool
  counts w r f e c =
      replies (CountedAs cells t) 3 (spool_tests cells) (r ∷ f ∷ e ∷ []) (w then tt) (rw (c.ratios_are, c.no_spreads_are, c.refusals_are) refl)

  pub all_counted : length cells % 378 ≡ 0 → length cells ≤ 96390 → (r f e : ℕ) → CountedTo cells t (length cells / 378) r f e
      → CountsSpool cells t (0 ∷ r ∷ f ∷ e ∷ [])
  all_counted whole few r f e c = counts (record { scans = whole; few = few }) r f e c

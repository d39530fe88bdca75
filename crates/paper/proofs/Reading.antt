-- The ways out of an attempt, of the loop over the number of errors, and of reading.
use mathlib.Core.Path.{◌≡◌, refl, sym, ap, ◌∙◌, subst}
use mathlib.Core.Bool.{Bool, true, false, not}
use mathlib.Core.Logic.{⊎_elim}
use mathlib.Core.List.{List}
use Prim.Native.Nat.{ℕ, min, ◌+◌, ◌-◌, ◌<◌, ◌≤◌}
use native.Mathlib.Omega.{arith}
use lib.ListN.{length, drop}
use borrow.Author.Tests.{not-false}
use Rattle.std.specs.Prelude.{Option, Some, None}
use Rattle.numbers.proofs.Cases.{same_or_not}
use Rattle.refusal.specs.Promise.{Tells}
use Rattle.field.specs.Field.{sum}
use Rattle.field.proofs.Laws
use Rattle.polynomial.specs.Sums.{Places}
use Rattle.polynomial.specs.Polynomial.{Elements}
use Rattle.polynomial.specs.Roots.{Split}
use Rattle.code.specs.Word.{Characters, power_sum, marks, Line, distance, first_changed, last_changed}
use Rattle.code.proofs.Lines.{line_sums, sums_line}
use Rattle.mender.specs.declared.Mended.{Mended}
use Rattle.mender.specs.Mender.{Word, Nearest}
use Rattle.mender.specs.Found.{Clear}
use Rattle.matrix.specs.System.{Solution, Solves}
use Rattle.locations.specs.Roots.{Finds}
use Rattle.line.specs.Promises.{Reads}
use Rattle.line.specs.Inside.{Fit, Answers}
use Rattle.line.proofs.Ways.{reads_long, answered_reads}
use Rattle.paper.specs.Inside.{ErrorsHave, SumRows, PowerRows, Corrects, Attempted, NoneApart}
use Rattle.paper.proofs.Assumed.{powers_regular, sums_regular, located, the_line}

-- ---- the recheck

-- a word is a line where its sums and those of the marks, added, are all 0
pub line_by_zeros : (r s : List ℕ) (b : Bool) → length r ≡ 63 → Characters r → ErrorsHave r s → Tells (Clear s) b → Tells (Line r) b
line_by_zeros r s b long characters have clear =
    record {
      holds = λ q.
          sums_line r long characters
          (λ k h. Laws.sum_eq (power_sum (58 + k) r) (power_sum (58 + k) marks) (sym (have.sum_at k h) ∙ (clear.holds q).zero k h));
      fails = λ q line.
          clear.fails q
          (record { zero = λ k h. have.sum_at k h ∙ ap (λ (v : ℕ). sum v (power_sum (58 + k) marks)) (line_sums r line k h) ∙ Laws.sum_self (power_sum (58 + k) marks) });
    }

-- ---- an attempt

-- n is at most 5, so it counts whole
whole : (n : ℕ) (m : List (List ℕ)) (r : Option (List ℕ)) → n ≤ 5 → Solves (min n 5) m r → Solves n m r
whole n m r few = subst (λ (k : ℕ). Solves k m r) (let e : min n 5 ≡ n = omega arith in e)

module _ (w s : List ℕ) (n : ℕ) (few : n ≤ 5) (word : Word w) (have : ErrorsHave w s) where
  module _ (m : List (List ℕ)) (rows : SumRows s n m) where
    pub unsolved : Solves (min n 5) m None → NoneApart w n
    unsolved solves =
        record {
          none = λ l line apart. (whole n m None few solves).singular refl (sums_regular w s l n few word.long word.characters have line apart m rows);
        }

    module _ (p : List ℕ) (solves : Solves (min n 5) m (Some p)) where
      solution : Solution n m p
      solution = (whole n m (Some p) few solves).found p refl

      pub unlocated : Finds p n None → NoneApart w n
      unlocated finds =
          record { none = λ l line apart. located w s l n few word.long word.characters have line apart m rows p solution finds }

      module _ (roots : List ℕ) (finds : Finds p n (Some roots)) where
        split : Split p n (drop (5 - n) roots)
        split = finds.split roots refl (record { top = solution.top; past = solution.past; small = solution.small })

        -- what was found are places
        pub roots_places : Places (drop (5 - n) roots)
        roots_places = split.places

        module _ (m' : List (List ℕ)) (rows' : PowerRows roots s n m') where
          -- so that there are magnitudes
          pub measured : Solves (min n 5) m' None → NoneApart w n
          measured solves' =
              record {
                none = λ l line apart.
                    (whole n m' None few solves').singular refl (powers_regular roots s n few (finds.long roots refl) roots_places m' rows');
              }

          module _ (vs : List ℕ) (solves' : Solves (min n 5) m' (Some vs)) where
            values : Solution n m' vs
            values = (whole n m' (Some vs) few solves').found vs refl

            -- and these are elements
            pub values_elements : Elements vs
            values_elements = values.small

            module _ (r : List ℕ) (corrects : Corrects w roots vs n r) (again : List ℕ) (have' : ErrorsHave r again) (b : Bool)
                (clear : Tells (Clear again) b) where
              tells : Tells (Line r) b
              tells = line_by_zeros r again b corrects.long corrects.characters have' clear

              pub rechecked : b ≡ true → Attempted w n r
              rechecked q = record { line = tells.holds q; near = corrects.near }

              pub no_line : b ≡ false → NoneApart w n
              no_line q =
                  record {
                    none = λ l line apart.
                        tells.fails q
                        (subst Line
                        (sym (the_line w s l n few word.long word.characters have line apart m rows p solution roots finds m' rows' vs values r corrects))
                        line);
                  }

-- ---- the loop over the number of errors

-- no line differs in fewer than n characters
pub record MissedTo (w : List ℕ) (n : ℕ) : Type 0 where
  pub none : (l : List ℕ) → Line l → distance w l < n → ⊥

pub missed_none : (w : List ℕ) → MissedTo w 0
missed_none w = record { none = λ l line h. omega arith }

pub missed_more : (w : List ℕ) (n : ℕ) → NoneApart w n → MissedTo w n → MissedTo w (n + 1)
missed_more w n a t =
    record {
      none = λ l line h.
          ⊎_elim (λ (e : distance w l ≡ n). a.none l line e) (λ (d : distance w l ≡ n → ⊥). t.none l line (omega (arith, d))) (same_or_not (distance w l) n);
    }

pub nearest_found : (w : List ℕ) (t n : ℕ) (l : List ℕ) (first last : ℕ) → Word w → n ≤ t → MissedTo w n → Attempted w n l
    → first ≡ first_changed w l → last ≡ last_changed w l
    → Nearest Line w t (Some (record { weight = n; first = first; last = last; word = l }))
nearest_found w t n l first last word h missed a ef el =
    record {
      of_word = word;
      is = a.line;
      apart = same (missed.none l a.line) a.near;
      within = h;
      ends = record { from = ef; to = el };
    }
  where
    same : (distance w l < n → ⊥) → distance w l ≤ n → n ≡ distance w l
    same f g = ⊎_elim (λ (e : distance w l ≡ n). sym e) (λ (d : distance w l ≡ n → ⊥). absurd (f (omega (arith, d)))) (same_or_not (distance w l) n)

pub nearest_none : (w : List ℕ) (t n : ℕ) → t < n → MissedTo w n → Nearest Line w t None
nearest_none w t n h missed = record { none = λ _ l line g. missed.none l line (omega arith) }

-- ---- reading

-- the word as it is held, where the tests before reading hold
module _ (w : List ℕ) (t : ℕ) (wanted : Option ℕ) (room : ℕ) (b : Bool) (fits : Tells (Fit w t wanted room) b) (q : not b ≡ false) where
  fit : Fit w t wanted room
  fit = fits.holds (not-false b q)

  pub near_enough : t ≤ 5
  near_enough = fit.near

  module _ (v : List ℕ) (same : v ≡ w) where
    pub held_word : Word v
    held_word = record { long = ap length same ∙ fit.long; characters = subst Characters (sym same) fit.characters }

    pub read_nearest : (old : List ℕ) → room ≡ length old → (m : Option Mended) (numbers new : List ℕ) → Nearest Line v t m → Answers m wanted old numbers new
        → Reads w t wanted old numbers new
    read_nearest old r m numbers new near =
        answered_reads w t wanted old (subst (Fit w t wanted) r fit) m
        (subst (λ (k : ℕ). Nearest Line w k m) (let whole : t ≡ min t 5 = (let h = fit.near in omega arith) in whole)
        (subst (λ (u : List ℕ). Nearest Line u t m) same near))
        numbers new

    -- and the output keeps its length
    pub read_long : (old : List ℕ) → room ≡ length old → (m : Option Mended) (numbers new : List ℕ) → Nearest Line v t m → Answers m wanted old numbers new
        → length new ≡ length old
    read_long old r m numbers new near a = reads_long w t wanted old numbers new (read_nearest old r m numbers new near a)

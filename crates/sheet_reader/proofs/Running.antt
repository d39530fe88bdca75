-- The turns of the loop over the rounds, and its ways out.
use mathlib.Core.Path.{◌≡◌, sym, ap, ◌∙◌, subst}
use mathlib.Core.Bool.{Bool, true, false}
use mathlib.Core.List.{List}
use Prim.Native.Nat.{ℕ, suc, ◌+◌, ◌-◌, ◌<◌, ◌≤◌}
use native.Mathlib.Omega.{arith}
use lib.Dec.{eqb}
use Rattle.std.specs.Cmp.Lexicographic.{pointwise}
use Rattle.std.proofs.lemmas.Bool.{false≢true}
use Rattle.std.proofs.lemmas.Bool.Decides.{Decides-eqb}
use Rattle.std.proofs.lemmas.Slice.Eq.{slice_eq-Decides}
use Rattle.refusal.specs.Promise.{Tells}
use Rattle.sheet.specs.Sheet.{Proper, Round, Rounds, most_rounds}
use Rattle.sheet.specs.Inside.{bare}
use Rattle.sheet.proofs.Entries.{bare_twice}
use Rattle.sheet.proofs.Reading.{proper_round}
use Rattle.sheet_reader.specs.declared.Way.TheVariants.{Lines, Columns}
use Rattle.sheet_reader.specs.declared.SheetReading.TheVariants as S
use Rattle.sheet_reader.specs.Inside.{WordsRead, Settles}
use Rattle.sheet_reader.specs.declared.unmarked.Unmarked.{Unmarked}
use Rattle.sheet_reader.proofs.Loops.{a_round}

-- what the comparison of two sheets tells
pub same_told : (x y : List ℕ) (b : Bool) → b ≡ pointwise eqb x y → b ≡ true → x ≡ y
same_told x y b e q = (slice_eq-Decides Decides-eqb x y b e).0 q

pub other_told : (x y : List ℕ) (b : Bool) → b ≡ pointwise eqb x y → b ≡ false → x ≡ y → ⊥
other_told x y b e q same = false≢true (sym q ∙ (slice_eq-Decides Decides-eqb x y b e).1 same)

-- n rounds from o, each of which changed the sheet, led to s: what rounds follow from there complete a run
pub record RunTo (o s : List ℕ) (n : ℕ) : Type 0 where
  pub most : n ≤ most_rounds
  pub onward : (k : ℕ) (r : List ℕ) → Rounds (most_rounds - n) (bare s) k r → Rounds most_rounds (bare o) (n + k) r

pub run_start : (o : List ℕ) → RunTo o o 0
run_start o = record { most = omega arith; onward = λ k r run. subst (λ (m : ℕ). Rounds most_rounds (bare o) m r) (omega arith) run }

module _ (o : List ℕ) (s : Unmarked) (n : ℕ) (p : RunTo o s.cells n) where
  -- one more may be run
  left : n < most_rounds → most_rounds - n ≡ suc (most_rounds - (n + 1))
  left h = omega arith

  -- a round that ends as it began is the last
  last : n < most_rounds → Round (bare s.cells) (bare s.cells) → Rounds most_rounds (bare o) (n + 1) (bare s.cells)
  last h round = p.onward 1 (bare s.cells) (subst (λ (k : ℕ). Rounds k (bare s.cells) 1 (bare s.cells)) (sym (left h)) (Rounds.settled round))

  -- a proper sheet ends the rounds, one more counted
  pub run_proper : (b : Bool) → n < most_rounds → Tells (Proper (bare s.cells)) b → b ≡ true → Settles o (record { sheet = s; reading = S.Proper (n + 1) })
  run_proper b h told q =
      let proper = told.holds q in
      record { run = last h (proper_round (bare s.cells) proper); tells = proper }

  module _ (b : Bool) (h : n < most_rounds) (told : Tells (Proper (bare s.cells)) b) (q : b ≡ false) (between next : Unmarked)
      (lines : WordsRead Lines s.cells between.cells) (columns : WordsRead Columns between.cells next.cells) where
    round : Round (bare s.cells) (bare next.cells)
    round = a_round s.cells between.cells next.cells s.held between.held next.held lines columns

    -- so does a round that leaves an improper one as it was
    pub run_same : next.cells ≡ s.cells → Settles o (record { sheet = s; reading = S.Improper (n + 1) })
    run_same e =
        record {
          run = last h (subst (λ (x : List ℕ). Round (bare s.cells) (bare x)) e round);
          tells = told.fails q;
        }

    -- and after any other the rounds go on
    pub run_more : (next.cells ≡ s.cells → ⊥) → RunTo o next.cells (n + 1)
    run_more d =
        record {
          most = omega arith;
          onward = λ k r run.
              let whole : Rounds (most_rounds - n) (bare s.cells) (suc k) r =
              subst (λ (j : ℕ). Rounds j (bare s.cells) (suc k) r) (sym (left h)) (Rounds.more round other run) in
              subst (λ (m : ℕ). Rounds most_rounds (bare o) m r) (omega arith) (p.onward (suc k) r whole);
        }
      where
        other : bare next.cells ≡ bare s.cells → ⊥
        other z = d (sym (bare_twice next.cells next.held.long) ∙ ap bare z ∙ bare_twice s.cells s.held.long)

  -- or eight are done
  eight : most_rounds ≤ n → Rounds most_rounds (bare o) most_rounds (bare s.cells)
  eight h =
      let none : most_rounds - n ≡ 0 = omega arith in
      let all : n + 0 ≡ most_rounds = omega arith in
      subst (λ (m : ℕ). Rounds most_rounds (bare o) m (bare s.cells)) all
      (p.onward 0 (bare s.cells) (subst (λ (k : ℕ). Rounds k (bare s.cells) 0 (bare s.cells)) (sym none) Rounds.done))

  pub eight_proper : (b : Bool) → most_rounds ≤ n → Tells (Proper (bare s.cells)) b → b ≡ true → Settles o (record { sheet = s; reading = S.Proper 8 })
  eight_proper b h told q = record { run = eight h; tells = told.holds q }

  pub eight_improper : (b : Bool) → most_rounds ≤ n → Tells (Proper (bare s.cells)) b → b ≡ false → Settles o (record { sheet = s; reading = S.Improper 8 })
  eight_improper b h told q = record { run = eight h; tells = told.fails q }

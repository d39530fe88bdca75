-- The tests of a sheet without its marks: whether a word, and the words of one way, are clean, whether the sheet is proper, and whether two are the same.
use mathlib.Core.Path.{◌≡◌, sym, ◌∙◌, subst}
use mathlib.Core.Bool.{Bool, true, false, not}
use mathlib.Core.List.{List}
use Prim.Native.Nat.{ℕ, ◌+◌, ◌<◌, ◌≤◌}
use native.Mathlib.Omega.{arith}
use borrow.Author.Count.{below_more}
use borrow.Author.Tests.{not-true, not-false}
use Rattle.refusal.specs.Promise.{Tells}
use Rattle.refusal.proofs.Laws.{tells_yes, tells_no}
use Rattle.code.specs.Word.{Clean}
use Rattle.code.specs.Inside.{PowerSums}
use Rattle.mender.specs.Mender.{Word}
use Rattle.mender.specs.Found.{Clear}
use Rattle.sheet.specs.Sheet.{Proper}
use Rattle.sheet.specs.Inside.{bare}
use Rattle.sheet.proofs.Forced.{bare_forced, bare_proper}
use Rattle.sheet_reader.specs.declared.Way.{Way}
use Rattle.sheet_reader.specs.declared.Way.TheVariants.{Lines, Columns}
use Rattle.sheet_reader.specs.Inside.{word_of, WordsClean}
use Rattle.sheet_reader.specs.Unmarked.{Held}
use Rattle.sheet_reader.proofs.Words.{word_long, word_characters}

-- ---- a word

-- it is clean where its eleven sums are 0
pub clean_told : (w sums : List ℕ) (b : Bool) → Word w → PowerSums w sums → Tells (Clear sums) b → Tells (Clean w) b
clean_told w sums b word power clear =
    record {
      holds = λ q. record { long = word.long; characters = word.characters; sums = λ k h. sym (power.sum_at k h) ∙ (clear.holds q).zero k h };
      fails = λ q clean. clear.fails q (record { zero = λ k h. power.sum_at k h ∙ clean.sums k h });
    }

-- ---- the words of one way

pub record CleanTo (way : Way) (s : List ℕ) (i : ℕ) : Type 0 where
  pub done : (j : ℕ) → j < i → Clean (word_of way j s)

pub clean_start : (way : Way) (s : List ℕ) → CleanTo way s 0
clean_start way s = record { done = λ j l. absurd (omega arith) }

module _ (way : Way) (s : List ℕ) (i : ℕ) (w : List ℕ) (p : CleanTo way s i) (taken : w ≡ word_of way i s) where
  pub a_word : Held s → i < 63 → Word w
  a_word held h = subst Word (sym taken) (record { long = word_long way s i held.long h; characters = word_characters way s i held.long held.low h })

  module _ (b : Bool) (told : Tells (Clean w) b) where
    at-word : Tells (Clean (word_of way i s)) b
    at-word = subst (λ (c : List ℕ). Tells (Clean c) b) taken told

    pub clean_again : not b ≡ false → CleanTo way s (i + 1)
    clean_again q = record { done = below_more (λ j. Clean (word_of way j s)) i p.done (at-word.holds (not-false b q)) }

    pub unclean : (n : ℕ) → i < n → not b ≡ true → Tells (WordsClean way n s) false
    unclean n h q = tells_no (λ all. at-word.fails (not-true b q) (all.words i h))

pub clean_all : (way : Way) (s : List ℕ) (n i : ℕ) → n ≤ i → CleanTo way s i → Tells (WordsClean way n s) true
clean_all way s n i h p = tells_yes (record { words = λ j l. p.done j (omega arith) })

-- ---- the sheet

-- 52 clean lines and clean columns are a proper sheet, and all lines and columns of one are clean
module _ (s : List ℕ) (h : Held s) (b : Bool) (lines : Tells (WordsClean Lines 52 s) b) where
  pub no_lines : not b ≡ true → Tells (Proper (bare s)) false
  no_lines q =
      tells_no
      (λ proper.
      lines.fails (not-true b q) (record { words = λ i l. (bare_proper s proper h.long).0 i (omega arith) }))

  pub by_columns : (c : Bool) → not b ≡ false → Tells (WordsClean Columns 63 s) c → Tells (Proper (bare s)) c
  by_columns c q columns =
      record {
        holds = λ e.
            bare_forced s h.long h.low (lines.holds (not-false b q)).words (columns.holds e).words;
        fails = λ e proper. columns.fails e (record { words = (bare_proper s proper h.long).1 });
      }

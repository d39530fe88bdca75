-- The sheet that is written: 52 lines, their columns completed, make the proper sheet with those texts and numbers.
use mathlib.Core.Path.{◌≡◌, sym, ap, ◌∙◌, subst}
use mathlib.Core.List.{List}
use Prim.Native.Nat.{ℕ, ◌<◌}
use native.Mathlib.Omega.{arith}
use lib.ListN.{get_or}
use lib.Seq.{get_or-take}
use Rattle.code.specs.Word.{Characters, Clean, added, marks, text, number}
use Rattle.code.proofs.Words.{same_word, added_twice}
use Rattle.code.proofs.Lines
use Rattle.sheet.specs.Sheet.{line_of}
use Rattle.sheet.specs.Inside.{bare, plain_column}
use Rattle.sheet.proofs.Entries.{line_get, line_long, characters_of_columns, plain_get, bare_long, bare_line, bare_characters}
use Rattle.sheet.proofs.Forced.{bare_forced}
use Rattle.sheet_encoder.specs.Promises.{SheetWith}
use Rattle.sheet_encoder.specs.Inside.{FirstLines, AllComplete}

-- the first lines, marks off, have characters
pub unmarked_low : (texts numbers f u : List ℕ) → FirstLines texts numbers f → u ≡ bare f → Characters u
unmarked_low texts numbers f u first e = subst Characters (sym e) (bare_characters f first.long first.low)

module _ (texts numbers f c : List ℕ) (first : FirstLines texts numbers f) (all : AllComplete (bare f) c) where
  c-low : Characters c
  c-low = characters_of_columns c all.long (λ a h. (all.columns a h).clean.characters)

  -- completing a column leaves its first 52 characters
  column_left : (i a : ℕ) → i < 52 → a < 63 → get_or (plain_column a c) i 0 ≡ get_or (plain_column a (bare f)) i 0
  column_left i a hi ha =
      sym (get_or-take 52 (plain_column a c) i 0 hi) ∙ ap (λ (w : List ℕ). get_or w i 0) (all.columns a ha).begins
      ∙ get_or-take 52 (plain_column a (bare f)) i 0 hi

  -- so the first 52 lines are left, marks off
  line_left : (i : ℕ) → i < 52 → line_of i c ≡ added (line_of i f) marks
  line_left i h =
      same_word (line_of i c) (line_of i (bare f)) (line_long c i all.long (omega arith)) (line_long (bare f) i (bare_long f) (omega arith))
      (λ a l.
      line_get c i a l ∙ sym (plain_get c a i (omega arith)) ∙ column_left i a h l ∙ plain_get (bare f) a i (omega arith) ∙ sym (line_get (bare f) i a l))
      ∙ bare_line f first.long i (omega arith)

  -- and with the marks on
  line_kept : (i : ℕ) → i < 52 → line_of i (bare c) ≡ line_of i f
  line_kept i h =
      bare_line c all.long i (omega arith) ∙ ap (λ (w : List ℕ). added w marks) (line_left i h)
      ∙ added_twice (line_of i f) marks (line_long f i first.long (omega arith) ∙ sym Lines.marks_long)

  pub completed_sheet : SheetWith texts numbers (bare c)
  completed_sheet =
      record {
        proper =
            bare_forced c all.long c-low (λ i h. subst Clean (sym (line_left i h)) (Lines.unmarked (line_of i f) (first.lines i h).line))
            (λ a h. (all.columns a h).clean);
        its_texts = λ i h. ap text (line_kept i h) ∙ (first.lines i h).its_text;
        its_numbers = λ i h. ap number (line_kept i h) ∙ (first.lines i h).its_number;
      }

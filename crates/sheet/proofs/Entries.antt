-- Sheets by their entries: lines and columns, the marks taken off and put on, and that the columns fix a sheet.
use mathlib.Core.Path.{◌≡◌, sym, ap, ◌∙◌, subst}
use mathlib.Core.List.{List}
use Prim.Native.Nat.{ℕ, ◌+◌, ◌*◌, ◌/◌, ◌%◌, ◌<◌}
use native.Mathlib.Omega.{arith}
use native.Mathlib.Nat.{le_of_eq}
use lib.ListN.{length, get_or}
use lib.Seq.{ext_get_or, get_or-take, get_or-drop}
use Rattle.numbers.proofs.Parts.{part_long}
use Rattle.field.specs.Field.{sum}
use Rattle.field.proofs.Laws
use Rattle.code.specs.Word.{Characters, added, marks}
use Rattle.code.proofs.Words.{same_word, listed_long, listed_get, characters_below, length_added, added_get}
use Rattle.code.proofs.Lines.{marks_long, marks_characters}
use Rattle.sheet.specs.Sheet.{characters, line_of, column_of}
use Rattle.sheet.specs.Inside.{bare, plain_column}

-- ---- lines

pub line_get : (s : List ℕ) (i a : ℕ) → a < 63 → get_or (line_of i s) a 0 ≡ get_or s (i * 63 + a) 0
line_get s i a h = rw (get_or-take, get_or-drop)

pub line_long : (s : List ℕ) (i : ℕ) → length s ≡ characters → i < 63 → length (line_of i s) ≡ 63
line_long s i long h = part_long 63 63 i s h long

pub line_characters : (s : List ℕ) (i : ℕ) → length s ≡ characters → Characters s → i < 63 → Characters (line_of i s)
line_characters s i long c h =
    characters_below (line_of i s) 63 (le_of_eq (line_long s i long h)) (λ a l. subst (λ (v : ℕ). v < 64) (sym (line_get s i a l)) (c (i * 63 + a)))

-- what holds of every place of a line holds of every place of the sheet
pub by_places : (P : ℕ → Type 0) → ((i a : ℕ) → i < 63 → a < 63 → P (i * 63 + a)) → (k : ℕ) → k < characters → P k
by_places P h k l =
    let e : k / 63 * 63 + k % 63 ≡ k = omega arith in
    subst P e (h (k / 63) (k % 63) (omega arith) (omega arith))

-- a sheet whose lines have characters has characters
pub characters_of_lines : (s : List ℕ) → length s ≡ characters → ((i : ℕ) → i < 63 → Characters (line_of i s)) → Characters s
characters_of_lines s long h =
    characters_below s characters (le_of_eq long)
    (by_places (λ k. get_or s k 0 < 64) (λ i a hi ha. subst (λ (v : ℕ). v < 64) (line_get s i a ha) (h i hi a)))

-- ---- columns as they stand

pub plain_long : (s : List ℕ) (a : ℕ) → length (plain_column a s) ≡ 63
unfolding plain_column
plain_long s a = listed_long (λ i. get_or s (i * 63 + a) 0) 0 63

pub plain_get : (s : List ℕ) (a i : ℕ) → i < 63 → get_or (plain_column a s) i 0 ≡ get_or s (i * 63 + a) 0
unfolding plain_column
plain_get s a i h = listed_get (λ i. get_or s (i * 63 + a) 0) 63 i h

pub plain_characters : (s : List ℕ) (a : ℕ) → Characters s → Characters (plain_column a s)
plain_characters s a c =
    characters_below (plain_column a s) 63 (le_of_eq (plain_long s a)) (λ i l. subst (λ (v : ℕ). v < 64) (sym (plain_get s a i l)) (c (i * 63 + a)))

-- a sheet whose columns have characters has characters
pub characters_of_columns : (s : List ℕ) → length s ≡ characters → ((a : ℕ) → a < 63 → Characters (plain_column a s)) → Characters s
characters_of_columns s long h =
    characters_below s characters (le_of_eq long)
    (by_places (λ k. get_or s k 0 < 64) (λ i a hi ha. subst (λ (v : ℕ). v < 64) (plain_get s a i hi) (h a ha i)))

-- sheets with the same columns are one
pub same_plain : (r s : List ℕ) → length r ≡ characters → length s ≡ characters → ((a : ℕ) → a < 63 → plain_column a r ≡ plain_column a s) → r ≡ s
same_plain r s lr ls h =
    ext_get_or 0 r s (lr ∙ sym ls)
    (λ k l.
    by_places (λ k. get_or r k 0 ≡ get_or s k 0)
    (λ i a hi ha. sym (plain_get r a i hi) ∙ ap (λ (c : List ℕ). get_or c i 0) (h a ha) ∙ plain_get s a i hi) k (subst (λ (n : ℕ). k < n) lr l))

-- ---- columns, each line's marks taken off

pub column_long : (s : List ℕ) (a : ℕ) → length (column_of a s) ≡ 63
unfolding column_of
column_long s a = listed_long (λ i. get_or (added (line_of i s) marks) a 0) 0 63

pub column_get : (s : List ℕ) (a i : ℕ) → i < 63 → get_or (column_of a s) i 0 ≡ get_or (added (line_of i s) marks) a 0
unfolding column_of
column_get s a i h = listed_get (λ i. get_or (added (line_of i s) marks) a 0) 63 i h

-- ---- the marks of all lines

pub bare_long : (s : List ℕ) → length (bare s) ≡ characters
unfolding bare
bare_long s = listed_long (λ k. sum (get_or s k 0) (get_or marks (k % 63) 0)) 0 characters

bare_get : (s : List ℕ) (i a : ℕ) → i < 63 → a < 63 → get_or (bare s) (i * 63 + a) 0 ≡ sum (get_or s (i * 63 + a) 0) (get_or marks a 0)
unfolding bare
bare_get s i a hi ha =
    let e : (i * 63 + a) % 63 ≡ a = omega arith in
    listed_get (λ k. sum (get_or s k 0) (get_or marks (k % 63) 0)) characters (i * 63 + a) (omega arith)
    ∙ ap (λ (b : ℕ). sum (get_or s (i * 63 + a) 0) (get_or marks b 0)) e

module _ (s : List ℕ) (long : length s ≡ characters) where
  marked-get : (i a : ℕ) → i < 63 → a < 63 → get_or (added (line_of i s) marks) a 0 ≡ sum (get_or s (i * 63 + a) 0) (get_or marks a 0)
  marked-get i a hi ha =
      added_get (line_of i s) marks (line_long s i long hi ∙ sym marks_long) a ∙ ap (λ (v : ℕ). sum v (get_or marks a 0)) (line_get s i a ha)

  -- a sheet without its marks has lines without their marks
  pub bare_line : (i : ℕ) → i < 63 → line_of i (bare s) ≡ added (line_of i s) marks
  bare_line i hi =
      same_word (line_of i (bare s)) (added (line_of i s) marks) (line_long (bare s) i (bare_long s) hi) (marked-long i hi)
      (λ a ha. line_get (bare s) i a ha ∙ bare_get s i a hi ha ∙ sym (marked-get i a hi ha))
    where
      marked-long : (i : ℕ) → i < 63 → length (added (line_of i s) marks) ≡ 63
      marked-long i hi = length_added (line_of i s) marks (line_long s i long hi ∙ sym marks_long) ∙ line_long s i long hi

  -- what is taken off can be put on again
  pub bare_twice : bare (bare s) ≡ s
  bare_twice =
      ext_get_or 0 (bare (bare s)) s (bare_long (bare s) ∙ sym long)
      (λ k l.
      by_places (λ k. get_or (bare (bare s)) k 0 ≡ get_or s k 0)
      (λ i a hi ha.
      bare_get (bare s) i a hi ha ∙ ap (λ (v : ℕ). sum v (get_or marks a 0)) (bare_get s i a hi ha)
      ∙ Laws.sum_assoc (get_or s (i * 63 + a) 0) (get_or marks a 0) (get_or marks a 0)
      ∙ ap (sum (get_or s (i * 63 + a) 0)) (Laws.sum_self (get_or marks a 0)) ∙ Laws.sum_zero (get_or s (i * 63 + a) 0))
      k (subst (λ (n : ℕ). k < n) (bare_long (bare s)) l))

  pub bare_characters : Characters s → Characters (bare s)
  bare_characters c =
      characters_below (bare s) characters (le_of_eq (bare_long s))
      (by_places (λ k. get_or (bare s) k 0 < 64)
      (λ i a hi ha.
      subst (λ (v : ℕ). v < 64) (sym (bare_get s i a hi ha)) (Laws.sum_lt (get_or s (i * 63 + a) 0) (get_or marks a 0) (c (i * 63 + a)) (marks_characters a))))

  -- a column, each line's marks taken off, is a column of the sheet without its marks
  pub column_bare : (a : ℕ) → a < 63 → column_of a s ≡ plain_column a (bare s)
  column_bare a ha =
      same_word (column_of a s) (plain_column a (bare s)) (column_long s a) (plain_long (bare s) a)
      (λ i hi.
      column_get s a i hi ∙ marked-get i a hi ha ∙ sym (bare_get s i a hi ha) ∙ sym (plain_get (bare s) a i hi))

-- and where the marks are off, such a column of the sheet with its marks is one as it stands
pub bare_column : (s : List ℕ) (a : ℕ) → length s ≡ characters → a < 63 → column_of a (bare s) ≡ plain_column a s
bare_column s a long ha = column_bare (bare s) (bare_long s) a ha ∙ ap (plain_column a) (bare_twice s long)

-- sheets with the same columns, marks off, are one
pub same_columns : (r s : List ℕ) → length r ≡ characters → length s ≡ characters → ((a : ℕ) → a < 63 → column_of a r ≡ column_of a s) → r ≡ s
same_columns r s lr ls h =
    sym (bare_twice r lr)
    ∙ ap bare (same_plain (bare r) (bare s) (bare_long r) (bare_long s) (λ a ha. sym (column_bare r lr a ha) ∙ h a ha ∙ column_bare s ls a ha))
    ∙ bare_twice s ls

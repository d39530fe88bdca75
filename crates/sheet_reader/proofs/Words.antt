-- The words of a sheet, be they lines or columns: how long they are, that they have characters, and what writing one does.
use mathlib.Core.Path.{◌≡◌, ap, ◌∙◌}
use mathlib.Core.Logic.{⊎_elim}
use mathlib.Core.List.{List, ◌++◌}
use Prim.Native.Nat.{ℕ, ◌+◌, ◌-◌, ◌*◌, ◌<◌, ◌≤◌}
use native.Mathlib.Omega.{arith}
use borrow.Rule.Slice.PartMut.{put_mid}
use lib.ListN.{length, take, drop}
use Rattle.numbers.proofs.Cases.{le_or_lt}
use Rattle.numbers.proofs.Parts.{replaced_long, part_same, part_before, part_after}
use Rattle.code.specs.Word.{Characters}
use Rattle.sheet.specs.Sheet.{characters}
use Rattle.sheet.specs.Inside.{ColumnPut}
use Rattle.sheet.proofs.Entries.{line_long, line_characters, characters_of_lines, plain_long, plain_characters, characters_of_columns}
use Rattle.sheet_reader.specs.declared.Way.{Way}
use Rattle.sheet_reader.specs.declared.Way.TheVariants.{Lines, Columns}
use Rattle.sheet_reader.specs.Inside.{word_of, WordPut}

pub word_long : (way : Way) (s : List ℕ) (i : ℕ) → length s ≡ characters → i < 63 → length (word_of way i s) ≡ 63
word_long Lines s i long h = line_long s i long h
word_long Columns s i long h = plain_long s i

pub word_characters : (way : Way) (s : List ℕ) (i : ℕ) → length s ≡ characters → Characters s → i < 63 → Characters (word_of way i s)
word_characters Lines s i long c h = line_characters s i long c h
word_characters Columns s i long c h = plain_characters s i c

-- a sheet whose words have characters has characters
pub characters_of_words : (way : Way) (s : List ℕ) → length s ≡ characters → ((i : ℕ) → i < 63 → Characters (word_of way i s)) → Characters s
characters_of_words Lines s long h = characters_of_lines s long h
characters_of_words Columns s long h = characters_of_columns s long h

-- ---- a line taken out, and a word written

pub line_taken : (s line : List ℕ) (i : ℕ) → line ≡ take (i * 63 + 63 - i * 63) (drop (i * 63) s) → line ≡ word_of Lines i s
line_taken s line i e = let w : i * 63 + 63 - i * 63 ≡ 63 = omega arith in e ∙ ap (λ (k : ℕ). take k (drop (i * 63) s)) w

pub line_put : (word s last : List ℕ) (i : ℕ) → i < 63 → length s ≡ characters → length word ≡ 63 → last ≡ word
    → WordPut Lines word i s (put_mid (i * 63) (i * 63 + 63 - i * 63) s last)
line_put word s last i h long size e = rw width turn
  where
    width : i * 63 + 63 - i * 63 ≡ 63
    width = omega arith

    as-long : length last ≡ 63
    as-long = ap length e ∙ size

    turn : WordPut Lines word i s (take (i * 63) s ++ (last ++ drop 63 (drop (i * 63) s)))
    turn =
        record {
          long = replaced_long 63 s last i 63 h long as-long;
          here = part_same 63 s last i 63 h long as-long ∙ e;
          elsewhere = λ j b d.
              ⊎_elim (λ (l : i ≤ j). part_after 63 s last i 63 h long as-long j (after j l d))
              (λ (l : j < i). part_before 63 s last i 63 h long as-long j l) (le_or_lt i j);
        }
      where
        after : (j : ℕ) → i ≤ j → (j ≡ i → ⊥) → i < j
        after j l d = omega arith

pub column_put : (word s new : List ℕ) (i : ℕ) → i < 63 → length s ≡ characters → ColumnPut word i s new → WordPut Columns word i s new
column_put word s new i h long put =
    record { long = put.long ∙ long; here = put.here long h; elsewhere = λ j b d. put.elsewhere long j b d }

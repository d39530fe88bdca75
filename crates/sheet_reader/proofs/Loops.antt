-- The turns of the loop over the lines or the columns of a sheet without its marks, and the round that the two make.
use mathlib.Core.Path.{◌≡◌, sym, ◌∙◌, subst, refl}
use mathlib.Core.Logic.{inl, inr, ⊎_elim}
use mathlib.Core.List.{List}
use Prim.Native.Nat.{ℕ, ◌+◌, ◌<◌, ◌≤◌}
use native.Mathlib.Omega.{arith}
use borrow.Author.Count.{below_more}
use lib.ListN.{length}
use Rattle.std.specs.Prelude.{Option, Some, None}
use Rattle.numbers.proofs.Cases.{le_or_lt}
use Rattle.code.specs.Word.{Characters, Clean, Line, added, marks}
use Rattle.mender.specs.declared.Mended.{Mended}
use Rattle.mender.specs.Mender.{NearestClean}
use Rattle.sheet.specs.Sheet.{characters, line_of, column_of, Kept, Round}
use Rattle.sheet.specs.Inside.{bare}
use Rattle.sheet.proofs.Entries.{line_long, bare_long, bare_line, bare_column}
use Rattle.sheet.proofs.Reading.{kept_clean_characters, kept_marked}
use Rattle.sheet_reader.specs.declared.Way.{Way}
use Rattle.sheet_reader.specs.declared.Way.TheVariants.{Lines, Columns}
use Rattle.sheet_reader.specs.Inside.{word_of, WordPut, WordsRead}
use Rattle.sheet_reader.specs.Unmarked.{Held}
use Rattle.sheet_reader.proofs.Words.{word_long, word_characters, characters_of_words}

-- ---- one word

-- what was found is kept
found_kept : (w : List ℕ) (m : Mended) → NearestClean w 5 (Some m) → Kept Clean w m.word
found_kept w m near = inl (near.is, (let d = near.apart in let t = near.within in omega arith))

-- and where nothing was, the word itself
none_kept : (w : List ℕ) → NearestClean w 5 None → length w ≡ 63 → Characters w → Kept Clean w w
none_kept w near long low = inr (λ u c d. near.none (record { long = long; characters = low }) u c d, refl)

-- ---- the words of one way

-- the first i are read, and the others are as they were
pub record ReadTo (way : Way) (o s : List ℕ) (i : ℕ) : Type 0 where
  pub most : i ≤ 63
  pub long : length s ≡ characters
  pub done : (j : ℕ) → j < i → Kept Clean (word_of way j o) (word_of way j s)
  pub rest : (j : ℕ) → i ≤ j → j < 63 → word_of way j s ≡ word_of way j o

pub read_none : (way : Way) (o : List ℕ) → Held o → ReadTo way o o 0
read_none way o h = record { most = omega arith; long = h.long; done = λ j l. absurd (omega arith); rest = λ j l g. refl }

module _ (way : Way) (o s : List ℕ) (i : ℕ) (w : List ℕ) (p : ReadTo way o s i) (h : i < 63) (taken : w ≡ word_of way i s) where
  pub read_left : (r : List ℕ) → Held o → NearestClean w 5 None → r ≡ s → ReadTo way o r (i + 1)
  read_left r was near e =
      subst (λ (x : List ℕ). ReadTo way o x (i + 1)) (sym e)
      record {
        most = omega arith;
        long = p.long;
        done = below_more (λ j. Kept Clean (word_of way j o) (word_of way j s)) i p.done
            (subst (Kept Clean (word_of way i o)) (sym (p.rest i (omega arith) h))
            (none_kept (word_of way i o) (subst (λ (c : List ℕ). NearestClean c 5 None) (taken ∙ p.rest i (omega arith) h) near) (word_long way o i was.long h)
            (word_characters way o i was.long was.low h)));
        rest = λ j l g. p.rest j (omega arith) g;
      }

  pub read_put : (found : Option Mended) (m : Mended) (last r : List ℕ) → NearestClean w 5 found → found ≡ Some m → WordPut way m.word i s last → r ≡ last → ReadTo way o r (i + 1)
  read_put found m last r near is put e =
      let some : NearestClean w 5 (Some m) = subst (NearestClean w 5) is near in
      subst (λ (x : List ℕ). ReadTo way o x (i + 1)) (sym e)
      record {
        most = omega arith;
        long = put.long;
        done = below_more (λ j. Kept Clean (word_of way j o) (word_of way j last)) i
            (λ j l. subst (Kept Clean (word_of way j o)) (sym (put.elsewhere j (omega arith) (λ e. omega arith))) (p.done j l))
            (subst (Kept Clean (word_of way i o)) (sym put.here)
            (found_kept (word_of way i o) m (subst (λ (c : List ℕ). NearestClean c 5 (Some m)) (taken ∙ p.rest i (omega arith) h) some)));
        rest = λ j l g. put.elsewhere j g (λ e. omega arith) ∙ p.rest j (omega arith) g;
      }

module _ (way : Way) (o s : List ℕ) (i : ℕ) (p : ReadTo way o s i) where
  pub read_all : 63 ≤ i → WordsRead way o s
  read_all h = record { words = λ j l. p.done j (omega arith) }

  -- what is read has characters, as the sheet had, and so has the rest
  pub read_held : Held o → Held s
  read_held was = record { long = p.long; low = characters_of_words way s p.long word_low }
    where
      word_low : (j : ℕ) → j < 63 → Characters (word_of way j s)
      word_low j l =
          ⊎_elim (λ (after : i ≤ j). subst Characters (sym (p.rest j after l)) (word_characters way o j was.long was.low l))
          (λ (read : j < i). kept_clean_characters (word_of way j o) (word_of way j s) (word_characters way o j was.long was.low l) (p.done j read)) (le_or_lt i j)

-- ---- a round

-- with the marks put on again, the lines are read as lines, and then the columns
pub a_round : (s m r : List ℕ) → Held s → Held m → Held r → WordsRead Lines s m → WordsRead Columns m r → Round (bare s) (bare r)
a_round s m r h mid end lines columns =
    record {
      between = bare m;
      between_long = bare_long m;
      lines = λ i l.
          subst (λ (w : List ℕ). Kept Line w (line_of i (bare m))) (sym (bare_line s h.long i l))
          (subst (Kept Line (added (line_of i s) marks)) (sym (bare_line m mid.long i l))
          (kept_marked (line_of i s) (line_of i m) (line_long s i h.long l) (lines.words i l)));
      long = bare_long r;
      columns = λ a l.
          subst (λ (w : List ℕ). Kept Clean w (column_of a (bare r))) (sym (bare_column m a mid.long l))
          (subst (Kept Clean (word_of Columns a m)) (sym (bare_column r a end.long l)) (columns.words a l));
    }

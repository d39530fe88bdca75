-- The numbers told, and the turns of the loops of encoding a sheet: lines written, columns completed; and how one column is.
use mathlib.Core.Path.{◌≡◌, refl, sym, ap, ◌∙◌, subst}
use mathlib.Core.Bool.{Bool}
use mathlib.Core.Logic.{⊎_elim}
use mathlib.Core.List.{List, [], ◌∷◌, ◌++◌}
use Prim.Native.Nat.{ℕ, zero, suc, ◌+◌, ◌-◌, ◌*◌, ◌/◌, ◌<◌, ◌≤◌}
use native.Mathlib.Nat.{le_of_eq}
use native.Mathlib.Omega.{arith}
use borrow.Author.Count.{below_more}
use lib.ListN.{length, get_or, take, drop, replicate, get_or-eq_default}
use lib.Seq.{drop-drop, get_or-take, get_or-drop, take_at, length-take-le}
use Rattle.std.specs.List.{AllPass, list_all}
use Rattle.std.specs.Simd.{first_chunks}
use Rattle.std.proofs.Common.{leb}
use Rattle.std.proofs.lemmas.Bool.{leb-true, le-leb, false≢true}
use Rattle.std.proofs.lemmas.List.Sums.{AllPass-from_list_all, list_all-from_AllPass}
use Rattle.numbers.specs.Below.{AllBelow}
use Rattle.numbers.specs.Parts.{part}
use Rattle.numbers.proofs.Cases.{le_or_lt}
use Rattle.numbers.proofs.Parts.{part_long, replaced, replaced_long, part_same, part_before, part_after}
use Rattle.refusal.specs.Promise.{Tells}
use Rattle.refusal.proofs.Laws.{one_answer}
use Rattle.refusal.proofs.Ladder.{met_answer, given, ◌then◌}
use Rattle.code.specs.Word.{Characters, Clean, Line, added, marks}
use Rattle.code.proofs.Words.{characters_below, zero_get, take_added, added_none}
use Rattle.code.proofs.Lines
use Rattle.encoder.specs.Division.{remainder}
use Rattle.encoder.specs.Register.{checks_of}
use Rattle.encoder.specs.Promises.{LineWith, Encodes, encoding_tests}
use Rattle.encoder.specs.Inside.{InformationOf, Ended, LinePut}
use Rattle.encoder.proofs.Encoding.{characters_take, line_of_lem}
use Rattle.encoder.proofs.Loops.{ended_so, the_line}
use Rattle.sheet.specs.Sheet.{characters, line_of}
use Rattle.sheet.specs.Inside.{MarksAdded, plain_column, ColumnPut}
use Rattle.sheet.proofs.Entries.{line_long, line_characters, characters_of_lines, plain_long, plain_get}
use Rattle.sheet_encoder.specs.Inside.{Encodable, FirstLines, Completes, AllComplete}

-- ---- the numbers

below_get : (w : List ℕ) → AllPass (λ n. leb n 4095) w → (k : ℕ) → get_or w k 0 < 4096
below_get w h k =
    ⊎_elim (λ (b : length w ≤ k). let e : get_or w k 0 ≡ 0 = get_or-eq_default w 0 b in omega arith)
    (λ (b : k < length w). let l = leb-true (get_or w k 0) 4095 (h k 0 b) in omega arith) (le_or_lt (length w) k)

below_pass : (w : List ℕ) → AllBelow 4096 w → AllPass (λ n. leb n 4095) w
below_pass [] h k d l = absurd (omega arith)
below_pass (n ∷ w) h zero d l = le-leb n 4095 (let m = h 0 in omega arith)
below_pass (n ∷ w) h (suc k) d l = below_pass w (λ i. h (suc i)) k d (omega arith)

pub tells_possible : (w : List ℕ) (b : Bool) → b ≡ list_all (λ n. leb n 4095) w → Tells (AllBelow 4096 w) b
tells_possible w b e =
    record {
      holds = λ q. below_get w (AllPass-from_list_all (λ n. leb n 4095) w (sym e ∙ q));
      fails = λ q h. false≢true (sym q ∙ e ∙ list_all-from_AllPass (λ n. leb n 4095) w (below_pass w h));
    }

-- ---- a line encoded

-- where nothing is to be refused, the line with this text and this number is written
pub encoded_there : (t : List ℕ) (n : ℕ) (old answer new : List ℕ) → length t ≡ 50 → length old ≡ 63 → Characters t → n ≤ 4095 → Encodes t n old answer new
    → (answer ≡ 0 ∷ []) × LineWith t n new
unfolding Encodes
encoded_there t n old [] new lt lo c m p = absurd p
encoded_there t n old (zero ∷ f) new lt lo c m p = (ap (λ (l : List ℕ). 0 ∷ l) p.1.0, p.1.1)
encoded_there t n old (suc k ∷ f) new lt lo c m p =
    absurd
    (let e : suc k ≡ 0 =
    one_answer (encoding_tests t n (length old)) (suc k) 0 p.0 (met_answer (encoding_tests t n (length old)) (lt then lo then c then m then tt)) in
    omega arith)

-- ---- lines written

-- the characters of a part are those of the list
pub part_characters : (w n i : ℕ) (l : List ℕ) → i < n → length l ≡ n * w → Characters l → Characters (part w i l)
part_characters w n i l h long c =
    characters_below (part w i l) w (le_of_eq (part_long w n i l h long))
    (λ a b. let e : get_or (part w i l) a 0 ≡ get_or l (i * w + a) 0 = rw (get_or-take, get_or-drop) in subst (λ (v : ℕ). v < 64) (sym e) (c (i * w + a)))

pub record LinesTo (texts numbers s : List ℕ) (i : ℕ) : Type 0 where
  pub most : i ≤ 52
  pub given : Encodable texts numbers
  pub long : length s ≡ characters
  pub done : (j : ℕ) → j < i → LineWith (part 50 j texts) (get_or numbers j 0) (line_of j s)
  pub rest : (j : ℕ) → i ≤ j → j < 63 → Characters (line_of j s)

pub lines_none : (texts numbers s : List ℕ) → Encodable texts numbers → s ≡ replicate 3969 0 → LinesTo texts numbers s 0
lines_none texts numbers s given e =
    record {
      most = omega arith;
      given = given;
      long = ap length e;
      done = λ j h. absurd (omega arith);
      rest = λ j h l. line_characters s j (ap length e) low l;
    }
  where
    low : Characters s
    low a = let z : get_or s a 0 ≡ 0 = ap (λ (w : List ℕ). get_or w a 0) e ∙ zero_get 3969 a in omega arith

line_again : (texts numbers s : List ℕ) (i : ℕ) (known last : List ℕ) → LinesTo texts numbers s i → i < 52
    → InformationOf (part 50 i texts) (get_or numbers i 0) known → LinePut known (take (i * 63 + 63 - i * 63) (drop (i * 63) s)) last
    → LinesTo texts numbers (take (i * 63) s ++ (last ++ drop (i * 63 + 63 - i * 63) (drop (i * 63) s))) (i + 1)
line_again texts numbers s i known last p h of-them put = rw width turn
  where
    width : i * 63 + 63 - i * 63 ≡ 63
    width = omega arith

    inside : i < 63
    inside = omega arith

    here : LineWith (part 50 i texts) (get_or numbers i 0) last
    here =
        the_line (part 50 i texts) (get_or numbers i 0) known (line_of i s) last (part_long 50 52 i texts h p.given.texts_long)
        (given (part_characters 50 52 i texts h p.given.texts_long p.given.low)) (let l = p.given.possible i in omega arith)
        (line_long s i p.long inside) of-them (rw width at put)

    size : length last ≡ 63
    size = Lines.line_long last here.line

    turn : LinesTo texts numbers (take (i * 63) s ++ (last ++ drop 63 (drop (i * 63) s))) (i + 1)
    turn =
        record {
          most = omega arith;
          given = p.given;
          long = replaced_long 63 s last i 63 inside p.long size;
          done = below_more (λ j. LineWith (part 50 j texts) (get_or numbers j 0) (line_of j (replaced 63 s last i 63 inside p.long size))) i
              (λ j l. subst (LineWith (part 50 j texts) (get_or numbers j 0)) (sym (part_before 63 s last i 63 inside p.long size j l)) (p.done j l))
              (subst (LineWith (part 50 i texts) (get_or numbers i 0)) (sym (part_same 63 s last i 63 inside p.long size)) here);
          rest = λ j l m. subst Characters (sym (part_after 63 s last i 63 inside p.long size j (omega arith))) (p.rest j (omega arith) m);
        }

lines_whole : (texts numbers s : List ℕ) (i : ℕ) → LinesTo texts numbers s i → 52 ≤ i → FirstLines texts numbers s
lines_whole texts numbers s i p h =
    record {
      long = p.long;
      low = characters_of_lines s p.long low;
      lines = λ j l. p.done j (omega arith);
    }
  where
    low : (j : ℕ) → j < 63 → Characters (line_of j s)
    low j l = ⊎_elim (λ (b : i ≤ j). p.rest j b l) (λ (b : j < i). Lines.line_characters (line_of j s) (p.done j b).line) (le_or_lt i j)

-- a text of those that are cut into fifties
chunk_get : (k i : ℕ) (l d : List ℕ) → i < k → get_or (first_chunks 50 k l) i d ≡ part 50 i l
chunk_get zero i l d h = absurd (omega arith)
chunk_get (suc k) zero l d h = refl
chunk_get (suc k) (suc i) l d h =
    chunk_get k i (drop 50 l) d (omega arith) ∙ ap (take 50) (drop-drop (i * 50) 50 l ∙ ap (λ (n : ℕ). drop n l) (omega arith))

module _ (texts numbers s : List ℕ) (i : ℕ) (chunks : List (List ℕ)) (p : LinesTo texts numbers s i) (many : length chunks ≡ length texts / 50) where
  fifty : length texts / 50 ≡ 52
  fifty = ap (λ (n : ℕ). n / 50) p.given.texts_long

  pub lines_again : (d known last : List ℕ) → chunks ≡ first_chunks 50 (length texts / 50) texts → i < length chunks
      → InformationOf (get_or chunks i d) (get_or numbers i 0) known → LinePut known (take (i * 63 + 63 - i * 63) (drop (i * 63) s)) last
      → LinesTo texts numbers (take (i * 63) s ++ (last ++ drop (i * 63 + 63 - i * 63) (drop (i * 63) s))) (i + 1)
  lines_again d known last front l of-them put = line_again texts numbers s i known last p h (subst (λ (t : List ℕ). InformationOf t (get_or numbers i 0) known) text of-them) put
    where
      h : i < 52
      h = let f = fifty in omega arith

      text : get_or chunks i d ≡ part 50 i texts
      text = ap (λ (c : List (List ℕ)). get_or c i d) front ∙ chunk_get (length texts / 50) i texts d (omega arith)

  pub lines_all : length chunks ≤ i → FirstLines texts numbers s
  lines_all l = lines_whole texts numbers s i p (let f = fifty in omega arith)

-- ---- one column

-- the marks stand after them
unmarked_52 : (w : List ℕ) → length w ≡ 63 → take 52 (added w marks) ≡ take 52 w
unfolding marks
unmarked_52 w l = take_added 52 w marks ∙ added_none 52 (take 52 w) (length-take-le 52 w (omega arith))

-- the first 52 characters of a column
pub known_long : (column : List ℕ) → length column ≡ 63 → length (take 52 column) ≡ 52
known_long column long = length-take-le 52 column (omega arith)

pub known_fits : (column : List ℕ) → length column ≡ 63 → 52 ≡ length (take 52 column)
known_fits column long = sym (known_long column long)

-- a line with the first 52 characters of a column, its marks taken off, completes it
pub word_completed : (column known line word : List ℕ) → length column ≡ 63 → Characters column → known ≡ take 52 column
    → LinePut (known ++ replicate 11 0) (replicate 63 0) line → MarksAdded line word → Completes column word
word_completed column known line word long c e put m =
    record { clean = subst Clean (sym off) (Lines.unmarked line is-line); begins = ap (take 52) off ∙ unmarked_52 line size ∙ ap (take 52) so ∙ take_at first (checks_of (remainder first)) 52 first_long }
  where
    first : List ℕ
    first = take 52 column

    first_long : length (take 52 column) ≡ 52
    first_long = known_long column long

    so : line ≡ take 52 column ++ checks_of (remainder (take 52 column))
    so =
        ended_so (take 52 column) line first_long (characters_take 52 column c)
        (subst (λ (w : List ℕ). Ended (w ++ replicate 11 0) line) e (put.over refl))

    is-line : Line line
    is-line = subst Line (sym so) (line_of_lem (take 52 column) first_long (characters_take 52 column c))

    size : length line ≡ 63
    size = Lines.line_long line is-line

    off : word ≡ added line marks
    off = m.over size

-- ---- columns completed

pub record CompletedTo (o s : List ℕ) (a : ℕ) : Type 0 where
  pub most : a ≤ 63
  pub low : Characters o
  pub long : length s ≡ characters
  pub done : (b : ℕ) → b < a → Completes (plain_column b o) (plain_column b s)
  pub rest : (b : ℕ) → a ≤ b → b < 63 → plain_column b s ≡ plain_column b o

pub completed_none : (o : List ℕ) → Characters o → length o ≡ characters → CompletedTo o o 0
completed_none o c l = record { most = omega arith; low = c; long = l; done = λ b h. absurd (omega arith); rest = λ b h g. refl }

-- what is taken out is a column of the sheet as it was
pub column_low : (o s : List ℕ) (a : ℕ) (column : List ℕ) → CompletedTo o s a → a < 63 → column ≡ plain_column a s → Characters column
column_low o s a column p h e =
    subst Characters (sym (e ∙ p.rest a (omega arith) h))
    (characters_below (plain_column a o) 63 (le_of_eq (plain_long o a))
    (λ i l. subst (λ (v : ℕ). v < 64) (sym (plain_get o a i l)) (p.low (i * 63 + a))))

pub completed_again : (o s : List ℕ) (a : ℕ) (column word new : List ℕ) → CompletedTo o s a → a < 63 → column ≡ plain_column a s → Completes column word
    → ColumnPut word a s new → CompletedTo o new (a + 1)
completed_again o s a column word new p h e w put =
    record {
      most = omega arith;
      low = p.low;
      long = put.long ∙ p.long;
      done = below_more (λ b. Completes (plain_column b o) (plain_column b new)) a
          (λ b l. subst (Completes (plain_column b o)) (sym (put.elsewhere p.long b (omega arith) (λ q. omega arith))) (p.done b l))
          (subst (Completes (plain_column a o)) (sym (put.here p.long h)) (subst (λ (c : List ℕ). Completes c word) (e ∙ p.rest a (omega arith) h) w));
      rest = λ b l g. put.elsewhere p.long b g (λ q. omega arith) ∙ p.rest b (omega arith) g;
    }

pub completed_all : (o s : List ℕ) (a : ℕ) → CompletedTo o s a → 63 ≤ a → AllComplete o s
completed_all o s a p h = record { long = p.long; columns = λ b l. p.done b (omega arith) }

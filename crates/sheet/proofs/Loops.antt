-- A sheet taken and written whole, the marks of a line added, and the turns of the loops: all marks added, a column taken out, and one written.
use mathlib.Core.Path.{◌≡◌, refl, sym, ap, ◌∙◌, subst}
use mathlib.Core.Logic.{⊎_elim}
use mathlib.Core.List.{List, ◌++◌}
use Prim.Native.Nat.{ℕ, ◌+◌, ◌-◌, ◌*◌, ◌<◌, ◌≤◌}
use native.Mathlib.Omega.{arith}
use borrow.Author.Count.{below_more}
use lib.Bits.{bit_xor}
use lib.ListN.{length, get_or, set, take, drop, replicate, length-set}
use lib.Seq.{get_or-set_same, get_or-set_other}
use Rattle.numbers.proofs.Cases.{same_or_not}
use Rattle.numbers.proofs.Parts.{replaced, replaced_long, part_same, part_before, part_after, same_parts}
use Rattle.field.specs.Field.{sum}
use Rattle.field.proofs.Laws
use Rattle.code.specs.Word.{added, marks}
use Rattle.code.proofs.Words.{same_word, zero_get, length_added, added_get}
use Rattle.code.proofs.Lines.{marks_long}
use Rattle.sheet.specs.Sheet.{characters, line_of}
use Rattle.sheet.specs.Inside.{Taken, Put, MarksAdded, bare, plain_column, ColumnPut}
use Rattle.sheet.proofs.Entries.{line_long, bare_long, bare_line, plain_long, plain_get}

-- ---- a sheet whole

pub taken_whole : (given s : List ℕ) → length given ≡ characters → s ≡ given → Taken given s
taken_whole given s long copied = record { is = λ _. copied; none = λ d. absurd (d long) }

pub taken_none : (given : List ℕ) → (length given ≡ characters → ⊥) → Taken given (replicate characters 0)
taken_none given d = record { is = λ l. absurd (d l); none = λ _. refl }

pub put_whole : (s old new : List ℕ) → length old ≡ characters → new ≡ s → Put s old new
put_whole s old new room copied = record { over = λ _. copied; beside = λ d. absurd (d room) }

pub put_none : (s old : List ℕ) → (length old ≡ characters → ⊥) → Put s old old
put_none s old d = record { over = λ l. absurd (d l); beside = λ _. refl }

-- ---- the marks of one line

-- s is o with m added, which has no more than 63 characters
record Adding (o s m : List ℕ) : Type 0 where
  long : length s ≡ 63
  all : length m ≡ 63
  here : (a : ℕ) → a < 63 → get_or s a 0 ≡ sum (get_or o a 0) (get_or m a 0)

adding_none : (o : List ℕ) → length o ≡ 63 → Adding o o (replicate 63 0)
adding_none o long =
    record { long = long; all = refl; here = λ a l. sym (ap (sum (get_or o a 0)) (zero_get 63 a) ∙ Laws.sum_zero (get_or o a 0)) }

abbrev xored : List ℕ → ℕ → ℕ → List ℕ
xored s k v = set s k (bit_xor (get_or s k 0) v)

-- one more mark, where none was
adding_more : (o s m : List ℕ) (b v : ℕ) → b < 63 → get_or m b 0 ≡ 0 → Adding o s m → Adding o (xored s b v) (set m b v)
unfolding sum
adding_more o s m b v hb none p =
    let w : ℕ = bit_xor (get_or s b 0) v in
    record {
      long = length-set s b w ∙ p.long;
      all = length-set m b v ∙ p.all;
      here = λ a l.
          ⊎_elim
          (λ (e : a ≡ b).
          subst (λ (a : ℕ). get_or (set s b w) a 0 ≡ sum (get_or o a 0) (get_or (set m b v) a 0)) (sym e)
          (get_or-set_same s b w 0 (omega (arith, p.long)) ∙ ap (λ (x : ℕ). sum x v) (p.here b hb ∙ ap (sum (get_or o b 0)) none ∙ Laws.sum_zero (get_or o b 0))
          ∙ ap (sum (get_or o b 0)) (sym (get_or-set_same m b v 0 (omega (arith, p.all))))))
          (λ (d : a ≡ b → ⊥). get_or-set_other s b a w 0 d ∙ p.here a l ∙ ap (sum (get_or o a 0)) (sym (get_or-set_other m b a v 0 d))) (same_or_not a b);
    }

-- the three of them
pub marks_put : (o : List ℕ) → length o ≡ 63 → MarksAdded o (xored (xored (xored o 52 32) 55 8) 62 1)
unfolding marks
marks_put o l = record { over = λ _. three; beside = λ d. absurd (d l) }
  where
    r : List ℕ
    r = xored (xored (xored o 52 32) 55 8) 62 1

    all : Adding o r marks
    all =
        adding_more o (xored (xored o 52 32) 55 8) (set (set (replicate 63 0) 52 32) 55 8) 62 1 (omega arith) refl
        (adding_more o (xored o 52 32) (set (replicate 63 0) 52 32) 55 8 (omega arith) refl
        (adding_more o o (replicate 63 0) 52 32 (omega arith) refl (adding_none o l)))

    three : r ≡ added o marks
    three =
        same_word r (added o marks) all.long (length_added o marks (l ∙ sym marks_long) ∙ l)
        (λ a h. all.here a h ∙ sym (added_get o marks (l ∙ sym marks_long) a))

pub no_marks_put : (o : List ℕ) → (length o ≡ 63 → ⊥) → MarksAdded o o
no_marks_put o d = record { over = λ l. absurd (d l); beside = λ e. refl }

-- ---- the marks of all lines

-- the first i lines have their marks added, and the others are as they were
pub record AddedTo (o s : List ℕ) (i : ℕ) : Type 0 where
  pub most : i ≤ 63
  pub was : length o ≡ characters
  pub long : length s ≡ characters
  pub done : (j : ℕ) → j < i → line_of j s ≡ added (line_of j o) marks
  pub rest : (j : ℕ) → i ≤ j → line_of j s ≡ line_of j o

pub added_start : (o : List ℕ) → length o ≡ characters → AddedTo o o 0
added_start o l = record { most = omega arith; was = l; long = l; done = λ j h. absurd (omega arith); rest = λ j h. refl }

pub added_again : (o s : List ℕ) (i : ℕ) (last : List ℕ) → i < 63 → AddedTo o s i
    → MarksAdded (take (i * 63 + 63 - i * 63) (drop (i * 63) s)) last
    → AddedTo o (take (i * 63) s ++ (last ++ drop (i * 63 + 63 - i * 63) (drop (i * 63) s))) (i + 1)
added_again o s i last h p m = rw width turn
  where
    width : i * 63 + 63 - i * 63 ≡ 63
    width = omega arith

    here : MarksAdded (line_of i s) last
    here = rw width at m

    is : last ≡ added (line_of i o) marks
    is = here.over (line_long s i p.long h) ∙ ap (λ (l : List ℕ). added l marks) (p.rest i (omega arith))

    size : length last ≡ 63
    size = ap length is ∙ length_added (line_of i o) marks (line_long o i p.was h ∙ sym marks_long) ∙ line_long o i p.was h

    turn : AddedTo o (take (i * 63) s ++ (last ++ drop 63 (drop (i * 63) s))) (i + 1)
    turn =
        record {
          most = omega arith;
          was = p.was;
          long = replaced_long 63 s last i 63 h p.long size;
          done = below_more (λ j. line_of j (replaced 63 s last i 63 h p.long size) ≡ added (line_of j o) marks) i
              (λ j l. part_before 63 s last i 63 h p.long size j l ∙ p.done j l) (part_same 63 s last i 63 h p.long size ∙ is);
          rest = λ j l. part_after 63 s last i 63 h p.long size j (omega arith) ∙ p.rest j (omega arith);
        }

pub added_all : (o s : List ℕ) (i : ℕ) → 63 ≤ i → AddedTo o s i → s ≡ bare o
added_all o s i h p = same_parts 63 63 s (bare o) p.long (bare_long o) (λ j l. p.done j (omega arith) ∙ sym (bare_line o p.was j l))

-- ---- a column taken out

pub record TakenTo (s : List ℕ) (a : ℕ) (column : List ℕ) (i : ℕ) : Type 0 where
  pub most : i ≤ 63
  pub small : a < 256
  pub long : length column ≡ 63
  pub done : (j : ℕ) → j < i → get_or column j 0 ≡ get_or s (j * 63 + a) 0

pub taken_start : (s : List ℕ) (a : ℕ) (column : List ℕ) → a < 256 → length column ≡ 63 → TakenTo s a column 0
taken_start s a column small l = record { most = omega arith; small = small; long = l; done = λ j h. absurd (omega arith) }

pub taken_again : (s : List ℕ) (a : ℕ) (column : List ℕ) (i v : ℕ) → i < 63 → v ≡ get_or s (i * 63 + a) 0 → TakenTo s a column i
    → TakenTo s a (set column i v) (i + 1)
taken_again s a column i v h e p =
    record {
      most = omega arith;
      small = p.small;
      long = length-set column i v ∙ p.long;
      done = below_more (λ j. get_or (set column i v) j 0 ≡ get_or s (j * 63 + a) 0) i
          (λ j l. get_or-set_other column i j v 0 (λ e. omega arith) ∙ p.done j l)
          (get_or-set_same column i v 0 (omega (arith, p.long)) ∙ e);
    }

pub taken_all : (s : List ℕ) (a : ℕ) (column : List ℕ) (i : ℕ) → 63 ≤ i → TakenTo s a column i → column ≡ plain_column a s
taken_all s a column i h p =
    same_word column (plain_column a s) p.long (plain_long s a) (λ j l. p.done j (omega arith) ∙ sym (plain_get s a j l))

-- ---- a column written

pub record WrittenTo (column : List ℕ) (a : ℕ) (o s : List ℕ) (i : ℕ) : Type 0 where
  pub most : i ≤ 63
  pub inside : a < 63
  pub size : length column ≡ 63
  pub was : length o ≡ characters
  pub long : length s ≡ characters
  pub done : (j : ℕ) → j < i → get_or s (j * 63 + a) 0 ≡ get_or column j 0
  pub others : (j b : ℕ) → j < 63 → b < 63 → (b ≡ a → ⊥) → get_or s (j * 63 + b) 0 ≡ get_or o (j * 63 + b) 0

pub written_start : (column : List ℕ) (a : ℕ) (o : List ℕ) → a < 63 → length column ≡ 63 → length o ≡ characters → WrittenTo column a o o 0
written_start column a o inside size l =
    record { most = omega arith; inside = inside; size = size; was = l; long = l; done = λ j h. absurd (omega arith); others = λ j b hj hb d. refl }

pub written_again : (column : List ℕ) (a : ℕ) (o s : List ℕ) (i : ℕ) → i < 63 → WrittenTo column a o s i
    → WrittenTo column a o (set s (i * 63 + a) (get_or column i 0)) (i + 1)
written_again column a o s i h p =
    let v : ℕ = get_or column i 0 in
    let in-line : a < 63 = p.inside in
    record {
      most = omega arith;
      inside = p.inside;
      size = p.size;
      was = p.was;
      long = length-set s (i * 63 + a) v ∙ p.long;
      done = below_more (λ j. get_or (set s (i * 63 + a) v) (j * 63 + a) 0 ≡ get_or column j 0) i
          (λ j l. get_or-set_other s (i * 63 + a) (j * 63 + a) v 0 (λ e. omega arith) ∙ p.done j l)
          (get_or-set_same s (i * 63 + a) v 0 (omega (arith, p.long)));
      others = λ j b hj hb d. get_or-set_other s (i * 63 + a) (j * 63 + b) v 0 (λ e. d (omega arith)) ∙ p.others j b hj hb d;
    }

pub written_all : (column : List ℕ) (a : ℕ) (o s : List ℕ) (i : ℕ) → 63 ≤ i → WrittenTo column a o s i → ColumnPut column a o s
written_all column a o s i h p =
    record {
      long = p.long ∙ sym p.was;
      here = λ l m. same_word (plain_column a s) column (plain_long s a) p.size (λ j g. plain_get s a j g ∙ p.done j (omega arith));
      elsewhere = λ l b hb d.
          same_word (plain_column b s) (plain_column b o) (plain_long s b) (plain_long o b)
          (λ j g. plain_get s b j g ∙ p.others j b g hb d ∙ sym (plain_get o b j g));
      beside = λ d. absurd (d (p.was, p.inside));
    }

-- ---- where nothing is written

pub written_nowhere : (column : List ℕ) (a : ℕ) (o : List ℕ) → (length o ≡ characters → ⊥) → ColumnPut column a o o
written_nowhere column a o d =
    record { long = refl; here = λ l. absurd (d l); elsewhere = λ l. absurd (d l); beside = λ e. refl }

pub written_beyond : (column : List ℕ) (a : ℕ) (o : List ℕ) → 63 ≤ a → ColumnPut column a o o
written_beyond column a o h =
    record { long = refl; here = λ l m. absurd (omega arith); elsewhere = λ l b hb d. refl; beside = λ e. refl }

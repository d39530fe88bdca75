-- What is proved of sheets, in the request's order: the last eleven lines are forced, a round and rounds have one result, when rounds end, that the first round restores, and one result of each inner function.
use mathlib.Core.Path.{◌≡◌, sym, ◌∙◌, subst}
use mathlib.Core.Logic.{◌⊎◌, ⊎_elim}
use mathlib.Core.List.{List}
use Prim.Native.Nat.{ℕ, ◌<◌, ◌≤◌}
use native.Mathlib.Nat.{le_trans}
use native.Mathlib.Omega.{arith}
use lib.ListN.{length}
use Rattle.numbers.proofs.Cases.{le_or_lt, same_or_not}
use Rattle.code.specs.Word.{Characters, Clean, Line, distance}
use Rattle.sheet.specs.Sheet.{characters, line_of, column_of, Proper, Round, Rounds, most_rounds}
use Rattle.sheet.specs.Damage.{bad_lines, OneOf}
use Rattle.sheet.specs.Inside.{Taken, Put, MarksAdded, plain_column, ColumnPut}
use Rattle.sheet.proofs.Entries.{same_plain}
use Rattle.sheet.proofs.Reading
use Rattle.sheet.proofs.Forced

-- ---- proper sheets

-- 52 lines and clean columns make a proper sheet: the last eleven are lines too, whose text and number are what the columns force
pub last_lines_forced : (s : List ℕ) → length s ≡ characters → Characters s → ((i : ℕ) → i < 52 → Line (line_of i s))
    → ((a : ℕ) → a < 63 → Clean (column_of a s)) → Proper s
last_lines_forced = Forced.columns_force

-- and the first 52 lines fix them: proper sheets that have those alike are one
pub one_proper_sheet : (s r : List ℕ) → Proper s → Proper r → ((i : ℕ) → i < 52 → line_of i s ≡ line_of i r) → s ≡ r
one_proper_sheet = Forced.one_sheet

-- ---- rounds

-- any two results of a round are equal
pub one_round_result : (s r q : List ℕ) → length s ≡ characters → Round s r → Round s q → r ≡ q
one_round_result = Reading.one_round

-- and so are any two of rounds, with how many were run
pub one_rounds_result : (k : ℕ) (s : List ℕ) (m n : ℕ) (r q : List ℕ) → length s ≡ characters → Rounds k s m r → Rounds k s n q → (m ≡ n) × (r ≡ q)
one_rounds_result = Reading.one_run

-- one to eight are run
pub one_to_eight : (s : List ℕ) (n : ℕ) (r : List ℕ) → Rounds most_rounds s n r → (1 ≤ n) × (n ≤ most_rounds)
one_to_eight s n r run = (Reading.run_least 7 s n r run, Reading.run_most most_rounds s n r run)

-- where fewer than eight are, a round leaves the result as it is
pub ended_early : (s : List ℕ) (n : ℕ) (r : List ℕ) → Rounds most_rounds s n r → n < most_rounds → Round r r
ended_early = Reading.run_ended most_rounds

-- and where a round ends as it began, no other follows
pub ends_as_it_began : (s : List ℕ) (n : ℕ) (r : List ℕ) → Round s s → Rounds most_rounds s n r → (n ≡ 1) × (r ≡ s)
ends_as_it_began = Reading.run_stays 7

-- a round leaves a proper sheet as it is
pub proper_left : (p : List ℕ) → Proper p → Round p p
proper_left = Reading.proper_round

-- ---- damage

-- five lines at most that are damaged in any way, and five characters at most in each other
module _ (p d bad : List ℕ) (proper : Proper p) (long : length d ≡ characters) (five : length bad ≤ 5) (others : (i : ℕ) → i < 63 → OneOf i bad ⊎ (distance (line_of i d) (line_of i p) ≤ 5)) where
  few : bad_lines p d ≤ 5
  few = le_trans (Reading.named_lines p d bad others) five

  -- the first round restores the sheet
  pub first_round_restores : (r : List ℕ) → Round d r → r ≡ p
  first_round_restores r = Reading.first_round p d r proper long few

  -- so the rounds do: one where nothing was damaged, else two
  pub rounds_restore : (n : ℕ) (r : List ℕ) → Rounds most_rounds d n r → (((d ≡ p) × (n ≡ 1)) ⊎ ((d ≡ p → ⊥) × (n ≡ 2))) × (r ≡ p)
  rounds_restore n r = Reading.restored_run 6 p d n r proper long few

-- ---- one result of each inner function

-- what holds where a number is the one wanted, and where it is not, holds
by_length : {P : Type 0} (n m : ℕ) → (n ≡ m → P) → ((n ≡ m → ⊥) → P) → P
by_length n m equal other = ⊎_elim equal other (same_or_not n m)

pub one_taken : (given s t : List ℕ) → Taken given s → Taken given t → s ≡ t
one_taken given s t p q = by_length (length given) characters (λ l. p.is l ∙ sym (q.is l)) (λ d. p.none d ∙ sym (q.none d))

pub one_put : (s old x y : List ℕ) → Put s old x → Put s old y → x ≡ y
one_put s old x y p q = by_length (length old) characters (λ l. p.over l ∙ sym (q.over l)) (λ d. p.beside d ∙ sym (q.beside d))

pub one_marks_added : (old x y : List ℕ) → MarksAdded old x → MarksAdded old y → x ≡ y
one_marks_added old x y p q = by_length (length old) 63 (λ l. p.over l ∙ sym (q.over l)) (λ d. p.beside d ∙ sym (q.beside d))

pub one_column_put : (column : List ℕ) (a : ℕ) (old x y : List ℕ) → ColumnPut column a old x → ColumnPut column a old y → x ≡ y
one_column_put column a old x y p q =
    by_length (length old) characters (λ l. ⊎_elim (λ (h : 63 ≤ a). neither (λ b. omega arith)) (λ (h : a < 63). both l h) (le_or_lt 63 a)) (λ d. neither (λ b. d b.0))
  where
    neither : ((length old ≡ characters) × (a < 63) → ⊥) → x ≡ y
    neither d = p.beside d ∙ sym (q.beside d)

    both : length old ≡ characters → a < 63 → x ≡ y
    both l h =
        same_plain x y (p.long ∙ l) (q.long ∙ l)
        (λ b g.
        by_length b a (λ e. subst (λ (c : ℕ). plain_column c x ≡ plain_column c y) (sym e) (p.here l h ∙ sym (q.here l h)))
        (λ d. p.elsewhere l b g d ∙ sym (q.elsewhere l b g d)))

-- The reading of sheets: what reading a word leaves is one, a round and rounds have one result, a proper sheet is left as it is, and the first round restores.
use mathlib.Core.Path.{◌≡◌, refl, sym, ap, ◌∙◌, subst}
use mathlib.Core.Logic.{◌⊎◌, inl, inr, ⊎_elim}
use mathlib.Core.List.{List}
use Prim.Native.Nat.{ℕ, suc, ◌-◌, ◌<◌, ◌≤◌}
use native.Mathlib.Nat.{le_trans, le_of_eq}
use native.Mathlib.Omega.{arith}
use lib.ListN.{length, get_or}
use Rattle.numbers.proofs.Parts.{same_parts}
use Rattle.code.specs.Word.{Characters, Clean, Line, added, marks, distance, listed}
use Rattle.code.proofs.Words.{listed_long, listed_get, length_added, added_twice}
use Rattle.code.proofs.Lines
use Rattle.code.proofs.Distances.{distance_self, distance_both}
use Rattle.code.proofs.Theorems.{one_line_near, one_clean_near}
use Rattle.sheet.specs.Sheet.{characters, line_of, column_of, Proper, Kept, Round, Rounds}
use Rattle.sheet.specs.Damage.{bad_lines, OneOf}
use Rattle.sheet.proofs.Entries.{line_long, column_long, same_columns}
use Rattle.sheet.proofs.Weights.{agree_below, weight_named}

-- ---- what reading a word leaves

-- where all words with a property within five of w are one, reading w leaves one word
kept_one : (P : List ℕ → Type 0) (w v v' : List ℕ) → ((u u' : List ℕ) → P u → P u' → distance w u ≤ 5 → distance w u' ≤ 5 → u ≡ u')
    → Kept P w v → Kept P w v' → v ≡ v'
kept_one P w v v' one (inl k) (inl k') = one v v' k.0 k'.0 k.1 k'.1
kept_one P w v v' one (inl k) (inr n) = absurd (n.0 v k.0 k.1)
kept_one P w v v' one (inr n) (inl k) = absurd (n.0 v' k.0 k.1)
kept_one P w v v' one (inr n) (inr n') = n.1 ∙ sym n'.1

-- reading a line leaves one word
pub kept_line : (w v v' : List ℕ) → length w ≡ 63 → Kept Line w v → Kept Line w v' → v ≡ v'
kept_line w v v' long = kept_one Line w v v' (λ u u' l l' d d'. one_line_near w u u' 5 long (omega arith) l l' d d')

-- and so does reading a column
pub kept_clean : (w v v' : List ℕ) → length w ≡ 63 → Kept Clean w v → Kept Clean w v' → v ≡ v'
kept_clean w v v' long = kept_one Clean w v v' (λ u u' c c' d d'. one_clean_near w u u' 5 long (omega arith) c c' d d')

-- what all words with a property have, and w has, what is left has
kept_has : (P Q : List ℕ → Type 0) (w v : List ℕ) → ((u : List ℕ) → P u → Q u) → Q w → Kept P w v → Q v
kept_has P Q w v all own (inl k) = all v k.0
kept_has P Q w v all own (inr n) = subst Q (sym n.1) own

-- 63 characters are left of 63
pub kept_line_long : (w v : List ℕ) → length w ≡ 63 → Kept Line w v → length v ≡ 63
kept_line_long w v = kept_has Line (λ u. length u ≡ 63) w v Lines.line_long

pub kept_clean_long : (w v : List ℕ) → length w ≡ 63 → Kept Clean w v → length v ≡ 63
kept_clean_long w v = kept_has Clean (λ u. length u ≡ 63) w v (λ u c. c.long)

-- and they are from 0 to 63
pub kept_line_characters : (w v : List ℕ) → Characters w → Kept Line w v → Characters v
kept_line_characters w v = kept_has Line Characters w v Lines.line_characters

pub kept_clean_characters : (w v : List ℕ) → Characters w → Kept Clean w v → Characters v
kept_clean_characters w v = kept_has Clean Characters w v (λ u c. c.characters)

-- what reads a word as a clean one reads it, the marks put on, as a line
pub kept_marked : (w v : List ℕ) → length w ≡ 63 → Kept Clean w v → Kept Line (added w marks) (added v marks)
kept_marked w v long (inl k) =
    let e : distance (added w marks) (added v marks) ≡ distance w v =
    distance_both w v marks (long ∙ sym Lines.marks_long) (k.0.long ∙ sym Lines.marks_long) in
    inl (Lines.clean_line v k.0, le_trans (le_of_eq e) k.1)
kept_marked w v long (inr n) = inr (none, ap (λ (u : List ℕ). added u marks) n.1)
  where
    none : (u : List ℕ) → Line u → distance (added w marks) u ≤ 5 → ⊥
    none u line near =
        let mu : length u ≡ length marks = Lines.line_long u line ∙ sym Lines.marks_long in
        let e : distance (added w marks) u ≡ distance w (added u marks) =
        ap (distance (added w marks)) (sym (added_twice u marks mu))
        ∙ distance_both w (added u marks) marks (long ∙ sym Lines.marks_long) (length_added u marks mu ∙ mu) in
        n.0 (added u marks) (Lines.unmarked u line) (le_trans (le_of_eq (sym e)) near)

-- ---- a round

-- a round has one result
pub one_round : (s r r' : List ℕ) → length s ≡ characters → Round s r → Round s r' → r ≡ r'
one_round s r r' long x y =
    same_columns r r' x.long y.long
    (λ a h.
    kept_clean (column_of a x.between) (column_of a r) (column_of a r') (column_long x.between a) (x.columns a h)
    (subst (λ (m : List ℕ). Kept Clean (column_of a m) (column_of a r')) (sym between) (y.columns a h)))
  where
    between : x.between ≡ y.between
    between =
        same_parts 63 63 x.between y.between x.between_long y.between_long
        (λ i h. kept_line (line_of i s) (line_of i x.between) (line_of i y.between) (line_long s i long h) (x.lines i h) (y.lines i h))

-- a round leaves a proper sheet as it is
pub proper_round : (p : List ℕ) → Proper p → Round p p
proper_round p proper =
    record {
      between = p;
      between_long = proper.long;
      lines = λ i h. inl (proper.lines i h, itself (line_of i p));
      long = proper.long;
      columns = λ a h. inl (proper.columns a h, itself (column_of a p));
    }
  where
    itself : (w : List ℕ) → distance w w ≤ 5
    itself w = let e = distance_self w in omega arith

-- ---- rounds one after another

-- rounds have one result
pub one_run : (k : ℕ) (s : List ℕ) (m n : ℕ) (r q : List ℕ) → length s ≡ characters → Rounds k s m r → Rounds k s n q → (m ≡ n) × (r ≡ q)
one_run k s m n r q long Rounds.done Rounds.done = (refl, refl)
one_run k s m n r q long (Rounds.settled x) (Rounds.settled y) = (refl, refl)
one_run k s m n r q long (Rounds.settled x) (Rounds.more {m = t} y d rest) = absurd (d (one_round s t s long y x))
one_run k s m n r q long (Rounds.more {m = t} x d rest) (Rounds.settled y) = absurd (d (one_round s t s long x y))
one_run k s m n r q long (Rounds.more {k = j} {n = a} {m = t} x d rest) (Rounds.more {n = b} {m = u} y d' rest') =
    let e : t ≡ u = one_round s t u long x y in
    let z = one_run j t a b r q x.long rest (subst (λ (v : List ℕ). Rounds j v b q) (sym e) rest') in
    (ap suc z.0, z.1)

-- they leave a sheet
pub run_long : (k : ℕ) (s : List ℕ) (n : ℕ) (r : List ℕ) → length s ≡ characters → Rounds k s n r → length r ≡ characters
run_long k s n r long Rounds.done = long
run_long k s n r long (Rounds.settled x) = long
run_long k s n r long (Rounds.more {k = j} {n = a} {m = t} x d rest) = run_long j t a r x.long rest

-- no more are run than may be
pub run_most : (k : ℕ) (s : List ℕ) (n : ℕ) (r : List ℕ) → Rounds k s n r → n ≤ k
run_most k s n r Rounds.done = omega arith
run_most k s n r (Rounds.settled x) = omega arith
run_most k s n r (Rounds.more {k = j} {n = a} {m = t} x d rest) = let l = run_most j t a r rest in omega arith

-- and one is, where one may be
pub run_least : (k : ℕ) (s : List ℕ) (n : ℕ) (r : List ℕ) → Rounds (suc k) s n r → 1 ≤ n
run_least k s n r (Rounds.settled x) = omega arith
run_least k s n r (Rounds.more x d rest) = omega arith

-- where fewer are run than may be, the last ended as it began
pub run_ended : (k : ℕ) (s : List ℕ) (n : ℕ) (r : List ℕ) → Rounds k s n r → n < k → Round r r
run_ended k s n r Rounds.done l = absurd (omega arith)
run_ended k s n r (Rounds.settled x) l = x
run_ended k s n r (Rounds.more {k = j} {n = a} {m = t} x d rest) l = run_ended j t a r rest (omega arith)

-- what a round leaves as it is, rounds leave, and one is run
pub run_stays : (k : ℕ) (s : List ℕ) (n : ℕ) (r : List ℕ) → Round s s → Rounds (suc k) s n r → (n ≡ 1) × (r ≡ s)
run_stays k s n r round run = one_run (suc k) s n 1 r s round.long run (Rounds.settled round)

-- so it is with a proper sheet
pub undamaged : (k : ℕ) (p : List ℕ) (n : ℕ) (r : List ℕ) → Proper p → Rounds (suc k) p n r → (n ≡ 1) × (r ≡ p)
undamaged k p n r proper = run_stays k p n r (proper_round p proper)

-- ---- the first round restores

module _ (p d r : List ℕ) (proper : Proper p) (long : length d ≡ characters) (few : bad_lines p d ≤ 5) (round : Round d r) where
  -- a line with five wrong characters at most is read as it was
  line-right : (i : ℕ) → i < 63 → distance (line_of i d) (line_of i p) ≤ 5 → line_of i round.between ≡ line_of i p
  line-right i h near =
      kept_line (line_of i d) (line_of i round.between) (line_of i p) (line_long d i long h) (round.lines i h) (inl (proper.lines i h, near))

  -- so no column has more than five wrong characters, one for each other line
  column-near : (a : ℕ) → a < 63 → distance (column_of a round.between) (column_of a p) ≤ 5
  unfolding column_of bad_lines
  column-near a h =
      le_trans
      (agree_below (λ i. get_or (added (line_of i round.between) marks) a 0) (λ i. get_or (added (line_of i p) marks) a 0)
      (λ i. distance (line_of i d) (line_of i p) - 5) 0 63
      (λ i l z. ap (λ (w : List ℕ). get_or (added w marks) a 0) (line-right i (omega arith) (omega arith))))
      few

  -- if at most five lines of a proper sheet have more than five wrong characters, the first round restores it
  pub first_round : r ≡ p
  first_round =
      same_columns r p round.long proper.long
      (λ a h.
      kept_clean (column_of a round.between) (column_of a r) (column_of a p) (column_long round.between a) (round.columns a h)
      (inl (proper.columns a h, column-near a h)))

-- so the rounds restore it: one is run where no character was wrong, and else two, of which the second ends as it began
pub restored_run : (k : ℕ) (p d : List ℕ) (n : ℕ) (r : List ℕ) → Proper p → length d ≡ characters → bad_lines p d ≤ 5 → Rounds (suc (suc k)) d n r
    → (((d ≡ p) × (n ≡ 1)) ⊎ ((d ≡ p → ⊥) × (n ≡ 2))) × (r ≡ p)
restored_run k p d n r proper long few (Rounds.settled x) = let e = first_round p d d proper long few x in (inl (e, refl), e)
restored_run k p d n r proper long few (Rounds.more {n = a} {m = m} x other rest) =
    let e : m ≡ p = first_round p d m proper long few x in
    let z = undamaged k p a r proper (subst (λ (s : List ℕ). Rounds (suc k) s a r) e rest) in
    (inr (λ same. other (e ∙ sym same), ap suc z.0), z.1)

pub restored : (k : ℕ) (p d : List ℕ) (n : ℕ) (r : List ℕ) → Proper p → length d ≡ characters → bad_lines p d ≤ 5 → (d ≡ p → ⊥)
    → Rounds (suc (suc k)) d n r → (n ≡ 2) × (r ≡ p)
restored k p d n r proper long few other run =
    let z = restored_run k p d n r proper long few run in
    (⊎_elim (λ (s : (d ≡ p) × (n ≡ 1)). absurd (other s.0)) (λ s. s.1) z.0, z.1)

-- lines that a list names, and others with five wrong characters at most, have no more bad ones than the list is long
pub named_lines : (p d bad : List ℕ) → ((i : ℕ) → i < 63 → OneOf i bad ⊎ (distance (line_of i d) (line_of i p) ≤ 5)) → bad_lines p d ≤ length bad
unfolding bad_lines
named_lines p d bad h =
    weight_named (listed excess 0 63) bad
    (λ i b.
    let l : i < 63 = subst (λ (n : ℕ). i < n) (listed_long excess 0 63) b in
    ⊎_elim inl (λ (near : distance (line_of i d) (line_of i p) ≤ 5). inr (listed_get excess 63 i l ∙ omega arith)) (h i l))
  where
    excess : ℕ → ℕ
    excess i = distance (line_of i d) (line_of i p) - 5

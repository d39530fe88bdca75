-- What a tray keeps through a run of operations: the lines that the accepted ones give, with sums and count as worked out afresh; each operation keeps it, and every line kept can be edited.
use mathlib.Core.Path.{◌≡◌, refl, sym, ap, ap₂, ◌∙◌, subst}
use mathlib.Core.Bool.{cond}
use mathlib.Core.Logic.{⊎_elim}
use mathlib.Core.List.{List, [], ◌∷◌, ◌++◌}
use Prim.Native.Nat.{ℕ, zero, suc, ◌+◌, ◌-◌, ◌<◌, ◌≤◌}
use native.Mathlib.Omega.{arith}
use lib.Dec.{eqb, eqb-suc-zero}
use lib.ListN.{length, get_or, set, take, drop, length-append, length-set, get_or-append}
use lib.Seq.{length-take-le, get_or-append_seam, get_or-take, get_or-set_same, get_or-set_other}
use Rattle.numbers.proofs.Cases.{same_or_not}
use Rattle.field.specs.Field.{sum}
use Rattle.code.specs.Word.{Characters}
use Rattle.open_tray.specs.Tray.{room, characters_at, sums_at, held, count, fresh_sums, wrong, with_shares, Fit, Sound, Edited}
use Rattle.open_tray.specs.Promises.{Adds, sums_after, Replaces, last_line, Drops, Asks}
use Rattle.open_tray.proofs.Theorems.{refused_adding, refused_replacing, refused_dropping, added, may_add, replaced, may_replace, dropped, may_drop}
use Rattle.tray_runs.specs.Runs.{Operation, add, replace, drop_last, ask, Does, Step, Through, none, more, given, after_step, after, fresh_count, Holds, Empty}
use Rattle.tray_runs.proofs.Counting.{fresh_below, halves_below, characters_set, changed_sums, count_most, count_more, count_least, count_set, count_less}

-- ---- what is kept

-- of a room with these characters and these sums: the characters are a line's, 63 of them, and the sums are those worked out afresh
pub record Kept (line w ss : List ℕ) : Type 0 where
  pub same : w ≡ line
  pub sums : ss ≡ fresh_sums line
  pub long : length line ≡ 63
  pub characters : Characters line

pub record Keeps (t : List ℕ) (ls : List (List ℕ)) : Type 0 where
  pub whole : length t ≡ 4738
  pub few : length ls ≤ 64
  pub many : held t ≡ length ls
  pub counted : count t ≡ fresh_count ls
  pub lines : (i : ℕ) → i < length ls → Kept (get_or ls i []) (characters_at i t) (sums_at i t)

pub keeps_empty : (t : List ℕ) → Empty t → Keeps t []
unfolding fresh_count
keeps_empty t e = record { whole = e.whole; few = omega arith; many = e.no_line; counted = e.no_count; lines = λ i h. absurd (omega arith) }

pub keeps_holds : (t : List ℕ) (ls : List (List ℕ)) → Keeps t ls → Holds t ls
keeps_holds t ls k = record { many = k.many; lines = λ i h. (k.lines i h).same; sums = λ i h. (k.lines i h).sums; counted = k.counted }

-- ---- what can be done to such a tray

module _ (t : List ℕ) (ls : List (List ℕ)) (k : Keeps t ls) where
  pub keeps_fit : Fit t
  keeps_fit =
      let m = count_most ls in record { whole = k.whole; few = omega arith; counted = omega arith }

  pub keeps_sound : (i : ℕ) → i < held t → Sound i t
  keeps_sound i h =
      let line = k.lines i (omega arith) in
      let m = count_least ls i (omega arith) in
      record {
        low = halves_below (room i t) (subst Characters (sym line.same) line.characters) (subst Characters (sym line.sums) (fresh_below (get_or ls i [])));
        counted = λ e. ap wrong line.sums ∙ omega arith;
      }

-- ---- an edit keeps it, where the lines differ only in the one that is edited

module _ (t : List ℕ) (ls ns : List (List ℕ)) (i : ℕ) (w ss : List ℕ) (h n : ℕ) (q : List ℕ) (k : Keeps t ls) (e : Edited t i w ss h n q)
    (few : length ns ≤ 64) (many : h ≡ length ns) (counted : n ≡ fresh_count ns) (here : i < length ns → Kept (get_or ns i []) w ss)
    (others : (j : ℕ) → j < length ns → (j ≡ i → ⊥) → (j < length ls) × (get_or ls j [] ≡ get_or ns j [])) where
  line-here : i < length ns → Kept (get_or ns i []) (characters_at i q) (sums_at i q)
  line-here l = let x = here l in record { same = e.characters ∙ x.same; sums = e.sums ∙ x.sums; long = x.long; characters = x.characters }

  line-beside : (j : ℕ) → j < length ns → (j ≡ i → ⊥) → Kept (get_or ns j []) (characters_at j q) (sums_at j q)
  line-beside j l d =
      let x = others j l d in
      subst (λ (line : List ℕ). Kept line (characters_at j q) (sums_at j q)) x.1
      (subst (λ (r : List ℕ). Kept (get_or ls j []) (take 63 r) (drop 63 r)) (sym (e.others j (omega arith) d)) (k.lines j x.0))

  line_at : (j : ℕ) → j < length ns → Kept (get_or ns j []) (characters_at j q) (sums_at j q)
  line_at j l =
      ⊎_elim (λ (same : j ≡ i). subst (λ (x : ℕ). x < length ns → Kept (get_or ns x []) (characters_at x q) (sums_at x q)) (sym same) line-here l)
      (line-beside j l) (same_or_not j i)

  keeps-edited : Keeps q ns
  keeps-edited = record { whole = e.long ∙ k.whole; few = few; many = e.held_is ∙ many; counted = e.count_is ∙ counted; lines = line_at }

-- ---- each operation that is not refused

-- a line with one character replaced: its sums are the held ones with the change's share added
pub kept_changed : (line w ss : List ℕ) (a c : ℕ) → Kept line w ss → a ≤ 62 → c ≤ 63 → Kept (set line a c) (set w a c) (with_shares a (sum (get_or w a 0) c) ss)
kept_changed line w ss a c k h m =
    record {
      same = ap (λ (x : List ℕ). set x a c) k.same;
      sums = ap₂ (λ (x y : List ℕ). with_shares a (sum (get_or x a 0) c) y) k.same k.sums ∙ changed_sums line a c k.long h;
      long = length-set line a c ∙ k.long;
      characters = characters_set line a c k.characters (omega arith) m;
    }

module _ (t q fields : List ℕ) (ls : List (List ℕ)) (k : Keeps t ls) where
  pub keeps_adding : (w : List ℕ) → Adds t w (0 ∷ fields) q → Keeps q (ls ++ w ∷ [])
  keeps_adding w adds =
      let longer : length (ls ++ w ∷ []) ≡ length ls + 1 = length-append ls (w ∷ []) in
      let may = may_add t q fields w adds in
      let last : get_or (ls ++ w ∷ []) (held t) [] ≡ w = rw k.many (get_or-append_seam ls w [] []) in
      keeps-edited t ls (ls ++ w ∷ []) (held t) w (fresh_sums w) (held t + 1) (count t + wrong (fresh_sums w)) q k (added t q fields w adds)
      (omega arith) (omega arith) (ap (λ (n : ℕ). n + wrong (fresh_sums w)) k.counted ∙ sym (count_more ls w))
      (λ _. subst (λ (line : List ℕ). Kept line w (fresh_sums w)) (sym last) (record { same = refl; sums = refl; long = may.1.0; characters = may.1.1.0 }))
      (λ j l d. let b : j < length ls = omega arith in (b, sym (get_or-append ls (w ∷ []) [] j b)))

  pub keeps_replacing : (i a c : ℕ) → Replaces t i a c (0 ∷ fields) q → Keeps q (set ls i (set (get_or ls i []) a c))
  keeps_replacing i a c replaces =
      let may = may_replace t q fields i a c replaces in
      let line = k.lines i (omega arith) in
      let new = kept_changed (get_or ls i []) (characters_at i t) (sums_at i t) a c line may.1.1.0 may.1.1.1.0 in
      let as_many : length (set ls i (set (get_or ls i []) a c)) ≡ length ls = length-set ls i (set (get_or ls i []) a c) in
      let counts = count_set ls i (omega arith) (set (get_or ls i []) a c) in
      let old-wrong = ap wrong line.sums in
      let new-wrong = ap wrong new.sums in
      keeps-edited t ls (set ls i (set (get_or ls i []) a c)) i _ _ _ _ q k (replaced t q fields i a c replaces) (omega arith) (omega arith) (omega arith)
      (λ l.
      subst (λ (x : List ℕ). Kept x (set (characters_at i t) a c) (sums_after t i a c)) (sym (get_or-set_same ls i (set (get_or ls i []) a c) [] (omega arith))) new)
      (λ j l d. (omega arith, sym (get_or-set_other ls i j (set (get_or ls i []) a c) [] d)))

  pub keeps_dropping : Drops t (0 ∷ fields) q → Keeps q (take (length ls - 1) ls)
  keeps_dropping drops =
      let may = may_drop t q fields drops in
      let shorter : length (take (length ls - 1) ls) ≡ length ls - 1 = length-take-le (length ls - 1) ls (omega arith) in
      let line = k.lines (last_line t) (omega arith) in
      let counts = count_less ls (length ls - 1) (omega arith) (omega arith) in
      let same : last_line t ≡ length ls - 1 = omega arith in
      let old-wrong : wrong (sums_at (last_line t) t) ≡ wrong (fresh_sums (get_or ls (length ls - 1) [])) = ap wrong (line.sums ∙ ap (λ (i : ℕ). fresh_sums (get_or ls i [])) same) in
      keeps-edited t ls (take (length ls - 1) ls) (last_line t) _ _ _ _ q k (dropped t q fields drops) (omega arith) (omega arith) (omega arith)
      (λ l. absurd (omega arith)) (λ j l d. (omega arith, sym (get_or-take (length ls - 1) ls j [] (omega arith))))

-- ---- any operation, and runs

no_answer : (t : List ℕ) (o : Operation) (q : List ℕ) → Does t o [] q → ⊥
unfolding Adds Replaces Drops Asks
no_answer t (add w) q p = p
no_answer t (replace i a c) q p = p
no_answer t drop_last q p = p
no_answer t ask q p = p.0

-- a refused operation leaves the tray, whatever it holds
pub refused_alone : (t : List ℕ) (o : Operation) (n : ℕ) (fields q : List ℕ) → (n ≡ 0 → ⊥) → Does t o (n ∷ fields) q → q ≡ t
refused_alone t (add w) n fields q d p = refused_adding t w n fields q d p
refused_alone t (replace i a c) n fields q d p = refused_replacing t i a c n fields q d p
refused_alone t drop_last n fields q d p = refused_dropping t n fields q d p
refused_alone t ask n fields q d p = p.1

keeps_given : (t : List ℕ) (o : Operation) (fields q : List ℕ) (ls : List (List ℕ)) → Keeps t ls → Does t o (0 ∷ fields) q → Keeps q (given o ls)
keeps_given t (add w) fields q ls k p = keeps_adding t q fields ls k w p
keeps_given t (replace i a c) fields q ls k p = keeps_replacing t q fields ls k i a c p
keeps_given t drop_last fields q ls k p = keeps_dropping t q fields ls k p
keeps_given t ask fields q ls k p = subst (λ (r : List ℕ). Keeps r ls) (sym p.1) k

keeps_done : (t : List ℕ) (o : Operation) (numbers q : List ℕ) (ls : List (List ℕ)) → Keeps t ls → Does t o numbers q
    → Keeps q (cond (eqb (get_or numbers 0 1) 0) (given o ls) ls)
keeps_done t o [] q ls k p = absurd (no_answer t o q p)
keeps_done t o (zero ∷ fields) q ls k p = keeps_given t o fields q ls k p
keeps_done t o (suc n ∷ fields) q ls k p =
    rw (eqb-suc-zero n) (subst (λ (r : List ℕ). Keeps r ls) (sym (refused_alone t o (suc n) fields q (λ e. omega arith) p)) k)

pub keeps_run : (ss : List Step) (t q : List ℕ) (ls : List (List ℕ)) → Keeps t ls → Through t ss q → Keeps q (after ls ss)
unfolding after
keeps_run [] t q ls k none = k
keeps_run (s ∷ ss) t q ls k (more {q = m} does run) = keeps_run ss m q (after_step s ls) (keeps_done t s.operation s.numbers m ls k does) run

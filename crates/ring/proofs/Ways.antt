-- The ways out of listing and of reading a ring, a test at a time, in the paper's order.
use mathlib.Core.Path.{◌≡◌, refl, sym, ap, ap₂, ◌∙◌, subst}
use mathlib.Core.List.{List, [], ◌∷◌, ◌++◌}
use Prim.Native.Nat.{ℕ, min, ◌+◌, ◌*◌, ◌%◌, ◌<◌, ◌≤◌}
use native.Mathlib.Nat.{mod-eq_of_lt}
use native.Mathlib.Omega.{arith}
use lib.ListN.{length, get_or, drop}
use Rattle.std.specs.Prelude.{Option, Some, None, IsSome}
use Rattle.numbers.proofs.Cases.{pos_of_not_zero}
use Rattle.refusal.specs.Promise.{Test}
use Rattle.refusal.proofs.Ladder.{Yes, No, Met, FailsAt, answer_at, refuses, succeeds}
use Rattle.code.specs.Word.{Characters, Line, number, distance}
use Rattle.code.proofs.Lines.{line_characters}
use Rattle.mender.specs.declared.Mended.{Mended}
use Rattle.mender.specs.Mender.{Near}
use Rattle.line.specs.Promises.{Within, told}
use Rattle.line.specs.Inside.{NearestLine}
use Rattle.ring.specs.Ring.{placed, Start, ListOf}
use Rattle.ring.specs.Promises.{listing_tests, Lists, ListsRing, ListHas, reading_tests, ReadsAt, ReadsRing}
use Rattle.ring.specs.Inside.{Listable}
use Rattle.ring.proofs.Placing.{kept}
use Rattle.ring.proofs.Those.{one_those, those_entry}

-- ---- listing

module _ (ring : List ℕ) (t : ℕ) (old : List ℕ) where
  abbrev list-tests : List Test
  list-tests = listing_tests ring t (length old)

  pub list_refused : (n : ℕ) → FailsAt n list-tests → ListsRing ring t old (answer_at n list-tests ∷ 0 ∷ []) old
  unfolding ListsRing
  list_refused = refuses (Lists ring t old) 1 old list-tests

  pub list_written : (fields new : List ℕ) → Met list-tests → Lists ring t old fields new → ListsRing ring t old (0 ∷ fields) new
  unfolding ListsRing
  list_written = succeeds (Lists ring t old) 1 old list-tests

-- after the tests the loop over the starts may begin
pub listable : (ring : List ℕ) (t : ℕ) → length ring ≡ 63 → Yes (Characters ring) → t ≤ 5 → Listable ring t
listable ring t long range small = record { long = long; characters = range.is; small = small }

-- ---- the list by its count

first_alone : (l rest : List ℕ) → length l ≡ 1 → l ≡ get_or (l ++ rest) 0 0 ∷ []
first_alone [] rest e = absurd (omega arith)
first_alone (k ∷ []) rest e = refl
first_alone (k ∷ j ∷ l) rest e = absurd (omega arith)

module _ (ring : List ℕ) (t : ℕ) (before : List ℕ) (n : ℕ) (out : List ℕ) (lists : Lists ring t before (n ∷ []) out) where
  count_is : n ≡ length lists.starts
  count_is = ap (λ (l : List ℕ). get_or l 0 0) lists.count

  -- every list of the ring has this count
  list_count : (P : ℕ → Type 0) → ListHas t ring P → P n
  list_count P (starts, these, p) = subst P (sym (count_is ∙ ap length (one_those lists.these these))) p

  pub empty : n ≡ 0 → No (ListHas t ring (λ n. 1 ≤ n))
  empty e = record { not = λ h. let g : 1 ≤ n = list_count (λ n. 1 ≤ n) h in omega arith }

  pub many : 1 < n → No (ListHas t ring (λ n. n ≤ 1))
  many h = record { not = λ f. let g : n ≤ 1 = list_count (λ n. n ≤ 1) f in omega arith }

  pub not_many : n ≤ 1 → Yes (ListHas t ring (λ n. n ≤ 1))
  not_many few = record { is = (lists.starts, lists.these, subst (λ (m : ℕ). m ≤ 1) count_is few) }

  module _ (some : n ≡ 0 → ⊥) where
    pub not_empty : Yes (ListHas t ring (λ n. 1 ≤ n))
    not_empty = record { is = (lists.starts, lists.these, pos_of_not_zero (length lists.starts) (λ e. some (count_is ∙ e))) }

    module _ (few : n ≤ 1) where
      -- a list of one entry: the output has it first
      list-one : ListOf t ring (get_or out 0 0 ∷ [])
      list-one =
          let least : 1 ≤ n = pos_of_not_zero n some in
          let one : n ≡ 1 = omega arith in
          subst (ListOf t ring)
          (first_alone lists.starts (drop (length lists.starts) before) (sym count_is ∙ one) ∙ ap (λ (l : List ℕ). get_or l 0 0 ∷ []) (sym lists.output))
          lists.these

-- ---- reading

module _ (ring : List ℕ) (t : ℕ) (old : List ℕ) where
  abbrev tests : List Test
  tests = reading_tests ring t (length old)

  pub refused : (n : ℕ) → FailsAt n tests → ReadsRing ring t old (answer_at n tests ∷ 0 ∷ 0 ∷ 0 ∷ 0 ∷ 0 ∷ []) old
  unfolding ReadsRing
  refused = refuses (ReadsAt ring t) 5 old tests

  pub read : (fields new : List ℕ) → Met tests → ReadsAt ring t fields new → ReadsRing ring t old (0 ∷ fields) new
  unfolding ReadsRing
  read = succeeds (ReadsAt ring t) 5 old tests

-- ---- the line at the one start

module _ (ring : List ℕ) (t : ℕ) (characters : Yes (Characters ring)) (small : t ≤ 5) (before : List ℕ) (n : ℕ) (out : List ℕ) (lists : Lists ring t before (n ∷ []) out)
    (some : n ≡ 0 → ⊥) (few : n ≤ 1) (word : List ℕ) (is : word ≡ placed (get_or out 0 0) ring) where
  -- the one start is listed, so a line is found there
  pub found_here : (m : Option Mended) → NearestLine word t m → IsSome m
  found_here (Some m) near = refl
  found_here None far =
      let s : Start t ring (get_or out 0 0) = (those_entry (list-one ring t before n out lists some few) 0 (omega arith)).has in
      let h : distance (placed (get_or out 0 0) ring) s.0 ≤ t = s.1.near in
      absurd (far.none
      (record {
        long = ap length is ∙ (kept (get_or out 0 0)).long ring;
        characters = subst Characters (sym is) ((kept (get_or out 0 0)).characters ring characters.is);
      })
      s.0 s.1.line (let e = ap (λ (w : List ℕ). distance w s.0) is in omega arith))

  module _ (found : Option Mended) (m : Mended) (taken : found ≡ Some m) (nearest : NearestLine word t found) where
    near-here : Near Line word (min t 5) m
    near-here = rw taken at nearest

    within-here : Within t (placed (get_or out 0 0) ring) m.word
    within-here =
        let d : m.weight ≡ distance (placed (get_or out 0 0) ring) m.word = near-here.apart ∙ ap (λ (w : List ℕ). distance w m.word) is in
        let g = near-here.within in
        record { line = near-here.is; near = omega arith }

    pub the_line : (v : ℕ) → v ≡ get_or m.word 50 0 % 64 * 64 + get_or m.word 51 0 % 64 → (new : List ℕ) → new ≡ m.word
        → ReadsAt ring t (get_or out 0 0 ∷ v ∷ m.weight ∷ m.first ∷ m.last ∷ []) new
    the_line v e new output =
        let c = line_characters m.word near-here.is in
        subst (ReadsAt ring t (get_or out 0 0 ∷ v ∷ m.weight ∷ m.first ∷ m.last ∷ [])) (sym output)
        (record {
          start = get_or out 0 0;
          only = list-one ring t before n out lists some few;
          within = within-here;
          shows = ap₂ (λ (x y : ℕ). get_or out 0 0 ∷ x ∷ y ∷ m.first ∷ m.last ∷ [])
              (e ∙ ap₂ (λ (x y : ℕ). x * 64 + y) (mod-eq_of_lt (c 50)) (mod-eq_of_lt (c 51))) near-here.apart
              ∙ ap₂ (λ (x y : ℕ). get_or out 0 0 ∷ number m.word ∷ distance word m.word ∷ x ∷ y ∷ []) near-here.ends.from near-here.ends.to
              ∙ ap (λ (w : List ℕ). get_or out 0 0 ∷ told w m.word) is;
        })

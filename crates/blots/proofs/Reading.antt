-- The ways out of reading a line with blots, a test at a time, in the paper's order.
use mathlib.Core.Path.{◌≡◌, sym, ap, ap₂, ◌∙◌, subst}
use mathlib.Core.Logic.{⊎_elim}
use mathlib.Core.List.{List, [], ◌∷◌}
use Prim.Native.Nat.{ℕ, ◌+◌, ◌*◌, ◌%◌, ◌<◌, ◌≤◌}
use native.Mathlib.Nat.{mod-eq_of_lt}
use native.Mathlib.Omega.{arith}
use lib.ListN.{length, get_or, replicate, get_or-eq_default}
use lib.Seq.{ext_get_or}
use Rattle.std.specs.Prelude.{Option, Some, None, unwrap_or}
use Rattle.numbers.proofs.Cases.{le_or_lt}
use Rattle.refusal.specs.Promise.{Test}
use Rattle.refusal.proofs.Ladder.{Yes, No, Met, FailsAt, answer_at, refuses, succeeds}
use Rattle.polynomial.specs.Sums.{weight}
use Rattle.code.specs.Word.{Characters, number, distance, added}
use Rattle.code.specs.Inside.{Ends}
use Rattle.code.proofs.Words.{zero_get}
use Rattle.code.proofs.Lines.{line_characters}
use Rattle.code.proofs.Distances.{distance_added, weight_le}
use Rattle.code.proofs.Changes.{Same, first_at, last_at, ends_none, ends_added}
use Rattle.mender.specs.Found.{Corrects}
use Rattle.blots.specs.declared.Errors.{Errors}
use Rattle.blots.specs.Promises.{BlottedLine, Legible, blotted_tests, BlottedAs, ReadsBlotted}
use Rattle.blots.specs.Inside.{FirstSet, LastSet, FoundNear, FindsNear}

-- ---- the tests

module _ (w m old : List ℕ) where
  abbrev tests : List Test
  tests = blotted_tests w m (length old)

  pub refused : (n : ℕ) → FailsAt n tests → ReadsBlotted w m old (answer_at n tests ∷ 0 ∷ 0 ∷ 0 ∷ 0 ∷ []) old
  unfolding ReadsBlotted
  refused = refuses (BlottedAs m w) 4 old tests

  pub read : (fields new : List ℕ) → Met tests → BlottedAs m w fields new → ReadsBlotted w m old (0 ∷ fields) new
  unfolding ReadsBlotted
  read = succeeds (BlottedAs m w) 4 old tests

-- ---- where the errors are

module _ (x : List ℕ) (long : length x ≡ 63) where
  zero_past : (k : ℕ) → 63 ≤ k → get_or x k 0 ≡ 0
  zero_past k h = get_or-eq_default x 0 (omega arith)

  same-zero : (k : ℕ) → get_or x k 0 ≡ 0 → Same (replicate 63 0) x k
  same-zero k e = zero_get 63 k ∙ sym e

  nothing-set : ((k : ℕ) → k < 63 → get_or x k 0 ≡ 0) → replicate 63 0 ≡ x
  nothing-set z = ext_get_or 0 (replicate 63 0) x (sym long) (λ k h. same-zero k (z k h))

  ends_at : (f l : Option ℕ) → FirstSet x f → LastSet x l → Ends (replicate 63 0) x (unwrap_or f 63) (unwrap_or l 63)
  -- both are 63 where nothing is set
  ends_at None None first last = subst (λ (y : List ℕ). Ends (replicate 63 0) y 63 63) (nothing-set first.zero) ends_none
  ends_at None (Some l) first last = absurd (last.there (first.zero l last.inside))
  ends_at (Some f) None first last = absurd (first.there (last.zero f first.inside))
  ends_at (Some f) (Some l) first last =
      record {
        from = first_at (replicate 63 0) x (sym long) f
            (record { inside = first.inside; before = λ k g. same-zero k (first.before k g); there = λ e. first.there (sym e ∙ zero_get 63 f) });
        to = last_at (replicate 63 0) x (sym long) l
            (record {
              inside = last.inside;
              after = λ k g. same-zero k (⊎_elim (λ (p : 63 ≤ k). zero_past k p) (λ (p : k < 63). last.after k g p) (le_or_lt 63 k));
              there = λ e. last.there (sym e ∙ zero_get 63 l);
            });
      }

-- ---- each of what is told is a byte

pub first_byte : (x : List ℕ) (f : Option ℕ) (n : ℕ) → FirstSet x f → n ≡ unwrap_or f 63 → n < 256
first_byte x None n s e = omega arith
first_byte x (Some f) n s e = let h = s.inside in omega arith

pub last_byte : (x : List ℕ) (l : Option ℕ) (n : ℕ) → LastSet x l → n ≡ unwrap_or l 63 → n < 256
last_byte x None n s e = omega arith
last_byte x (Some l) n s e = let h = s.inside in omega arith

pub count_byte : (x : List ℕ) (d : ℕ) → length x ≡ 63 → d ≡ weight x → d < 256
count_byte x d l e = let h = weight_le x in omega arith

-- ---- what is found: no line, or the line

-- the map is held for it
module _ (w m held : List ℕ) (o : Option Errors) (same : held ≡ m) (finds : FindsNear w held o) (long : length w ≡ 63) (characters : Yes (Characters w)) where
  near : FindsNear w m o
  near = subst (λ (h : List ℕ). FindsNear w h o) same finds

  pub none_near : o ≡ None → No (Legible m w)
  none_near q = record { not = λ p. (subst (FindsNear w m) q near).none long characters.is p.0 p.1 }

  module _ (r : Errors) (q : o ≡ Some r) where
    found : FoundNear w m r
    found = subst (FindsNear w m) q near

    here : BlottedLine m w (added w r.word)
    here = found.is long characters.is

    pub found_legible : Yes (Legible m w)
    found_legible = record { is = (added w r.word, here) }

    module _ (line : List ℕ) (n d : ℕ) (f l : Option ℕ) (i j : ℕ) (corrects : Corrects w r.word line) (en : n ≡ get_or line 50 0 % 64 * 64 + get_or line 51 0 % 64) (ed : d ≡ weight r.word)
        (first : FirstSet r.word f) (ef : i ≡ unwrap_or f 63) (last : LastSet r.word l) (el : j ≡ unwrap_or l 63) where
      line-is : line ≡ added w r.word
      line-is = corrects.whole long

      is-line : BlottedLine m w line
      is-line = subst (BlottedLine m w) (sym line-is) here

      number_is : n ≡ number line
      number_is =
          let c = line_characters line is-line.line in
          en ∙ ap₂ (λ (x y : ℕ). x * 64 + y) (mod-eq_of_lt (c 50)) (mod-eq_of_lt (c 51))

      distance_is : d ≡ distance w line
      distance_is = ed ∙ sym (ap (distance w) line-is ∙ distance_added w r.word (long ∙ sym found.long))

      ends : Ends w line i j
      ends =
          subst (Ends w line i) (sym el)
          (subst (λ (k : ℕ). Ends w line k (unwrap_or l 63)) (sym ef)
          (ends_added w r.word line (unwrap_or f 63) (unwrap_or l 63) long found.long line-is (ends_at r.word found.long f l first last)))

      pub read_as : (new : List ℕ) → new ≡ line → BlottedAs m w (n ∷ d ∷ i ∷ j ∷ []) new
      read_as new e =
          subst (BlottedAs m w (n ∷ d ∷ i ∷ j ∷ [])) (sym e) (
            is-line,
            ap₂ (λ (x y : ℕ). x ∷ y ∷ i ∷ j ∷ []) number_is distance_is ∙ ap₂ (λ (x y : ℕ). number line ∷ distance w line ∷ x ∷ y ∷ []) ends.from ends.to,
          )

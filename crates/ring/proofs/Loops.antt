-- What the code of rings does, a turn and a way out at a time, over plain variables.
use mathlib.Core.Path.{◌≡◌, refl, sym, ap, ◌∙◌, subst, subst₂}
use mathlib.Core.Bool.{Bool, true, false, cond}
use mathlib.Core.Logic.{⊎_elim}
use mathlib.Core.List.{List, [], ◌∷◌, ◌++◌, append-nil, append_assoc}
use Prim.Native.Nat.{ℕ, suc, ◌+◌, ◌-◌, ◌%◌, ◌<◌, ◌≤◌}
use native.Mathlib.Numerals.{add-one}
use native.Mathlib.Omega.{arith}
use lib.ListN.{length, get_or, set, drop, length-append, length-set}
use lib.Seq.{drop-cons, set_at, append_snoc, get_or-set_same, get_or-set_other}
use borrow.Author.Count.{below_none, below_more}
use borrow.Author.Tests.{lt-ltb, le-ltb}
use Rattle.std.specs.Prelude.{Option, Some, None, is_some, ◌↔◌, IsTrue}
use Rattle.std.proofs.lemmas.Bool.{false≢true}
use Rattle.numbers.proofs.Cases.{le_or_lt}
use Rattle.refusal.specs.Promise.{Tells}
use Rattle.code.specs.Word.{added}
use Rattle.code.proofs.Words.{same_word}
use Rattle.code.proofs.Turning.{turned_get, reversed_get}
use Rattle.mender.specs.declared.Mended.{Mended}
use Rattle.mender.specs.Mender.{Mends}
use Rattle.ring.specs.Ring.{placed, Those, end, included, excluded}
use Rattle.ring.specs.Inside.{ErrorsFit, ErrorsFitAt, Tested, tested_end, tested_true, tested_false, ListsWhere, ListsThose, place_of, AllGains, LightBy}
use Rattle.ring.specs.declared.Undecided.{Undecided}
use Rattle.ring.specs.Marks.{marks_of, MarksAtAll}
use Rattle.ring.specs.Filter.{NoErrorsAt, Decides}
use Rattle.ring.proofs.Placing.{kept, placed_forward, placed_backward}
use Rattle.ring.proofs.Starts.{marks_only}

-- ---- whether errors have given sums

pub mend_told : (s : List ℕ) (t : ℕ) (m : Option Mended) (b : Bool) → Mends s 11 t m → b ≡ is_some m → Tells (ErrorsFit s t) b
mend_told s t (Some m) b p e = record { holds = λ q. (m.word, p.fits); fails = λ q. absurd (false≢true (sym q ∙ e)) }
mend_told s t None b p e = record { holds = λ q. absurd (false≢true (sym e ∙ q)); fails = λ q x. p.none x.0 x.1 }

-- ---- the word at a start

pub place_forward : (k a : ℕ) → k < 63 → (k + a) % 63 ≡ place_of k a
place_forward k a h = ap (λ (b : Bool). cond b ((k + a) % 63) ((k - a) % 63)) (sym (lt-ltb k 63 h))

pub place_backward : (k a : ℕ) → 63 ≤ k → (k - a) % 63 ≡ place_of k a
place_backward k a h = ap (λ (b : Bool). cond b ((k + a) % 63) ((k - a) % 63)) (sym (le-ltb k 63 h))

-- the ring place is one of the 63
pub place_inside : (ring : List ℕ) (k a p : ℕ) → length ring ≡ 63 → p ≡ place_of k a → p < length ring
place_inside ring k a p l e =
    ⊎_elim (λ (h : 63 ≤ k). let f = place_backward k a h in omega arith) (λ (h : k < 63). let f = place_forward k a h in omega arith) (le_or_lt 63 k)

pub placed_get : (k a : ℕ) (ring : List ℕ) → a < 63 → get_or (placed k ring) a 0 ≡ get_or ring (place_of k a) 0
placed_get k a ring h =
    ⊎_elim
    (λ (l : 63 ≤ k).
    ap (λ (w : List ℕ). get_or w a 0) (placed_backward k ring l) ∙ reversed_get (k - 63) ring a h
    ∙ ap (λ (p : ℕ). get_or ring p 0) (ap (λ (n : ℕ). (n - a) % 63) (again k l) ∙ place_backward k a l))
    (λ (l : k < 63).
    ap (λ (w : List ℕ). get_or w a 0) (placed_forward k ring l) ∙ turned_get k ring a h ∙ ap (λ (p : ℕ). get_or ring p 0) (place_forward k a l))
    (le_or_lt 63 k)
  where
    again : (k : ℕ) → 63 ≤ k → k - 63 + 63 ≡ k
    again k l = omega arith

pub record PlacedTo (ring : List ℕ) (k : ℕ) (word : List ℕ) (a : ℕ) : Type 0 where
  pub most : a ≤ 63
  pub long : length word ≡ 63
  pub done : (b : ℕ) → b < a → get_or word b 0 ≡ get_or (placed k ring) b 0

pub placed_start : (ring : List ℕ) (k : ℕ) (word : List ℕ) → length word ≡ 63 → PlacedTo ring k word 0
placed_start ring k word h = record { most = omega arith; long = h; done = below_none (λ b. get_or word b 0 ≡ get_or (placed k ring) b 0) }

pub placed_more : (ring : List ℕ) (k : ℕ) (word : List ℕ) (a p : ℕ) → PlacedTo ring k word a → a < 63 → p ≡ place_of k a
    → PlacedTo ring k (set word a (get_or ring p 0)) (a + 1)
placed_more ring k word a p t h e =
    record {
      most = omega arith;
      long = length-set word a (get_or ring p 0) ∙ t.long;
      done = below_more (λ b. get_or (set word a (get_or ring p 0)) b 0 ≡ get_or (placed k ring) b 0) a
          (λ b l. get_or-set_other word a b (get_or ring p 0) 0 (λ q. omega arith) ∙ t.done b l)
          (get_or-set_same word a (get_or ring p 0) 0 (let l = t.long in omega arith) ∙ ap (λ (n : ℕ). get_or ring n 0) e ∙ sym (placed_get k a ring h));
    }

pub placed_all : (ring : List ℕ) (k : ℕ) (word : List ℕ) (a : ℕ) → PlacedTo ring k word a → 63 ≤ a → word ≡ placed k ring
placed_all ring k word a t h = same_word word (placed k ring) t.long ((kept k).long ring) (λ b l. t.done b (omega arith))

-- ---- the list: of the starts below k those with the property are listed, and whatever lists the rest completes the list

moved_test : {T : ℕ → Bool → Type 0} {n m k j : ℕ} {l : List ℕ} → n ≡ m → k ≡ j → Tested T n k l → Tested T m j l
moved_test {T} {l = l} p q t = subst₂ (λ (n k : ℕ). Tested T n k l) p q t

pub record ListedTo (T : ℕ → Bool → Type 0) (old out : List ℕ) (n k : ℕ) : Type 0 where
  pub room : length old ≡ 126
  pub most : k ≤ 126
  pub few : n ≤ k
  pub long : length out ≡ 126
  pub starts : List ℕ
  pub count : n ≡ length starts
  pub output : out ≡ starts ++ drop n old
  pub whole : (more : List ℕ) → Tested T (126 - k) k more → Tested T 126 0 (starts ++ more)

pub listed_none : (T : ℕ → Bool → Type 0) (old : List ℕ) → length old ≡ 126 → ListedTo T old old 0 0
listed_none T old room =
    record {
      room = room;
      most = omega arith;
      few = omega arith;
      long = room;
      starts = [];
      count = refl;
      output = refl;
      whole = λ more t. t;
    }

module _ (T : ℕ → Bool → Type 0) (old out : List ℕ) (n k n' : ℕ) (out' : List ℕ) (s : ListedTo T old out n k) (h : k < 126) where
  pub listed_one : (b : Bool) → T k b → b ≡ true → n' ≡ n + 1 → out' ≡ set out n k → ListedTo T old out' n' (k + 1)
  listed_one b told is en eo =
      let c : n ≡ length s.starts = s.count in
      let x : set out n k ≡ (s.starts ++ (k ∷ [])) ++ drop (n + 1) old =
      ap (λ (l : List ℕ). set l n k) (s.output ∙ ap (λ (l : List ℕ). s.starts ++ l) (drop-cons old n 0 (omega (arith, s.room, s.few))))
      ∙ set_at s.starts (get_or old n 0) (drop (suc n) old) k n (sym c) ∙ sym (append_snoc s.starts k (drop (suc n) old))
      ∙ ap (λ (j : ℕ). (s.starts ++ (k ∷ [])) ++ drop j old) (sym (add-one n))
      in
      record {
        room = s.room;
        most = omega arith;
        few = omega (arith, s.few);
        long = ap length eo ∙ length-set out n k ∙ s.long;
        starts = s.starts ++ (k ∷ []);
        count = rw (length-append s.starts (k ∷ [])) (omega arith);
        output = rw en (eo ∙ x);
        whole = λ more r. rw append_assoc (s.whole (k ∷ more) (moved_test {n = suc (126 - (k + 1))} (omega arith) refl (tested_true (subst (T k) is told) (moved_test refl (add-one k) r))));
      }

  pub listed_not : (b : Bool) → T k b → b ≡ false → n' ≡ n → out' ≡ out → ListedTo T old out' n' (k + 1)
  listed_not b told is en eo =
      record {
        room = s.room;
        most = omega arith;
        few = omega (arith, s.few);
        long = ap length eo ∙ s.long;
        starts = s.starts;
        count = en ∙ s.count;
        output = rw en (eo ∙ s.output);
        whole = λ more r. s.whole more (moved_test {n = suc (126 - (k + 1))} (omega arith) refl (tested_false (subst (T k) is told) (moved_test refl (add-one k) r)));
      }

pub listed_all : (T : ℕ → Bool → Type 0) (old out : List ℕ) (n k : ℕ) → ListedTo T old out n k → 126 ≤ k → ListsWhere T old (n ∷ []) out
listed_all T old out n k s h =
    record {
      starts = s.starts;
      these = rw append-nil at (s.whole [] (moved_test {n = 0} (omega (arith, s.most)) refl tested_end));
      count = ap (λ (c : ℕ). c ∷ []) s.count;
      output = s.output ∙ ap (λ (j : ℕ). s.starts ++ drop j old) s.count;
    }

-- where the test tells a property, those are the starts that have it
tested_those : {T : ℕ → Bool → Type 0} {P : ℕ → Type 0} {n k : ℕ} {ks : List ℕ} → ((j : ℕ) (b : Bool) → j < k + n → T j b → Tells (P j) b) → Tested T n k ks → Those P n k ks
tested_those tells tested_end = end
tested_those tells (tested_true {k = k} t s) = included ((tells k true (omega arith) t).holds refl) (tested_those (λ j b h. tells j b (omega arith)) s)
tested_those tells (tested_false {k = k} t s) = excluded ((tells k false (omega arith) t).fails refl) (tested_those (λ j b h. tells j b (omega arith)) s)

pub lists_those : (T : ℕ → Bool → Type 0) (P : ℕ → Type 0) (old fields new : List ℕ) → ((j : ℕ) (b : Bool) → j < 126 → T j b → Tells (P j) b)
    → ListsWhere T old fields new → ListsThose P old fields new
lists_those T P old fields new tells l = record { starts = l.starts; these = tested_those tells l.these; count = l.count; output = l.output }

-- ---- a start by its sums

module _ (sums : List ℕ) (k : ℕ) (m : List (ℕ × ℕ)) (d : List ℕ) (ms : MarksAtAll m) (h : k < 126) (ed : d ≡ added sums (marks_of m k)) where
  pub told_here : (t : ℕ) (b : Bool) → Tells (ErrorsFit d t) b → Tells (ErrorsFitAt sums t k) b
  told_here t b tells = subst (λ (x : List ℕ). Tells (ErrorsFit x t) b) (ed ∙ ap (added sums) (marks_only k (marks_of m k) (ms.at k h))) tells

  -- where the filter has a 0 at this start, no errors have its sums
  pub no_errors_here : (u : Undecided) → Decides sums u → NoErrorsAt u k d
  no_errors_here u f = subst (NoErrorsAt u k) (sym ed) (f.decided k _ h (ms.at k h))

-- ---- a start by what its marks add

pub light_told : (e r : List ℕ) (m k : ℕ) (b : Bool) → AllGains e r → k < 126 → (IsTrue b ↔ (get_or r k 0 ≤ m)) → Tells (LightBy e m k) b
light_told e r m k b all h told =
    record {
      holds = λ q. let g : get_or r k 0 ≤ m = told.0 q in omega (arith, all.at k h);
      fails = λ q l. false≢true (sym q ∙ told.1 (omega (arith, all.at k h)));
    }

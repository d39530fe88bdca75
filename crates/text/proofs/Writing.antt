-- The laws of writing: nothing, a byte, one text after another, and so each writer's own text.
use mathlib.Core.Path.{◌≡◌, refl, sym, ap, ap₂, ◌∙◌}
use mathlib.Core.List.{List, [], ◌∷◌, ◌++◌, append-nil, append_assoc}
use Prim.Native.Nat.{ℕ, zero, suc, ◌+◌, ◌-◌, ◌/◌, ◌%◌, ◌<◌, ◌≤◌}
use native.Mathlib.Numerals.{add-one, unary_clauses}
use native.Mathlib.Nat.{add-zero, zero-add}
use native.Mathlib.Omega.{arith}
use lib.ListN.{length, get_or, set, take, drop, length-set, length-append, length-take, take-append-drop}
use lib.Seq.{take-suc, take-suc-set, drop-set-lt, drop-drop, take_all, take-nil}
use Rattle.text.specs.Text.{decimal, fields, line}
use Rattle.text.specs.Writing.{fitting, Puts}
use Rattle.text.proofs.Decimal.{decimal_small, decimal_more, fields_append}

-- the first n of one list after another
take_append : (n : ℕ) (s t : List ℕ) → take n (s ++ t) ≡ take n s ++ take (n - length s) t
take_append n [] t = simp (take-nil {A = ℕ}, unary_clauses)
take_append zero (x ∷ s) t = let z : 0 - length (x ∷ s) ≡ 0 = omega arith in rw z
take_append (suc n) (x ∷ s) t = simp unary_clauses (ap (λ (l : List ℕ). x ∷ l) (take_append n s t))

pub puts_none : (old : List ℕ) (at : ℕ) → Puts old old at at []
puts_none old at =
    record {
      place = rw (take-nil (length old - at)) (sym (add-zero at));
      long = refl;
      up_to = rw (take-nil (length old - at)) (sym (append-nil (take at old)));
      after = refl;
    }

-- one text after another: where the first is left short, nothing of the second fits
module _ {old mid new : List ℕ} {a b c : ℕ} {s t : List ℕ} (p : Puts old mid a b s) (q : Puts mid new b c t) where
  both : fitting old a (s ++ t) ≡ fitting old a s ++ fitting mid b t
  both =
      let l : length mid ≡ length old = p.long in
      let h : b ≡ a + length (take (length old - a) s) = p.place in
      let k : length old - a - length s ≡ length mid - b = omega (arith, length-take (length old - a) s) in
      take_append (length old - a) s t ∙ ap (λ (n : ℕ). take (length old - a) s ++ take n t) k

  further : drop c mid ≡ drop c old
  further =
      ap (λ (n : ℕ). drop n mid) q.place ∙ sym (drop-drop (length (fitting mid b t)) b mid) ∙ ap (drop (length (fitting mid b t))) p.after
      ∙ drop-drop (length (fitting mid b t)) b old ∙ ap (λ (n : ℕ). drop n old) (sym q.place)

  pub puts_then : Puts old new a c (s ++ t)
  puts_then =
      record {
        place = rw (both, length-append (fitting old a s) (fitting mid b t)) (omega (arith, p.place, q.place));
        long = q.long ∙ p.long;
        up_to = rw both (q.up_to ∙ ap (λ (l : List ℕ). l ++ fitting mid b t) p.up_to ∙ append_assoc (take a old) (fitting old a s) (fitting mid b t));
        after = q.after ∙ further;
      }

-- a byte
pub byte_out : (old : List ℕ) (at x : ℕ) → length old ≤ at → Puts old old at at (x ∷ [])
byte_out old at x h =
    let z : length old - at ≡ 0 = omega arith in
    record { place = rw z (sym (add-zero at)); long = refl; up_to = rw z (sym (append-nil (take at old))); after = refl }

pub byte_in : (old : List ℕ) (at x : ℕ) → at < length old → Puts old (set old at x) at (at + 1) (x ∷ [])
byte_in old at x h =
    let e : take (length old - at) (x ∷ []) ≡ x ∷ [] = take_all (length old - at) (x ∷ []) (omega arith) in
    record {
      place = rw e refl;
      long = length-set old at x;
      up_to = rw (e, add-one at) (take-suc-set old at x h);
      after = drop-set-lt (at + 1) old at x (omega arith);
    }

-- ---- a number

pub number_small : (old new : List ℕ) (at next n : ℕ) → n < 10 → Puts old new at next ((48 + n) ∷ []) → Puts old new at next (decimal n)
number_small old new at next n h w = rw (decimal_small n h) w

pub number_more : (old mid new : List ℕ) (at next last n : ℕ) → 10 ≤ n → Puts old mid at next (decimal (n / 10)) → Puts mid new next last ((48 + n % 10) ∷ [])
    → Puts old new at last (decimal n)
number_more old mid new at next last n h p q = rw (decimal_more n h) (puts_then p q)

pub field_text : (old mid new : List ℕ) (at next last n : ℕ) → Puts old mid at next (32 ∷ []) → Puts mid new next last (decimal n) → Puts old new at last (32 ∷ decimal n)
field_text old mid new at next last n p q = puts_then p q

-- ---- a word, byte by byte: the first i are put

pub word_more : (word old out new : List ℕ) (at next last i : ℕ) → Puts old out at next (take i word) → i < length word → Puts out new next last (get_or word i 0 ∷ [])
    → Puts old new at last (take (i + 1) word)
word_more word old out new at next last i p h q = rw (add-one i, take-suc word i 0 h) (puts_then p q)

pub word_all : (word old out : List ℕ) (at next i : ℕ) → Puts old out at next (take i word) → length word ≤ i → Puts old out at next word
word_all word old out at next i p h = rw (take_all i word h) at p

-- ---- numbers after spaces, one by one

pub fields_none : (old : List ℕ) (at : ℕ) → Puts old old at at (fields [])
unfolding fields
fields_none old at = puts_none old at

one_field : (n : ℕ) → fields (n ∷ []) ≡ 32 ∷ decimal n
unfolding fields
one_field n = ap (λ (l : List ℕ). 32 ∷ l) (append-nil (decimal n))

pub fields_more : (ns old out new : List ℕ) (at next last i : ℕ) → Puts old out at next (fields (take i ns)) → i < length ns → Puts out new next last (32 ∷ decimal (get_or ns i 0))
    → Puts old new at last (fields (take (i + 1) ns))
fields_more ns old out new at next last i p h q =
    let e : fields (take (i + 1) ns) ≡ fields (take i ns) ++ (32 ∷ decimal (get_or ns i 0)) =
    ap fields (ap (λ (k : ℕ). take k ns) (add-one i) ∙ take-suc ns i 0 h) ∙ fields_append (take i ns) (get_or ns i 0 ∷ [])
    ∙ ap (λ (l : List ℕ). fields (take i ns) ++ l) (one_field (get_or ns i 0))
    in
    rw e (puts_then p q)

pub fields_all : (ns old out : List ℕ) (at next i : ℕ) → Puts old out at next (fields (take i ns)) → length ns ≤ i → Puts old out at next (fields ns)
fields_all ns old out at next i p h = rw (take_all i ns h) at p

-- ---- a line

pub line_text : (word ns o p q r : List ℕ) (at a b next : ℕ) → Puts o p at a word → Puts p q a b (fields ns) → Puts q r b next (10 ∷ []) → Puts o r at next (line word ns)
unfolding line
line_text word ns o p q r at a b next u v w = puts_then u (puts_then v w)

-- ---- where the whole text fits

pub puts_whole : (old new : List ℕ) (next : ℕ) (text : List ℕ) → length text ≤ length old → Puts old new 0 next text
    → (next ≡ length text) × (new ≡ text ++ drop (length text) old)
puts_whole old new next text h w =
    let e : fitting old 0 text ≡ text = take_all (length old - 0) text (omega arith) in
    let n : next ≡ length text = w.place ∙ zero-add (length (fitting old 0 text)) ∙ ap length e in
    (n, sym (take-append-drop next new) ∙ ap₂ ◌++◌ (w.up_to ∙ e) (w.after ∙ ap (λ (k : ℕ). drop k old) n))

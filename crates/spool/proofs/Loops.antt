-- The turns of the loop over the lines of a spool.
use mathlib.Core.Path.{◌≡◌, refl, sym, ap, ◌∙◌, subst}
use mathlib.Core.List.{List, ◌++◌}
use Prim.Native.Nat.{ℕ, zero, suc, ◌+◌, ◌-◌, ◌*◌, ◌<◌, ◌≤◌}
use native.Mathlib.Omega.{arith}
use borrow.Author.Count.{below_none, below_more}
use lib.ListN.{length, get_or, set, take, drop, length-set, replicate}
use lib.Seq.{get_or-set_same, get_or-set_other}
use Rattle.numbers.specs.Parts.{part}
use Rattle.numbers.proofs.Parts.{part_long, replaced, replaced_long, part_same, part_before, part_after}
use Rattle.refusal.specs.declared.Refusal.{Refusal}
use Rattle.line.specs.declared.Reading.{Reading}
use Rattle.line.specs.declared.PlainReading.{PlainReading}
use Rattle.std.specs.Prelude.{None, Result}
use Rattle.line.specs.Promises.{reading_numbers, plain_numbers, Reads}
use Rattle.spool.specs.Promises.{no_place, no_places, left_of, Each}

-- a reading, in plain numbers
pub plainly : (w : List ℕ) (t : ℕ) (old new : List ℕ) (r : Result Reading Refusal) (p : PlainReading) → Reads w t None old (reading_numbers r) new
    → plain_numbers p ≡ reading_numbers r → Reads w t None old (plain_numbers p) new
plainly w t old new r p reads e = subst (λ (n : List ℕ). Reads w t None old n new) (sym e) reads

abbrev ReadAt : List ℕ → ℕ → List ℕ → List ℕ → List PlainReading → ℕ → Type 0
ReadAt lines t old out places k = Reads (part 63 k lines) t None (part 63 k old) (plain_numbers (get_or places k no_place)) (part 63 k out)

-- the first i lines are read, and the rest is as it was
pub record EachTo (lines : List ℕ) (t : ℕ) (old out : List ℕ) (n : ℕ) (places : List PlainReading) (i : ℕ) : Type 0 where
  pub most : i ≤ n
  pub small : n ≤ 255
  pub lines_long : length lines ≡ n * 63
  pub old_long : length old ≡ n * 63
  pub long : length out ≡ n * 63
  pub many : length places ≡ 255
  pub reads : (k : ℕ) → k < i → ReadAt lines t old out places k
  pub untouched : (k : ℕ) → i ≤ k → part 63 k out ≡ part 63 k old
  pub none : (k : ℕ) → i ≤ k → get_or places k no_place ≡ no_place

pub none_at : (n k : ℕ) → get_or (replicate n no_place) k no_place ≡ no_place
none_at zero k = refl
none_at (suc n) zero = refl
none_at (suc n) (suc k) = none_at n k

pub each_none : (lines : List ℕ) (t : ℕ) (old : List ℕ) (n : ℕ) (places : List PlainReading) → n ≤ 255 → length lines ≡ n * 63 → length old ≡ n * 63
    → places ≡ no_places → EachTo lines t old old n places 0
each_none lines t old n places s f o e =
    record {
      most = omega arith;
      small = s;
      lines_long = f;
      old_long = o;
      long = o;
      many = ap length e;
      reads = below_none (ReadAt lines t old old places);
      untouched = λ k h. refl;
      none = λ k h. ap (λ (p : List PlainReading). get_or p k no_place) e ∙ none_at 255 k;
    }

-- a line is read into its own part of the output
pub each_more : (lines : List ℕ) (t : ℕ) (old out : List ℕ) (n : ℕ) (places : List PlainReading) (i : ℕ) (last : List ℕ) (p : PlainReading)
    → EachTo lines t old out n places i → i < n → length last ≡ length (take (i * 63 + 63 - i * 63) (drop (i * 63) out))
    → Reads (take (i * 63 + 63 - i * 63) (drop (i * 63) lines)) t None (take (i * 63 + 63 - i * 63) (drop (i * 63) out)) (plain_numbers p) last
    → EachTo lines t old (take (i * 63) out ++ (last ++ drop (i * 63 + 63 - i * 63) (drop (i * 63) out))) n (set places i p) (i + 1)
each_more lines t old out n places i last p a h long reads = rw width turn
  where
    width : i * 63 + 63 - i * 63 ≡ 63
    width = omega arith

    el : length last ≡ 63
    el = long ∙ rw width (part_long 63 n i out h a.long)

    here : Reads (part 63 i lines) t None (part 63 i old) (plain_numbers p) last
    here = rw (← a.untouched i (omega arith)) (rw width at reads)

    turn : EachTo lines t old (take (i * 63) out ++ (last ++ drop 63 (drop (i * 63) out))) n (set places i p) (i + 1)
    turn =
        record {
          most = omega arith;
          small = a.small;
          lines_long = a.lines_long;
          old_long = a.old_long;
          long = replaced_long 63 out last i n h a.long el;
          many = length-set places i p ∙ a.many;
          reads = below_more (ReadAt lines t old (replaced 63 out last i n h a.long el) (set places i p)) i
              (λ k l.
              let ne : k ≡ i → ⊥ = λ q. omega arith in
              rw (part_before 63 out last i n h a.long el k l, get_or-set_other places i k p no_place ne) (a.reads k l))
              (rw (part_same 63 out last i n h a.long el, get_or-set_same places i p no_place (omega (arith, a.many, a.small))) here);
          untouched = λ k l. part_after 63 out last i n h a.long el k (omega arith) ∙ a.untouched k (omega arith);
          none = λ k l. get_or-set_other places i k p no_place (λ q. omega arith) ∙ a.none k (omega arith);
        }

pub each_all : (lines : List ℕ) (t : ℕ) (old out : List ℕ) (n : ℕ) (places : List PlainReading) (i : ℕ) → EachTo lines t old out n places i → n ≤ i
    → Each lines t old n (left_of places out)
each_all lines t old out n places i a h =
    record {
      many = a.many;
      long = a.long ∙ sym a.old_long;
      reads = λ k l. a.reads k (omega arith);
      past = λ k l. a.none k (omega (arith, a.most));
    }

-- Laws of a table of names: what is written for a byte, case by case; of what holds of each byte of a text, told what follows it; and of texts that begin with a name.
use mathlib.Core.Path.{◌≡◌, refl, sym}
use mathlib.Core.Bool.{Bool, true, false, cond, true≢false}
use mathlib.Core.List.{List, [], ◌∷◌, ◌++◌}
use Prim.Native.Nat.{ℕ, zero, suc, ◌<◌}
use native.Mathlib.Decide.{ℕ_discrete}
use native.Mathlib.Nat.{not-suc-le-zero, le_of_suc-le-suc}
use lib.Dec.{T, eqb}
use lib.ListN.{length, get_or, drop}
use borrow.Author.Tests.{eq-eqb, ne_eqb}
use Rattle.numbers.proofs.Range.{both_left, both_right}
use Rattle.numbers.proofs.Entries.{every}
use Rattle.panel.specs.Escaping.{Named, written_by}
use Rattle.panel.specs.Harmless.{begins, begins_one, stands_in, stands_in_one}

-- ---- a byte and some names

-- none of them is the byte's own
abbrev pub Unnamed : List Named → ℕ → Type 0
Unnamed [] b = Unit {0}
Unnamed (n ∷ ns) b = (b ≡ n.byte → ⊥) × Unnamed ns b

-- that, as a test
unfoldable pub is_unnamed : List Named → ℕ → Bool
is_unnamed [] b = true
is_unnamed (n ∷ ns) b = cond (eqb b n.byte) false (is_unnamed ns b)

pub is_unnamed_lem : (ns : List Named) (b : ℕ) → T (is_unnamed ns b) → Unnamed ns b
unfolding is_unnamed
is_unnamed_lem [] b t = tt
is_unnamed_lem (n ∷ ns) b t = go (ℕ_discrete b n.byte) (is_unnamed_lem ns b)
  where
    go : Dec (b ≡ n.byte) → (T (is_unnamed ns b) → Unnamed ns b) → Unnamed (n ∷ ns) b
    go (yes e) rest = absurd (rw (eq-eqb b n.byte e) at t)
    go (no d) rest = (d, rest (rw (ne_eqb b n.byte d) at t))

-- a property of each byte and its name
abbrev pub EachName : (ℕ → List ℕ → Type 0) → List Named → Type 0
EachName P [] = Unit {0}
EachName P (n ∷ ns) = P n.byte n.name × EachName P ns

-- it holds where a test of the name passes, so of names that all pass it
pub tested_names : (P : ℕ → List ℕ → Type 0) (test : List ℕ → Bool) → ((b : ℕ) (s : List ℕ) → T (test s) → P b s) → (ns : List Named)
    → T (every (λ _ n. test n.name) ns) → EachName P ns
tested_names P test law [] t = tt
tested_names P test law (n ∷ ns) t = (
  law n.byte n.name (both_left (test n.name) (every (λ _ n. test n.name) ns) t),
  tested_names P test law ns (both_right (test n.name) (every (λ _ n. test n.name) ns) t),
)

-- what holds of each byte and its name, and of a byte that has none and itself, holds of every byte and what is written for it
pub by_names : (P : ℕ → List ℕ → Type 0) (b : ℕ) (ns : List Named) → EachName P ns → (Unnamed ns b → P b (b ∷ [])) → P b (written_by ns b)
unfolding written_by
by_names P b [] each other = other tt
by_names P b (n ∷ ns) each other = go (ℕ_discrete b n.byte) (by_names P b ns each.1)
  where
    go : Dec (b ≡ n.byte) → ((Unnamed ns b → P b (b ∷ [])) → P b (written_by ns b)) → P b (cond (eqb b n.byte) n.name (written_by ns b))
    go (yes e) rest = rw (eq-eqb b n.byte e, e) each.0
    go (no d) rest = rw (ne_eqb b n.byte d) (rest (λ u. other (d, u)))

-- ---- the bytes of a text

-- what holds of each of them, told what follows it
abbrev pub EachByte : (ℕ → List ℕ → Type 0) → List ℕ → Type 0
EachByte P [] = Unit {0}
EachByte P (b ∷ bs) = P b bs × EachByte P bs

pub byte_at : (P : ℕ → List ℕ → Type 0) (s : List ℕ) → EachByte P s → (i : ℕ) → i < length s → P (get_or s i 0) (drop (suc i) s)
byte_at P [] each i h = absurd (not-suc-le-zero h)
byte_at P (b ∷ bs) each zero h = each.0
byte_at P (b ∷ bs) each (suc i) h = byte_at P bs each.1 i (le_of_suc-le-suc h)

-- it holds where a test passes, so of a text whose bytes all pass it, in front of one of which it holds
pub tested_before : (P : ℕ → List ℕ → Type 0) (test : ℕ → Bool) → ((b : ℕ) (bs : List ℕ) → T (test b) → P b bs) → (s bs : List ℕ)
    → T (every (λ _. test) s) → EachByte P bs → EachByte P (s ++ bs)
tested_before P test law [] bs t each = each
tested_before P test law (b ∷ s) bs t each = (
  law b (s ++ bs) (both_left (test b) (every (λ _. test) s) t),
  tested_before P test law s bs (both_right (test b) (every (λ _. test) s) t) each,
)

-- ---- a byte that stands in a text, or in one of some names, is such as each byte there is

module _ (Q : ℕ → Type 0) (b : ℕ) where
  stands-in : (s : List ℕ) → EachByte (λ c _. Q c) s → stands_in b s ≡ true → Q b
  unfolding stands_in
  stands-in [] each e = absurd (true≢false (sym e))
  stands-in (c ∷ s) each e = go (ℕ_discrete b c) (stands-in s each.1)
    where
      go : Dec (b ≡ c) → (stands_in b s ≡ true → Q b) → Q b
      go (yes q) rest = rw q each.0
      go (no d) rest = rest (rw (ne_eqb b c d) at e)

  pub stands_in_one_lem : (ns : List Named) → EachName (λ _ s. EachByte (λ c _. Q c) s) ns → stands_in_one b ns ≡ true → Q b
  unfolding stands_in_one
  stands_in_one_lem [] each e = absurd (true≢false (sym e))
  stands_in_one_lem (n ∷ ns) each e = go (stands_in b n.name) (stands-in n.name each.0) (stands_in_one_lem ns each.1) e
    where
      go : (t : Bool) → (t ≡ true → Q b) → (stands_in_one b ns ≡ true → Q b) → cond t true (stands_in_one b ns) ≡ true → Q b
      go true here rest e = here refl
      go false here rest e = rest e

-- ---- a text that begins with a name does so whatever follows

begins_more : (cs s bs : List ℕ) → T (begins cs s) → T (begins cs (s ++ bs))
unfolding begins
begins_more [] s bs t = tt
begins_more (c ∷ cs) [] bs t = absurd t
begins_more (c ∷ cs) (b ∷ s) bs t = go (eqb c b) (begins_more cs s bs) t
  where
    go : (e : Bool) → (T (begins cs s) → T (begins cs (s ++ bs))) → T (cond e (begins cs s) false) → T (cond e (begins cs (s ++ bs)) false)
    go true rest t = rest t
    go false rest t = t

pub begins_one_more : (ns : List Named) (s bs : List ℕ) → T (begins_one ns s) → T (begins_one ns (s ++ bs))
unfolding begins_one
begins_one_more [] s bs t = t
begins_one_more (n ∷ ns) s bs t = go (begins n.name s) (begins n.name (s ++ bs)) (begins_more n.name s bs) (begins_one_more ns s bs) t
  where
    go : (e f : Bool) → (T e → T f) → (T (begins_one ns s) → T (begins_one ns (s ++ bs))) → T (cond e true (begins_one ns s)) → T (cond f true (begins_one ns (s ++ bs)))
    go e true keep rest t = tt
    go true false keep rest t = absurd (keep tt)
    go false false keep rest t = rest t

-- The laws of escaping: by the character, how long, what each byte of it is, and that undoing gives the bytes back.
use mathlib.Core.Path.{◌≡◌, refl, sym, ap, ◌∙◌}
use mathlib.Core.Bool.{Bool, true, false}
use mathlib.Core.Logic.{inl, inr}
use mathlib.Core.List.{List, [], ◌∷◌, ◌++◌, map, append-nil, append_assoc}
use Prim.Native.Nat.{ℕ, suc, ◌+◌, ◌*◌, ◌<◌, ◌≤◌}
use native.Mathlib.Omega.{arith}
use lib.Dec.{T, leb, eqb, leb→le, eqb→eq}
use lib.ListN.{length, get_or, length-append}
use borrow.Author.Tests.{ne_eqb}
use Rattle.numbers.proofs.Range.{both, both_left, both_right}
use Rattle.numbers.proofs.Entries.{every}
use Rattle.panel.specs.Escaping.{names, written, escaped}
use Rattle.panel.specs.Harmless.{Harmless, begins, begins_one, begins_name, stands_in, stands_in_one, Printable, read_by, undone_after, undone}
use Rattle.panel.proofs.Names.{Unnamed, is_unnamed, is_unnamed_lem, tested_names, by_names, EachByte, tested_before, stands_in_one_lem, begins_one_more}

pub escaped_append : (s t : List ℕ) → escaped (s ++ t) ≡ escaped s ++ escaped t
unfolding escaped
escaped_append [] t = refl
escaped_append (v ∷ s) t =
    ap (λ (l : List ℕ). written (32 + v) ++ l) (escaped_append s t) ∙ sym (append_assoc (written (32 + v)) (escaped s) (escaped t))

pub escaped_one : (v : ℕ) → escaped (v ∷ []) ≡ written (32 + v)
unfolding escaped
escaped_one v = append-nil (written (32 + v))

-- ---- how long

written_long : (b : ℕ) → length (written b) ≤ 6
written_long b =
    by_names (λ b s. length s ≤ 6) b names (tested_names (λ b s. length s ≤ 6) (λ s. leb (length s) 6) (λ b s t. leb→le (length s) 6 t) names tt) (λ u. omega arith)

pub escaped_long : (vs : List ℕ) → length (escaped vs) ≤ 6 * length vs
unfolding escaped
escaped_long [] = omega arith
escaped_long (v ∷ vs) = omega (arith, length-append (written (32 + v)) (escaped vs), written_long (32 + v), escaped_long vs)

-- ---- each byte

is_true : (t : Bool) → T t → t ≡ true
is_true true h = refl
is_true false h = absurd h

-- what holds in front of a text for each byte that a character may stand for holds of each byte that is written
escaped_each : (P : ℕ → List ℕ → Type 0) (Q : ℕ → Type 0) → ((bs : List ℕ) → EachByte P bs → (b : ℕ) → Q b → EachByte P (written b ++ bs))
    → (vs : List ℕ) → ((a : ℕ) → a < length vs → Q (32 + get_or vs a 0)) → EachByte P (escaped vs)
unfolding escaped
escaped_each P Q before [] each = tt
escaped_each P Q before (v ∷ vs) each =
    before (escaped vs) (escaped_each P Q before vs (λ a h. each (suc a) (omega arith))) (32 + v) (each 0 (omega arith))

-- a harmless byte; and where it is an ampersand, one of the five names begins with it
pub record Fine (b : ℕ) (bs : List ℕ) : Type 0 where
  pub harmless : Harmless b
  pub name : b ≡ 38 → begins_name (b ∷ bs) ≡ true

unnamed_fine : (b : ℕ) (bs : List ℕ) → Unnamed names b → Fine b bs
unnamed_fine b bs u =
    record {
      harmless = record { not_less = u.1.0; not_greater = u.1.1.0; not_quote = u.1.1.1.0; not_apostrophe = u.1.1.1.1.0 };
      name = λ e. absurd (u.0 e);
    }

-- a name: an ampersand that begins one of the five, and bytes that have no name
fine_name : List ℕ → Bool
fine_name [] = false
fine_name (b ∷ s) = both (eqb b 38) (both (begins_name (b ∷ s)) (every (λ _. is_unnamed names) s))

name_fine : (s bs : List ℕ) → T (fine_name s) → EachByte Fine bs → EachByte Fine (s ++ bs)
unfolding fine_name
name_fine [] bs t each = absurd t
name_fine (b ∷ s) bs t each =
    let e : b ≡ 38 = eqb→eq b 38 (both_left (eqb b 38) (both (begins_name (b ∷ s)) (every (λ _. is_unnamed names) s)) t) in
    let u = both_right (eqb b 38) (both (begins_name (b ∷ s)) (every (λ _. is_unnamed names) s)) t in
    let n = begins_one_more names (b ∷ s) bs (both_left (begins_name (b ∷ s)) (every (λ _. is_unnamed names) s) u) in (
      record {
        harmless = record { not_less = λ q. omega arith; not_greater = λ q. omega arith; not_quote = λ q. omega arith; not_apostrophe = λ q. omega arith };
        name = λ _. is_true (begins_name (b ∷ (s ++ bs))) n;
      },
      tested_before Fine (is_unnamed names) (λ c cs u. unnamed_fine c cs (is_unnamed_lem names c u)) s bs
          (both_right (begins_name (b ∷ s)) (every (λ _. is_unnamed names) s) u) each,
    )

written_fine : (bs : List ℕ) → EachByte Fine bs → (b : ℕ) → EachByte Fine (written b ++ bs)
unfolding begins begins_one is_unnamed fine_name
written_fine bs each b =
    by_names (λ b s. EachByte Fine (s ++ bs)) b names (tested_names (λ b s. EachByte Fine (s ++ bs)) fine_name (λ b s t. name_fine s bs t each) names tt)
    (λ u. (unnamed_fine b bs u, each))

pub escaped_fine : (vs : List ℕ) → EachByte Fine (escaped vs)
escaped_fine vs = escaped_each Fine (λ _. Unit {0}) (λ bs each b _. written_fine bs each b) vs (λ _ _. tt)

-- the bytes of a name are printable, and so is a byte that a character stands for
abbrev pub PrintableThere : ℕ → List ℕ → Type 0
PrintableThere b bs = Printable b

-- the bytes that characters stand for
pub record Letter (b : ℕ) : Type 0 where
  pub least : 32 ≤ b
  pub most : b ≤ 95

written_printable : (bs : List ℕ) → EachByte PrintableThere bs → (b : ℕ) → Letter b → EachByte PrintableThere (written b ++ bs)
unfolding stands_in stands_in_one
written_printable bs each b l =
    by_names (λ b s. EachByte PrintableThere (s ++ bs)) b names
    (tested_names (λ b s. EachByte PrintableThere (s ++ bs)) (every (λ _ c. stands_in_one c names))
    (λ b s t. tested_before PrintableThere (λ c. stands_in_one c names) (λ c _ u. inr (is_true (stands_in_one c names) u)) s bs t each) names tt)
    (λ u. (inl (l.least, l.most), each))

pub escaped_printable : (vs : List ℕ) → ((a : ℕ) → a < length vs → get_or vs a 0 < 64) → EachByte PrintableThere (escaped vs)
escaped_printable vs small =
    escaped_each PrintableThere Letter written_printable vs (λ a h. let s = small a h in record { least = omega arith; most = omega arith })

-- a byte of a name is one of ASCII's printable ones
pub record Ascii (b : ℕ) : Type 0 where
  pub least : 32 ≤ b
  pub most : b ≤ 126

in_ascii : ℕ → Bool
in_ascii b = both (leb 32 b) (leb b 126)

is_ascii : (b : ℕ) → T (in_ascii b) → Ascii b
unfolding in_ascii
is_ascii b t = record { least = leb→le 32 b (both_left (leb 32 b) (leb b 126) t); most = leb→le b 126 (both_right (leb 32 b) (leb b 126) t) }

pub names_ascii : (b : ℕ) → stands_in_one b names ≡ true → Ascii b
unfolding in_ascii
names_ascii b = stands_in_one_lem Ascii b names (tested_names (λ _ s. EachByte (λ c _. Ascii c) s) (every (λ _. in_ascii)) (λ _ s t. all_ascii s t) names tt)
  where
    all_ascii : (s : List ℕ) → T (every (λ _. in_ascii) s) → EachByte (λ c _. Ascii c) s
    all_ascii s t = rw append-nil at (tested_before (λ c _. Ascii c) in_ascii (λ c _ u. is_ascii c u) s [] t tt)

-- ---- undoing

undone_written : (bs : List ℕ) (b : ℕ) → undone (written b ++ bs) ≡ b ∷ undone bs
unfolding begins read_by undone_after
undone_written bs b = by_names (λ b s. undone (s ++ bs) ≡ b ∷ undone bs) b names (refl, (refl, (refl, (refl, (refl, tt))))) (λ u. itself u.0)
  where
    itself : (b ≡ 38 → ⊥) → undone (b ∷ bs) ≡ b ∷ undone bs
    itself d = simp (ne_eqb 38 b (λ e. d (sym e)))

pub undone_escaped : (vs : List ℕ) → undone (escaped vs) ≡ map (λ v. 32 + v) vs
unfolding escaped undone_after
undone_escaped [] = refl
undone_escaped (v ∷ vs) = undone_written (escaped vs) (32 + v) ∙ ap (λ (l : List ℕ). (32 + v) ∷ l) (undone_escaped vs)

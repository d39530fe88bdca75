-- A file has one report: each item's line by its reader's one answer, then items, sections and the whole.
use mathlib.Core.Path.{◌≡◌, refl, sym, ap, ap₂, ◌∙◌}
use mathlib.Core.List.{List, [], ◌∷◌, ◌++◌}
use Prim.Native.Nat.{ℕ}
use native.Mathlib.Omega.{arith}
use lib.ListN.{length}
use Rattle.std.specs.Prelude.{None}
use Rattle.line.proofs.Theorems as line
use Rattle.ring.proofs.Theorems as ring
use Rattle.block.proofs.Theorems as block
use Rattle.text.specs.Text as text
use Rattle.report.specs.declared.Kind.{Kind}
use Rattle.report.specs.declared.Kind.TheVariants as K
use Rattle.report.specs.Items.{letter, Read, Fields}
use Rattle.report.specs.Tray.{Left, rest, cut, ItemLine, Items, none, early, one, Section, no_count, counted, Sections, done, stops, goes}
use Rattle.report.specs.Printed.{header, closing, Report, empty, tray}
use Rattle.report.proofs.First.{not_both}

-- ---- an item

one_read : {R : Type 0} {Reads : List ℕ → R → List ℕ → Type 0} {room : ℕ} {fields_of : R → List ℕ} {f g : List ℕ}
    → ((o p : List ℕ) (r s : R) (x y : List ℕ) → length o ≡ length p → Reads o r x → Reads p s y → r ≡ s) → Read Reads room fields_of f → Read Reads room fields_of g → f ≡ g
one_read {fields_of = fields_of} same p q =
    p.shows ∙ ap fields_of (same p.old q.old p.reading q.reading p.new q.new (p.long ∙ sym q.long) p.reads q.reads) ∙ sym q.shows

one_fields : (kind : Kind) (t : ℕ) (it f g : List ℕ) → Fields kind t it f → Fields kind t it g → f ≡ g
one_fields K.Line t it f g p q = one_read (line.same_reading it t None) p q
one_fields K.Ring t it f g p q = one_read (ring.same_reading it t) p q
one_fields K.Block t it f g p q = one_read (block.same_reading it) p q

one_item : (kind : Kind) (t i : ℕ) (it s u : List ℕ) → ItemLine kind t i it s → ItemLine kind t i it u → s ≡ u
one_item kind t i it s u p q =
    p.printed ∙ ap (λ (f : List ℕ). text.line (letter kind ∷ []) (i ∷ f)) (one_fields kind t it p.fields q.fields p.read q.read) ∙ sym q.printed

-- ---- items and sections

one_items : {kind : Kind} {t n i : ℕ} {file s u : List ℕ} {l m : Left} → Items kind t n i file s l → Items kind t n i file u m → (s ≡ u) × (l ≡ m)
one_items none none = (refl, refl)
one_items (early p) (early q) = (refl, refl)
one_items (early p) (one {it = x} {after = y} q a b) = absurd (not_both _ x y p q)
one_items (one {it = x} {after = y} p a b) (early q) = absurd (not_both _ x y q p)
one_items {kind = kind} {t = t} {i = i} (one {it = x} {after = y} {text = s} p a b) (one {it = x'} {after = y'} {text = u} q c d) =
    let ex : x' ≡ x = cc in
    let ey : y' ≡ y = cc in
    let e = one_items b (rw ey at d) in
    (ap₂ ◌++◌ (one_item kind t i x s u a (rw ex at c)) e.0, e.1)

-- the lines, the count and what is left
record Same (s u : List ℕ) (m n : ℕ) (k l : Left) : Type 0 where
  lines : s ≡ u
  count : m ≡ n
  left : k ≡ l

one_section : {kind : Kind} {t m n : ℕ} {file s u : List ℕ} {k l : Left} → Section kind t file s m k → Section kind t file u n l → Same s u m n k l
one_section no_count no_count = record { lines = refl; count = refl; left = refl }
one_section (counted b) (counted d) = let e = one_items b d in record { lines = e.0; count = refl; left = e.1 }

-- the lines, the counts and what is left
record AllSame (s u m n : List ℕ) (k l : Left) : Type 0 where
  lines : s ≡ u
  counts : m ≡ n
  left : k ≡ l

not_rest : (file : List ℕ) → cut ≡ rest file → ⊥
not_rest file e = let z : ◌≡◌ {A = ℕ} 0 1 = cc in omega arith

one_sections : {t : ℕ} {ks : List Kind} {file s u m n : List ℕ} {k l : Left} → Sections t ks file s m k → Sections t ks file u n l → AllSame s u m n k l
one_sections done done = record { lines = refl; counts = refl; left = refl }
one_sections (stops p) (stops q) = record { lines = (one_section p q).lines; counts = refl; left = refl }
one_sections (stops p) (goes {after = after} q d) = absurd (not_rest after (one_section p q).left)
one_sections (goes {after = after} p d) (stops q) = absurd (not_rest after (sym (one_section p q).left))
one_sections (goes {after = x} p b) (goes {after = y} q d) =
    let e = one_section p q in
    let r : rest x ≡ rest y = e.left in
    let ey : y ≡ x = cc in
    let a = one_sections b (rw ey at d) in
    record { lines = ap₂ ◌++◌ e.lines a.lines; counts = ap₂ (λ (i : ℕ) (c : List ℕ). i ∷ c) e.count a.counts; left = a.left }

pub one_text : {file s u : List ℕ} → Report file s → Report file u → s ≡ u
one_text empty empty = refl
one_text (tray b) (tray d) =
    let e = one_sections b d in
    ap (λ (l : List ℕ). header ++ l) (ap₂ ◌++◌ e.lines (ap₂ closing e.counts e.left))

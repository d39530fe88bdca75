-- The turns of the loops over the items of a section and over the sections: whatever completes the rest completes the whole.
use mathlib.Core.Path.{◌≡◌, refl, ◌∙◌, subst, subst₃}
use mathlib.Core.List.{List, [], ◌∷◌, ◌++◌, append-nil, append_assoc}
use Prim.Native.Nat.{ℕ, suc, ◌+◌, ◌-◌, ◌<◌, ◌≤◌}
use native.Mathlib.Numerals.{add-one}
use native.Mathlib.Omega.{arith}
use lib.ListN.{length, get_or, set, take, drop, length-set, drop_of_length-le}
use lib.Seq.{take-suc-set, take_all}
use Rattle.text.specs.Text.{line}
use Rattle.text.specs.Writing.{Puts}
use Rattle.text.proofs.Writing.{puts_none, puts_then}
use Rattle.report.specs.declared.Kind.{Kind}
use Rattle.report.specs.declared.Kind.TheVariants as K
use Rattle.report.specs.Tray.{Bytes, item, short, first, Left, rest, cut, Items, none, early, one, Section, no_count, counted, Sections, done, stops, goes, kinds}
use Rattle.report.specs.Printed.{word_end, word_more, word_cut, header, closing, Report, empty, tray}
use Rattle.report.specs.Inside.{PutItem, PutWhole, PutCut, PutTray}
use Rattle.report.proofs.Parts.{from_place}

-- ---- the items of a section

module _ (kind : Kind) (t : ℕ) where
  -- the same items, their places said in another way
  moved : {n i m j : ℕ} {f text : List ℕ} {left : Left} → n ≡ m → i ≡ j → Items kind t n i f text left → Items kind t m j f text left
  moved {f = f} {text = text} {left = left} p q b = subst₃ (λ (n i : ℕ) (f : List ℕ). Items kind t n i f text left) p q refl b

  -- i items are done, and these bytes are left
  pub record ItemsTo (items : List ℕ) (count : ℕ) (old out : List ℕ) (to next : ℕ) (bytes : List ℕ) (i : ℕ) : Type 0 where
    pub few : i ≤ count
    pub text : List ℕ
    pub puts : Puts old out to next text
    pub whole : (more : List ℕ) (left : Left) → Items kind t (count - i) i bytes more left → Items kind t count 0 items (text ++ more) left

  pub section_missing : (file old : List ℕ) (to : ℕ) → length file ≡ 0 → PutCut kind t file old old to to
  section_missing [] old to h = record { count = 0; text = []; puts = puts_none old to; section = no_count }
  section_missing (x ∷ file) old to h = absurd (omega arith)

  pub items_none : (items : List ℕ) (count : ℕ) (old : List ℕ) (to : ℕ) → ItemsTo items count old old to to items 0
  items_none items count old to =
      record { few = omega arith; text = []; puts = puts_none old to; whole = λ more left b. moved (omega arith) refl b }

  module _ (items : List ℕ) (count : ℕ) (old out : List ℕ) (to next : ℕ) (bytes : List ℕ) (i : ℕ) (s : ItemsTo items count old out to next bytes i) where
    module _ (file : List ℕ) (n : ℕ) (is : file ≡ n ∷ items) (counts : count ≡ n) where
      from-count : (left : Left) → Items kind t count 0 items s.text left → Section kind t file s.text count left
      from-count left b = rw is (subst (λ (n : ℕ). Section kind t (n ∷ items) s.text count left) counts (counted b))

      pub items_all : count ≤ i → PutWhole kind t file old out to count next bytes
      items_all h =
          let e : i ≡ count = omega (arith, s.few) in
          record {
            text = s.text;
            puts = s.puts;
            section = from-count (rest bytes) (rw append-nil at (s.whole [] (rest bytes) (moved {n = 0} (omega arith) refl none)));
          }

      pub items_cut : i < count → first kind bytes ≡ short → PutCut kind t file old out to next
      items_cut less f =
          record {
            count = count;
            text = s.text;
            puts = s.puts;
            section = from-count cut (rw append-nil at (s.whole [] cut (moved {n = suc (count - (i + 1))} (omega arith) refl (early f))));
          }

    pub items_more : i < count → (it after : List ℕ) → first kind bytes ≡ item it after → (new : List ℕ) (last : ℕ) → PutItem kind t i it out new next last
        → ItemsTo items count old new to last after (i + 1)
    items_more less it after f new last w =
        record {
          few = omega arith;
          text = s.text ++ w.text;
          puts = puts_then s.puts w.puts;
          whole = λ more left b.
              rw append_assoc
              (s.whole (w.text ++ more) left (moved {n = suc (count - (i + 1))} (omega arith) refl (one f w.line (moved refl (add-one i) b))));
        }

-- ---- the sections

module _ (t : ℕ) where
  -- j sections are done, and these bytes are left
  pub record SectionsTo (sections old out : List ℕ) (to : ℕ) (counts : List ℕ) (next : ℕ) (bytes : List ℕ) (j : ℕ) : Type 0 where
    pub few : j ≤ 3
    pub three : length counts ≡ 3
    pub text : List ℕ
    pub puts : Puts old out to next text
    pub whole : (more cs : List ℕ) (left : Left) → Sections t (drop j kinds) bytes more cs left → Sections t kinds sections (text ++ more) (take j counts ++ cs) left

  pub sections_none : (sections old : List ℕ) (to : ℕ) (counts : List ℕ) → length counts ≡ 3 → SectionsTo sections old old to counts to sections 0
  sections_none sections old to counts l =
      record { few = omega arith; three = l; text = []; puts = puts_none old to; whole = λ more cs left b. b }

  module _ (sections old out : List ℕ) (to : ℕ) (counts : List ℕ) (next : ℕ) (bytes : List ℕ) (j : ℕ) (s : SectionsTo sections old out to counts next bytes j) where
    module _ (file : List ℕ) (is : file ≡ t ∷ sections) (range : Bytes file) where
      -- the report, where the lines of all sections and their counts are known
      whole-report : (lines cs : List ℕ) (left : Left) → Sections t kinds sections lines cs left → Report file (header ++ (lines ++ closing cs left))
      whole-report lines cs left b = rw is (tray b)

      all : 3 ≤ j → Sections t kinds sections s.text counts (rest bytes)
      all h =
          let e : drop j kinds ≡ [] = drop_of_length-le kinds h in
          let c : take j counts ≡ counts = take_all j counts (omega arith) in
          rw (append-nil s.text, append-nil (take j counts), c) at (s.whole [] [] (rest bytes) (rw e done))

      pub tray_more : 3 ≤ j → (length bytes ≡ 0 → ⊥) → (new : List ℕ) (last : ℕ) → Puts out new next last (line word_more []) → PutTray file old new to last
      tray_more h some new last w =
          record {
            bytes = range;
            text = s.text ++ line word_more [];
            puts = puts_then s.puts w;
            report = rw (left bytes some) at (whole-report s.text counts (rest bytes) (all h));
          }
        where
          left : (bytes : List ℕ) → (length bytes ≡ 0 → ⊥) → closing counts (rest bytes) ≡ line word_more []
          left [] some = absurd (some refl)
          left (x ∷ bytes) some = refl

      pub tray_end : 3 ≤ j → length bytes ≡ 0 → (new : List ℕ) (last : ℕ) → Puts out new next last (line word_end counts) → PutTray file old new to last
      tray_end h e new last w =
          record {
            bytes = range;
            text = s.text ++ line word_end counts;
            puts = puts_then s.puts w;
            report = rw (left bytes e) at (whole-report s.text counts (rest bytes) (all h));
          }
        where
          left : (bytes : List ℕ) → length bytes ≡ 0 → closing counts (rest bytes) ≡ line word_end counts
          left [] e = refl
          left (x ∷ bytes) e = absurd (omega arith)

    module _ (less : j < 3) (kind : Kind) (here : kind ≡ get_or kinds j K.Line) where
      from-here : drop j kinds ≡ kind ∷ drop (j + 1) kinds
      from-here = from_place kinds j K.Line kind less here

      pub tray_cut : (file : List ℕ) → file ≡ t ∷ sections → Bytes file → (new : List ℕ) (at : ℕ) → PutCut kind t bytes out new next at → (far : List ℕ) (last : ℕ)
          → Puts new far at last (line word_cut []) → PutTray file old far to last
      tray_cut file is range new at p far last w =
          record {
            bytes = range;
            text = (s.text ++ p.text) ++ line word_cut [];
            puts = puts_then (puts_then s.puts p.puts) w;
            report = whole-report file is range (s.text ++ p.text) (take j counts ++ []) cut (s.whole p.text [] cut (rw from-here (stops p.section)));
          }

      pub sections_more : (new : List ℕ) (count at : ℕ) (after : List ℕ) → PutWhole kind t bytes out new next count at after
          → SectionsTo sections old new to (set counts j count) at after (j + 1)
      sections_more new count at after p =
          let c : take (j + 1) (set counts j count) ≡ take j counts ++ (count ∷ []) = rw (add-one j) (take-suc-set counts j count (omega (arith, s.three))) in
          record {
            few = omega arith;
            three = length-set counts j count ∙ s.three;
            text = s.text ++ p.text;
            puts = puts_then s.puts p.puts;
            whole = λ more cs left d. rw (append_assoc, c, append_assoc) (s.whole (p.text ++ more) (count ∷ cs) left (rw from-here (goes p.section d)));
          }

pub tray_empty : (file old new : List ℕ) (to last : ℕ) → length file ≡ 0 → Puts old new to last (line word_cut []) → PutTray file old new to last
tray_empty [] old new to last h w = record { bytes = λ i. omega arith; text = line word_cut []; puts = w; report = empty }
tray_empty (x ∷ file) old new to last h w = absurd (omega arith)

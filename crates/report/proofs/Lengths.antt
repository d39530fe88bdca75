-- How long the printed text can be: the numbers of an item's line are small by what its reader promises.
use mathlib.Core.Path.{◌≡◌, refl, ap, ◌∙◌}
use mathlib.Core.List.{List, [], ◌∷◌, ◌++◌}
use Prim.Native.Nat.{ℕ, suc, ◌+◌, ◌*◌, ◌<◌, ◌≤◌}
use native.Mathlib.Omega.{arith}
use lib.ListN.{length, get_or, length-append}
use Rattle.std.specs.Prelude.{None, Result, Ok, Err}
use Rattle.refusal.specs.declared.Refusal.{Refusal}
use Rattle.refusal.specs.Number.{number_of}
use Rattle.refusal.proofs.Numbered.{numbered}
use Rattle.refusal.proofs.Laws.{passed}
use Rattle.code.specs.Word.{Line, number}
use Rattle.code.proofs.Lines.{line_characters}
use Rattle.line.specs.declared.Reading.{Reading}
use Rattle.line.specs.Promises as line
use Rattle.ring.specs.declared.RingReading.{RingReading}
use Rattle.ring.specs.Promises as ring
use Rattle.ring.proofs.Theorems.{entry_listed}
use Rattle.block.specs.Promises as block
use Rattle.text.specs.Text as text
use Rattle.text.proofs.Decimal.{decimal_length}
use Rattle.report.specs.declared.Kind.{Kind}
use Rattle.report.specs.declared.Kind.TheVariants as K
use Rattle.report.specs.Items.{line_fields, ring_fields, block_fields, Fields}
use Rattle.report.specs.Tray.{Bytes, Left, rest, cut, ItemLine, Items, none, early, one, Section, no_count, counted, Sections, done, stops, goes}
use Rattle.report.specs.Printed.{words_header, word_end, word_more, word_cut, header, closing, Report, empty, tray, report_room}
use Rattle.report.proofs.First.{section_used}

-- ---- room for any report, every field at its widest, and the longest file

-- a space and so many digits
abbrev field_room : ℕ → ℕ
field_room digits = 1 + digits

-- a kind; an item number up to 254; an answer of two digits; a distance or a start, up to 125; a number, a distance or a row count, up to 4095; the line end
abbrev item_room : ℕ
item_room = 1 + field_room 3 + field_room 2 + field_room 3 + field_room 4 + 1

-- `end`, three counts up to 255, and the line end
abbrev closing_room : ℕ
closing_room = length word_end + 3 * field_room 3 + 1

-- three sections of 255 items, between the header and the closing line
room_is : (length words_header + 1) + 3 * (255 * item_room) + closing_room ≡ report_room
room_is = refl

-- a file that is all used: the radius, 255 lines, 255 rings and 255 blocks of 255 rows, each section after its count, each block after its own
abbrev pub longest_file : ℕ
longest_file = 1 + (1 + 255 * 63) + (1 + 255 * 63) + (1 + 255 * (1 + 255))

-- ---- the numbers of an item

two_digits : (r : Refusal) → number_of r < 100
two_digits r = omega (arith, (numbered r).most)

-- an answer of at most two digits, a number of at most three, and one of at most four
record Few (fields : List ℕ) : Type 0 where
  answer : ℕ
  a : ℕ
  b : ℕ
  is : fields ≡ answer ∷ a ∷ b ∷ []
  two : answer < 100
  three : a < 1000
  four : b < 10000

few_refused : (why : Refusal) (fields : List ℕ) → fields ≡ number_of why ∷ 0 ∷ 0 ∷ [] → Few fields
few_refused why fields e = record { answer = number_of why; a = 0; b = 0; is = e; two = two_digits why; three = omega arith; four = omega arith }

-- the number of a line has two characters
number_few : (l : List ℕ) → Line l → number l < 4096
number_few l p = omega (arith, line_characters l p 50, line_characters l p 51)

few_line : (t : ℕ) (w old new fields : List ℕ) (r : Result Reading Refusal) → line.Reads w t None old (line.reading_numbers r) new → fields ≡ line_fields r → Few fields
unfolding line.Reads
few_line t w old new fields (Err why) q e = few_refused why fields e
few_line t w old new fields (Ok r) q e =
    let small : t ≤ 5 = (passed (line.reading_tests w t None (length old)) 0 q.0 refl).1.1.1.0 in
    let number_is : r.number ≡ number new = ap (λ (l : List ℕ). get_or l 0 0) q.1.1 in
    record {
      answer = 0;
      a = r.distance;
      b = r.number;
      is = e;
      two = omega arith;
      three = omega (arith, q.1.0.near, ap (λ (l : List ℕ). get_or l 1 0) q.1.1);
      four = omega (arith, number_few new q.1.0.line);
    }

few_ring : (t : ℕ) (w old new fields : List ℕ) (r : Result RingReading Refusal) → ring.ReadsRing w t old (ring.reading_numbers r) new → fields ≡ ring_fields r → Few fields
unfolding ring.ReadsRing
few_ring t w old new fields (Err why) q e = few_refused why fields e
few_ring t w old new fields (Ok r) q e =
    let small : t ≤ 5 = (passed (ring.reading_tests w t (length old)) 0 q.0 refl).1.1.1.0 in
    let at = q.1 in
    record {
      answer = 0;
      a = r.start;
      b = r.distance;
      is = e;
      two = omega arith;
      three = omega (arith, (entry_listed w t (at.start ∷ []) at.only 0 (omega arith)).0, ap (λ (l : List ℕ). get_or l 0 0) at.shows);
      four = omega (arith, at.within.near, ap (λ (l : List ℕ). get_or l 2 0) at.shows);
    }

few_block : (rows old new fields : List ℕ) (r : Result ℕ Refusal) → block.Reads rows old (block.reading_numbers r) new → fields ≡ block_fields (length rows) r → Few fields
unfolding block.Reads
few_block rows old new fields (Err why) q e = few_refused why fields e
few_block rows old new fields (Ok d) q e =
    let tests = passed (block.reading_tests rows (length old)) 0 q.0 refl in
    let rows_few : length rows ≤ 64 = tests.0.1 in
    record {
      answer = 0;
      a = d;
      b = length rows;
      is = e;
      two = omega arith;
      three = omega (arith, q.1.0.within, ap (λ (l : List ℕ). get_or l 0 0) q.1.1);
      four = omega arith;
    }

few : (kind : Kind) (t : ℕ) (it fields : List ℕ) → Fields kind t it fields → Few fields
few K.Line t it fields f = few_line t it f.old f.new fields f.reading f.reads f.shows
few K.Ring t it fields f = few_ring t it f.old f.new fields f.reading f.reads f.shows
few K.Block t it fields f = few_block it f.old f.new fields f.reading f.reads f.shows

-- ---- lines

-- one number after a space
field_length : (n k : ℕ) (ns : List ℕ) → length (text.decimal n) ≤ k → length (text.fields (n ∷ ns)) ≤ 1 + k + length (text.fields ns)
unfolding text.fields
field_length n k ns h = simp length-append (omega arith)

line_length : (word ns : List ℕ) → length (text.line word ns) ≡ length word + (length (text.fields ns) + 1)
unfolding text.line
line_length word ns = simp length-append

no_fields : length (text.fields []) ≡ 0
unfolding text.fields
no_fields = refl

item_length : (kind : Kind) (t i : ℕ) (it l : List ℕ) → i < 255 → ItemLine kind t i it l → length l ≤ item_room
item_length kind t i it l h p =
    let f = few kind t it p.fields p.read in
    let e = ap length p.printed ∙ line_length _ (i ∷ p.fields) ∙ ap (λ (k : ℕ). 1 + (k + 1)) (ap (λ (ns : List ℕ). length (text.fields (i ∷ ns))) f.is) in
    omega (
      arith,
      e,
      no_fields,
      field_length i 3 (f.answer ∷ f.a ∷ f.b ∷ []) (decimal_length 2 i (omega arith)),
      field_length f.answer 2 (f.a ∷ f.b ∷ []) (decimal_length 1 f.answer f.two),
      field_length f.a 3 (f.b ∷ []) (decimal_length 2 f.a f.three),
      field_length f.b 4 [] (decimal_length 3 f.b f.four),
    )

items_length : {kind : Kind} {t n i : ℕ} {file l : List ℕ} {left : Left} → Items kind t n i file l left → i + n ≤ 255 → length l ≤ n * item_room
items_length none h = omega arith
items_length (early e) h = omega arith
items_length {kind = kind} {t = t} {n = suc n} {i = i} (one {it = it} {text = l} {more = more} e p d) h =
    let k = item_length kind t i it l (omega arith) p in
    let r = items_length d (omega arith) in
    rw (length-append l more) (omega arith)

section_length : {kind : Kind} {t n : ℕ} {file l : List ℕ} {left : Left} → Section kind t file l n left → Bytes file → (length l ≤ 255 * item_room) × (n < 256)
section_length no_count b = (omega arith, omega arith)
section_length {n = n} (counted d) b = let s : n < 256 = b 0 in let k = items_length d (omega arith) in (omega arith, s)

-- the lines and the counts of sections
record Lengths (ks : List Kind) (l counts : List ℕ) : Type 0 where
  lines : length l ≤ length ks * (255 * item_room)
  closes : length (text.fields counts) ≤ length ks * 4

sections_length : {t : ℕ} {ks : List Kind} {file l counts : List ℕ} {left : Left} → Sections t ks file l counts left → Bytes file → Lengths ks l counts
sections_length done b = record { lines = omega arith; closes = omega (arith, no_fields) }
sections_length (stops s) b = let k = section_length s b in record { lines = omega arith; closes = omega (arith, no_fields) }
sections_length {counts = n ∷ counts} (goes {text = l} {more = more} s d) b =
    let k = section_length s b in
    let r = sections_length d (section_used s b).1 in
    record { lines = rw (length-append l more) (omega arith); closes = omega (arith, field_length n 3 counts (decimal_length 2 n (omega arith))) }

closing_length : (counts : List ℕ) (left : Left) → length (text.fields counts) ≤ 12 → length (closing counts left) ≤ closing_room
closing_length counts (rest []) h = rw (line_length word_end counts) (omega arith)
closing_length counts (rest (x ∷ xs)) h = rw (line_length word_more []) (omega (arith, no_fields))
closing_length counts cut h = rw (line_length word_cut []) (omega (arith, no_fields))

-- every report has room
pub report_length : {file l : List ℕ} → Report file l → Bytes file → length l ≤ report_room
report_length empty b = rw (length-append header (text.line word_cut [])) (omega (arith, line_length word_cut [], line_length words_header [], no_fields))
report_length (tray {lines = lines} {counts = counts} {left = left} d) b =
    let k = sections_length d (λ i. b (suc i)) in
    let c = closing_length counts left (omega (arith, k.closes)) in
    rw (length-append header (lines ++ closing counts left), length-append lines (closing counts left))
    (omega (arith, k.lines, line_length words_header [], no_fields))

-- The library's theorems: any two results that a function allows are equal, its struct and its output; and a sheet that was encoded is read as it is.
use mathlib.Core.Path.{◌≡◌, sym, ap, ap₂, ◌∙◌}
use mathlib.Core.List.{List, [], ◌∷◌}
use Prim.Native.Nat.{ℕ}
use lib.ListN.{length, get_or, drop}
use Rattle.std.specs.Prelude.{Option}
use Rattle.refusal.proofs.Theorems.{one_result}
use Rattle.field.specs.Promises as Field
use Rattle.field.proofs.Theorems.{same_sums, same_products, same_quotients}
use Rattle.encoder.specs.declared.Register.{Register}
use Rattle.encoder.specs.Promises as Encoder
use Rattle.encoder.proofs.Theorems as encoder
use Rattle.encoder.proofs.Running.{one_stepping, one_asking}
use Rattle.line.specs.declared.PlainReading.{PlainReading}
use Rattle.line.specs.Promises as Line
use Rattle.line.proofs.Theorems.{one_within, one_plain_reading}
use Rattle.blots.specs.Promises as Blots
use Rattle.blots.proofs.Theorems.{one_plain_blotted}
use Rattle.spool.specs.Promises as Spool
use Rattle.spool.proofs.Theorems.{same_spool}
use Rattle.scans.specs.Promises as Scans
use Rattle.scans.proofs.Theorems.{one_choice}
use Rattle.sheet.specs.Sheet.{characters}
use Rattle.sheet_encoder.specs.Promises as SheetEncoder
use Rattle.sheet_encoder.proofs.Theorems.{same_encoding, a_proper_sheet}
use Rattle.sheet_reader.specs.Promises as SheetReader
use Rattle.sheet_reader.proofs.Theorems.{same_reading, undamaged_read}
use Rattle.open_tray.specs.Promises as OpenTray
use Rattle.open_tray.proofs.Theorems as tray
use Rattle.ring.specs.Ring.{placed}
use Rattle.ring.specs.Promises as Ring
use Rattle.ring.proofs.Those.{one_those}
use Rattle.ring.proofs.Placing.{kept}
use Rattle.panel.specs.Promises as Panel
use Rattle.panel.proofs.Theorems.{same_text}
use Rattle.panel.proofs.Rings.{same_ring}
use Rattle.block.specs.Promises as Block
use Rattle.block.proofs.Results.{one_read_as, one_encoded_as}
use Rattle.smudge.specs.Promises as Smudge
use Rattle.smudge.proofs.Results as Smudged
use Rattle.clarity.specs.Promises as Clearly
use Rattle.clarity.proofs.Results as clearly
use Rattle.film.specs.declared.FilmElement.{FilmElement}
use Rattle.film.specs.declared.FilmSpool.{FilmSpool}
use Rattle.film.specs.declared.FilmChoice.{FilmChoice}
use Rattle.film.specs.declared.FilmList.{FilmList}
use Rattle.film.specs.declared.FilmRing.{FilmRing}
use Rattle.film.specs.declared.FilmPanel.{FilmPanel}
use Rattle.film.specs.declared.FilmBlock.{FilmBlock}
use Rattle.film.specs.declared.brightness.FilmScan.{FilmScan}
use Rattle.film.specs.declared.brightness.FilmClarities.{FilmClarities}
use Rattle.film.specs.declared.recorder.FilmRegister.{FilmRegister}
use Rattle.film.specs.declared.recorder.FilmStepped.{FilmStepped}
use Rattle.film.specs.declared.recorder.FilmChecked.{FilmChecked}
use Rattle.film.specs.declared.sheets.FilmSheet.{FilmSheet}
use Rattle.film.specs.declared.trays.FilmCount.{FilmCount}
use Rattle.film.specs.Numbers.{element_numbers, choice_numbers, list_numbers, ring_numbers, panel_numbers, block_numbers, sheet_numbers, count_numbers, register_of, check_numbers, scan_numbers, scan_given, clarities_numbers}

-- ---- the field

one_element : (r s : FilmElement) → element_numbers r ≡ element_numbers s → r ≡ s
one_element r s e = ap (λ (l : List ℕ). record { answer = get_or l 0 0; value = get_or l 1 0 }) e

pub one_sum : (u v : ℕ) (r s : FilmElement) → Field.Sums u v (element_numbers r) → Field.Sums u v (element_numbers s) → r ≡ s
one_sum u v r s p q = one_element r s (same_sums u v (element_numbers r) (element_numbers s) p q)

pub one_product : (u v : ℕ) (r s : FilmElement) → Field.Multiplies u v (element_numbers r) → Field.Multiplies u v (element_numbers s) → r ≡ s
one_product u v r s p q = one_element r s (same_products u v (element_numbers r) (element_numbers s) p q)

pub one_division : (u v : ℕ) (r s : FilmElement) → Field.Divides u v (element_numbers r) → Field.Divides u v (element_numbers s) → r ≡ s
one_division u v r s p q = one_element r s (same_quotients u v (element_numbers r) (element_numbers s) p q)

-- ---- the encoder

pub one_encoding : (t : List ℕ) (n : ℕ) (old : List ℕ) (a b : ℕ) (x y : List ℕ)
    → Encoder.Encodes t n old (a ∷ []) x → Encoder.Encodes t n old (b ∷ []) y → (a ≡ b) × (x ≡ y)
unfolding Encoder.Encodes
one_encoding t n old a b x y p q =
    let e =
    one_result (Encoder.encoding_tests t n (length old)) (λ fields l. (fields ≡ []) × Encoder.LineWith t n l) 0
    (λ _ f g x y s t. (s.0 ∙ sym t.0, encoder.one_line _ _ x y s.1 t.1)) old (a ∷ []) (b ∷ []) x y p q in
    (ap (λ (l : List ℕ). get_or l 0 0) e.0, e.1)

one_register : (r s : FilmRegister) → register_of r ≡ register_of s → r ≡ s
one_register r s e = ap (λ (q : Register). record { held = q.held; count = q.count }) e

pub one_step : (r : FilmRegister) (c : ℕ) (a b : FilmStepped) → Encoder.Steps (register_of r) c (a.answer ∷ []) (register_of a.register)
    → Encoder.Steps (register_of r) c (b.answer ∷ []) (register_of b.register) → a ≡ b
one_step r c a b p q =
    let e = one_stepping (register_of r) c (a.answer ∷ []) (b.answer ∷ []) (register_of a.register) (register_of b.register) p q in
    ap₂ (λ (x : FilmRegister) (y : ℕ). record { register = x; answer = y }) (one_register a.register b.register e.1) (ap (λ (l : List ℕ). get_or l 0 0) e.0)

pub one_check : (r : FilmRegister) (a b : FilmChecked) → Encoder.Checks (register_of r) (check_numbers a) → Encoder.Checks (register_of r) (check_numbers b) → a ≡ b
one_check r a b p q =
    ap (λ (l : List ℕ). record { checks = drop 1 l; answer = get_or l 0 0 }) (one_asking (register_of r) (check_numbers a) (check_numbers b) p q)

-- ---- reading a line

pub one_line_read : (w : List ℕ) (t : ℕ) (wanted : Option ℕ) (old : List ℕ) (r s : PlainReading) (x y : List ℕ)
    → Line.Reads w t wanted old (Line.plain_numbers r) x → Line.Reads w t wanted old (Line.plain_numbers s) y → (r ≡ s) × (x ≡ y)
one_line_read = one_plain_reading

-- ---- reading a line with blots

pub one_blotted_read : (w m old : List ℕ) (r s : PlainReading) (x y : List ℕ)
    → Blots.ReadsBlotted w m old (Line.plain_numbers r) x → Blots.ReadsBlotted w m old (Line.plain_numbers s) y → (r ≡ s) × (x ≡ y)
one_blotted_read = one_plain_blotted

-- ---- reading a spool

pub one_spool_read : (lines : List ℕ) (t : ℕ) (old : List ℕ) (r s : FilmSpool) (x y : List ℕ)
    → Spool.Spools lines t old (r.answer ∷ []) (Spool.left_of r.places x) → Spool.Spools lines t old (s.answer ∷ []) (Spool.left_of s.places y) → (r ≡ s) × (x ≡ y)
one_spool_read lines t old r s x y p q =
    let e = same_spool lines t old (r.answer ∷ []) (s.answer ∷ []) (Spool.left_of r.places x) (Spool.left_of s.places y) p q in (
      ap₂ (λ (p : List PlainReading) (n : ℕ). record { places = p; answer = n }) (ap (λ (l : Spool.Left). l.places) e.1) (ap (λ (l : List ℕ). get_or l 0 0) e.0),
      ap (λ (l : Spool.Left). l.output) e.1,
    )

-- ---- two scans

pub one_better_scan : (x y : List ℕ) (t : ℕ) (r s : FilmChoice) → Scans.Chooses x y t (choice_numbers r) → Scans.Chooses x y t (choice_numbers s) → r ≡ s
one_better_scan x y t r s p q =
    ap (λ (l : List ℕ). record { answer = get_or l 0 0; scan = get_or l 1 0 }) (one_choice x y t (choice_numbers r) (choice_numbers s) p q)

-- ---- rings

one_list : (r s : FilmList) → list_numbers r ≡ list_numbers s → r ≡ s
one_list r s e = ap (λ (l : List ℕ). record { answer = get_or l 0 0; count = get_or l 1 0 }) e

pub one_ring_list : (ring : List ℕ) (t : ℕ) (old : List ℕ) (r s : FilmList) (x y : List ℕ)
    → Ring.ListsRing ring t old (list_numbers r) x → Ring.ListsRing ring t old (list_numbers s) y → (r ≡ s) × (x ≡ y)
unfolding Ring.ListsRing
one_ring_list ring t old r s x y p q =
    let e =
    one_result (Ring.listing_tests ring t (length old)) (Ring.Lists ring t old) 1
    (λ _ f g x y a b.
    let same : a.starts ≡ b.starts = one_those a.these b.these in
    (rw same at a.count ∙ sym b.count, rw same at a.output ∙ sym b.output))
    old (list_numbers r) (list_numbers s) x y p q in
    (one_list r s e.0, e.1)

one_ring : (r s : FilmRing) → ring_numbers r ≡ ring_numbers s → r ≡ s
one_ring r s e = ap (λ (l : List ℕ). record { answer = get_or l 0 0; start = get_or l 1 0; distance = get_or l 3 0; number = get_or l 2 0; first = get_or l 4 0; last = get_or l 5 0 }) e

pub one_ring_read : (ring : List ℕ) (t : ℕ) (old : List ℕ) (r s : FilmRing) (x y : List ℕ)
    → Ring.ReadsRing ring t old (ring_numbers r) x → Ring.ReadsRing ring t old (ring_numbers s) y → (r ≡ s) × (x ≡ y)
unfolding Ring.ReadsRing
one_ring_read ring t old r s x y p q =
    let e =
    one_result (Ring.reading_tests ring t (length old)) (Ring.ReadsAt ring t) 5
    (λ passed f g x y a b.
    let same : a.start ≡ b.start = ap (λ (l : List ℕ). get_or l 0 0) (one_those a.only b.only) in
    let line : x ≡ y = one_within t (placed b.start ring) x y ((kept b.start).long ring) passed.1.1.1.0 (rw same at a.within) b.within in
    (a.shows ∙ ap₂ (λ (k : ℕ) (l : List ℕ). k ∷ Line.told (placed k ring) l) same line ∙ sym b.shows, line))
    old (ring_numbers r) (ring_numbers s) x y p q in
    (one_ring r s e.0, e.1)

-- ---- sheets

pub one_sheet_encoding : (texts numbers old : List ℕ) (a b : ℕ) (x y : List ℕ)
    → SheetEncoder.EncodesSheet texts numbers old (a ∷ []) x → SheetEncoder.EncodesSheet texts numbers old (b ∷ []) y → (a ≡ b) × (x ≡ y)
one_sheet_encoding texts numbers old a b x y p q =
    let e = same_encoding texts numbers old (a ∷ []) (b ∷ []) x y p q in
    (ap (λ (l : List ℕ). get_or l 0 0) e.0, e.1)

one_sheet : (r s : FilmSheet) → sheet_numbers r ≡ sheet_numbers s → r ≡ s
one_sheet r s e = ap (λ (l : List ℕ). record { answer = get_or l 0 0; rounds = get_or l 1 0 }) e

pub one_sheet_read : (sheet old : List ℕ) (r s : FilmSheet) (x y : List ℕ)
    → SheetReader.ReadsSheet sheet old (sheet_numbers r) x → SheetReader.ReadsSheet sheet old (sheet_numbers s) y → (r ≡ s) × (x ≡ y)
one_sheet_read sheet old r s x y p q = let e = same_reading sheet old (sheet_numbers r) (sheet_numbers s) x y p q in (one_sheet r s e.0, e.1)

-- what was encoded is read as it is, in one round
pub encoded_read_back : (texts numbers old sheet : List ℕ) → SheetEncoder.EncodesSheet texts numbers old (0 ∷ []) sheet
    → (other : List ℕ) → length other ≡ characters → (r : FilmSheet) (x : List ℕ) → SheetReader.ReadsSheet sheet other (sheet_numbers r) x
    → (r ≡ record { answer = 0; rounds = 1 }) × (x ≡ sheet)
encoded_read_back texts numbers old sheet encoded other room r x reads =
    let e = undamaged_read sheet other (a_proper_sheet texts numbers old sheet encoded) room (sheet_numbers r) x reads in
    (one_sheet r (record { answer = 0; rounds = 1 }) e.0, e.1)

-- ---- open trays

one_number : {a b : ℕ} {x y : List ℕ} → (a ∷ [] ≡ b ∷ []) × (x ≡ y) → (a ≡ b) × (x ≡ y)
one_number e = (ap (λ (l : List ℕ). get_or l 0 0) e.0, e.1)

pub one_tray_add : (t w : List ℕ) (a b : ℕ) (x y : List ℕ) → OpenTray.Adds t w (a ∷ []) x → OpenTray.Adds t w (b ∷ []) y → (a ≡ b) × (x ≡ y)
one_tray_add t w a b x y p q = one_number (tray.one_adding t w (a ∷ []) (b ∷ []) x y p q)

pub one_tray_replace : (t : List ℕ) (i k c a b : ℕ) (x y : List ℕ)
    → OpenTray.Replaces t i k c (a ∷ []) x → OpenTray.Replaces t i k c (b ∷ []) y → (a ≡ b) × (x ≡ y)
one_tray_replace t i k c a b x y p q = one_number (tray.one_replacing t i k c (a ∷ []) (b ∷ []) x y p q)

pub one_tray_drop : (t : List ℕ) (a b : ℕ) (x y : List ℕ) → OpenTray.Drops t (a ∷ []) x → OpenTray.Drops t (b ∷ []) y → (a ≡ b) × (x ≡ y)
one_tray_drop t a b x y p q = one_number (tray.one_dropping t (a ∷ []) (b ∷ []) x y p q)

pub one_tray_count : (t : List ℕ) (r s : FilmCount) → OpenTray.Asks t (count_numbers r) → OpenTray.Asks t (count_numbers s) → r ≡ s
one_tray_count t r s p q =
    ap (λ (l : List ℕ). record { answer = get_or l 0 0; count = get_or l 1 0 }) (tray.one_asking t (count_numbers r) (count_numbers s) p q)

-- ---- panel text

one_panel : (r s : FilmPanel) → panel_numbers r ≡ panel_numbers s → r ≡ s
one_panel r s e = ap (λ (l : List ℕ). record { answer = get_or l 0 0; length = get_or l 1 0 }) e

pub one_panel_text : (v old : List ℕ) (r s : FilmPanel) (x y : List ℕ) → Panel.Panels v old (panel_numbers r) x → Panel.Panels v old (panel_numbers s) y → (r ≡ s) × (x ≡ y)
one_panel_text v old r s x y p q = let e = same_text v old (panel_numbers r) (panel_numbers s) x y p q in (one_panel r s e.0, e.1)

pub one_panel_ring : (ring : List ℕ) (t : ℕ) (old : List ℕ) (r s : FilmPanel) (x y : List ℕ)
    → Panel.PanelsRing ring t old (panel_numbers r) x → Panel.PanelsRing ring t old (panel_numbers s) y → (r ≡ s) × (x ≡ y)
one_panel_ring ring t old r s x y p q = let e = same_ring ring t old (panel_numbers r) (panel_numbers s) x y p q in (one_panel r s e.0, e.1)

-- ---- blocks

pub one_block_encoding : (given old : List ℕ) (a b : ℕ) (x y : List ℕ) → Block.Encodes given old (a ∷ []) x → Block.Encodes given old (b ∷ []) y → (a ≡ b) × (x ≡ y)
unfolding Block.Encodes
one_block_encoding given old a b x y p q =
    let e = one_result (Block.encoding_tests given (length old)) (Block.EncodedAs given) 0 (λ _. one_encoded_as given) old (a ∷ []) (b ∷ []) x y p q in
    (ap (λ (l : List ℕ). get_or l 0 0) e.0, e.1)

one_block : (r s : FilmBlock) → block_numbers r ≡ block_numbers s → r ≡ s
one_block r s e = ap (λ (l : List ℕ). record { answer = get_or l 0 0; distance = get_or l 1 0 }) e

pub one_block_read : (rows old : List ℕ) (r s : FilmBlock) (x y : List ℕ) → Block.Reads rows old (block_numbers r) x → Block.Reads rows old (block_numbers s) y → (r ≡ s) × (x ≡ y)
unfolding Block.Reads
one_block_read rows old r s x y p q =
    let e = one_result (Block.reading_tests rows (length old)) (Block.ReadAs rows) 1 (λ _. one_read_as rows) old (block_numbers r) (block_numbers s) x y p q in
    (one_block r s e.0, e.1)

-- ---- blocks that outlast a smudge

pub one_smudge_encoding : (given old : List ℕ) (a b : ℕ) (x y : List ℕ) → Smudge.Encodes given old (a ∷ []) x → Smudge.Encodes given old (b ∷ []) y → (a ≡ b) × (x ≡ y)
unfolding Smudge.Encodes
one_smudge_encoding given old a b x y p q =
    let e = one_result (Smudge.encoding_tests given (length old)) (Smudge.EncodedAs given) 0 (λ _. Smudged.one_encoded_as given) old (a ∷ []) (b ∷ []) x y p q in
    (ap (λ (l : List ℕ). get_or l 0 0) e.0, e.1)

pub one_smudge_read : (rows old : List ℕ) (r s : FilmBlock) (x y : List ℕ) → Smudge.Reads rows old (block_numbers r) x → Smudge.Reads rows old (block_numbers s) y → (r ≡ s) × (x ≡ y)
unfolding Smudge.Reads
one_smudge_read rows old r s x y p q =
    let e = one_result (Smudge.reading_tests rows (length old)) (Smudge.ReadAs rows) 1 (λ _. Smudged.one_read_as rows) old (block_numbers r) (block_numbers s) x y p q in
    (one_block r s e.0, e.1)

-- ---- how clear scans are

pub one_scan_clarity : (cells : List ℕ) (t : ℕ) (r s : FilmScan) → Clearly.Clarifies cells t (scan_numbers r) (scan_given r)
    → Clearly.Clarifies cells t (scan_numbers s) (scan_given s) → r ≡ s
one_scan_clarity cells t r s p q =
    let e = clearly.one_scan cells t (scan_numbers r) (scan_numbers s) (scan_given r) (scan_given s) p q in
    ap₂ (λ (l : List ℕ) (g : Clearly.Given).
    record { answer = get_or l 0 0; kind = get_or l 1 0; ratio = g.ratio; dark = g.means.dark; bright = g.means.bright }) e.0 e.1

pub one_spool_clarity : (cells : List ℕ) (t : ℕ) (r s : FilmClarities) → Clearly.CountsSpool cells t (clarities_numbers r)
    → Clearly.CountsSpool cells t (clarities_numbers s) → r ≡ s
one_spool_clarity cells t r s p q =
    ap (λ (l : List ℕ). record { answer = get_or l 0 0; ratios = get_or l 1 0; unspread = get_or l 2 0; refusals = get_or l 3 0 })
    (clearly.one_spool cells t (clarities_numbers r) (clarities_numbers s) p q)

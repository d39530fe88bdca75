-- The tray file: one radius byte, then three sections, lines, rings and blocks in that order, each after its one-byte count.
use Rattle.std.specs.Prelude.{◌≡◌, cond, List, [], ◌∷◌, ◌++◌, ℕ, zero, suc, leb, length, take, drop}
use Rattle.numbers.specs.Below.{AllBelow}
use Rattle.text.specs.Text.{line}
use Rattle.report.specs.declared.Kind.{Kind}
use Rattle.report.specs.declared.Kind.TheVariants as K
use Rattle.report.specs.Items.{letter, Fields}

-- a file of bytes
abbrev pub Bytes : List ℕ → Type 0
Bytes = AllBelow 256

-- ---- one item

-- the first item of what is left of a file, and what is left after it; or the file stops before the item is whole
pub data First : Type 0 where
  item : List ℕ → List ℕ → First
  short : First

abbrev pub first_bytes : ℕ → List ℕ → First
first_bytes n file = cond (leb n (length file)) (item (take n file) (drop n file)) short

-- a line or ring is 63 bytes; a block is one byte for its row count, then the rows, whatever that count is
abbrev pub first : Kind → List ℕ → First
first K.Line file = first_bytes 63 file
first K.Ring file = first_bytes 63 file
first K.Block [] = short
first K.Block (rows ∷ file) = first_bytes rows file

-- the line of item i: its kind, its number, and its fields
pub record ItemLine (kind : Kind) (t i : ℕ) (it text : List ℕ) : Type 0 where
  pub fields : List ℕ
  pub read : Fields kind t it fields
  pub printed : text ≡ line (letter kind ∷ []) (i ∷ fields)

-- ---- sections

-- what of a file is left, or that it stops early
pub data Left : Type 0 where
  rest : List ℕ → Left
  cut : Left

-- n items, the first of them item i: their lines, and what of the file is left; the items already whole are printed
pub data Items (kind : Kind) (t : ℕ) : ℕ → ℕ → List ℕ → List ℕ → Left → Type 0 where
  none : {i : ℕ} {file : List ℕ} → Items kind t zero i file [] (rest file)
  early : {n i : ℕ} {file : List ℕ} → first kind file ≡ short → Items kind t (suc n) i file [] cut
  one : {n i : ℕ} {file it after text more : List ℕ} {left : Left} → first kind file ≡ item it after → ItemLine kind t i it text
      → Items kind t n (suc i) after more left → Items kind t (suc n) i file (text ++ more) left

-- a section: its count, and so many items from item 0 on
pub data Section (kind : Kind) (t : ℕ) : List ℕ → List ℕ → ℕ → Left → Type 0 where
  no_count : Section kind t [] [] 0 cut
  counted : {n : ℕ} {file text : List ℕ} {left : Left} → Items kind t n 0 file text left → Section kind t (n ∷ file) text n left

-- sections one after another: their lines, their counts, and what of the file is left
pub data Sections (t : ℕ) : List Kind → List ℕ → List ℕ → List ℕ → Left → Type 0 where
  done : {file : List ℕ} → Sections t [] file [] [] (rest file)
  stops : {kind : Kind} {kinds : List Kind} {n : ℕ} {file text : List ℕ} → Section kind t file text n cut → Sections t (kind ∷ kinds) file text [] cut
  goes : {kind : Kind} {kinds : List Kind} {n : ℕ} {file text after more counts : List ℕ} {left : Left} → Section kind t file text n (rest after)
      → Sections t kinds after more counts left → Sections t (kind ∷ kinds) file (text ++ more) (n ∷ counts) left

-- the kinds of the sections, in their order
abbrev pub kinds : List Kind
kinds = K.Line ∷ K.Ring ∷ K.Block ∷ []

-- The printed text: a header, one line an item, and a closing line; and the room that it asks for.
use Rattle.std.specs.Prelude.{◌≡◌, List, [], ◌∷◌, ◌++◌, ℕ}
use Rattle.text.specs.Text.{line_end, line}
use Rattle.report.specs.Tray.{Left, rest, cut, Sections, kinds}

-- "kind item answer a b"
abbrev pub words_header : List ℕ
words_header = 107 ∷ 105 ∷ 110 ∷ 100 ∷ 32 ∷ 105 ∷ 116 ∷ 101 ∷ 109 ∷ 32 ∷ 97 ∷ 110 ∷ 115 ∷ 119 ∷ 101 ∷ 114 ∷ 32 ∷ 97 ∷ 32 ∷ 98 ∷ []

-- "end", "more" and "cut"
abbrev pub word_end : List ℕ
word_end = 101 ∷ 110 ∷ 100 ∷ []

abbrev pub word_more : List ℕ
word_more = 109 ∷ 111 ∷ 114 ∷ 101 ∷ []

abbrev pub word_cut : List ℕ
word_cut = 99 ∷ 117 ∷ 116 ∷ []

abbrev pub header : List ℕ
header = line words_header []

-- `end` with the three counts; bytes left over give `more` in its place; a file that stops early gives `cut` alone
abbrev pub closing : List ℕ → Left → List ℕ
closing counts (rest []) = line word_end counts
closing counts (rest (x ∷ xs)) = line word_more []
closing counts cut = line word_cut []

-- the report of a file; one that stops before the radius byte has the header and `cut`
pub data Report : List ℕ → List ℕ → Type 0 where
  empty : Report [] (header ++ line word_cut [])
  tray : {t : ℕ} {file lines counts : List ℕ} {left : Left} → Sections t kinds file lines counts left → Report (t ∷ file) (header ++ (lines ++ closing counts left))

-- room for any report, every field at its widest: the proof that it is enough has the reckoning
abbrev pub report_room : ℕ
report_room = 13807

-- a text that ends with a line's end
abbrev pub Ends : List ℕ → Type 0
Ends l = (s : List ℕ) × (l ≡ s ++ (line_end ∷ []))

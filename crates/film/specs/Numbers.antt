-- The library's answers in C's layout, as the numbers that the entry points' promises speak of, and its register as the encoder's.
use Rattle.std.specs.Prelude.{Result, Ok, Err, List, [], ◌∷◌, ℕ}
use Rattle.refusal.specs.declared.Refusal.{Refusal}
use Rattle.refusal.specs.Number.{number_of}
use Rattle.encoder.specs.declared.Register.{Register}
use Rattle.clarity.specs.Promises.{Given}
use Rattle.film.specs.declared.FilmElement.{FilmElement}
use Rattle.film.specs.declared.FilmChoice.{FilmChoice}
use Rattle.film.specs.declared.FilmList.{FilmList}
use Rattle.film.specs.declared.FilmRing.{FilmRing}
use Rattle.film.specs.declared.FilmPanel.{FilmPanel}
use Rattle.film.specs.declared.FilmBlock.{FilmBlock}
use Rattle.film.specs.declared.brightness.FilmScan.{FilmScan}
use Rattle.film.specs.declared.brightness.FilmClarities.{FilmClarities}
use Rattle.film.specs.declared.recorder.FilmRegister.{FilmRegister}
use Rattle.film.specs.declared.recorder.FilmChecked.{FilmChecked}
use Rattle.film.specs.declared.sheets.FilmSheet.{FilmSheet}
use Rattle.film.specs.declared.trays.FilmCount.{FilmCount}

-- the answer of a call that gives nothing else
abbrev pub answer_of : Result Unit Refusal → ℕ
answer_of (Ok _) = 0
answer_of (Err r) = number_of r

abbrev pub element_numbers : FilmElement → List ℕ
element_numbers r = r.answer ∷ r.value ∷ []

abbrev pub choice_numbers : FilmChoice → List ℕ
choice_numbers r = r.answer ∷ r.scan ∷ []

abbrev pub list_numbers : FilmList → List ℕ
list_numbers r = r.answer ∷ r.count ∷ []

-- in the promise of reading a ring the start stands first, and the number before the distance
abbrev pub ring_numbers : FilmRing → List ℕ
ring_numbers r = r.answer ∷ r.start ∷ r.number ∷ r.distance ∷ r.first ∷ r.last ∷ []

abbrev pub panel_numbers : FilmPanel → List ℕ
panel_numbers r = r.answer ∷ r.length ∷ []

abbrev pub block_numbers : FilmBlock → List ℕ
block_numbers r = r.answer ∷ r.distance ∷ []

abbrev pub sheet_numbers : FilmSheet → List ℕ
sheet_numbers r = r.answer ∷ r.rounds ∷ []

abbrev pub count_numbers : FilmCount → List ℕ
count_numbers r = r.answer ∷ r.count ∷ []

abbrev pub scan_numbers : FilmScan → List ℕ
scan_numbers r = r.answer ∷ r.kind ∷ []

-- its doubles
abbrev pub scan_given : FilmScan → Given
scan_given r = record { ratio = r.ratio; means = record { dark = r.dark; bright = r.bright } }

abbrev pub clarities_numbers : FilmClarities → List ℕ
clarities_numbers r = r.answer ∷ r.ratios ∷ r.unspread ∷ r.refusals ∷ []

-- the same eleven characters and the same count
abbrev pub register_of : FilmRegister → Register
register_of r = record { held = r.held; count = r.count }

abbrev pub check_numbers : FilmChecked → List ℕ
check_numbers r = r.answer ∷ r.checks

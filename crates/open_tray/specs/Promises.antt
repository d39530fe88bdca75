-- What the operations on a tray kept open promise: add a line, replace one character, drop the last line, ask the count.
use Rattle.std.specs.Prelude.{◌≡◌, Result, Ok, Err, List, [], ◌∷◌, ℕ, ◌+◌, ◌-◌, ◌<◌, ◌≤◌, length, get_or, set}
use Rattle.refusal.specs.declared.Refusal.{Refusal}
use Rattle.refusal.specs.declared.Refusal.TheVariants.{InputLength, ValueOver, TrayUnfit, LineNotHeld, AddressOver}
use Rattle.refusal.specs.Number.{number_of}
use Rattle.refusal.specs.Promise.{Test, ◌else◌, Promise, Replies}
use Rattle.field.specs.Field.{sum}
use Rattle.code.specs.Word.{Characters}
use Rattle.open_tray.specs.Tray.{characters_at, sums_at, held, count, fresh_sums, wrong, with_shares, Fit, Sound, Edited}

-- the paper's number of an operation's answer
abbrev pub edit_numbers : Result Unit Refusal → List ℕ
edit_numbers (Ok _) = 0 ∷ []
edit_numbers (Err r) = number_of r ∷ []

-- the paper's numbers where the count is asked for: the answer, and the count
abbrev pub count_numbers : Result ℕ Refusal → List ℕ
count_numbers (Ok n) = 0 ∷ n ∷ []
count_numbers (Err r) = number_of r ∷ 0 ∷ []

-- ---- add a line

abbrev pub add_tests : List ℕ → List ℕ → List Test
add_tests t w = (Fit t else TrayUnfit) ∷ (length w ≡ 63 else InputLength) ∷ (Characters w else ValueOver) ∷ (held t < 64 else TrayUnfit) ∷ []

-- the first free room gets the line and its sums
abbrev pub Added : List ℕ → List ℕ → List ℕ → Type 0
Added t w q = Edited t (held t) w (fresh_sums w) (held t + 1) (count t + wrong (fresh_sums w)) q

unfoldable pub Adds : List ℕ → List ℕ → List ℕ → List ℕ → Type 0
Adds t w numbers q = Promise (add_tests t w) (λ fields r. (fields ≡ []) × Added t w r) 0 t numbers q

-- ---- replace one character

abbrev pub replace_tests : List ℕ → ℕ → ℕ → ℕ → List Test
replace_tests t i a c =
    (Fit t else TrayUnfit) ∷ (i < held t else LineNotHeld) ∷ (a ≤ 62 else AddressOver) ∷ (c ≤ 63 else ValueOver) ∷ (Sound i t else TrayUnfit) ∷ []

-- the sums of line i with the share of the change added
abbrev pub sums_after : List ℕ → ℕ → ℕ → ℕ → List ℕ
sums_after t i a c = with_shares a (sum (get_or (characters_at i t) a 0) c) (sums_at i t)

abbrev pub Replaced : List ℕ → ℕ → ℕ → ℕ → List ℕ → Type 0
Replaced t i a c q =
    Edited t i (set (characters_at i t) a c) (sums_after t i a c) (held t) (count t - wrong (sums_at i t) + wrong (sums_after t i a c)) q

unfoldable pub Replaces : List ℕ → ℕ → ℕ → ℕ → List ℕ → List ℕ → Type 0
Replaces t i a c numbers q = Promise (replace_tests t i a c) (λ fields r. (fields ≡ []) × Replaced t i a c r) 0 t numbers q

-- ---- drop the last line

abbrev pub last_line : List ℕ → ℕ
last_line t = held t - 1

abbrev pub drop_tests : List ℕ → List Test
drop_tests t = (Fit t else TrayUnfit) ∷ (0 < held t else LineNotHeld) ∷ (Sound (last_line t) t else TrayUnfit) ∷ []

-- the room keeps its bytes
abbrev pub Dropped : List ℕ → List ℕ → Type 0
Dropped t q = Edited t (last_line t) (characters_at (last_line t) t) (sums_at (last_line t) t) (last_line t) (count t - wrong (sums_at (last_line t) t)) q

unfoldable pub Drops : List ℕ → List ℕ → List ℕ → Type 0
Drops t numbers q = Promise (drop_tests t) (λ fields r. (fields ≡ []) × Dropped t r) 0 t numbers q

-- ---- ask the count

abbrev pub ask_tests : List ℕ → List Test
ask_tests t = (Fit t else TrayUnfit) ∷ []

unfoldable pub Asks : List ℕ → List ℕ → Type 0
Asks t numbers = Replies (ask_tests t) (λ fields. fields ≡ count t ∷ []) 1 numbers

-- The starts of an undamaged ring: the true one, and the false ones, counted from it. The theorems of false starts speak of them; no promise does.
use Rattle.std.specs.Prelude.{Bool, true, false, cond, List, [], ◌∷◌, ◌++◌, map, ℕ, zero, suc, ◌+◌, ◌-◌, ◌%◌, eqb, ltb, leb, set, replicate}

-- the start that is j counted from start m: start j of the word at m. For j from 0 to 62 it begins at address j of that word and goes on in the
-- same direction; for j = 63 + a it begins at address a and goes in the other
unfoldable pub counted_from : ℕ → ℕ → ℕ
counted_from m j =
    cond (ltb m 63) (cond (ltb j 63) ((m + j) % 63) (63 + (m + j) % 63)) (cond (ltb j 63) (63 + (m + 63 - j) % 63) ((m + 63 - j) % 63))

-- the starts at which the marks lie four characters from the marks, all backward: at addresses 41, 44, 47, 51, 54 and 61
abbrev pub four_away : List ℕ
four_away = 104 ∷ 107 ∷ 110 ∷ 114 ∷ 117 ∷ 124 ∷ []

-- and five, all forward
abbrev pub five_away : List ℕ
five_away = 3 ∷ 7 ∷ 10 ∷ 53 ∷ 56 ∷ 60 ∷ []

-- d at each of these starts
unfoldable pub with_at : List ℕ → ℕ → List ℕ → List ℕ
with_at [] d l = l
with_at (k ∷ ks) d l = set (with_at ks d l) k d

-- how far the marks at each start lie from the marks: 0 at start 0, 4 at six backward starts, 5 at six forward ones, and 6 at all others
unfoldable pub mark_distances : List ℕ
mark_distances = with_at four_away 4 (with_at five_away 5 (0 ∷ replicate 125 6))

-- the false starts at a radius, counted from the true start: none up to 3, six at 4, twelve at 5
unfoldable pub false_starts : ℕ → List ℕ
false_starts t = cond (leb t 3) [] (cond (leb t 4) four_away (five_away ++ four_away))

-- whether a number stands in a list
unfoldable pub is_in : ℕ → List ℕ → Bool
is_in k [] = false
is_in k (j ∷ js) = cond (eqb k j) true (is_in k js)

-- those of the n numbers k, k + 1, .. that stand in a list, in rising order
unfoldable pub rising : List ℕ → ℕ → ℕ → List ℕ
rising js zero k = []
rising js (suc n) k = cond (is_in k js) (k ∷ rising js n (suc k)) (rising js n (suc k))

-- the starts, at a radius, of a line recorded at start m with no wrong character: m and the false starts counted from it, in rising order
unfoldable pub recorded_starts : ℕ → ℕ → List ℕ
recorded_starts m t = rising (m ∷ map (counted_from m) (false_starts t)) 126 0

-- What the inner functions of rings promise each other: the marks at a start, their power sums, whether errors have given sums, the ring place of an address, the starts with a property listed, and what the marks of a start add to a pattern of errors.
use Rattle.std.specs.Prelude.{◌≡◌, Bool, true, false, cond, List, [], ◌∷◌, ◌++◌, ℕ, zero, suc, min, ◌+◌, ◌-◌, ◌%◌, ◌<◌, ◌≤◌, eqb, ltb, length, get_or, drop}
use Rattle.code.specs.Word.{Characters, power_sum, added, marks, listed}
use Rattle.code.specs.Inside.{PowerSums}
use Rattle.mender.specs.Mender.{Fits}
use Rattle.ring.specs.Ring.{placed, Those}

-- start k as it is counted in the word at start m
unfoldable pub seen : ℕ → ℕ → ℕ
seen m k =
    cond (ltb m 63) (cond (ltb k 63) ((k + 63 - m) % 63) (63 + (k - m) % 63)) (cond (ltb k 63) (63 + (m - k) % 63) ((m + 63 - k) % 63))

-- the marks at their ring places: the ring whose word at start k is the marks
unfoldable pub marks_at : ℕ → List ℕ
marks_at k = placed (seen k 0) marks

-- the sums of the marks at start k
abbrev pub MarkSums : ℕ → List ℕ → Type 0
MarkSums k sums = PowerSums (marks_at k) sums

-- what the loop over the starts asks for: a ring of 63 characters, and a radius of at most 5
pub record Listable (ring : List ℕ) (t : ℕ) : Type 0 where
  pub long : length ring ≡ 63
  pub characters : Characters ring
  pub small : t ≤ 5

-- at most t errors, t counting up to 5, have these eleven power sums
abbrev pub ErrorsFit : List ℕ → ℕ → Type 0
ErrorsFit sums t = (errors : List ℕ) × Fits sums 11 (min t 5) errors

-- the eleven power sums of the marks at start k, S_-5 first
unfoldable pub mark_sums : ℕ → List ℕ
mark_sums k = listed (λ i. power_sum (58 + i) (marks_at k)) 0 11

-- at most t errors have these sums, to which those of the marks at start k are added
abbrev pub ErrorsFitAt : List ℕ → ℕ → ℕ → Type 0
ErrorsFitAt sums t k = ErrorsFit (added sums (mark_sums k)) t

-- of the n numbers k, k + 1, .. those at which a test answered true, in rising order; at each other it answered false
pub data Tested (T : ℕ → Bool → Type 0) : ℕ → ℕ → List ℕ → Type 0 where
  tested_end : {k : ℕ} → Tested T zero k []
  tested_true : {n k : ℕ} {ks : List ℕ} → T k true → Tested T n (suc k) ks → Tested T (suc n) k (k ∷ ks)
  tested_false : {n k : ℕ} {ks : List ℕ} → T k false → Tested T n (suc k) ks → Tested T (suc n) k ks

-- those of the 126 starts at which a test answered true, listed in an output as below
pub record ListsWhere (T : ℕ → Bool → Type 0) (old fields new : List ℕ) : Type 0 where
  pub starts : List ℕ
  pub these : Tested T 126 0 starts
  pub count : fields ≡ length starts ∷ []
  pub output : new ≡ starts ++ drop (length starts) old

-- those of the 126 starts that have a property: they stand first in the output, the rest of it is as it was, and the field is their count
pub record ListsThose (P : ℕ → Type 0) (old fields new : List ℕ) : Type 0 where
  pub starts : List ℕ
  pub these : Those P 126 0 starts
  pub count : fields ≡ length starts ∷ []
  pub output : new ≡ starts ++ drop (length starts) old

-- the ring place of address a at start k
abbrev pub place_of : ℕ → ℕ → ℕ
place_of k a = cond (ltb k 63) ((k + a) % 63) ((k - a) % 63)

-- the errors of a ring against a word c, with the marks at start k added
abbrev pub errors_at : ℕ → List ℕ → List ℕ → List ℕ
errors_at k ring c = added (added ring c) (marks_at k)

-- a mark m is added where the error v is: what that adds to the count of errors, and 1. Where v is 0 there is an error more, where v is m one less
unfoldable pub gain : ℕ → ℕ → ℕ
gain v m = cond (eqb v m) 0 (cond (eqb v 0) 2 1)

-- what the three marks of start k, added to the errors e, add to their count, and 3
abbrev pub gains : ℕ → List ℕ → ℕ
gains k e = gain (get_or e (place_of k 52) 0) 32 + gain (get_or e (place_of k 55) 0) 8 + gain (get_or e (place_of k 62) 0) 1

-- the gains of each start
pub record AllGains (e r : List ℕ) : Type 0 where
  pub long : length r ≡ 126
  pub at : (k : ℕ) → k < 126 → get_or r k 0 ≡ gains k e

-- the marks of start k, added to the errors e, add at most n to their count, and 3
abbrev pub LightBy : List ℕ → ℕ → ℕ → Type 0
LightBy e n k = gains k e ≤ n

-- errors twice round the ring: no place of a mark, counted on from its start or back, lies outside
pub record Twice (e r : List ℕ) : Type 0 where
  pub long : length r ≡ 126
  pub at : (p : ℕ) → p < 126 → get_or r p 0 ≡ get_or e (p % 63) 0

-- e errors at most decide the starts at radius t: with the three marks and the radius they are fewer than the 12 characters by which two clean words differ
-- at least, and up to radius 2 a start that is listed leaves no more
pub record Deciding (t e : ℕ) : Type 0 where
  pub apart : e + 3 + t ≤ 11
  pub few : e ≤ 5
  pub light : e ≤ t + 3
  pub enough : t ≤ 2 → t + 3 ≤ e

-- A tray kept open, as its 4,738 bytes: room for 64 lines, each 63 characters with the eleven power sums beside them; how many lines are held; and a count of those whose sums are not all 0.
use Rattle.std.specs.Prelude.{◌≡◌, List, [], ◌∷◌, ℕ, zero, suc, ◌+◌, ◌-◌, ◌*◌, ◌%◌, ◌<◌, ◌≤◌, length, get_or, take, drop}
use Rattle.numbers.specs.Below.{AllBelow}
use Rattle.numbers.specs.Parts.{part}
use Rattle.field.specs.Field.{sum, product, α, power}
use Rattle.code.specs.Word.{power_sum, added, marks, listed}

-- ---- what lies where

-- room i, from 0 to 63: 63 characters and eleven sums, 74 bytes
abbrev pub room : ℕ → List ℕ → List ℕ
room i t = part 74 i t

abbrev pub characters_at : ℕ → List ℕ → List ℕ
characters_at i t = take 63 (room i t)

abbrev pub sums_at : ℕ → List ℕ → List ℕ
sums_at i t = drop 63 (room i t)

-- after the rooms, and so at 64 · 74 = 4,736: how many lines are held, and the count
abbrev pub held : List ℕ → ℕ
held t = get_or t 4736 0

abbrev pub count : List ℕ → ℕ
count t = get_or t 4737 0

-- ---- sums

-- the eleven power sums of a line, marks off, S_-5 first, worked out afresh
unfoldable pub fresh_sums : List ℕ → List ℕ
fresh_sums w = listed (λ k. power_sum (58 + k) (added w marks)) 0 11

-- 1 where some of the sums is not 0, and 0 where all are 0
unfoldable pub wrong : List ℕ → ℕ
wrong [] = 0
wrong (zero ∷ ss) = wrong ss
wrong (suc s ∷ ss) = 1

-- what a change by d of the character at address a adds to sum number k: d · α^(j(62-a)), as in that power sum
abbrev pub share : ℕ → ℕ → ℕ → ℕ
share a d k = product d (power α ((58 + k) * (62 - a) % 63))

-- the sums with the change's share added to each
unfoldable pub with_shares : ℕ → ℕ → List ℕ → List ℕ
with_shares a d ss = listed (λ k. sum (get_or ss k 0) (share a d k)) 0 11

-- ---- what an operation asks of a tray

-- a tray, and so 4,738 bytes, that claims no more than 64 lines, and no count above them
pub record Fit (t : List ℕ) : Type 0 where
  pub whole : length t ≡ 4738
  pub few : held t ≤ 64
  pub counted : count t ≤ held t

-- line i has no character or sum over 63, and no sum that is not 0 at count 0
pub record Sound (i : ℕ) (t : List ℕ) : Type 0 where
  pub low : AllBelow 64 (room i t)
  pub counted : count t ≡ 0 → wrong (sums_at i t) ≡ 0

-- ---- what an operation leaves

-- q is t but for room i, which holds these characters and these sums, and for the lines held and the count
pub record Edited (t : List ℕ) (i : ℕ) (w ss : List ℕ) (h n : ℕ) (q : List ℕ) : Type 0 where
  pub long : length q ≡ length t
  pub characters : characters_at i q ≡ w
  pub sums : sums_at i q ≡ ss
  pub others : (j : ℕ) → j < 64 → (j ≡ i → ⊥) → room j q ≡ room j t
  pub held_is : held q ≡ h
  pub count_is : count q ≡ n

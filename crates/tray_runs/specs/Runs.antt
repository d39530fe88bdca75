-- Runs of operations on a tray kept open: any sequence of them, accepted or refused, the lines that the accepted ones give, and a tray that holds these with sums and count as worked out afresh.
use Rattle.std.specs.Prelude.{◌≡◌, cond, List, [], ◌∷◌, ◌++◌, map, ℕ, ◌+◌, ◌-◌, ◌<◌, eqb, length, get_or, set, take}
use Rattle.open_tray.specs.Tray.{characters_at, sums_at, held, count, fresh_sums, wrong}
use Rattle.open_tray.specs.Promises.{Adds, Replaces, Drops, Asks}

-- ---- operations, and runs of them

pub data Operation : Type 0 where
  add : List ℕ → Operation
  replace : ℕ → ℕ → ℕ → Operation
  drop_last : Operation
  ask : Operation

-- an operation leads from one tray to another, with whatever numbers and tray its promise allows; asking leaves the tray
abbrev pub Does : List ℕ → Operation → List ℕ → List ℕ → Type 0
Does t (add w) numbers q = Adds t w numbers q
Does t (replace i a c) numbers q = Replaces t i a c numbers q
Does t drop_last numbers q = Drops t numbers q
Does t ask numbers q = Asks t numbers × (q ≡ t)

-- an operation and the numbers that were answered
pub record Step : Type 0 where
  pub operation : Operation
  pub numbers : List ℕ

-- what was asked for
abbrev pub operations : List Step → List Operation
operations ss = map (λ (s : Step). s.operation) ss

-- from one tray to another by these steps
pub data Through : List ℕ → List Step → List ℕ → Type 0 where
  none : {t : List ℕ} → Through t [] t
  more : {t q r : List ℕ} {s : Step} {ss : List Step} → Does t s.operation s.numbers q → Through q ss r → Through t (s ∷ ss) r

-- ---- the lines that the accepted operations give

abbrev pub given : Operation → List (List ℕ) → List (List ℕ)
given (add w) ls = ls ++ w ∷ []
given (replace i a c) ls = set ls i (set (get_or ls i []) a c)
given drop_last ls = take (length ls - 1) ls
given ask ls = ls

-- an operation is accepted where its answer is 0
abbrev pub after_step : Step → List (List ℕ) → List (List ℕ)
after_step s ls = cond (eqb (get_or s.numbers 0 1) 0) (given s.operation ls) ls

unfoldable pub after : List (List ℕ) → List Step → List (List ℕ)
after ls [] = ls
after ls (s ∷ ss) = after (after_step s ls) ss

-- ---- what a tray holds

-- how many lines have sums that are not all 0, worked out afresh
unfoldable pub fresh_count : List (List ℕ) → ℕ
fresh_count [] = 0
fresh_count (w ∷ ws) = wrong (fresh_sums w) + fresh_count ws

-- a tray holds these lines, and its sums and its count are those worked out afresh
pub record Holds (t : List ℕ) (ls : List (List ℕ)) : Type 0 where
  pub many : held t ≡ length ls
  pub lines : (i : ℕ) → i < length ls → characters_at i t ≡ get_or ls i []
  pub sums : (i : ℕ) → i < length ls → sums_at i t ≡ fresh_sums (get_or ls i [])
  pub counted : count t ≡ fresh_count ls

-- a tray with no line in it, whatever its rooms hold
pub record Empty (t : List ℕ) : Type 0 where
  pub whole : length t ≡ 4738
  pub no_line : held t ≡ 0
  pub no_count : count t ≡ 0

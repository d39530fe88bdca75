-- What the theorems of panel text speak of, and no promise: a harmless byte, a printable one, a text that begins with a name, and undoing the names.
use Rattle.std.specs.Prelude.{◌≡◌, Bool, true, false, cond, ◌⊎◌, List, [], ◌∷◌, ℕ, zero, suc, ◌-◌, ◌≤◌, eqb, length}
use Rattle.panel.specs.Escaping.{Named, ◌called◌, names}

-- a byte that is none of < > " '
pub record Harmless (b : ℕ) : Type 0 where
  pub not_less : b ≡ 60 → ⊥
  pub not_greater : b ≡ 62 → ⊥
  pub not_quote : b ≡ 34 → ⊥
  pub not_apostrophe : b ≡ 39 → ⊥

-- whether a text begins with another
unfoldable pub begins : List ℕ → List ℕ → Bool
begins [] bs = true
begins (c ∷ cs) [] = false
begins (c ∷ cs) (b ∷ bs) = cond (eqb c b) (begins cs bs) false

-- whether a text begins with one of some names
unfoldable pub begins_one : List Named → List ℕ → Bool
begins_one [] bs = false
begins_one (n ∷ ns) bs = cond (begins n.name bs) true (begins_one ns bs)

abbrev pub begins_name : List ℕ → Bool
begins_name bs = begins_one names bs

-- whether a byte stands in a text, and in one of some names
unfoldable pub stands_in : ℕ → List ℕ → Bool
stands_in b [] = false
stands_in b (c ∷ cs) = cond (eqb b c) true (stands_in b cs)

unfoldable pub stands_in_one : ℕ → List Named → Bool
stands_in_one b [] = false
stands_in_one b (n ∷ ns) = cond (stands_in b n.name) true (stands_in_one b ns)

-- a byte from 32, the space, to 95, or a letter, digit, # or ; of a name
abbrev pub Printable : ℕ → Type 0
Printable b = ((32 ≤ b) × (b ≤ 95)) ⊎ (stands_in_one b names ≡ true)

-- ---- undoing, of any bytes whatever

-- what a text begins with, b being its first byte: one of some names and the byte of that name; and where none stands there, b, for itself
unfoldable pub read_by : List Named → ℕ → List ℕ → Named
read_by [] b bs = b called b ∷ []
read_by (n ∷ ns) b bs = cond (begins n.name (b ∷ bs)) n (read_by ns b bs)

-- a name gives its byte, and every other byte itself; the number says how many of the next bytes belong to a name whose byte was given
unfoldable pub undone_after : ℕ → List ℕ → List ℕ
undone_after k [] = []
undone_after (suc k) (b ∷ bs) = undone_after k bs
undone_after zero (b ∷ bs) = (read_by names b bs).byte ∷ undone_after (length (read_by names b bs).name - 1) bs

abbrev pub undone : List ℕ → List ℕ
undone bs = undone_after 0 bs

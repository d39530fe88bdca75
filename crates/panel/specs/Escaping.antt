-- Escaping: each character as its ASCII byte, and five of the bytes by name.
use Rattle.std.specs.Prelude.{cond, List, [], ◌∷◌, ◌++◌, ℕ, ◌+◌, eqb}

infix 1 ◌called◌
-- a byte that is written by name, and its name
pub record Named : Type 0 where
  pub byte : ℕ
  pub name : List ℕ

abbrev pub ◌called◌ : ℕ → List ℕ → Named
b called s = record { byte = b; name = s }

-- & < > " ' become &amp; &lt; &gt; &quot; &#39;
abbrev pub names : List Named
names =
    (38 called 38 ∷ 97 ∷ 109 ∷ 112 ∷ 59 ∷ [])
    ∷ (60 called 38 ∷ 108 ∷ 116 ∷ 59 ∷ [])
    ∷ (62 called 38 ∷ 103 ∷ 116 ∷ 59 ∷ [])
    ∷ (34 called 38 ∷ 113 ∷ 117 ∷ 111 ∷ 116 ∷ 59 ∷ [])
    ∷ (39 called 38 ∷ 35 ∷ 51 ∷ 57 ∷ 59 ∷ [])
    ∷ []

-- what is written for a byte: its name among some names, and where none is its own, itself
unfoldable pub written_by : List Named → ℕ → List ℕ
written_by [] b = b ∷ []
written_by (n ∷ ns) b = cond (eqb b n.byte) n.name (written_by ns b)

abbrev pub written : ℕ → List ℕ
written b = written_by names b

-- what is written for characters: v stands for the byte 32 + v
unfoldable pub escaped : List ℕ → List ℕ
escaped [] = []
escaped (v ∷ vs) = written (32 + v) ++ escaped vs

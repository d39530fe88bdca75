-- The recording of a line on a ring. The theorems of the true start and of the false ones begin with it; no promise needs it.
use Rattle.std.specs.Prelude.{cond, List, ℕ, ◌-◌, ltb}
use Rattle.code.specs.Word.{turned, reversed}

-- the ring whose word at a start is this line: the rule of the starts, turned back.
-- Start k from 0 to 62: place (k + a) mod 63 holds address a, so place p holds address (63 - k + p) mod 63.
-- Start 63 + s, with s from 0 to 62: place (s - a) mod 63 holds address a, so place p holds address (s - p) mod 63
unfoldable pub recorded : ℕ → List ℕ → List ℕ
recorded k l = cond (ltb k 63) (turned (63 - k) l) (reversed (k - 63) l)

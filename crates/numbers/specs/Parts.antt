-- Parts of equal width of a list, one after the other.
use Rattle.std.specs.Prelude.{List, ℕ, ◌*◌, take, drop}

-- part i, from 0 on
abbrev pub part : ℕ → ℕ → List ℕ → List ℕ
part width i l = take width (drop (i * width) l)

-- A number in hexadecimal digits.
use Rattle.std.specs.Prelude.{ℕ, ◌-◌, List, ◌++◌, length, replicate, false}
use Rattle.std.specs.Fmt.{digits}

-- the digits of n, 0 to 9 and then a to f, and as many zeros before them as there have to be for `width` digits
abbrev pub hex : ℕ → ℕ → List ℕ
hex width n = replicate (width - length (digits 16 false n)) 48 ++ digits 16 false n

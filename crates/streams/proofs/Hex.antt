-- What a hole of hexadecimal digits with zeros before them writes.
use Rattle.std.proofs.Common.{◌≡◌, ℕ, ◌-◌, ◌^◌, [], length, false, refl, arith, append-nil}
use Rattle.std.specs.Fmt.{digits, padded_integral, format_spec, char_count}
use Rattle.streams.specs.Hex.{hex}

no_characters : char_count [] ≡ 0
unfolding char_count
no_characters = refl

-- no sign and no prefix stands before the zeros
none : (width n : ℕ) → width - n - 0 - char_count [] ≡ width - n
none width n = let e = no_characters in omega arith

pub hex_padded : (width n : ℕ) → padded_integral (format_spec 32 0 4 width (2 ^ 64 - 1)) false [] (digits 16 false n) ≡ hex width n
unfolding padded_integral
hex_padded width n = let ds = digits 16 false n in rw (none width (length ds), append-nil ds) refl

-- The library's version: a million times the major number, a thousand times the minor, and the patch. tools/tables writes it from version.txt.
use Rattle.std.specs.Prelude.{ℕ}

abbrev pub version : ℕ
version = 4008000

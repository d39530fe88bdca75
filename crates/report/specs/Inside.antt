-- What the functions inside this crate promise each other; no public promise rests on it.
use Rattle.std.specs.Prelude.{List, ◌++◌, ℕ}
use Rattle.text.specs.Writing.{Puts}
use Rattle.report.specs.declared.Kind.{Kind}
use Rattle.report.specs.Tray.{Bytes, ItemLine, rest, cut, Section}
use Rattle.report.specs.Printed.{header, Report}

-- the line of an item is written
pub record PutItem (kind : Kind) (t i : ℕ) (it old new : List ℕ) (at next : ℕ) : Type 0 where
  pub text : List ℕ
  pub line : ItemLine kind t i it text
  pub puts : Puts old new at next text

-- the lines of a section are written, and this is left of the file
pub record PutWhole (kind : Kind) (t : ℕ) (file old new : List ℕ) (to count next : ℕ) (after : List ℕ) : Type 0 where
  pub text : List ℕ
  pub puts : Puts old new to next text
  pub section : Section kind t file text count (rest after)

-- the lines of its whole items are, and the file stops early
pub record PutCut (kind : Kind) (t : ℕ) (file old new : List ℕ) (to next : ℕ) : Type 0 where
  pub count : ℕ
  pub text : List ℕ
  pub puts : Puts old new to next text
  pub section : Section kind t file text count cut

-- all but the header is written, of a file of bytes
pub record PutTray (file old new : List ℕ) (to last : ℕ) : Type 0 where
  pub bytes : Bytes file
  pub text : List ℕ
  pub puts : Puts old new to last text
  pub report : Report file (header ++ text)

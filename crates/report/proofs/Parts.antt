-- The first item of a file: so many bytes, or a block after its row count; and a list from one of its places on.
use mathlib.Core.Path.{◌≡◌, sym, ap, ap₂, ◌∙◌}
use mathlib.Core.List.{List, ◌∷◌}
use Prim.Native.Nat.{ℕ, ◌+◌, ◌<◌, ◌≤◌}
use native.Mathlib.Numerals.{add-one}
use lib.ListN.{length, get_or, take, drop}
use lib.Seq.{drop-cons}
use Rattle.report.specs.declared.Kind.{Kind}
use Rattle.report.specs.Tray.{item, short, first_bytes, first}
use Rattle.report.proofs.First.{bytes_enough, bytes_few}

-- a list from one of its places on: what stands there, and the rest
pub from_place : {A : Type 0} (l : List A) (j : ℕ) (d x : A) → j < length l → x ≡ get_or l j d → drop j l ≡ x ∷ drop (j + 1) l
from_place {A} l j d x h e = drop-cons l j d h ∙ ap₂ (λ (y : A) (m : List A). y ∷ m) (sym e) (ap (λ (k : ℕ). drop k l) (sym (add-one j)))

bytes_split : (n : ℕ) (file it after : List ℕ) → n ≤ length file → it ≡ take n file → after ≡ drop n file → first_bytes n file ≡ item it after
bytes_split n file it after h ei ea = bytes_enough n file h ∙ ap₂ item (sym ei) (sym ea)

-- a kind whose items have so many bytes
module _ (kind : Kind) (n : ℕ) (file : List ℕ) (by : first kind file ≡ first_bytes n file) where
  pub bytes_first : (it after : List ℕ) → n ≤ length file → it ≡ take n file → after ≡ drop n file → first kind file ≡ item it after
  bytes_first it after h ei ea = by ∙ bytes_split n file it after h ei ea

  pub bytes_short : length file < n → first kind file ≡ short
  bytes_short h = by ∙ bytes_few n file h

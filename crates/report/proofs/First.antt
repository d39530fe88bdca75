-- How many bytes of a file its items take, what is left after them, and that more bytes at the end change nothing of them.
use mathlib.Core.Path.{◌≡◌, refl, sym, ap, ap₂, ◌∙◌}
use mathlib.Core.Bool.{Bool, cond}
use mathlib.Core.Logic.{⊎_elim}
use mathlib.Core.List.{List, [], ◌∷◌, ◌++◌}
use Prim.Native.Nat.{ℕ, zero, suc, ◌+◌, ◌-◌, ◌*◌, ◌<◌, ◌≤◌}
use native.Mathlib.Nat.{suc-mul}
use native.Mathlib.Omega.{arith}
use borrow.Author.Tests.{le-leb, lt-leb}
use lib.ListN.{length, take, drop, length-append, length-drop}
use lib.Seq.{get_or-drop, take-append-le, drop-append-le}
use Rattle.numbers.proofs.Cases.{le_or_lt}
use Rattle.report.specs.declared.Kind.{Kind}
use Rattle.report.specs.declared.Kind.TheVariants as K
use Rattle.report.specs.Tray.{Bytes, First, item, short, first_bytes, first, Left, rest, cut, Items, none, early, one, Section, no_count, counted, Sections, done, stops, goes}

-- ---- one item

-- an item of so many bytes
record Taken (n : ℕ) (file it after : List ℕ) : Type 0 where
  enough : n ≤ length file
  is : it ≡ take n file
  left : after ≡ drop n file

pub bytes_enough : (n : ℕ) (file : List ℕ) → n ≤ length file → first_bytes n file ≡ item (take n file) (drop n file)
bytes_enough n file h = ap (λ (b : Bool). cond b (item (take n file) (drop n file)) short) (le-leb n (length file) h)

pub bytes_few : (n : ℕ) (file : List ℕ) → length file < n → first_bytes n file ≡ short
bytes_few n file h = ap (λ (b : Bool). cond b (item (take n file) (drop n file)) short) (lt-leb n (length file) h)

pub not_both : (f : First) (it after : List ℕ) → f ≡ short → f ≡ item it after → ⊥
not_both f it after p q = let z : ◌≡◌ {A = ℕ} 0 1 = cc in omega arith

bytes_taken : (n : ℕ) (file it after : List ℕ) → first_bytes n file ≡ item it after → Taken n file it after
bytes_taken n file it after e =
    ⊎_elim
    (λ (h : n ≤ length file).
    let p : item (take n file) (drop n file) ≡ item it after = sym (bytes_enough n file h) ∙ e in
    record { enough = h; is = cc; left = cc })
    (λ (h : length file < n). absurd (not_both (first_bytes n file) it after (bytes_few n file h) e))
    (le_or_lt n (length file))

bytes_under : (n : ℕ) (file : List ℕ) → first_bytes n file ≡ short → length file < n
bytes_under n file e =
    ⊎_elim (λ (h : n ≤ length file). absurd (not_both (first_bytes n file) _ _ e (bytes_enough n file h))) (λ h. h) (le_or_lt n (length file))

bytes_longer : (n : ℕ) (file it after more : List ℕ) → Taken n file it after → first_bytes n (file ++ more) ≡ item it (after ++ more)
bytes_longer n file it after more t =
    bytes_enough n (file ++ more) (rw (length-append file more) (omega (arith, t.enough)))
    ∙ ap₂ item (take-append-le n file more t.enough ∙ sym t.is) (drop-append-le n file more t.enough ∙ ap (λ (l : List ℕ). l ++ more) (sym t.left))

-- the most bytes that an item of a kind takes
abbrev pub most : Kind → ℕ
most K.Line = 63
most K.Ring = 63
most K.Block = 1 + 255

pub record Takes (kind : Kind) (file it after : List ℕ) : Type 0 where
  pub n : ℕ
  pub small : n ≤ most kind
  pub enough : n ≤ length file
  pub left : after ≡ drop n file
  pub longer : (more : List ℕ) → first kind (file ++ more) ≡ item it (after ++ more)

pub takes : (kind : Kind) (file it after : List ℕ) → Bytes file → first kind file ≡ item it after → Takes kind file it after
takes K.Line file it after b e =
    let t = bytes_taken 63 file it after e in
    record { n = 63; small = omega arith; enough = t.enough; left = t.left; longer = λ more. bytes_longer 63 file it after more t }
takes K.Ring file it after b e =
    let t = bytes_taken 63 file it after e in
    record { n = 63; small = omega arith; enough = t.enough; left = t.left; longer = λ more. bytes_longer 63 file it after more t }
takes K.Block [] it after b e = absurd (not_both short it after refl e)
takes K.Block (rows ∷ file) it after b e =
    let t = bytes_taken rows file it after e in
    let s : rows < 256 = b 0 in
    record { n = suc rows; small = omega arith; enough = omega (arith, t.enough); left = t.left; longer = λ more. bytes_longer rows file it after more t }

pub short_of : (kind : Kind) (file : List ℕ) → Bytes file → first kind file ≡ short → length file < most kind
short_of K.Line file b e = bytes_under 63 file e
short_of K.Ring file b e = bytes_under 63 file e
short_of K.Block [] b e = omega arith
short_of K.Block (rows ∷ file) b e = let h : length file < rows = bytes_under rows file e in let s : rows < 256 = b 0 in omega arith

-- ---- bytes of a part

pub bytes_drop : (n : ℕ) (file : List ℕ) → Bytes file → Bytes (drop n file)
bytes_drop n file b i = rw (get_or-drop n file i 0) (b (n + i))

pub bytes_take : (n : ℕ) (file : List ℕ) → Bytes file → Bytes (take n file)
bytes_take zero file b i = omega arith
bytes_take (suc n) [] b i = omega arith
bytes_take (suc n) (x ∷ file) b zero = b 0
bytes_take (suc n) (x ∷ file) b (suc i) = bytes_take n file (λ j. b (suc j)) i

-- ---- sections

-- at most m bytes are used, and the file has fewer where it stops early
abbrev pub Used : ℕ → List ℕ → Left → Type 0
Used m file (rest after) = (length file ≤ m + length after) × Bytes after
Used m file cut = length file < m

used_more : (k m : ℕ) (file after : List ℕ) (n : ℕ) (left : Left) → n ≤ k → n ≤ length file → after ≡ drop n file → Used m after left → Used (m + k) file left
used_more k m file after n (rest l) h f e (u, b) = let d : length after ≡ length file - n = ap length e ∙ length-drop n file in (omega arith, b)
used_more k m file after n cut h f e u = let d : length after ≡ length file - n = ap length e ∙ length-drop n file in omega arith

pub items_used : {kind : Kind} {t n i : ℕ} {file text : List ℕ} {left : Left} → Items kind t n i file text left → Bytes file → Used (n * most kind) file left
items_used none b = (omega arith, b)
items_used {kind} {n = suc n} {file = file} (early e) b = let h = short_of kind file b e in rw (suc-mul n (most kind)) (omega arith)
items_used {kind} {n = suc n} {file = file} {left = left} (one {it = it} {after = after} e l d) b =
    let t = takes kind file it after b e in
    rw (suc-mul n (most kind))
    (used_more (most kind) (n * most kind) file after t.n left t.small t.enough t.left (items_used d (rw t.left (bytes_drop t.n file b))))

-- so many sections of 255 items, each after its count
abbrev pub room : List Kind → ℕ
room [] = 0
room (kind ∷ ks) = 1 + 255 * most kind + room ks

many : (kind : Kind) (n : ℕ) → n < 256 → n * most kind ≤ 255 * most kind
many K.Line n h = omega arith
many K.Ring n h = omega arith
many K.Block n h = omega arith

used_most : (k m : ℕ) (file : List ℕ) (left : Left) → k ≤ m → Used k file left → Used m file left
used_most k m file (rest after) h (u, b) = (omega arith, b)
used_most k m file cut h u = omega arith

pub section_used : {kind : Kind} {t n : ℕ} {file text : List ℕ} {left : Left} → Section kind t file text n left → Bytes file → Used (1 + 255 * most kind) file left
section_used no_count b = omega arith
section_used {kind} {n = n} {left = left} (counted {file = file} d) b =
    let u = items_used d (λ i. b (suc i)) in
    let h : n * most kind + 1 ≤ 1 + 255 * most kind = omega (arith, many kind n (b 0)) in
    used_most (n * most kind + 1) (1 + 255 * most kind) (n ∷ file) left h (used_more 1 (n * most kind) (n ∷ file) file 1 left (omega arith) (omega arith) refl u)

pub sections_used : {t : ℕ} {ks : List Kind} {file text counts : List ℕ} {left : Left} → Sections t ks file text counts left → Bytes file → Used (room ks) file left
sections_used done b = (omega arith, b)
sections_used (stops s) b = let u = section_used s b in omega arith
sections_used {ks = kind ∷ ks} {file = file} {left = left} (goes {after = after} s d) b =
    let u = section_used s b in
    then-used (1 + 255 * most kind) (room ks) file after left u.0 (sections_used d u.1)
  where
    then-used : (k m : ℕ) (f g : List ℕ) (l : Left) → length f ≤ k + length g → Used m g l → Used (k + m) f l
    then-used k m f g (rest a) h (u, b) = (omega arith, b)
    then-used k m f g cut h u = omega arith

-- ---- more bytes at the end

pub items_longer : {kind : Kind} {t n i : ℕ} {file text after : List ℕ} (more : List ℕ) → Items kind t n i file text (rest after) → Bytes file
    → Items kind t n i (file ++ more) text (rest (after ++ more))
items_longer more none b = none
items_longer {kind} {file = file} more (one {it = it} {after = after} e l d) b =
    let t = takes kind file it after b e in
    one (t.longer more) l (items_longer more d (rw t.left (bytes_drop t.n file b)))

pub section_longer : {kind : Kind} {t n : ℕ} {file text after : List ℕ} (more : List ℕ) → Section kind t file text n (rest after) → Bytes file
    → Section kind t (file ++ more) text n (rest (after ++ more))
section_longer more (counted d) b = counted (items_longer more d (λ i. b (suc i)))

pub sections_longer : {t : ℕ} {ks : List Kind} {file text counts after : List ℕ} (more : List ℕ) → Sections t ks file text counts (rest after) → Bytes file
    → Sections t ks (file ++ more) text counts (rest (after ++ more))
sections_longer more done b = done
sections_longer more (goes s d) b = goes (section_longer more s b) (sections_longer more d (section_used s b).1)

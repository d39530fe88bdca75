-- The laws of parts of equal width: how long one is, what replacing one does to it and to the others, and that the parts make the list.
use mathlib.Core.Path.{◌≡◌, refl, sym, ap, ap₂, ◌∙◌}
use mathlib.Core.List.{List, [], ◌∷◌, ◌++◌, append_assoc}
use Prim.Native.Nat.{ℕ, zero, suc, ◌+◌, ◌-◌, ◌*◌, ◌<◌, ◌≤◌}
use native.Mathlib.Nat.{suc-mul, zero-mul, add-mul, add_comm}
use native.Mathlib.Omega.{arith}
use lib.ListN.{length, take, drop, length-append, length-take, length-drop, take-append-drop}
use lib.Seq.{take_at, drop_at, drop-append-le, take-append-le, drop-append-add, drop-drop, length-take-le}
use Rattle.numbers.specs.Parts.{part}

-- a part ends where a later one begins, or before
pub part_room : (w i j : ℕ) → j < i → j * w + w ≤ i * w
part_room w i j h =
    let d : ℕ = i - (j + 1) in
    let e : i ≡ suc j + d = omega arith in
    let f : i * w ≡ suc j * w + d * w = ap (λ (k : ℕ). k * w) e ∙ add-mul (suc j) d w in
    let g : suc j * w ≡ j * w + w = suc-mul j w in
    omega arith

pub part_long : (w n i : ℕ) (l : List ℕ) → i < n → length l ≡ n * w → length (part w i l) ≡ w
part_long w n i l h long = let r = part_room w n i h in length-take-le w (drop (i * w) l) (rw (length-drop (i * w) l) (omega arith))

-- ---- one part replaced by as many numbers

inner : (w : ℕ) (p q : List ℕ) (m : ℕ) → m + w ≤ length p → take w (drop m (p ++ q)) ≡ take w (drop m p)
inner w p q m h =
    ap (take w) (drop-append-le m p q (omega arith)) ∙ take-append-le w (drop m p) q (rw (length-drop m p) (omega arith))

-- of a list that may go on after its parts
module _ (w : ℕ) (l new : List ℕ) (i : ℕ) (inside : i * w + w ≤ length l) (size : length new ≡ w) where
  -- as a lent part comes back
  abbrev pub put_in : List ℕ
  put_in = take (i * w) l ++ (new ++ drop w (drop (i * w) l))

  front : length (take (i * w) l) ≡ i * w
  front = length-take-le (i * w) l (omega arith)

  pub put_long : length put_in ≡ length l
  put_long = simp (length-append, length-take, length-drop) (omega arith)

  pub put_same : part w i put_in ≡ new
  put_same = ap (take w) (drop_at (take (i * w) l) (new ++ drop w (drop (i * w) l)) (i * w) front) ∙ take_at new (drop w (drop (i * w) l)) w size

  pub put_before : (j : ℕ) → j < i → part w j put_in ≡ part w j l
  put_before j k =
      let r = part_room w i j k in
      inner w (take (i * w) l) (new ++ drop w (drop (i * w) l)) (j * w) (rw front (omega arith))
      ∙ sym (inner w (take (i * w) l) (drop (i * w) l) (j * w) (rw front (omega arith))) ∙ ap (part w j) (take-append-drop (i * w) l)

  -- whatever lies behind the part
  pub put_behind : (m : ℕ) → drop (i * w + w + m) put_in ≡ drop (i * w + w + m) l
  put_behind m =
      let a : List ℕ = take (i * w) l ++ new in
      let q : List ℕ = drop w (drop (i * w) l) in
      let f : length a ≡ i * w + w = length-append (take (i * w) l) new ∙ ap₂ ◌+◌ front size in
      ap (λ (x : List ℕ). drop (i * w + w + m) x) (sym (append_assoc (take (i * w) l) new q))
      ∙ ap (λ (x : ℕ). drop (x + m) (a ++ q)) (sym f) ∙ drop-append-add a q m
      ∙ ap (λ (x : List ℕ). drop m x) (drop-drop w (i * w) l) ∙ drop-drop m (i * w + w) l

  pub put_after : (j : ℕ) → i < j → part w j put_in ≡ part w j l
  put_after j k =
      let r = part_room w j i k in
      let e : j * w ≡ i * w + w + (j * w - (i * w + w)) = omega arith in
      ap (take w) (ap (λ (n : ℕ). drop n put_in) e ∙ put_behind (j * w - (i * w + w)) ∙ ap (λ (n : ℕ). drop n l) (sym e))

-- and of a list that is n parts
module _ (w : ℕ) (l new : List ℕ) (i n : ℕ) (h : i < n) (long : length l ≡ n * w) (size : length new ≡ w) where
  inside : i * w + w ≤ length l
  inside = let r = part_room w n i h in omega arith

  abbrev pub replaced : List ℕ
  replaced = take (i * w) l ++ (new ++ drop w (drop (i * w) l))

  pub replaced_long : length replaced ≡ n * w
  replaced_long = put_long w l new i inside size ∙ long

  pub part_same : part w i replaced ≡ new
  part_same = put_same w l new i inside size

  pub part_before : (j : ℕ) → j < i → part w j replaced ≡ part w j l
  part_before = put_before w l new i inside size

  pub part_after : (j : ℕ) → i < j → part w j replaced ≡ part w j l
  part_after = put_after w l new i inside size

-- ---- the parts make the list

none_long : (l : List ℕ) → length l ≡ 0 → l ≡ []
none_long [] e = refl
none_long (x ∷ xs) e = absurd (omega arith)

later : (w i : ℕ) (l : List ℕ) → part w i (drop w l) ≡ part w (suc i) l
later w i l = ap (take w) (drop-drop (i * w) w l ∙ ap (λ (k : ℕ). drop k l) (add_comm w (i * w) ∙ sym (suc-mul i w)))

-- two lists with the same parts are equal
pub same_parts : (w n : ℕ) (x y : List ℕ) → length x ≡ n * w → length y ≡ n * w → ((i : ℕ) → i < n → part w i x ≡ part w i y) → x ≡ y
same_parts w zero x y long also same = none_long x (long ∙ zero-mul w) ∙ sym (none_long y (also ∙ zero-mul w))
same_parts w (suc n) x y long also same =
    let e = suc-mul n w in
    let first : take w x ≡ take w y =
    ap (λ (k : ℕ). take w (drop k x)) (sym (zero-mul w)) ∙ same 0 (omega arith) ∙ ap (λ (k : ℕ). take w (drop k y)) (zero-mul w) in
    let rest : drop w x ≡ drop w y =
    same_parts w n (drop w x) (drop w y) (length-drop w x ∙ omega arith) (length-drop w y ∙ omega arith)
    (λ i h. later w i x ∙ same (suc i) (omega arith) ∙ sym (later w i y)) in
    sym (take-append-drop w x) ∙ ap₂ ◌++◌ first rest ∙ take-append-drop w y

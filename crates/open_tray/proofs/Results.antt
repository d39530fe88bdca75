-- The laws of a tray's bytes: the rooms and the two bytes after them make the tray, a room is its characters and its sums, and what an operation leaves is one tray.
use mathlib.Core.Path.{◌≡◌, refl, sym, ap, ap₂, ◌∙◌, subst}
use mathlib.Core.Logic.{⊎_elim}
use mathlib.Core.List.{List, [], ◌∷◌, ◌++◌}
use Prim.Native.Nat.{ℕ, zero, suc, ◌+◌, ◌*◌, ◌<◌, ◌≤◌}
use native.Mathlib.Omega.{arith}
use lib.ListN.{length, get_or, take, drop, length-drop, drop_of_length-le, take-append-drop}
use lib.Seq.{drop-cons, drop-append-le, take-append-le, length-take-le}
use Rattle.numbers.proofs.Cases.{same_or_not}
use Rattle.numbers.proofs.Parts.{part_room, same_parts}
use Rattle.refusal.specs.Promise.{Test, Promise}
use Rattle.open_tray.specs.Tray.{room, characters_at, sums_at, held, count, Edited}

-- ---- the bytes of a tray

-- what lies in the first n entries lies in the list
early : (w m n : ℕ) (l : List ℕ) → m + w ≤ n → n ≤ length l → take w (drop m (take n l)) ≡ take w (drop m l)
early w m n l h k =
    let long : length (take n l) ≡ n = length-take-le n l k in
    sym
    (ap (λ (x : List ℕ). take w (drop m x)) (sym (take-append-drop n l)) ∙ ap (take w) (drop-append-le m (take n l) (drop n l) (omega arith))
    ∙ take-append-le w (drop m (take n l)) (drop n l) (rw (length-drop m (take n l)) (omega arith)))

last_two : (l : List ℕ) (n : ℕ) → length l ≡ suc (suc n) → drop n l ≡ get_or l n 0 ∷ get_or l (suc n) 0 ∷ []
last_two l n e =
    drop-cons l n 0 (omega arith)
    ∙ ap (λ (x : List ℕ). get_or l n 0 ∷ x)
    (drop-cons l (suc n) 0 (omega arith) ∙ ap (λ (x : List ℕ). get_or l (suc n) 0 ∷ x) (drop_of_length-le l {i = suc (suc n)} (omega arith)))

-- the rooms lie before the last two bytes
room_early : (t : List ℕ) (i : ℕ) → length t ≡ 4738 → i < 64 → room i (take 4736 t) ≡ room i t
room_early t i long h = let r = part_room 74 64 i h in early 74 (i * 74) 4736 t (omega arith) (omega arith)

-- two trays with the same rooms, lines held and count are equal
pub same_tray : (q r : List ℕ) → length q ≡ 4738 → length r ≡ 4738 → ((j : ℕ) → j < 64 → room j q ≡ room j r) → held q ≡ held r → count q ≡ count r → q ≡ r
same_tray q r long also rooms h n =
    sym (take-append-drop 4736 q) ∙ ap₂ ◌++◌ front back ∙ take-append-drop 4736 r
  where
    front : take 4736 q ≡ take 4736 r
    front =
        same_parts 74 64 (take 4736 q) (take 4736 r) (length-take-le 4736 q (omega arith)) (length-take-le 4736 r (omega arith))
        (λ i l. room_early q i long l ∙ rooms i l ∙ sym (room_early r i also l))

    back : drop 4736 q ≡ drop 4736 r
    back = last_two q 4736 long ∙ ap₂ (λ (x y : ℕ). x ∷ y ∷ []) h n ∙ sym (last_two r 4736 also)

-- ---- a room

-- the characters and the sums make it
pub same_room : (x y : List ℕ) → take 63 x ≡ take 63 y → drop 63 x ≡ drop 63 y → x ≡ y
same_room x y c s = sym (take-append-drop 63 x) ∙ ap₂ ◌++◌ c s ∙ take-append-drop 63 y

-- ---- what an operation leaves

pub one_edited : {t : List ℕ} {i : ℕ} {w ss : List ℕ} {h n : ℕ} {q r : List ℕ} → length t ≡ 4738 → Edited t i w ss h n q → Edited t i w ss h n r → q ≡ r
one_edited {i = i} {q = q} {r = r} long a b =
    same_tray q r (a.long ∙ long) (b.long ∙ long) rooms (a.held_is ∙ sym b.held_is) (a.count_is ∙ sym b.count_is)
  where
    here : room i q ≡ room i r
    here = same_room (room i q) (room i r) (a.characters ∙ sym b.characters) (a.sums ∙ sym b.sums)

    rooms : (j : ℕ) → j < 64 → room j q ≡ room j r
    rooms j l = ⊎_elim (λ (e : j ≡ i). subst (λ (k : ℕ). room k q ≡ room k r) (sym e) here) (λ d. a.others j l d ∙ sym (b.others j l d)) (same_or_not j i)

-- where the room keeps its characters and its sums, no room is changed
pub rooms_kept : {t : List ℕ} {i h n : ℕ} {q : List ℕ} → Edited t i (characters_at i t) (sums_at i t) h n q → (j : ℕ) → j < 64 → room j q ≡ room j t
rooms_kept {t = t} {i = i} {q = q} a j l = ⊎_elim (λ (e : j ≡ i). subst (λ (k : ℕ). room k q ≡ room k t) (sym e) here) (a.others j l) (same_or_not j i)
  where
    here : room i q ≡ room i t
    here = same_room (room i q) (room i t) a.characters a.sums

-- ---- refusals

-- what a refusal leaves, whatever the call
pub left_alone : (ts : List Test) (Stated : List ℕ → List ℕ → Type 0) (k : ℕ) (old : List ℕ) (n : ℕ) (fields new : List ℕ) → (n ≡ 0 → ⊥)
    → Promise ts Stated k old (n ∷ fields) new → new ≡ old
left_alone ts Stated k old zero fields new d p = absurd (d refl)
left_alone ts Stated k old (suc n) fields new d p = p.1.1

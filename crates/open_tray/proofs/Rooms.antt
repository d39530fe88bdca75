-- The laws of rooms: what filling one and replacing a character in one leave in it, and what putting it back into the tray leaves of the tray.
use mathlib.Core.Path.{◌≡◌, refl, sym, ap, ap₂, ◌∙◌, subst}
use mathlib.Core.Logic.{◌⊎◌, inl, inr}
use mathlib.Core.List.{List, [], ◌++◌, append-nil}
use Prim.Native.Nat.{ℕ, ◌+◌, ◌-◌, ◌*◌, ◌<◌, ◌≤◌}
use native.Mathlib.Omega.{arith}
use borrow.Rule.Slice.PartMut.{put_mid}
use lib.Bits.{bit_xor}
use lib.ListN.{length, get_or, set, take, drop, length-append, length-drop, length-set, drop_of_length-le}
use lib.Seq.{take_all, take_at, length-take-le, take-set-lt, drop-set-lt, take-set-le, drop-set-add, get_or-set_same, get_or-set_other, get_or-drop}
use Rattle.numbers.specs.Below.{AllBelow}
use Rattle.numbers.proofs.Parts.{put_in, put_long, put_same, put_before, put_behind, put_after}
use Rattle.numbers.proofs.Cases.{le_or_lt}
use Rattle.field.specs.Field.{sum}
use Rattle.field.proofs.Laws as Laws
use Rattle.open_tray.specs.Tray.{room, held, count, wrong, with_shares, Edited}
use Rattle.open_tray.specs.Inside.{replaced_in}
use Rattle.open_tray.proofs.Sums.{with_shares_long}

-- ---- one room

-- what stands after the first 63 bytes, and after as many as there are
module _ (x : List ℕ) (long : length x ≡ 74) where
  end-long : length (drop 63 x) ≡ 11
  end-long = length-drop 63 x ∙ omega arith

  whole-end : take (length x - 63) (drop 63 x) ≡ drop 63 x
  whole-end = take_all (length x - 63) (drop 63 x) (omega (arith, end-long))

  nothing-after : drop (length x - 63) (drop 63 x) ≡ []
  nothing-after = drop_of_length-le (drop 63 x) {i = length x - 63} (omega (arith, end-long))

  -- the bytes after the first 63, replaced by others
  pub after_63 : (last : List ℕ) → take 63 x ++ (last ++ drop (length x - 63) (drop 63 x)) ≡ take 63 x ++ last
  after_63 last = ap (λ (y : List ℕ). take 63 x ++ y) (ap (λ (y : List ℕ). last ++ y) nothing-after ∙ append-nil last)

pub sums_told : (x : List ℕ) (n : ℕ) → length x ≡ 74 → n ≡ wrong (take (length x - 63) (drop 63 x)) → n ≡ wrong (drop 63 x)
sums_told x n long e = e ∙ ap wrong (whole-end x long)

-- a line is copied over the first 63 bytes, and sums over the others
pub filled : (r line sums first last : List ℕ) → length r ≡ 74 → length line ≡ 63 → first ≡ line → last ≡ sums
    → put_mid 63 (length (first ++ drop 63 r) - 63) (first ++ drop 63 r) last ≡ line ++ sums
filled r line sums first last hr hl ef el =
    after_63 (first ++ drop 63 r) long last ∙ ap₂ ◌++◌ (take_at first (drop 63 r) 63 front ∙ ef) el
  where
    front : length first ≡ 63
    front = ap length ef ∙ hl

    long : length (first ++ drop 63 r) ≡ 74
    long = length-append first (drop 63 r) ∙ omega (arith, length-drop 63 r, front)

-- where the sums stand once a character is replaced
module _ (r : List ℕ) (a c : ℕ) (long : length r ≡ 74) where
  set_long : length (set r a c) ≡ 74
  set_long = length-set r a c ∙ long

  pub set_reaches : 63 ≤ length (set r a c)
  set_reaches = omega (arith, set_long)

  pub sums_after_lem : length (take (length (set r a c) - 63) (drop 63 (set r a c))) ≡ 11
  sums_after_lem = ap length (whole-end (set r a c) set_long) ∙ end-long (set r a c) set_long

  pub change_low : AllBelow 64 r → c ≤ 63 → bit_xor (get_or r a 0) c < 64
  unfolding sum
  change_low low h = Laws.sum_lt (get_or r a 0) c (low a) (omega arith)

-- one character is replaced, and the sums after the characters get the share of the change
pub replaced_room : (r last : List ℕ) (a c : ℕ) → length r ≡ 74 → a ≤ 62
    → last ≡ with_shares a (bit_xor (get_or r a 0) c) (take (length (set r a c) - 63) (drop 63 (set r a c)))
    → take 63 (set r a c) ++ (last ++ drop (length (set r a c) - 63) (drop 63 (set r a c))) ≡ replaced_in r a c
unfolding sum
replaced_room r last a c hr ha e =
    after_63 (set r a c) long last
    ∙ ap₂ ◌++◌ (take-set-lt 63 r a c (omega arith))
    (e ∙ ap (with_shares a (bit_xor (get_or r a 0) c)) (whole-end (set r a c) long ∙ drop-set-lt 63 r a c (omega arith)))
  where
    long : length (set r a c) ≡ 74
    long = length-set r a c ∙ hr

-- where the address is told by an equal number, n
pub replaced_at : (r last : List ℕ) (a c n : ℕ) → n ≡ a → length r ≡ 74 → a ≤ 62
    → last ≡ with_shares a (bit_xor (get_or r n 0) c) (take (length (set r n c) - 63) (drop 63 (set r n c)))
    → take 63 (set r n c) ++ (last ++ drop (length (set r n c) - 63) (drop 63 (set r n c))) ≡ replaced_in r a c
replaced_at r last a c n e hr ha =
    subst (λ (k : ℕ). last ≡ with_shares a (bit_xor (get_or r k 0) c) (take (length (set r k c) - 63) (drop 63 (set r k c)))
    → take 63 (set r k c) ++ (last ++ drop (length (set r k c) - 63) (drop 63 (set r k c))) ≡ replaced_in r a c) (sym e) (replaced_room r last a c hr ha)

pub replaced_room_long : (r : List ℕ) (a c : ℕ) → length r ≡ 74 → length (replaced_in r a c) ≡ 74
replaced_room_long r a c hr =
    length-append (set (take 63 r) a c) (with_shares a (sum (get_or r a 0) c) (drop 63 r))
    ∙ ap₂ ◌+◌ (length-set (take 63 r) a c ∙ length-take-le 63 r (omega arith)) (with_shares_long a (sum (get_or r a 0) c) (drop 63 r))

pub replaced_same_long : (r last : List ℕ) (a c n : ℕ) → n ≡ a → length r ≡ 74 → a ≤ 62
    → last ≡ with_shares a (bit_xor (get_or r n 0) c) (take (length (set r n c) - 63) (drop 63 (set r n c)))
    → length (take 63 (set r n c) ++ (last ++ drop (length (set r n c) - 63) (drop 63 (set r n c)))) ≡ length r
replaced_same_long r last a c n same hr ha e = ap length (replaced_at r last a c n same hr ha e) ∙ replaced_room_long r a c hr ∙ sym hr

-- ---- a room of a tray

pub room_long : (t : List ℕ) (i : ℕ) → length t ≡ 4738 → i < 64 → length (room i t) ≡ 74
room_long t i whole h = length-take-le 74 (drop (i * 74) t) (rw (length-drop (i * 74) t) (omega arith))

-- ---- a room put back

-- p is t but for room i, which is r
pub record Put (t : List ℕ) (i : ℕ) (r p : List ℕ) : Type 0 where
  pub long : length p ≡ length t
  pub here : room i p ≡ r
  pub others : (j : ℕ) → j < 64 → (j ≡ i → ⊥) → room j p ≡ room j t
  pub held_stays : held p ≡ held t
  pub count_stays : count p ≡ count t

pub put_none : (t : List ℕ) (i : ℕ) → Put t i (room i t) t
put_none t i = record { long = refl; here = refl; others = λ j h n. refl; held_stays = refl; count_stays = refl }

-- ---- a room put back into a tray, and the two bytes after the rooms

module _ (t r : List ℕ) (i : ℕ) (whole : length t ≡ 4738) (h : i < 64) (size : length r ≡ 74) where
  inside : i * 74 + 74 ≤ length t
  inside = omega arith

  abbrev after-rooms : ℕ
  after-rooms = 4736 - (i * 74 + 74)

  -- bytes 4736 and 4737
  last_byte : (k : ℕ) → get_or (put_in 74 t r i inside size) (4736 + k) 0 ≡ get_or t (4736 + k) 0
  last_byte k =
      let e : 4736 ≡ i * 74 + 74 + after-rooms = omega arith in
      sym (get_or-drop 4736 (put_in 74 t r i inside size) k 0)
      ∙ ap (λ (l : List ℕ). get_or l k 0)
      (ap (λ (n : ℕ). drop n (put_in 74 t r i inside size)) e ∙ put_behind 74 t r i inside size after-rooms ∙ ap (λ (n : ℕ). drop n t) (sym e))
      ∙ get_or-drop 4736 t k 0

  other_room : (j : ℕ) → (j ≡ i → ⊥) → (i ≤ j) ⊎ (j < i) → room j (put_in 74 t r i inside size) ≡ room j t
  other_room j n (inl l) = put_after 74 t r i inside size j (omega arith)
  other_room j n (inr l) = put_before 74 t r i inside size j l

  pub put_room : Put t i r (take (i * 74) t ++ (r ++ drop 74 (drop (i * 74) t)))
  put_room =
      record {
        long = put_long 74 t r i inside size;
        here = put_same 74 t r i inside size;
        others = λ j l n. other_room j n (le_or_lt i j);
        held_stays = last_byte 0;
        count_stays = last_byte 1;
      }

  -- the part that was lent is 74 wide
  pub put_back : Put t i r (take (i * 74) t ++ (r ++ drop (i * 74 + 74 - i * 74) (drop (i * 74) t)))
  put_back = let e : i * 74 + 74 - i * 74 ≡ 74 = omega arith in rw e put_room

-- a byte after the rooms is written
beside : (p : List ℕ) (j k v : ℕ) → j < 64 → 4736 ≤ k → room j (set p k v) ≡ room j p
beside p j k v h l =
    let m : ℕ = k - j * 74 in
    let e : k ≡ j * 74 + m = omega arith in
    ap (take 74) (ap (λ (n : ℕ). drop (j * 74) (set p n v)) e ∙ drop-set-add (j * 74) p m v) ∙ take-set-le 74 (drop (j * 74) p) m v (omega arith)

module _ (t p : List ℕ) (i : ℕ) (r : List ℕ) (put : Put t i r p) (whole : length t ≡ 4738) (h : i < 64) where
  long : length p ≡ 4738
  long = put.long ∙ whole

  -- the count is written
  pub count_written : (n : ℕ) → Edited t i (take 63 r) (drop 63 r) (held t) n (set p 4737 n)
  count_written n =
      record {
        long = length-set p 4737 n ∙ put.long;
        characters = ap (take 63) (beside p i 4737 n h (omega arith) ∙ put.here);
        sums = ap (drop 63) (beside p i 4737 n h (omega arith) ∙ put.here);
        others = λ j l d. beside p j 4737 n l (omega arith) ∙ put.others j l d;
        held_is = get_or-set_other p 4737 4736 n 0 (λ e. omega arith) ∙ put.held_stays;
        count_is = get_or-set_same p 4737 n 0 (omega (arith, long));
      }

  -- and the lines held before it
  pub both_written : (m n : ℕ) → Edited t i (take 63 r) (drop 63 r) m n (set (set p 4736 m) 4737 n)
  both_written m n =
      record {
        long = length-set (set p 4736 m) 4737 n ∙ length-set p 4736 m ∙ put.long;
        characters = ap (take 63) (room-stays i h ∙ put.here);
        sums = ap (drop 63) (room-stays i h ∙ put.here);
        others = λ j l d. room-stays j l ∙ put.others j l d;
        held_is = get_or-set_other (set p 4736 m) 4737 4736 n 0 (λ e. omega arith) ∙ get_or-set_same p 4736 m 0 (omega (arith, long));
        count_is = get_or-set_same (set p 4736 m) 4737 n 0 (omega (arith, long, length-set p 4736 m));
      }
    where
      room-stays : (j : ℕ) → j < 64 → room j (set (set p 4736 m) 4737 n) ≡ room j p
      room-stays j l = beside (set p 4736 m) j 4737 n l (omega arith) ∙ beside p j 4736 m l (omega arith)

-- the same tray, told in other words
pub edited_as : {t w s q : List ℕ} {i h n : ℕ} {v u : List ℕ} {m : ℕ} → Edited t i w s h n q → w ≡ v → s ≡ u → n ≡ m → Edited t i v u h m q
edited_as e ew es en =
    record {
      long = e.long;
      characters = e.characters ∙ ew;
      sums = e.sums ∙ es;
      others = e.others;
      held_is = e.held_is;
      count_is = e.count_is ∙ en;
    }

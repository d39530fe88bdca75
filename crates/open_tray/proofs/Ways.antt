-- The ways out of the four operations on a tray: what their tests tell, and what each return leaves.
use mathlib.Core.Path.{◌≡◌, refl, sym, ap, ap₂, ◌∙◌, subst}
use mathlib.Core.Bool.{Bool, true, false, not}
use mathlib.Core.List.{List, [], ◌∷◌, ◌++◌}
use Prim.Native.Nat.{ℕ, zero, suc, ◌+◌, ◌-◌, ◌*◌, ◌<◌, ◌≤◌}
use native.Mathlib.Omega.{arith}
use mir.Syntax.{w8}
use mir.Val.{Fits}
use borrow.Author.Tests.{not-true, not-false, leb-true, leb-false}
use lib.Dec.{leb}
use lib.ListN.{length, get_or, set, take, drop, length-append, length-set}
use lib.Seq.{take_at, drop_at, length-take-le, get_or-take}
use Rattle.numbers.specs.Below.{AllBelow}
use Rattle.numbers.proofs.Cases.{pos_of_not_zero}
use Rattle.refusal.specs.Promise.{Tells}
use Rattle.refusal.proofs.Ladder.{Yes, No, Met, FailsAt, answer_at, refuses, succeeds, declines, replies}
use Rattle.field.specs.Field.{sum}
use Rattle.code.specs.Word.{Characters}
use Rattle.open_tray.specs.Tray.{room, characters_at, sums_at, held, count, fresh_sums, wrong, with_shares, Fit, Sound}
use Rattle.open_tray.specs.Promises.{add_tests, Added, Adds, replace_tests, sums_after, Replaced, Replaces, last_line, drop_tests, Dropped, Drops, ask_tests, Asks}
use Rattle.open_tray.specs.Inside.{replaced_in}
use Rattle.open_tray.proofs.Rooms.{replaced_room_long, room_long, Put, put_none, put_back, count_written, both_written, edited_as}
use Rattle.open_tray.proofs.Sums.{wrong_most}

-- ---- whether a line is sound

-- room i as it is lent
abbrev lent : ℕ → List ℕ → List ℕ
lent i t = take (i * 74 + 74 - i * 74) (drop (i * 74) t)

lent_is : (i : ℕ) (t : List ℕ) → lent i t ≡ room i t
lent_is i t = let e : i * 74 + 74 - i * 74 ≡ 74 = omega arith in ap (λ (n : ℕ). take n (drop (i * 74) t)) e

lent_wrong : (i : ℕ) (t : List ℕ) (w : ℕ) → w ≡ wrong (drop 63 (lent i t)) → w ≡ wrong (sums_at i t)
lent_wrong i t w e = e ∙ ap (λ (r : List ℕ). wrong (drop 63 r)) (lent_is i t)

-- where a byte is above 63
pub not_low : (i : ℕ) (t : List ℕ) (b : Bool) → Tells (AllBelow 64 (lent i t)) b → b ≡ false → Tells (Sound i t) b
not_low i t b v e = record { holds = λ h. cc; fails = λ h s. v.fails e (subst (AllBelow 64) (sym (lent_is i t)) s.low) }

-- and where none is
pub sound_told : (i : ℕ) (t : List ℕ) (b : Bool) (w : ℕ) → Tells (AllBelow 64 (lent i t)) b → b ≡ true → w ≡ wrong (drop 63 (lent i t))
    → Tells (Sound i t) (leb w (count t))
sound_told i t b w v h e =
    let is = lent_wrong i t w e in
    record {
      holds = λ l. let most = leb-true w (count t) l in record { low = subst (AllBelow 64) (lent_is i t) (v.holds h); counted = λ z. omega arith };
      fails = λ l s.
          let above = leb-false w (count t) l in
          let few = wrong_most (sums_at i t) in
          let none = s.counted (omega arith) in
          omega arith;
    }

pub as_sound : {i n : ℕ} {t : List ℕ} {b : Bool} → n ≡ i → Tells (Sound n t) b → Tells (Sound i t) b
as_sound {t = t} {b = b} e told = subst (λ (k : ℕ). Tells (Sound k t) b) e told

-- a line that is sound and has a sum that is not 0 is counted
pub enough : (i : ℕ) (t : List ℕ) (w : ℕ) → Sound i t → w ≡ wrong (drop 63 (lent i t)) → w ≤ count t
enough i t w s e = by (count t) s.counted (omega (arith, lent_wrong i t w e, wrong_most (sums_at i t)))
  where
    by : (n : ℕ) → (n ≡ 0 → wrong (sums_at i t) ≡ 0) → w ≤ 1 → w ≤ n
    by zero z few = omega (arith, z refl, lent_wrong i t w e)
    by (suc n) z few = omega arith

-- ---- what is left

-- the tray with room i replaced by r, as the lent part comes back
abbrev back : ℕ → List ℕ → List ℕ → List ℕ
back i r t = take (i * 74) t ++ (r ++ drop (i * 74 + 74 - i * 74) (drop (i * 74) t))

-- ---- what a tray that is fit has room for

-- the part that is lent of a line held
pub lent_long : (i : ℕ) (t : List ℕ) → Fit t → i < held t → length (lent i t) ≡ 74
lent_long i t f h = let few = f.few in ap length (lent_is i t) ∙ room_long t i f.whole (omega arith)

pub lent_low : (i : ℕ) (t : List ℕ) → Sound i t → AllBelow 64 (lent i t)
lent_low i t s = subst (AllBelow 64) (sym (lent_is i t)) s.low

-- the count stays a byte
pub small_more : (t s : List ℕ) (w : ℕ) → Fit t → w ≡ wrong s → Fits w8 (count t + w)
small_more t s w f e = let few = f.few in let most = f.counted in let one = wrong_most s in omega arith

pub small_after : (t s : List ℕ) (b w : ℕ) → Fit t → w ≡ wrong s → Fits w8 (count t - b + w)
small_after t s b w f e = let few = f.few in let most = f.counted in let one = wrong_most s in omega arith

-- ---- adding

-- what the byte of the lines held tells
pub no_room : (t : List ℕ) (h : ℕ) → h ≡ held t → 64 ≤ h → No (held t < 64)
no_room t h e l = record { not = λ g. omega arith }

pub some_room : (t : List ℕ) (h : ℕ) → h ≡ held t → h < 64 → Yes (held t < 64)
some_room t h e l = record { is = omega arith }

-- what is told of the 63 characters, v, is told of the line that is lent, w
module _ {w v : List ℕ} (same : v ≡ w) where
  pub as_told : {b : Bool} → Tells (Characters v) b → Tells (Characters w) b
  as_told {b} told = subst (λ (x : List ℕ). Tells (Characters x) b) same told

  pub as_added : {t q : List ℕ} → Added t v q → Added t w q
  as_added {t} {q} put = subst (λ (x : List ℕ). Added t x q) same put

-- what comes back of a tray is as long, whatever is written over the lines held
pub still_inside : (t r : List ℕ) (k n : ℕ) → Fit t → k < 64 → length r ≡ length (lent k t) → 4737 < length (set (back k r t) 4736 n)
still_inside t r k n f h size =
    let whole = f.whole in
    let long = (put_back t r k whole h (size ∙ ap length (lent_is k t) ∙ room_long t k whole h)).long in
    omega (arith, length-set (back k r t) 4736 n)

module _ (t w : List ℕ) where
  pub add_refused : (n : ℕ) → FailsAt n (add_tests t w) → Adds t w (answer_at n (add_tests t w) ∷ []) t
  unfolding Adds
  add_refused = refuses (λ fields r. (fields ≡ []) × Added t w r) 0 t (add_tests t w)

  pub line_added : (q : List ℕ) → Met (add_tests t w) → Added t w q → Adds t w (0 ∷ []) q
  unfolding Adds
  line_added q m a = succeeds (λ fields r. (fields ≡ []) × Added t w r) 0 t (add_tests t w) [] q m (refl, a)

  in_first_free : (r s : List ℕ) (n : ℕ) → Fit t → length w ≡ 63 → held t < 64 → r ≡ w ++ s → s ≡ fresh_sums w → length s ≡ 11 → n ≡ wrong s
      → Added t w (set (set (back (held t) r t) 4736 (held t + 1)) 4737 (count t + n))
  in_first_free r s n fit long h er es ls en =
      edited_as
      (both_written t (back (held t) r t) (held t) r (put_back t r (held t) fit.whole h size) fit.whole h (held t + 1) (count t + n))
      (ap (take 63) er ∙ take_at w s 63 long) (ap (drop 63) er ∙ drop_at w s 63 long ∙ es) (ap (λ (k : ℕ). count t + k) (en ∙ ap wrong es))
    where
      size : length r ≡ 74
      size = ap length er ∙ length-append w s ∙ omega arith

  -- the room filled, and both bytes after the rooms written
  pub added_bytes : (r s : List ℕ) (k n : ℕ) → k ≡ held t → Fit t → length w ≡ 63 → held t < 64 → r ≡ w ++ s → s ≡ fresh_sums w → length s ≡ 11 → n ≡ wrong s
      → Added t w (set (set (back k r t) 4736 (held t + 1)) 4737 (count t + n))
  added_bytes r s k n same fit long h er es ls en =
      subst (λ (k : ℕ). Added t w (set (set (back k r t) 4736 (held t + 1)) 4737 (count t + n))) (sym same) (in_first_free r s n fit long h er es ls en)

-- ---- replacing

pub no_line : (t : List ℕ) (h i : ℕ) → h ≡ held t → h ≤ i → No (i < held t)
no_line t h i e l = record { not = λ g. omega arith }

pub some_line : (t : List ℕ) (h i : ℕ) → h ≡ held t → i < h → Yes (i < held t)
some_line t h i e l = record { is = omega arith }

pub may_replace_in : {t : List ℕ} {i a c : ℕ} → Fit t → i < held t → Sound i t → a ≤ 62 → c ≤ 63
    → ((length (lent i t) ≡ 74) × AllBelow 64 (lent i t)) × ((a ≤ 62) × (c ≤ 63))
may_replace_in {t = t} {i = i} f h s la lc = ((lent_long i t f h, lent_low i t s), (la, lc))

module _ (t : List ℕ) (i a c : ℕ) where
  pub replace_refused : (n : ℕ) → FailsAt n (replace_tests t i a c) → Replaces t i a c (answer_at n (replace_tests t i a c) ∷ []) t
  unfolding Replaces
  replace_refused = refuses (λ fields r. (fields ≡ []) × Replaced t i a c r) 0 t (replace_tests t i a c)

  pub character_replaced : (q : List ℕ) → Met (replace_tests t i a c) → Replaced t i a c q → Replaces t i a c (0 ∷ []) q
  unfolding Replaces
  character_replaced q m r = succeeds (λ fields r. (fields ≡ []) × Replaced t i a c r) 0 t (replace_tests t i a c) [] q m (refl, r)

  -- the room with one character replaced, and the count written
  pub replaced_bytes : (r : List ℕ) (b d : ℕ) → Fit t → i < held t → a ≤ 62 → r ≡ replaced_in (lent i t) a c
      → b ≡ wrong (drop 63 (lent i t)) → d ≡ wrong (drop 63 (lent i (back i r t)))
      → Replaced t i a c (set (back i r t) 4737 (count t - b + d))
  replaced_bytes r b d fit h ha er eb ed =
      edited_as (count_written t (back i r t) i r put fit.whole inside (count t - b + d)) first second
      (ap₂ (λ (x y : ℕ). count t - x + y) (lent_wrong i t b eb)
      (lent_wrong i (back i r t) d ed ∙ ap (λ (x : List ℕ). wrong (drop 63 x)) put.here ∙ ap wrong second))
    where
      inside : i < 64
      inside = let few = fit.few in omega arith

      long : length (room i t) ≡ 74
      long = room_long t i fit.whole inside

      as_room : r ≡ replaced_in (room i t) a c
      as_room = er ∙ ap (λ (x : List ℕ). replaced_in x a c) (lent_is i t)

      put : Put t i r (back i r t)
      put = put_back t r i fit.whole inside (ap length as_room ∙ replaced_room_long (room i t) a c long)

      front : length (set (characters_at i t) a c) ≡ 63
      front = length-set (characters_at i t) a c ∙ length-take-le 63 (room i t) (omega (arith, long))

      first : take 63 r ≡ set (characters_at i t) a c
      first = ap (take 63) as_room ∙ take_at (set (characters_at i t) a c) (with_shares a (sum (get_or (room i t) a 0) c) (sums_at i t)) 63 front

      second : drop 63 r ≡ sums_after t i a c
      second =
          ap (drop 63) as_room ∙ drop_at (set (characters_at i t) a c) (with_shares a (sum (get_or (room i t) a 0) c) (sums_at i t)) 63 front
          ∙ ap (λ (x : ℕ). with_shares a (sum x c) (sums_at i t)) (sym (get_or-take 63 (room i t) a 0 (omega arith)))

  -- where the line is told by an equal number
  pub as_replaced : {n : ℕ} {q : List ℕ} → n ≡ i → Replaced t n a c q → Replaced t i a c q
  as_replaced {q = q} e put = subst (λ (k : ℕ). Replaced t k a c q) e put

-- ---- dropping

pub none_left : (t : List ℕ) (h : ℕ) → h ≡ held t → h ≡ 0 → No (0 < held t)
none_left t h e z = record { not = λ g. omega arith }

pub one_left : (t : List ℕ) (h : ℕ) → h ≡ held t → (h ≡ 0 → ⊥) → Yes (0 < held t)
one_left t h e d = record { is = let l = pos_of_not_zero h d in omega arith }

-- where h lines are held, line h - 1 is the last
module _ (t : List ℕ) (h : ℕ) (e : h ≡ held t) where
  pub may_look_last : Yes (Fit t) → Yes (0 < held t) → Fit t × (h - 1 < held t)
  may_look_last f l = (f.is, omega (arith, l.is))

  pub last_unsound : (b : Bool) → Tells (Sound (h - 1) t) b → not b ≡ true → No (Sound (last_line t) t)
  last_unsound b v d = record { not = λ s. v.fails (not-true b d) (subst (λ (n : ℕ). Sound (n - 1) t) (sym e) s) }

  pub last_sound : (b : Bool) → Tells (Sound (h - 1) t) b → not b ≡ false → Yes (Sound (last_line t) t)
  last_sound b v d = record { is = subst (λ (n : ℕ). Sound (n - 1) t) e (v.holds (not-false b d)) }

  pub may_drop : Yes (Fit t) → Yes (0 < held t) → Yes (Sound (h - 1) t) → Fit t × ((0 < held t) × ((h - 1 ≡ held t - 1) × Sound (h - 1) t))
  may_drop f l s = (f.is, (l.is, (ap (λ (n : ℕ). n - 1) e, s.is)))

module _ (t : List ℕ) where
  pub drop_refused : (n : ℕ) → FailsAt n (drop_tests t) → Drops t (answer_at n (drop_tests t) ∷ []) t
  unfolding Drops
  drop_refused = refuses (λ fields r. (fields ≡ []) × Dropped t r) 0 t (drop_tests t)

  pub line_dropped : (q : List ℕ) → Met (drop_tests t) → Dropped t q → Drops t (0 ∷ []) q
  unfolding Drops
  line_dropped q m d = succeeds (λ fields r. (fields ≡ []) × Dropped t r) 0 t (drop_tests t) [] q m (refl, d)

  -- both bytes after the rooms written
  pub dropped_bytes : (i g : ℕ) → Fit t → 0 < held t → i ≡ held t - 1 → g ≡ wrong (drop 63 (lent i t))
      → Dropped t (set (set t 4736 (last_line t)) 4737 (count t - g))
  dropped_bytes i g fit h ei eg = subst (λ (i : ℕ). g ≡ wrong (drop 63 (lent i t)) → Dropped t (set (set t 4736 (last_line t)) 4737 (count t - g))) (sym ei) of-last eg
    where
      of-last : g ≡ wrong (drop 63 (lent (last_line t) t)) → Dropped t (set (set t 4736 (last_line t)) 4737 (count t - g))
      of-last e =
          edited_as
          (both_written t t (last_line t) (room (last_line t) t) (put_none t (last_line t)) fit.whole (let few = fit.few in omega arith) (last_line t) (count t - g))
          refl refl (ap (λ (x : ℕ). count t - x) (lent_wrong (last_line t) t g e))

-- ---- asking

module _ (t : List ℕ) where
  pub ask_refused : (n : ℕ) → FailsAt n (ask_tests t) → Asks t (answer_at n (ask_tests t) ∷ 0 ∷ [])
  unfolding Asks
  ask_refused = declines (λ fields. fields ≡ count t ∷ []) 1 (ask_tests t)

  pub count_told : (n : ℕ) → Met (ask_tests t) → n ≡ count t → Asks t (0 ∷ n ∷ [])
  unfolding Asks
  count_told n m e = replies (λ fields. fields ≡ count t ∷ []) 1 (ask_tests t) (n ∷ []) m (ap (λ (k : ℕ). k ∷ []) e)

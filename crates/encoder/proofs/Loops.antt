-- What the encoder's code does, a turn and a way out at a time, over plain variables.
use mathlib.Core.Path.{◌≡◌, refl, sym, ap, ap₂, ◌∙◌, subst}
use mathlib.Core.Bool.{true, false}
use mathlib.Core.List.{List, [], ◌∷◌, ◌++◌, append-nil, append_assoc}
use Prim.Native.Nat.{ℕ, suc, ◌+◌, ◌/◌, ◌%◌, ◌<◌, ◌≤◌}
use native.Mathlib.Nat.{add-zero, zero-add}
use native.Mathlib.Numerals.{add-one}
use native.Mathlib.Omega.{arith}
use borrow.Author.Count.{below_more}
use borrow.Rule.Slice.PartMut.{put_mid}
use lib.Bits.{bit_xor, bit_or, or_add_and, or_comm, or_lt, and_le_r}
use lib.Dec.{T, eqb, eqb→eq}
use lib.ListN.{length, get_or, set, take, drop, replicate, length-append, length-drop, length-set, get_or-eq_default, drop_of_length-le}
use lib.Seq.{ext_get_or, get_or-set_same, get_or-set_other, take_at, set_at}
use Rattle.numbers.proofs.Range.{each, each_at}
use Rattle.numbers.specs.Total.{total}
use Rattle.field.specs.Field.{sum, product}
use Rattle.field.proofs.Laws
use Rattle.lanes.specs.Lanes.{pack, lane}
use Rattle.lanes.proofs.Laws.{lane_zero, lane_suc, lane_pack}
use Rattle.code.specs.Word.{Characters}
use Rattle.code.specs.Inside.{PowerSums}
use Rattle.code.proofs.Words.{characters_below}
use Rattle.refusal.specs.Promise.{Test, Tells}
use Rattle.refusal.proofs.Laws.{tells_yes, tells_no}
use Rattle.refusal.proofs.Ladder.{Yes, Met, FailsAt, answer_at, refuses, succeeds, declines, replies}
use Rattle.encoder.specs.declared.Register.{Register}
use Rattle.encoder.specs.Division.{remainder}
use Rattle.encoder.specs.Register.{stepped, next, checks_of}
use Rattle.encoder.specs.Promises.{encoding_tests, LineWith, Encodes, step_tests, Steps, check_tests, Checks}
use Rattle.encoder.specs.Interpolation.{ChecksWith, eleven}
use Rattle.encoder.specs.Inside.{information, InformationOf, Ended, LinePut}
use Rattle.encoder.proofs.Division.{below, lower}
use Rattle.encoder.proofs.Stepping.{stepped_long, stepped_get, checks_are}
use Rattle.encoder.proofs.Encoding.{information_long, information_characters, encoded, encoded_line}
use Rattle.encoder.proofs.Interpolation.{eleven_long, eleven_lane, eleven_last, all_eleven, checks_remainder}

-- ---- a step of the division

-- the coefficients that the code has in lanes
middle_test : T (each 10 (λ i. eqb (lane 377473087143165780 i) (get_or below i 0)))
unfolding lane
middle_test = tt

middle_lane : (i : ℕ) → i < 10 → lane 377473087143165780 i ≡ get_or below i 0
middle_lane i h =
    eqb→eq (lane 377473087143165780 i) (get_or below i 0) (each_at 10 (λ i. eqb (lane 377473087143165780 i) (get_or below i 0)) middle_test i h)

-- the first i places of the next register are known, and rest holds the multiples that the others are to get
pub record DividedTo (held : List ℕ) (c feedback rest : ℕ) (left : List ℕ) (i : ℕ) : Type 0 where
  pub most : i ≤ 10
  pub long : length held ≡ 11
  pub room : length left ≡ 11
  pub back : feedback ≡ sum (get_or held 0 0) c
  pub after : (k : ℕ) → i + k < 10 → lane rest k ≡ product feedback (get_or below (i + k) 0)
  pub places : (k : ℕ) → k < i → get_or left k 0 ≡ get_or (stepped held c) k 0

pub divided_none : (held : List ℕ) (c feedback rest : ℕ) (left : List ℕ) → length held ≡ 11 → length left ≡ 11 → feedback ≡ bit_xor (get_or held 0 0) c
    → rest ≡ pack 10 (λ k. product (lane 377473087143165780 k) feedback) → DividedTo held c feedback rest left 0
unfolding sum
divided_none held c feedback rest left h l e f =
    record {
      most = omega arith;
      long = h;
      room = l;
      back = e;
      after = λ k b.
          ap (λ (p : ℕ). lane p k) f
          ∙ lane_pack 10 (λ k. product (lane 377473087143165780 k) feedback) (λ k. Laws.product_lt (lane 377473087143165780 k) feedback) k (omega arith)
          ∙ Laws.product_comm (lane 377473087143165780 k) feedback
          ∙ ap (product feedback) (middle_lane k (omega arith) ∙ ap (λ (n : ℕ). get_or below n 0) (sym (zero-add k)));
      places = λ k b. absurd (omega arith);
    }

-- a place is stored
divided_at : (held : List ℕ) (c feedback rest : ℕ) (left : List ℕ) (i v : ℕ) → DividedTo held c feedback rest left i → v ≡ get_or (stepped held c) i 0
    → (k : ℕ) → k < i + 1 → get_or (set left i v) k 0 ≡ get_or (stepped held c) k 0
divided_at held c feedback rest left i v t e =
    below_more (λ (k : ℕ). get_or (set left i v) k 0 ≡ get_or (stepped held c) k 0) i
    (λ k m. get_or-set_other left i k v 0 (λ q. omega arith) ∙ t.places k m)
    (get_or-set_same left i v 0 (omega arith) ∙ e)

place_is : (held : List ℕ) (c feedback : ℕ) (i t : ℕ) → length held ≡ 11 → feedback ≡ sum (get_or held 0 0) c → t ≡ product feedback (get_or below i 0)
    → sum (get_or held (suc i) 0) t ≡ get_or (stepped held c) i 0
unfolding lower
place_is held c feedback i t h b e =
    ap (sum (get_or held (suc i) 0)) (e ∙ ap (λ (f : ℕ). product f (get_or below i 0)) b) ∙ sym (stepped_get held c h i)

pub divided_again : (held : List ℕ) (c feedback rest : ℕ) (left : List ℕ) (i : ℕ) → i < 10 → DividedTo held c feedback rest left i
    → DividedTo held c feedback (rest / 64) (set left i (bit_xor (get_or held (i + 1) 0) (rest % 64))) (i + 1)
unfolding sum
divided_again held c feedback rest left i h d =
    let v : ℕ = bit_xor (get_or held (i + 1) 0) (rest % 64) in
    let e : rest % 64 ≡ product feedback (get_or below i 0) =
    sym (lane_zero rest) ∙ d.after 0 (omega arith) ∙ ap (λ (n : ℕ). product feedback (get_or below n 0)) (add-zero i) in
    record {
      most = omega arith;
      long = d.long;
      room = length-set left i v ∙ d.room;
      back = d.back;
      after = λ k b.
          let n : i + suc k ≡ i + 1 + k = omega arith in
          sym (lane_suc rest k) ∙ d.after (suc k) (omega arith) ∙ ap (λ (m : ℕ). product feedback (get_or below m 0)) n;
      places = divided_at held c feedback rest left i v d
          (ap (λ (n : ℕ). bit_xor (get_or held n 0) (rest % 64)) (add-one i) ∙ place_is held c feedback i (rest % 64) d.long d.back e);
    }

past_end : (l : List ℕ) → length l ≡ 11 → get_or l 11 0 ≡ 0
past_end l h = get_or-eq_default l 0 (omega arith)

pub divided_all : (held : List ℕ) (c feedback rest : ℕ) (left : List ℕ) (i : ℕ) → 10 ≤ i → DividedTo held c feedback rest left i
    → set left 10 (feedback % 64) ≡ stepped held c
divided_all held c feedback rest left i h d =
    let j : i ≡ 10 = omega arith in
    let t : ℕ = feedback % 64 in
    let e : t ≡ product feedback 1 = sym (Laws.product_comm feedback 1 ∙ Laws.one_product_low feedback) in
    let v : t ≡ get_or (stepped held c) 10 0 =
    sym (Laws.zero_sum t) ∙ ap (λ (z : ℕ). sum z t) (sym (past_end held d.long)) ∙ place_is held c feedback 10 t d.long d.back e in
    let long : length (set left 10 t) ≡ 11 = length-set left 10 t ∙ d.room in
    ext_get_or 0 (set left 10 t) (stepped held c) (long ∙ sym (stepped_long held c d.long))
    (λ k b. divided_at held c feedback rest left 10 t (subst (DividedTo held c feedback rest left) j d) v k (omega arith))

-- ---- whether what is held is in range

-- all is below 64 exactly when the first i characters are
pub record AllTo (held : List ℕ) (all i : ℕ) : Type 0 where
  pub most : i ≤ 11
  pub long : length held ≡ 11
  pub tells : all < 64 → (k : ℕ) → k < i → get_or held k 0 < 64
  pub told : ((k : ℕ) → k < i → get_or held k 0 < 64) → all < 64

pub all_none : (held : List ℕ) → length held ≡ 11 → AllTo held 0 0
all_none held h = record { most = omega arith; long = h; tells = λ l k b. absurd (omega arith); told = λ f. omega arith }

or_left : (a b : ℕ) → bit_or a b < 64 → a < 64
or_left a b h = omega (arith, or_add_and a b, and_le_r a b)

pub all_again : (held : List ℕ) (all i : ℕ) → i < 11 → AllTo held all i → AllTo held (bit_or all (get_or held i 0)) (i + 1)
all_again held all i h t =
    record {
      most = omega arith;
      long = t.long;
      tells = λ l.
          below_more (λ (k : ℕ). get_or held k 0 < 64) i (t.tells (or_left all (get_or held i 0) l))
          (or_left (get_or held i 0) all (subst (λ (n : ℕ). n < 64) (or_comm all (get_or held i 0)) l));
      told = λ f. or_lt 6 all (get_or held i 0) (t.told (λ k b. f k (omega arith))) (f i (omega arith));
    }

pub all_over : (held : List ℕ) (all i : ℕ) → 11 ≤ i → AllTo held all i → 63 < all → Tells (Characters held) false
all_over held all i h t l = tells_no (λ f. let b : all < 64 = t.told (λ k m. f k) in omega arith)

pub all_low : (held : List ℕ) (all i : ℕ) → 11 ≤ i → AllTo held all i → all ≤ 63 → Tells (Characters held) true
all_low held all i h t l = tells_yes (characters_below held 11 (omega (arith, t.long)) (λ k b. t.tells (omega arith) k (omega arith)))

-- ---- the marks

pub marked_is : (held : List ℕ) → length held ≡ 11
    → set (set (set held 0 (bit_xor (get_or held 0 0) 32)) 3 (bit_xor (get_or (set held 0 (bit_xor (get_or held 0 0) 32)) 3 0) 8)) 10
    (bit_xor (get_or (set (set held 0 (bit_xor (get_or held 0 0) 32)) 3 (bit_xor (get_or (set held 0 (bit_xor (get_or held 0 0) 32)) 3 0) 8)) 10 0) 1)
    ≡ checks_of held
unfolding sum
marked_is held h =
    let a : ℕ = bit_xor (get_or held 0 0) 32 in
    let one : List ℕ = set held 0 a in
    let b : get_or one 3 0 ≡ get_or held 3 0 = get_or-set_other held 0 3 a 0 (λ q. omega arith) in
    let two : List ℕ = set one 3 (bit_xor (get_or one 3 0) 8) in
    let c : get_or two 10 0 ≡ get_or held 10 0 =
    get_or-set_other one 3 10 (bit_xor (get_or one 3 0) 8) 0 (λ q. omega arith) ∙ get_or-set_other held 0 10 a 0 (λ q. omega arith) in
    ap₂ (λ (x y : ℕ). set (set one 3 (bit_xor x 8)) 10 (bit_xor y 1)) b c ∙ sym (checks_are held h)

-- ---- ten lanes unpacked

-- i lanes are out, and rest holds those after them; the last check is there
pub record UnpackedTo (ten s : ℕ) (checks : List ℕ) (rest i : ℕ) : Type 0 where
  pub most : i ≤ 10
  pub long : length checks ≡ 11
  pub last : get_or checks 10 0 ≡ sum (total 10 (lane ten)) (s % 64)
  pub after : (k : ℕ) → lane rest k ≡ lane ten (i + k)
  pub passed : (k : ℕ) → k < i → get_or checks k 0 ≡ lane ten k

pub unpacked_none : (ten s t : ℕ) (checks : List ℕ) → length checks ≡ 11 → t ≡ total 10 (lane ten)
    → UnpackedTo ten s (set checks 10 (bit_xor t (s % 64))) ten 0
unfolding sum
unpacked_none ten s t checks h e =
    record {
      most = omega arith;
      long = length-set checks 10 (bit_xor t (s % 64)) ∙ h;
      last = get_or-set_same checks 10 (bit_xor t (s % 64)) 0 (omega arith) ∙ ap (λ (n : ℕ). bit_xor n (s % 64)) e;
      after = λ k. ap (lane ten) (sym (zero-add k));
      passed = λ k b. absurd (omega arith);
    }

pub unpacked_again : (ten s : ℕ) (checks : List ℕ) (rest i : ℕ) → i < 10 → UnpackedTo ten s checks rest i
    → UnpackedTo ten s (set checks i (rest % 64)) (rest / 64) (i + 1)
unpacked_again ten s checks rest i h u =
    record {
      most = omega arith;
      long = length-set checks i (rest % 64) ∙ u.long;
      last = get_or-set_other checks i 10 (rest % 64) 0 (λ q. omega arith) ∙ u.last;
      after = λ k. sym (lane_suc rest k) ∙ u.after (suc k) ∙ ap (lane ten) (omega arith);
      passed = below_more (λ (k : ℕ). get_or (set checks i (rest % 64)) k 0 ≡ lane ten k) i
          (λ k m. get_or-set_other checks i k (rest % 64) 0 (λ q. omega arith) ∙ u.passed k m)
          (get_or-set_same checks i (rest % 64) 0 (let l : length checks ≡ 11 = u.long in omega arith)
          ∙ sym (lane_zero rest) ∙ u.after 0 ∙ ap (lane ten) (omega arith));
    }

pub unpacked_all : (ten s : ℕ) (checks : List ℕ) (rest i : ℕ) → 10 ≤ i → UnpackedTo ten s checks rest i → checks ≡ eleven ten s
unpacked_all ten s checks rest i h u =
    ext_get_or 0 checks (eleven ten s) (u.long ∙ sym (eleven_long ten s))
    (λ k b.
    all_eleven (λ (k : ℕ). get_or checks k 0 ≡ get_or (eleven ten s) k 0)
    (λ k l. u.passed k (omega arith) ∙ sym (eleven_lane ten s k l)) (u.last ∙ sym (eleven_last ten s)) k (subst (λ (n : ℕ). k < n) u.long b))

-- ---- the information characters, copied and stored

-- the high half of the low twelve bits
high_half : (n : ℕ) → n / 64 % 64 ≡ n % 4096 / 64
high_half n = omega arith

pub information_copied : (t copied : List ℕ) (n : ℕ) → length t ≡ 50 → copied ≡ t → InformationOf t n (set (set (copied ++ replicate 13 0) 50 (n / 64 % 64)) 51 (n % 64))
unfolding information
information_copied t copied n h e =
    record {
      is = λ _. ap (λ (l : List ℕ). set (set (l ++ replicate 13 0) 50 (n / 64 % 64)) 51 (n % 64)) e ∙ halves;
      none = λ d. absurd (d h);
    }
  where
    stored : (m : ℕ) → set (set (t ++ replicate 13 0) 50 (m / 64)) 51 (m % 64) ≡ information t m ++ replicate 11 0
    stored n =
        ap (λ (l : List ℕ). set l 51 (n % 64)) (set_at t 0 (replicate 12 0) (n / 64) 50 h)
        ∙ ap (λ (l : List ℕ). set l 51 (n % 64)) (sym (append_assoc t (n / 64 ∷ []) (replicate 12 0)))
        ∙ set_at (t ++ n / 64 ∷ []) 0 (replicate 11 0) (n % 64) 51 (omega (arith, length-append t (n / 64 ∷ [])))
        ∙ append_assoc t (n / 64 ∷ []) (n % 64 ∷ replicate 11 0)
        ∙ sym (append_assoc t (n / 64 ∷ n % 64 ∷ []) (replicate 11 0))

    low_half : n % 64 ≡ n % 4096 % 64
    low_half = omega arith

    halves : set (set (t ++ replicate 13 0) 50 (n / 64 % 64)) 51 (n % 64) ≡ information t (n % 4096) ++ replicate 11 0
    halves = ap₂ (λ (p q : ℕ). set (set (t ++ replicate 13 0) 50 p) 51 q) (high_half n) low_half ∙ stored (n % 4096)

pub no_information : (t : List ℕ) (n : ℕ) → (length t ≡ 50 → ⊥) → InformationOf t n (replicate 63 0)
no_information t n d = record { is = λ h. absurd (d h); none = λ _. refl }

-- ---- the ways out of encoding a line

module _ (t : List ℕ) (n : ℕ) (old : List ℕ) where
  abbrev tests : List Test
  tests = encoding_tests t n (length old)

  pub line_refused : (i : ℕ) → FailsAt i tests → Encodes t n old (answer_at i tests ∷ []) old
  unfolding Encodes
  line_refused = refuses (λ fields l. (fields ≡ []) × LineWith t n l) 0 old tests

  pub line_written : (new : List ℕ) → Met tests → LineWith t n new → Encodes t n old (0 ∷ []) new
  unfolding Encodes
  line_written new m l = succeeds (λ fields l. (fields ≡ []) × LineWith t n l) 0 old tests [] new m (refl, l)

-- ---- a line put

pub line_ended : (w s r k last : List ℕ) → length w ≡ 63 → PowerSums w s → ChecksWith s r → k ≡ checks_of r → last ≡ k → Ended w (put_mid 52 11 w last)
line_ended w s r k last h ps cw ek el =
    record {
      sums = s;
      checks = r;
      of_word = ps;
      with_sums = cw;
      is =
          ap (λ (l : List ℕ). take 52 w ++ (last ++ l)) (drop_of_length-le (drop 52 w) {i = 11} (omega (arith, length-drop 52 w)))
          ∙ ap (λ (l : List ℕ). take 52 w ++ l) (append-nil last ∙ el ∙ ek);
    }

pub line_put : (w l old new : List ℕ) → length old ≡ 63 → Ended w l → new ≡ l → LinePut w old new
line_put w l old new h ended e = record { over = λ _. subst (Ended w) (sym e) ended; beside = λ d. absurd (d h) }

pub no_line_put : (w old : List ℕ) → (length old ≡ 63 → ⊥) → LinePut w old old
no_line_put w old d = record { over = λ h. absurd (d h); beside = λ _. refl }

-- after 52 characters and eleven zeros it is they, and the checks of what the division leaves of them
pub ended_so : (cs new : List ℕ) → length cs ≡ 52 → Characters cs → Ended (cs ++ replicate 11 0) new → new ≡ cs ++ checks_of (remainder cs)
ended_so cs new long c e =
    e.is ∙ ap₂ ◌++◌ (take_at cs (replicate 11 0) 52 long) (ap checks_of (checks_remainder cs e.sums e.checks long c e.of_word e.with_sums))

-- the information of a text and a number, ended so, is the line with that text and number
pub the_line : (t : List ℕ) (n : ℕ) (w old new : List ℕ) → length t ≡ 50 → Yes (Characters t) → n ≤ 4095 → length old ≡ 63 → InformationOf t n w → LinePut w old new
    → LineWith t n new
unfolding encoded
the_line t n w old new h c m room of-them put =
    let i : List ℕ = information t n in
    let small : n % 4096 ≡ n = omega arith in
    let is : w ≡ i ++ replicate 11 0 = of-them.is h ∙ ap (λ (k : ℕ). information t k ++ replicate 11 0) small in
    let same : new ≡ encoded t n =
    ended_so i new (information_long t n h) (information_characters t n c.is m) (subst (λ (l : List ℕ). Ended l new) is (put.over room)) in
    subst (LineWith t n) (sym same) (encoded_line t n h c.is m)

-- ---- the ways out of a step

module _ (r : Register) (c : ℕ) where
  pub step_refused : (i : ℕ) → FailsAt i (step_tests r c) → Steps r c (answer_at i (step_tests r c) ∷ []) r
  unfolding Steps
  step_refused = refuses (λ fields q. (fields ≡ []) × (q ≡ next r c)) 0 r (step_tests r c)

  pub step_taken : (left : List ℕ) → Met (step_tests r c) → left ≡ stepped r.held c → Steps r c (0 ∷ []) (record { held = left; count = r.count + 1 })
  unfolding Steps
  step_taken left m e =
      succeeds (λ fields q. (fields ≡ []) × (q ≡ next r c)) 0 r (step_tests r c) [] _ m (refl, ap (λ (l : List ℕ). record { held = l; count = r.count + 1 }) e)

-- ---- the ways out of asking for the checks

module _ (r : Register) where
  pub asking_refused : (i : ℕ) → FailsAt i (check_tests r) → Checks r (answer_at i (check_tests r) ∷ replicate 11 0)
  unfolding Checks
  asking_refused = declines (λ fields. fields ≡ checks_of r.held) 11 (check_tests r)

  pub checks_given : (k : List ℕ) → Met (check_tests r) → k ≡ checks_of r.held → Checks r (0 ∷ k)
  unfolding Checks
  checks_given = replies (λ fields. fields ≡ checks_of r.held) 11 (check_tests r)

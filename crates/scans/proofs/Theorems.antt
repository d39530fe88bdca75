-- What is proved of two scans, in the request's words: the smaller distance, the first where they tie, the other where one is refused, neither where both are; which refusals there are; and one result.
use mathlib.Core.Path.{◌≡◌, refl, sym, ap, ◌∙◌, subst}
use mathlib.Core.Bool.{cond}
use mathlib.Core.Logic.{◌⊎◌, inl, inr}
use mathlib.Core.List.{List}
use Prim.Native.Nat.{ℕ, ◌<◌, ◌≤◌}
use native.Mathlib.Omega.{arith}
use lib.Dec.{ltb}
use lib.ListN.{length, get_or}
use denote.Ref.{Bor}
use Rattle.std.specs.Prelude.{None, Result, Ok, Err}
use Rattle.refusal.specs.declared.Refusal.{Refusal}
use Rattle.refusal.specs.declared.Refusal.TheVariants.{InputLength, ValueOver, RadiusOver, NoLine}
use Rattle.refusal.proofs.Laws.{one_refusal, refusal_positive, passed}
use Rattle.refusal.proofs.Ladder.{denied}
use Rattle.refusal.proofs.Answers.{by_refusal}
use Rattle.code.specs.Word.{Characters, number, distance, first_changed, last_changed}
use Rattle.line.specs.declared.Reading.{Reading}
use Rattle.line.specs.Promises.{reading_numbers, Within, reading_tests, Reads}
use Rattle.line.proofs.Ways.{refused}
use Rattle.line.proofs.Theorems.{line_told, one_within, same_reading, reads_line}
use Rattle.scans.specs.declared.Choice.{Choice}
use Rattle.scans.specs.declared.Choice.TheVariants.{First, Second}
use Rattle.scans.specs.Scans.{Answers, choice_of}
use Rattle.scans.specs.Promises.{answer_of, scan_of, choice_numbers, Chooses, Hands, Better}
use Rattle.scans.proofs.Laws.{nearer, no_nearer, not_farther, farther}

-- ---- one result

-- reading answers one thing for a scan
pub one_answer : (scan : List ℕ) (t : ℕ) (r s : Result Reading Refusal) → Answers scan t r → Answers scan t s → r ≡ s
one_answer scan t r s p q = same_reading scan t None p.old q.old r s p.new q.new (p.room ∙ sym q.room) p.reads q.reads

-- the numbers fix the choice
one_choice_of : (c d : Result Choice Refusal) → choice_numbers c ≡ choice_numbers d → c ≡ d
one_choice_of (Ok First) (Ok First) q = refl
one_choice_of (Ok First) (Ok Second) q = absurd (let z : ◌≡◌ {A = ℕ} 1 2 = ap (λ (l : List ℕ). get_or l 1 0) q in omega arith)
one_choice_of (Ok First) (Err s) q = absurd (let z : ◌≡◌ {A = ℕ} 1 0 = ap (λ (l : List ℕ). get_or l 1 0) q in omega arith)
one_choice_of (Ok Second) (Ok First) q = absurd (let z : ◌≡◌ {A = ℕ} 2 1 = ap (λ (l : List ℕ). get_or l 1 0) q in omega arith)
one_choice_of (Ok Second) (Ok Second) q = refl
one_choice_of (Ok Second) (Err s) q = absurd (let z : ◌≡◌ {A = ℕ} 2 0 = ap (λ (l : List ℕ). get_or l 1 0) q in omega arith)
one_choice_of (Err r) (Ok First) q = absurd (let z : ◌≡◌ {A = ℕ} 0 1 = ap (λ (l : List ℕ). get_or l 1 0) q in omega arith)
one_choice_of (Err r) (Ok Second) q = absurd (let z : ◌≡◌ {A = ℕ} 0 2 = ap (λ (l : List ℕ). get_or l 1 0) q in omega arith)
one_choice_of (Err r) (Err s) q = ap Err (one_refusal r s (ap (λ (l : List ℕ). get_or l 0 0) q))

-- any two results of choosing are equal
pub one_choice : (x y : List ℕ) (t : ℕ) (m n : List ℕ) → Chooses x y t m → Chooses x y t n → m ≡ n
one_choice x y t m n p q =
    p.shows
    ∙ ap (λ (r : Result Reading Refusal). choice_numbers (choice_of r p.other)) (one_answer x t p.one q.one p.first_answers q.first_answers)
    ∙ ap (λ (r : Result Reading Refusal). choice_numbers (choice_of q.one r)) (one_answer y t p.other q.other p.second_answers q.second_answers)
    ∙ sym q.shows

-- what choosing allows fixes what is handed back and the answer: so what follows of choosing is said of handing back too
pub handed_back : (x y r : Bor (List ℕ)) (t n : ℕ) → Better x y t r n → (c : Result Choice Refusal) → Chooses x.now y.now t (choice_numbers c)
    → Hands c x y r × (n ≡ answer_of c)
handed_back x y r t n p c q =
    let e : p.choice ≡ c =
    one_choice_of p.choice c (one_choice x.now y.now t (choice_numbers p.choice) (choice_numbers c) p.chooses q) in
    (subst (λ (d : Result Choice Refusal). Hands d x y r) e p.hands, p.answer ∙ ap answer_of e)

module _ (x y r s : Bor (List ℕ)) (t : ℕ) where
  one-handed : (c : Result Choice Refusal) → Hands c x y r → Hands c x y s → (r.now ≡ s.now) × (r.ref_ptr ≡ s.ref_ptr)
  one-handed (Ok First) p q = (ap (λ (z : Bor (List ℕ)). z.now) (p ∙ sym q), ap (λ (z : Bor (List ℕ)). z.ref_ptr) (p ∙ sym q))
  one-handed (Ok Second) p q = (ap (λ (z : Bor (List ℕ)). z.now) (p ∙ sym q), ap (λ (z : Bor (List ℕ)). z.ref_ptr) (p ∙ sym q))
  one-handed (Err why) p q = (p.0 ∙ sym q.0, p.1 ∙ sym q.1)

  -- any two results of handing a scan back are equal: the bytes, the place where they stand, and the answer
  pub one_better : (m n : ℕ) → Better x y t r m → Better x y t s n → (r.now ≡ s.now) × (r.ref_ptr ≡ s.ref_ptr) × (m ≡ n)
  one_better m n p q =
      let b = handed_back x y r t m p q.choice q.chooses in
      let h = one-handed q.choice b.0 q.hands in
      (h.0, h.1, b.1 ∙ sym q.answer)

  -- where a scan is kept, also the reference as a whole, with the name under which its value is tracked; of an empty part that name is left open
  pub one_kept : Better x y t r 0 → Better x y t s 0 → r ≡ s
  one_kept p q = same q.choice (sym q.answer) (handed_back x y r t 0 p q.choice q.chooses).0 q.hands
    where
      same : (c : Result Choice Refusal) → answer_of c ≡ 0 → Hands c x y r → Hands c x y s → r ≡ s
      same (Ok First) e f g = f ∙ sym g
      same (Ok Second) e f g = f ∙ sym g
      same (Err why) e f g = absurd (refusal_positive why e)

-- ---- which scan is kept, by what reading answers for the one and for the other: every result of choosing is that

module _ (x y : List ℕ) (t : ℕ) (numbers : List ℕ) (chooses : Chooses x y t numbers) where
  by-answers : (one other : Result Reading Refusal) → Answers x t one → Answers y t other → numbers ≡ choice_numbers (choice_of one other)
  by-answers one other a b =
      one_choice x y t numbers (choice_numbers (choice_of one other)) chooses
      (record { one = one; other = other; first_answers = a; second_answers = b; shows = refl })

  module _ (r s : Reading) (first_read : Answers x t (Ok r)) (second-read : Answers y t (Ok s)) where
    -- both are read: the smaller distance
    pub smaller_second : s.distance < r.distance → numbers ≡ choice_numbers (Ok Second)
    smaller_second l = by-answers (Ok r) (Ok s) first_read second-read ∙ ap choice_numbers (sym (nearer r s l))

    -- and the first where they tie, or where it has the smaller
    pub first_where_tied : r.distance ≤ s.distance → numbers ≡ choice_numbers (Ok First)
    first_where_tied l = by-answers (Ok r) (Ok s) first_read second-read ∙ ap choice_numbers (sym (no_nearer r s l))

  -- one is refused: the other
  pub second_refused : (r : Reading) (s : Refusal) → Answers x t (Ok r) → Answers y t (Err s) → numbers ≡ choice_numbers (Ok First)
  second_refused r s = by-answers (Ok r) (Err s)

  pub first_refused : (r : Refusal) (s : Reading) → Answers x t (Err r) → Answers y t (Ok s) → numbers ≡ choice_numbers (Ok Second)
  first_refused r s = by-answers (Err r) (Ok s)

  -- both are refused: neither, and the answer is the first's refusal
  pub both_refused : (r s : Refusal) → Answers x t (Err r) → Answers y t (Err s) → numbers ≡ choice_numbers (Err r)
  both_refused r s = by-answers (Err r) (Err s)

-- ---- the refusals of a scan

-- a scan of another length is a refused scan
pub other_length : (scan : List ℕ) (t : ℕ) (r : Result Reading Refusal) → (length scan ≡ 63 → ⊥) → Answers scan t r → r ≡ Err InputLength
other_length scan t r d p =
    one_answer scan t r (Err InputLength) p
    (record { old = p.old; new = p.old; room = p.room; reads = refused scan t None p.old 0 (denied d) })

-- a refusal is for its length, a character, the radius, or for want of a line: there is no output that could be of another length, and no wanted number
pub scan_refusals : (scan : List ℕ) (t : ℕ) (r : Refusal) → Answers scan t (Err r)
    → (r ≡ InputLength) ⊎ ((r ≡ ValueOver) ⊎ ((r ≡ RadiusOver) ⊎ (r ≡ NoLine)))
unfolding Reads
scan_refusals scan t r p =
    by_refusal (λ (q : Refusal). (q ≡ InputLength) ⊎ ((q ≡ ValueOver) ⊎ ((q ≡ RadiusOver) ⊎ (q ≡ NoLine)))) (reading_tests scan t None (length p.old)) r
    p.reads.0 (
      λ _. inl refl,
      λ _. (
        λ d. absurd (d p.room),
        λ _. (
          λ _. inr (inl refl),
          λ _. (
            λ _. inr (inr (inl refl)),
            λ _. (λ d. absurd (d tt), λ _. (λ _. inr (inr (inr refl)), λ l. (λ d. absurd (d (l.0, l.1, tt)), λ _. tt))),
          ),
        ),
      ),
    )

-- ---- which scan is kept, by the lines that lie near them

module _ (scan : List ℕ) (t : ℕ) where
  -- a scan that is read at distance d: its line lies within the radius, and every such line at distance d
  module _ (r : Reading) (p : Answers scan t (Ok r)) where
    read-line : Within t scan p.new
    unfolding Reads
    read-line = p.reads.1.0

    read-distance : r.distance ≡ distance scan p.new
    unfolding Reads
    read-distance = ap (λ (l : List ℕ). get_or l 1 0) p.reads.1.1

    the-distance : (m : List ℕ) → Within t scan m → r.distance ≡ distance scan m
    unfolding Reads
    the-distance m within =
        let tests = passed (reading_tests scan t None (length p.old)) 0 p.reads.0 refl in
        read-distance ∙ ap (distance scan) (one_within t scan p.new m tests.0 tests.1.1.1.0 read-line within)

    read-radius : t ≤ 5
    unfolding Reads
    read-radius = (passed (reading_tests scan t None (length p.old)) 0 p.reads.0 refl).1.1.1.0

  -- a refused scan of 63 characters, the radius being at most 5: no line lies within it
  none_near : (r : Refusal) → Answers scan t (Err r) → length scan ≡ 63 → Characters scan → t ≤ 5 → (m : List ℕ) → Within t scan m → ⊥
  none_near r p long characters small m within =
      refusal_positive r
      (ap (λ (z : Result Reading Refusal). get_or (reading_numbers z) 0 0)
      (one_answer scan t (Err r) (line_told (number m) (distance scan m) (first_changed scan m) (last_changed scan m)) p
      (record { old = p.old; new = m; room = p.room; reads = reads_line scan t p.old long p.room characters small m within })))

-- a line lies within the radius of the scan that is kept; `Farther` is what holds of its distance and that of every line within the radius of the other,
-- where that is 63 characters
pub record Kept (Farther : ℕ → ℕ → Type 0) (t : ℕ) (kept other : List ℕ) : Type 0 where
  pub line : List ℕ
  pub within : Within t kept line
  pub others : length other ≡ 63 → Characters other → (m : List ℕ) → Within t other m → Farther (distance kept line) (distance other m)

-- it is, where it is read at a distance of which that holds
kept_at : (Farther : ℕ → ℕ → Type 0) (t : ℕ) (kept other : List ℕ) (r : Reading) → Answers kept t (Ok r)
    → (length other ≡ 63 → Characters other → (m : List ℕ) → Within t other m → Farther r.distance (distance other m)) → Kept Farther t kept other
kept_at Farther t kept other r a far =
    record {
      line = a.new;
      within = read-line kept t r a;
      others = λ long characters m w. subst (λ (k : ℕ). Farther k (distance other m)) (read-distance kept t r a) (far long characters m w);
    }

module _ (x y : List ℕ) (t : ℕ) where
  by_first : (one other : Result Reading Refusal) → Answers x t one → Answers y t other → choice_of one other ≡ Ok First → Kept (λ d e. d ≤ e) t x y
  by_first (Ok r) (Ok s) a b q =
      kept_at (λ d e. d ≤ e) t x y r a (λ _ _ l w. subst (λ (k : ℕ). r.distance ≤ k) (the-distance y t s b l w) (not_farther r s q))
  by_first (Ok r) (Err s) a b q =
      kept_at (λ d e. d ≤ e) t x y r a (λ long characters l w. absurd (none_near y t s b long characters (read-radius x t r a) l w))
  by_first (Err r) (Ok s) a b q = absurd (let z : ◌≡◌ {A = ℕ} 2 1 = ap scan_of q in omega arith)
  by_first (Err r) (Err s) a b q = absurd (let z : ◌≡◌ {A = ℕ} 0 1 = ap scan_of q in omega arith)

  by-second : (one other : Result Reading Refusal) → Answers x t one → Answers y t other → choice_of one other ≡ Ok Second → Kept (λ d e. d < e) t y x
  by-second (Ok r) (Ok s) a b q =
      kept_at (λ d e. d < e) t y x s b (λ _ _ l w. subst (λ (k : ℕ). s.distance < k) (the-distance x t r a l w) (farther r s q))
  by-second (Err r) (Ok s) a b q =
      kept_at (λ d e. d < e) t y x s b (λ long characters l w. absurd (none_near x t r a long characters (read-radius y t s b) l w))
  by-second (Ok r) (Err s) a b q = absurd (let z : ◌≡◌ {A = ℕ} 1 2 = ap scan_of q in omega arith)
  by-second (Err r) (Err s) a b q = absurd (let z : ◌≡◌ {A = ℕ} 0 2 = ap scan_of q in omega arith)

  by-neither : (r : Refusal) (one other : Result Reading Refusal) → Answers x t one → Answers y t other → choice_of one other ≡ Err r
      → ((s : Refusal) × Answers x t (Err s)) × ((s : Refusal) × Answers y t (Err s))
  by-neither r (Ok p) (Ok s) a b q = absurd (let z : Ok (cond (ltb s.distance p.distance) Second First) ≡ Err r = q in cc)
  by-neither r (Ok p) (Err s) a b q = absurd (let z : ◌≡◌ {A = ℕ} 1 0 = ap scan_of q in omega arith)
  by-neither r (Err o) (Ok s) a b q = absurd (let z : ◌≡◌ {A = ℕ} 2 0 = ap scan_of q in omega arith)
  by-neither r (Err o) (Err s) a b q = ((o, a), (s, b))

  module _ (numbers : List ℕ) (chooses : Chooses x y t numbers) where
    choice-is : (c : Result Choice Refusal) → numbers ≡ choice_numbers c → choice_of chooses.one chooses.other ≡ c
    choice-is c e = one_choice_of (choice_of chooses.one chooses.other) c (sym chooses.shows ∙ e)

    -- the first is kept: no line within the radius of the second is nearer to it
    pub first_nearest : numbers ≡ choice_numbers (Ok First) → Kept (λ d e. d ≤ e) t x y
    first_nearest e = by_first chooses.one chooses.other chooses.first_answers chooses.second_answers (choice-is (Ok First) e)

    -- the second is kept: every line within the radius of the first is farther from it
    pub second_nearest : numbers ≡ choice_numbers (Ok Second) → Kept (λ d e. d < e) t y x
    second_nearest e = by-second chooses.one chooses.other chooses.first_answers chooses.second_answers (choice-is (Ok Second) e)

    -- neither is: no line lies within the radius of either, where that is 63 characters and the radius is at most 5
    module _ (r : Refusal) (neither : numbers ≡ choice_numbers (Err r)) (small : t ≤ 5) where
      both : ((s : Refusal) × Answers x t (Err s)) × ((s : Refusal) × Answers y t (Err s))
      both = by-neither r chooses.one chooses.other chooses.first_answers chooses.second_answers (choice-is (Err r) neither)

      pub first_far : length x ≡ 63 → Characters x → (m : List ℕ) → Within t x m → ⊥
      first_far long characters = none_near x t both.0.0 both.0.1 long characters small

      pub second_far : length y ≡ 63 → Characters y → (m : List ℕ) → Within t y m → ⊥
      second_far long characters = none_near y t both.1.0 both.1.1 long characters small

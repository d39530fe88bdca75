-- What is proved of runs of operations on a tray: what one from an empty tray leaves, what can be refused after it, and of any tray that a run has one result, and can be cut and joined.
use mathlib.Core.Path.{◌≡◌, refl, sym, ap, ap₂, ◌∙◌, subst}
use mathlib.Core.Logic.{⊎_elim}
use mathlib.Core.List.{List, [], ◌∷◌, ◌++◌}
use Prim.Native.Nat.{ℕ, ◌-◌, ◌<◌, ◌≤◌}
use native.Mathlib.Omega.{arith}
use lib.ListN.{length, get_or, set}
use Rattle.refusal.specs.declared.Refusal.{Refusal}
use Rattle.refusal.specs.declared.Refusal.TheVariants.{TrayUnfit}
use Rattle.refusal.specs.Number.{number_of}
use Rattle.refusal.specs.Promise.{Test, Answer}
use Rattle.refusal.proofs.Laws.{one_answer}
use Rattle.refusal.proofs.Ladder.{met_answer, refuses, replies, denied, ◌then◌}
use Rattle.refusal.proofs.Answers.{OfEach, by_refusal}
use Rattle.numbers.proofs.Cases.{le_or_lt}
use Rattle.field.specs.Field.{sum}
use Rattle.code.specs.Word.{Characters, Line}
use Rattle.open_tray.specs.Tray.{characters_at, sums_at, held, count, fresh_sums, wrong, with_shares, Fit}
use Rattle.open_tray.specs.Promises.{add_tests, Added, Adds, replace_tests, sums_after, Replaces, drop_tests, Drops, ask_tests, Asks}
use Rattle.open_tray.proofs.Theorems.{one_adding, one_replacing, one_dropping, one_asking, replaced, may_replace}
use Rattle.tray_runs.specs.Runs.{Operation, add, replace, drop_last, ask, Does, Step, operations, Through, none, more, after_step, after, fresh_count, Holds, Empty}
use Rattle.tray_runs.proofs.Counting.{count_least, count_none, changed_sums, zero_sums_line, line_zero_sums}
use Rattle.tray_runs.proofs.Every.{a_doing}
use Rattle.tray_runs.proofs.Keeping.{Keeps, keeps_empty, keeps_holds, keeps_fit, keeps_sound, keeps_run, refused_alone}

-- ---- lines whose sums are not all 0

-- 63 characters have no sum but 0 exactly when they are a line of the code
pub counted_line : (w : List ℕ) → length w ≡ 63 → Characters w → (wrong (fresh_sums w) ≡ 0 → Line w) × (Line w → wrong (fresh_sums w) ≡ 0)
counted_line w l c = (zero_sums_line w l c, line_zero_sums w)

-- so the count is 0 exactly when every line held is a line of the code
pub counted_lines : (t : List ℕ) (ls : List (List ℕ)) → Holds t ls → ((i : ℕ) → i < length ls → (length (get_or ls i []) ≡ 63) × Characters (get_or ls i []))
    → (count t ≡ 0 → (i : ℕ) → i < length ls → Line (get_or ls i [])) × (((i : ℕ) → i < length ls → Line (get_or ls i [])) → count t ≡ 0)
counted_lines t ls h words = (
  λ e i l. zero_sums_line (get_or ls i []) (words i l).0 (words i l).1 (let m = count_least ls i l in omega (arith, h.counted)),
  λ lines. h.counted ∙ count_none ls (λ i l. line_zero_sums (get_or ls i []) (lines i l)),
)

-- ---- after any sequence of operations from an empty tray, accepted or refused

-- what holds where a test fails that answers 17 holds where 17 is answered
unfit_only : (ts : List Test) (P : Type 0) → Answer ts (number_of TrayUnfit) → OfEach (λ (r : Refusal). number_of r ≡ number_of TrayUnfit → P) ts → P
unfit_only ts P a each = by_refusal (λ (r : Refusal). number_of r ≡ number_of TrayUnfit → P) ts TrayUnfit a each refl

module _ (t q : List ℕ) (steps : List Step) (empty : Empty t) (run : Through t steps q) where
  kept : Keeps q (after [] steps)
  kept = keeps_run steps t q [] (keeps_empty t empty) run

  -- the lines held are those that the accepted operations give, and the held sums and the count equal those worked out afresh
  pub from_empty : Holds q (after [] steps)
  from_empty = keeps_holds q (after [] steps) kept

  -- there are at most 64, and each is 63 characters
  pub at_most_64 : length (after [] steps) ≤ 64
  at_most_64 = kept.few

  pub each_63_characters : (i : ℕ) → i < length (after [] steps) → (length (get_or (after [] steps) i []) ≡ 63) × Characters (get_or (after [] steps) i [])
  each_63_characters i h = let line = kept.lines i h in (line.long, line.characters)

  -- the sums beside each line are its own
  pub sums_afresh : (i : ℕ) → i < held q → sums_at i q ≡ fresh_sums (characters_at i q)
  sums_afresh i h = let line = kept.lines i (omega (arith, kept.many)) in line.sums ∙ ap fresh_sums (sym line.same)

  -- the count is 0 exactly when every line held is a line of the code
  pub none_wrong : (count q ≡ 0 → (i : ℕ) → i < length (after [] steps) → Line (get_or (after [] steps) i []))
      × (((i : ℕ) → i < length (after [] steps) → Line (get_or (after [] steps) i [])) → count q ≡ 0)
  none_wrong = counted_lines q (after [] steps) from_empty each_63_characters

  -- replacing adds the change's share to the held sums, and they are then those of the changed line
  pub replacing_adds_share : (i a c : ℕ) (fields r : List ℕ) → Replaces q i a c (0 ∷ fields) r
      → (sums_at i r ≡ sums_after q i a c) × (sums_at i r ≡ fresh_sums (characters_at i r))
  replacing_adds_share i a c fields r p =
      let may = may_replace q r fields i a c p in
      let new = replaced q r fields i a c p in
      let line = kept.lines i (omega (arith, kept.many)) in
      let share : sums_after q i a c ≡ fresh_sums (set (characters_at i q) a c) =
      ap (with_shares a (sum (get_or (characters_at i q) a 0) c)) (line.sums ∙ ap fresh_sums (sym line.same))
      ∙ changed_sums (characters_at i q) a c (ap length line.same ∙ line.long) may.1.1.0 in
      (new.sums, new.sums ∙ share ∙ ap fresh_sums (sym new.characters))

  -- asking tells how many lines have sums that are not all 0, worked out afresh
  pub asked_count : (numbers : List ℕ) → Asks q numbers → numbers ≡ 0 ∷ fresh_count (after [] steps) ∷ []
  unfolding Asks
  asked_count numbers asks =
      one_asking q numbers (0 ∷ fresh_count (after [] steps) ∷ []) asks
      (replies (λ fields. fields ≡ count q ∷ []) 1 (ask_tests q) (fresh_count (after [] steps) ∷ [])
      (keeps_fit q (after [] steps) kept then tt) (ap (λ (n : ℕ). n ∷ []) (sym kept.counted)))

  -- ---- what can be done is done: a line is added while there is room, a character of a line held replaced, and a line dropped while one is left

  pub adding_done : (w : List ℕ) (n : ℕ) (fields r : List ℕ) → length w ≡ 63 → Characters w → held q < 64 → Adds q w (n ∷ fields) r → n ≡ 0
  unfolding Adds
  adding_done w n fields r l c h p =
      one_answer (add_tests q w) n 0 p.0 (met_answer (add_tests q w) (keeps_fit q (after [] steps) kept then l then c then h then tt))

  pub replacing_done : (i a c n : ℕ) (fields r : List ℕ) → i < held q → a ≤ 62 → c ≤ 63 → Replaces q i a c (n ∷ fields) r → n ≡ 0
  unfolding Replaces
  replacing_done i a c n fields r h la lc p =
      one_answer (replace_tests q i a c) n 0 p.0
      (met_answer (replace_tests q i a c) (keeps_fit q (after [] steps) kept then h then la then lc then keeps_sound q (after [] steps) kept i h then tt))

  pub dropping_done : (n : ℕ) (fields r : List ℕ) → 0 < held q → Drops q (n ∷ fields) r → n ≡ 0
  unfolding Drops
  dropping_done n fields r h p =
      one_answer (drop_tests q) n 0 p.0
      (met_answer (drop_tests q) (keeps_fit q (after [] steps) kept then h then keeps_sound q (after [] steps) kept (held q - 1) (omega arith) then tt))

  -- ---- the tray is never unfit: replacing, dropping and asking never answer 17, and adding does only where 64 lines are held

  pub replacing_not_unfit : (i a c : ℕ) (fields r : List ℕ) → Replaces q i a c (number_of TrayUnfit ∷ fields) r → ⊥
  unfolding Replaces
  replacing_not_unfit i a c fields r p =
      unfit_only (replace_tests q i a c) ⊥ p.0 (
        λ d e. d (keeps_fit q (after [] steps) kept),
        λ _. (λ d e. omega arith, λ h. (λ d e. omega arith, λ _. (λ d e. omega arith, λ _. (λ d e. d (keeps_sound q (after [] steps) kept i h), λ _. tt)))),
      )

  pub dropping_not_unfit : (fields r : List ℕ) → Drops q (number_of TrayUnfit ∷ fields) r → ⊥
  unfolding Drops
  dropping_not_unfit fields r p =
      unfit_only (drop_tests q) ⊥ p.0 (
        λ d e. d (keeps_fit q (after [] steps) kept),
        λ _. (λ d e. omega arith, λ h. (λ d e. d (keeps_sound q (after [] steps) kept (held q - 1) (omega arith)), λ _. tt)),
      )

  pub asking_not_unfit : (fields : List ℕ) → Asks q (number_of TrayUnfit ∷ fields) → ⊥
  unfolding Asks
  asking_not_unfit fields p = unfit_only (ask_tests q) ⊥ p.0 (λ d e. d (keeps_fit q (after [] steps) kept), λ _. tt)

  pub adding_unfit : (w fields r : List ℕ) → Adds q w (number_of TrayUnfit ∷ fields) r → held q ≡ 64
  unfolding Adds
  adding_unfit w fields r p =
      unfit_only (add_tests q w) (held q ≡ 64) p.0 (
        λ d e. absurd (d fit),
        λ _. (λ d e. absurd (omega arith), λ _. (λ d e. absurd (omega arith), λ _. (λ d e. full d, λ _. tt))),
      )
    where
      fit : Fit q
      fit = keeps_fit q (after [] steps) kept

      full : (held q < 64 → ⊥) → held q ≡ 64
      full d = ⊎_elim (λ (h : 64 ≤ held q). omega (arith, fit.few)) (λ (h : held q < 64). absurd (d h)) (le_or_lt 64 (held q))

  -- and there it does, where the line is 63 characters
  pub full_unfit : (w numbers r : List ℕ) → held q ≡ 64 → length w ≡ 63 → Characters w → Adds q w numbers r → numbers ≡ number_of TrayUnfit ∷ []
  unfolding Adds
  full_unfit w numbers r h l c adds =
      (one_adding q w numbers (number_of TrayUnfit ∷ []) r q adds
      (refuses (λ fields x. (fields ≡ []) × Added q w x) 0 q (add_tests q w) 3 (keeps_fit q (after [] steps) kept then l then c then denied (λ b. omega arith)))).0

-- ---- any tray whatever

-- a refused operation leaves every byte as it was
pub refused_leaves : (t : List ℕ) (o : Operation) (n : ℕ) (fields q : List ℕ) → (n ≡ 0 → ⊥) → Does t o (n ∷ fields) q → q ≡ t
refused_leaves = refused_alone

-- an operation has one result
pub one_doing : (t : List ℕ) (o : Operation) (a b q r : List ℕ) → Does t o a q → Does t o b r → (a ≡ b) × (q ≡ r)
one_doing t (add w) a b q r = one_adding t w a b q r
one_doing t (replace i x c) a b q r = one_replacing t i x c a b q r
one_doing t drop_last a b q r = one_dropping t a b q r
one_doing t ask a b q r = λ x y. (one_asking t a b x.0 y.0, x.1 ∙ sym y.1)

-- and so has a run: from one tray the same operations have the same answers, step by step, and lead to the same tray; so do the parts that `cut` gives
pub one_run : (xs ys : List Step) (t q r : List ℕ) → operations xs ≡ operations ys
    → Through t xs q → Through t ys r → (xs ≡ ys) × (q ≡ r)
one_run [] [] t q r e none none = (refl, refl)
one_run [] (y ∷ ys) t q r e p s = absurd (let z = ap length e in omega arith)
one_run (x ∷ xs) [] t q r e p s = absurd (let z = ap length e in omega arith)
one_run (x ∷ xs) (y ∷ ys) t q r e (more {q = m} d p) (more {q = n} f s) =
    let same : x.operation ≡ y.operation = cc in
    let rest : operations xs ≡ operations ys = cc in
    let one = one_doing t x.operation x.numbers y.numbers m n d (subst (λ (o : Operation). Does t o y.numbers n) (sym same) f) in
    let tail = one_run xs ys m q r rest p (subst (λ (u : List ℕ). Through u ys r) (sym one.1) s) in
    (ap₂ (λ (s : Step) (ss : List Step). s ∷ ss) (ap₂ (λ (o : Operation) (l : List ℕ). record { operation = o; numbers = l }) same one.0) tail.0, tail.1)

-- and there is one, of any operations from any tray
pub a_run : (os : List Operation) (t : List ℕ) → (steps : List Step) × (q : List ℕ) × (operations steps ≡ os) × Through t steps q
a_run [] t = ([], t, refl, none)
a_run (o ∷ os) t =
    let first = a_doing t o in
    let rest = a_run os first.1 in
    (record { operation = o; numbers = first.0 } ∷ rest.0, rest.1, ap (λ (l : List Operation). o ∷ l) rest.2, more first.2 rest.3)

-- ---- a run can be cut anywhere, and runs joined

pub cut : (xs ys : List Step) (t q : List ℕ) → Through t (xs ++ ys) q → (m : List ℕ) × Through t xs m × Through m ys q
cut [] ys t q run = (t, none, run)
cut (x ∷ xs) ys t q (more {q = n} does run) = let rest = cut xs ys n q run in (rest.0, more does rest.1, rest.2)

pub joined : (xs ys : List Step) (t m q : List ℕ) → Through t xs m → Through m ys q → Through t (xs ++ ys) q
joined [] ys t m q none run = run
joined (x ∷ xs) ys t m q (more {q = n} does first) run = more does (joined xs ys n m q first run)

-- the lines that the first part gives are those that the second begins with
pub after_both : (xs ys : List Step) (ls : List (List ℕ)) → after ls (xs ++ ys) ≡ after (after ls xs) ys
unfolding after
after_both [] ys ls = refl
after_both (x ∷ xs) ys ls = after_both xs ys (after_step x ls)

-- The laws of runs of steps: a step that is allowed is the step of the division, what a run leaves, and that idling is not allowed.
use mathlib.Core.Path.{◌≡◌, refl, sym, ap, ap₂, ◌∙◌, subst}
use mathlib.Core.List.{List, [], ◌∷◌, ◌++◌, append_assoc, append-nil}
use Prim.Native.Nat.{ℕ, zero, suc, ◌+◌, ◌<◌, ◌≤◌}
use native.Mathlib.Omega.{arith}
use lib.ListN.{length, get_or, replicate, length-append}
use Rattle.refusal.proofs.Ladder.{◌then◌}
use Rattle.refusal.proofs.Theorems.{one_result, one_reply}
use Rattle.field.specs.Field.{sum, times_x, shifted, product}
use Rattle.code.specs.Word.{Characters}
use Rattle.encoder.specs.declared.Register.{Register}
use Rattle.encoder.specs.Register.{empty, stepped, next, checks_of}
use Rattle.encoder.specs.Promises.{step_tests, Steps, check_tests, Checks}
use Rattle.encoder.specs.Runs.{Through, none, more, HoldsAfter}
use Rattle.encoder.proofs.Division.{lower}
use Rattle.encoder.proofs.Stepping.{stepped_long, stepped_get, remainder_none, remainder_more}
use Rattle.encoder.proofs.Encoding.{characters_append, characters_remainder}
use Rattle.encoder.proofs.Loops.{step_taken, checks_given}

-- ---- the promises determine the result

pub one_stepping : (r : Register) (c : ℕ) (a b : List ℕ) (p q : Register) → Steps r c a p → Steps r c b q → (a ≡ b) × (p ≡ q)
unfolding Steps
one_stepping r c a b p q =
    one_result (step_tests r c) (λ fields q. (fields ≡ []) × (q ≡ next r c)) 0 (λ _ f g x y s t. (s.0 ∙ sym t.0, s.1 ∙ sym t.1)) r a b p q

pub one_asking : (r : Register) (a b : List ℕ) → Checks r a → Checks r b → a ≡ b
unfolding Checks
one_asking r a b = one_reply (check_tests r) (λ fields. fields ≡ checks_of r.held) 11 (λ _ f g s t. s ∙ sym t) a b

-- ---- a step and asking, where nothing is refused

pub step_on : (r : Register) (c : ℕ) → r.count < 52 → Characters r.held → c ≤ 63 → Steps r c (0 ∷ []) (next r c)
step_on r c h s m = step_taken r c (stepped r.held c) (h then s then m then tt) refl

pub ask_on : (r : Register) → r.count ≡ 52 → Characters r.held → Checks r (0 ∷ checks_of r.held)
ask_on r h s = checks_given r (checks_of r.held) (omega arith then omega arith then s then tt) refl

-- ---- runs

pub holds_none : HoldsAfter empty []
holds_none = record { held_is = sym remainder_none; count_is = refl }

held_characters : (r : Register) (cs : List ℕ) → HoldsAfter r cs → Characters cs → Characters r.held
held_characters r cs h c = subst Characters (sym h.held_is) (characters_remainder cs c)

holds_next : (r : Register) (cs : List ℕ) (c : ℕ) → HoldsAfter r cs → HoldsAfter (next r c) (cs ++ c ∷ [])
holds_next r cs c h =
    record {
      held_is = ap (λ (l : List ℕ). stepped l c) h.held_is ∙ sym (remainder_more cs c);
      count_is = ap (λ (n : ℕ). n + 1) h.count_is ∙ sym (length-append cs (c ∷ []));
    }

one_character : (c : ℕ) → c < 64 → Characters (c ∷ [])
one_character c h zero = h
one_character c h (suc a) = omega arith

-- from a register that holds ds, steps through cs leave one that holds both
pub run_holds : (cs ds : List ℕ) (q r : Register) → length ds + length cs ≤ 52 → Characters ds → Characters cs → HoldsAfter q ds → Through q cs r → HoldsAfter r (ds ++ cs)
run_holds [] ds q r l hd hc h none = subst (HoldsAfter q) (sym (append-nil ds)) h
run_holds (c ∷ cs) ds q r l hd hc h (more {q = p} numbers s run) =
    let below : q.count < 52 = omega (arith, h.count_is) in
    let same : p ≡ next q c = (one_stepping q c numbers (0 ∷ []) p (next q c) s (step_on q c below (held_characters q ds h hd) (omega (arith, hc 0)))).1 in
    let known : HoldsAfter p (ds ++ c ∷ []) = subst (λ (x : Register). HoldsAfter x (ds ++ c ∷ [])) (sym same) (holds_next q ds c h) in
    subst (HoldsAfter r) (append_assoc ds (c ∷ []) cs)
    (run_holds cs (ds ++ c ∷ []) p r (omega (arith, length-append ds (c ∷ []))) (characters_append ds (c ∷ []) hd (one_character c (hc 0))) (λ a. hc (suc a)) known run)

-- and there is such a run
pub a_run : (cs ds : List ℕ) (q : Register) → length ds + length cs ≤ 52 → Characters ds → Characters cs → HoldsAfter q ds → (r : Register) × Through q cs r
a_run [] ds q l hd hc h = (q, none)
a_run (c ∷ cs) ds q l hd hc h =
    let below : q.count < 52 = omega (arith, h.count_is) in
    let rest =
    a_run cs (ds ++ c ∷ []) (next q c) (omega (arith, length-append ds (c ∷ []))) (characters_append ds (c ∷ []) hd (one_character c (hc 0)))
    (λ a. hc (suc a)) (holds_next q ds c h) in
    (rest.0, more (0 ∷ []) (step_on q c below (held_characters q ds h hd) (omega (arith, hc 0))) rest.1)

-- ---- idling

-- computed: after 1 the first two places hold 20 and 61, and after 0 then the first holds 33
after_one : (i : ℕ) → get_or (stepped (replicate 11 0) 1) i 0 ≡ sum (get_or (replicate 11 0) (suc i) 0) (product (sum 0 1) (get_or lower i 0))
after_one i = stepped_get (replicate 11 0) 1 refl i

first_is : get_or (stepped (replicate 11 0) 1) 0 0 ≡ 20
unfolding lower product shifted times_x sum
first_is = after_one 0

second_is : get_or (stepped (replicate 11 0) 1) 1 0 ≡ 61
unfolding lower product shifted times_x sum
second_is = after_one 1

changed : sum 61 (product (sum 20 0) (get_or lower 0 0)) ≡ 33
unfolding lower product shifted times_x sum
changed = refl

next_is : get_or (stepped (stepped (replicate 11 0) 1) 0) 0 0 ≡ 33
next_is =
    stepped_get (stepped (replicate 11 0) 1) 0 (stepped_long (replicate 11 0) 1 refl) 0
    ∙ ap₂ (λ (x y : ℕ). sum x (product (sum y 0) (get_or lower 0 0))) second_is first_is ∙ changed

-- what the register holds after 1 cannot stay as it was when 0 is taken
pub idle_refused : (q : Register) (numbers : List ℕ) → Steps (next empty 1) 0 numbers q → q.held ≡ (next empty 1).held → ⊥
idle_refused q numbers s e =
    let held : Characters (next empty 1).held =
    held_characters (next empty 1) (1 ∷ []) (holds_next empty [] 1 holds_none) (one_character 1 (omega arith)) in
    let same : q ≡ next (next empty 1) 0 = (one_stepping (next empty 1) 0 numbers (0 ∷ []) q (next (next empty 1) 0) s (step_on (next empty 1) 0 (omega arith) held (omega arith))).1 in
    let stays : ◌≡◌ {A = ℕ} 20 33 =
    sym first_is ∙ ap (λ (l : List ℕ). get_or l 0 0) (sym e) ∙ ap (λ (r : Register). get_or r.held 0 0) same ∙ next_is in
    omega arith

-- What the choice is, case by case, and what is handed back where neither scan is kept.
use mathlib.Core.Path.{◌≡◌, sym, ap, ◌∙◌, subst}
use mathlib.Core.Bool.{Bool, cond}
use mathlib.Core.Logic.{⊎_elim}
use mathlib.Core.List.{List, []}
use Prim.Native.Nat.{ℕ, ◌<◌, ◌≤◌}
use native.Mathlib.Omega.{arith}
use borrow.Author.Tests.{lt-ltb, le-ltb}
use denote.Ref.{Bor}
use Rattle.std.specs.Prelude.{Result, Ok, Err}
use Rattle.numbers.proofs.Cases.{le_or_lt}
use Rattle.refusal.specs.declared.Refusal.{Refusal}
use Rattle.refusal.specs.Number.{number_of}
use Rattle.line.specs.declared.Reading.{Reading}
use Rattle.scans.specs.declared.Choice.{Choice}
use Rattle.scans.specs.declared.Choice.TheVariants.{First, Second}
use Rattle.scans.specs.Scans.{Answers, choice_of}
use Rattle.scans.specs.Promises.{scan_of, choice_numbers, Chooses, Better}

-- ---- the choice by the two answers: both were read

module _ (r s : Reading) where
  pub nearer : s.distance < r.distance → Ok Second ≡ choice_of (Ok r) (Ok s)
  nearer h = sym (ap (λ (b : Bool). Ok (cond b Second First)) (lt-ltb s.distance r.distance h))

  pub no_nearer : r.distance ≤ s.distance → Ok First ≡ choice_of (Ok r) (Ok s)
  no_nearer h = sym (ap (λ (b : Bool). Ok (cond b Second First)) (le-ltb s.distance r.distance h))

  -- and the other way about: what the choice says of the distances
  pub not_farther : choice_of (Ok r) (Ok s) ≡ Ok First → r.distance ≤ s.distance
  not_farther q =
      ⊎_elim (λ (k : r.distance ≤ s.distance). k)
      (λ (k : s.distance < r.distance). absurd (let z : ◌≡◌ {A = ℕ} 2 1 = ap scan_of (nearer k ∙ q) in omega arith)) (le_or_lt r.distance s.distance)

  pub farther : choice_of (Ok r) (Ok s) ≡ Ok Second → s.distance < r.distance
  farther q =
      ⊎_elim (λ (k : r.distance ≤ s.distance). absurd (let z : ◌≡◌ {A = ℕ} 1 2 = ap scan_of (no_nearer k ∙ q) in omega arith))
      (λ (k : s.distance < r.distance). k) (le_or_lt r.distance s.distance)

-- ---- the promises

pub choice_made : (x y : List ℕ) (t : ℕ) (one other : Result Reading Refusal) (c : Result Choice Refusal) → Answers x t one → Answers y t other
    → c ≡ choice_of one other → Chooses x y t (choice_numbers c)
choice_made x y t one other c a b e = record { one = one; other = other; first_answers = a; second_answers = b; shows = ap choice_numbers e }

-- where neither is kept an empty part of the first is handed back
pub handed_neither : (x y : Bor (List ℕ)) (t : ℕ) (c : Result Choice Refusal) → Chooses x.now y.now t (choice_numbers c)
    → (r : Bor (List ℕ)) (n : ℕ) (why : Refusal) → c ≡ Err why → r.now ≡ [] → r.ref_ptr ≡ x.ref_ptr → n ≡ number_of why → Better x y t r n
handed_neither x y t c chooses r n why q e p h =
    let known = subst (λ (k : Result Choice Refusal). Chooses x.now y.now t (choice_numbers k)) q chooses in
    record { choice = Err why; chooses = known; hands = (e, p); answer = h }

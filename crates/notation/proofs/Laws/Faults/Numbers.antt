-- The faults of a set: none exactly when no condition of 4, 5 and 6 holds; a 4, 5 or 6 first only on its condition.
use Prim.Native.Nat.{ℕ, suc, ◌≤◌}
use native.Mathlib.Omega.{arith}
use mathlib.Core.Path.{◌≡◌, refl, sym, ap₂, ◌∙◌}
use mathlib.Core.Logic.{◌↔◌}
use mathlib.Core.Bool.{Bool, true, false, cond, ◌&&◌, ◌||◌, true≢false, and_assoc}
use mathlib.Core.List.{List, [], ◌∷◌, ◌++◌}
use lib.Dec.{leb, eqb}
use borrow.Author.Tests.{eq-eqb, eqb-true}
use Rattle.notation.specs.Limits.{max_steps}
use Rattle.notation.specs.Sets.{Path, folder, FolderSet, test_of}
use Rattle.text.specs.declared.refusals.Refusal.{Refusal}
use Rattle.text.specs.declared.refusals.Refusal.TheVariants.{OutOfOrder, NameTooLong, PathTooLong}
use Rattle.text.specs.Refusals.{number_of}
use Rattle.text.specs.Lists.{every, any}
use Rattle.notation.specs.Form.{long_test, step_faults, path_faults, paths_faults, faults_after, faults, numbers_fall, names_long, paths_long}
use Rattle.text.proofs.Laws.Tests.{cases, and_left, or_left}
use Rattle.notation.proofs.Laws.Faults.Kinds.{has, has-4, has-5, has-6}

-- the first fault is one of the list

first-has : (r : Refusal) (later fs : List Refusal) → fs ≡ r ∷ later → has (number_of r) fs ≡ true
unfolding any
first-has r later fs e = rw (e, eq-eqb (number_of r) (number_of r) refl)

none_has : (k : ℕ) (fs : List Refusal) → fs ≡ [] → has k fs ≡ false
unfolding any
none_has k fs e = rw e

-- a set's faults are 4, 5 and 6 only

abbrev ours : Refusal → Bool
ours r = eqb (number_of r) 4 || (eqb (number_of r) 5 || eqb (number_of r) 6)

every_append {ℓ} : {A : Type ℓ} (f : A → Bool) (k l : List A) → every f (k ++ l) ≡ (every f k && every f l)
unfolding every
every_append f [] l = refl
every_append f (a ∷ k) l = rw (every_append f k l) (sym (and_assoc (f a) (every f k) (every f l)))

ours-append : (xs ys : List Refusal) → every ours xs ≡ true → every ours ys ≡ true → every ours (xs ++ ys) ≡ true
ours-append xs ys hx hy = every_append ours xs ys ∙ ap₂ (λ a b. a && b) hx hy

step-ours : (p q : Bool) → every ours (cond p (NameTooLong ∷ []) [] ++ cond q (PathTooLong ∷ []) []) ≡ true
unfolding every
step-ours true true = refl
step-ours true false = refl
step-ours false true = refl
step-ours false false = refl

turn-ours : (c : Bool) → every ours (cond c (OutOfOrder ∷ []) []) ≡ true
unfolding every
turn-ours true = refl
turn-ours false = refl

path-ours : (p : Path) (k : ℕ) → every ours (path_faults k p) ≡ true
unfolding path_faults every
path-ours [] k = refl
path-ours (s ∷ p) k =
    ours-append (step_faults k s) (path_faults (suc k) p) (step-ours (long_test (test_of s)) (leb max_steps k)) (path-ours p (suc k))

paths-ours : (ps : List Path) → every ours (paths_faults ps) ≡ true
unfolding paths_faults every
paths-ours [] = refl
paths-ours (p ∷ ps) = ours-append (path_faults 0 p) (paths_faults ps) (path-ours p 0) (paths-ours ps)

set-ours : (s : FolderSet) (last : ℕ) → every ours (faults_after last s) ≡ true
unfolding faults_after every
set-ours [] last = refl
set-ours (folder n ps ∷ fs) last =
    ours-append (cond (leb n last) (OutOfOrder ∷ []) []) (paths_faults ps ++ faults_after n fs) (turn-ours (leb n last))
    (ours-append (paths_faults ps) (faults_after n fs) (paths-ours ps) (set-ours fs n))

none_left : (fs : List Refusal) → every ours fs ≡ true → has (number_of OutOfOrder) fs ≡ false → has (number_of NameTooLong) fs ≡ false → has (number_of PathTooLong) fs ≡ false → fs ≡ []
unfolding every any
none_left [] o e₄ e₅ e₆ = refl
none_left (r ∷ fs) o e₄ e₅ e₆ =
    let one : ours r ≡ true = and_left (ours r) (every ours fs) o in
    let n₄ : eqb (number_of r) 4 ≡ false = or_left (eqb (number_of r) 4) (has (number_of OutOfOrder) fs) e₄ in
    let n₅ : eqb (number_of r) 5 ≡ false = or_left (eqb (number_of r) 5) (has (number_of NameTooLong) fs) e₅ in
    let n₆ : eqb (number_of r) 6 ≡ false = or_left (eqb (number_of r) 6) (has (number_of PathTooLong) fs) e₆ in
    let none : ours r ≡ false = rw (n₄, n₅, n₆) in
    absurd (true≢false (sym one ∙ none))

among : (n : ℕ) → (eqb n 4 || (eqb n 5 || eqb n 6)) ≡ true → (4 ≤ n) × (n ≤ 6)
among n e =
    cases (eqb n 4) (λ y. let h = eqb-true n 4 y in (omega arith, omega arith))
    (λ f.
    cases (eqb n 5) (λ y. let h = eqb-true n 5 y in (omega arith, omega arith))
    (λ g.
    let y : eqb n 6 ≡ true = rw (f, g) at e in
    let h = eqb-true n 6 y in
    (omega arith, omega arith)))

first-among : (r : Refusal) (later fs : List Refusal) → every ours fs ≡ true → fs ≡ r ∷ later → (4 ≤ number_of r) × (number_of r ≤ 6)
unfolding every
first-among r later fs o e =
    let one : every ours (r ∷ later) ≡ true = rw e at o in
    among (number_of r) (and_left (ours r) (every ours later) one)

module _ (s : FolderSet) where
  pub no-fault : (faults s ≡ []) ↔ ((numbers_fall s ≡ false) × (names_long s ≡ false) × (paths_long s ≡ false))
  unfolding names_long paths_long
  no-fault = (
    λ e. (
      sym (has-4 s 0) ∙ none_has 4 (faults s) e,
      sym (has-5 s 0) ∙ none_has 5 (faults s) e,
      sym (has-6 s 0) ∙ none_has 6 (faults s) e,
    ),
    λ h. none_left (faults s) (set-ours s 0) (has-4 s 0 ∙ h.0) (has-5 s 0 ∙ h.1) (has-6 s 0 ∙ h.2),
  )

  module _ (later : List Refusal) where
    pub fault-among : (r : Refusal) → faults s ≡ r ∷ later → (4 ≤ number_of r) × (number_of r ≤ 6)
    fault-among r = first-among r later (faults s) (set-ours s 0)

    pub turn-fault : faults s ≡ OutOfOrder ∷ later → numbers_fall s ≡ true
    turn-fault e = sym (has-4 s 0) ∙ first-has OutOfOrder later (faults s) e

    pub name-fault : faults s ≡ NameTooLong ∷ later → names_long s ≡ true
    unfolding names_long
    name-fault e = sym (has-5 s 0) ∙ first-has NameTooLong later (faults s) e

    pub path-fault : faults s ≡ PathTooLong ∷ later → paths_long s ≡ true
    unfolding paths_long
    path-fault e = sym (has-6 s 0) ∙ first-has PathTooLong later (faults s) e

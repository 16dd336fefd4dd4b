-- The faults of a set against the plain conditions: a 4, 5 or 6 is among them exactly when its condition holds, and nothing else is.
use Prim.Native.Nat.{ℕ, suc, ◌+◌, ◌≤◌}
use native.Mathlib.Omega.{arith}
use mathlib.Core.Path.{◌≡◌, refl, sym, ap, ap₂, ◌∙◌}
use mathlib.Core.Bool.{Bool, true, false, cond, ◌&&◌, ◌||◌, or_assoc, or-false, and-true, and-false}
use mathlib.Core.List.{List, [], ◌∷◌, ◌++◌}
use lib.Dec.{leb, ltb, eqb}
use borrow.Author.Tests.{lt-ltb, le-ltb, leb-true, leb-false}
use lib.ListN.{length}
use Rattle.notation.specs.Limits.{max_steps}
use Rattle.text.specs.Names.{too_long}
use Rattle.notation.specs.Sets.{Test, label, star, Path, folder, FolderSet, test_of}
use Rattle.text.specs.declared.refusals.Refusal.{Refusal}
use Rattle.text.specs.declared.refusals.Refusal.TheVariants.{OutOfOrder, NameTooLong, PathTooLong}
use Rattle.text.specs.Refusals.{number_of}
use Rattle.notation.specs.Form.{paths_of, steps_of, labels_of, label_of, long_test, step_faults, path_faults, paths_faults, faults_after, numbers_fall_after, path_long}
use Rattle.text.specs.Lists.{any}
use Rattle.text.proofs.Laws.Tests.{cases}
use Rattle.notation.proofs.Laws.Parts.{steps-append, labels_append}

pub any_append {ℓ} : {A : Type ℓ} (f : A → Bool) (k l : List A) → any f (k ++ l) ≡ (any f k || any f l)
unfolding any
any_append f [] l = refl
any_append f (a ∷ k) l = rw (any_append f k l) (sym (or_assoc (f a) (any f k) (any f l)))

-- a fault of number k is in the list
abbrev pub has : ℕ → List Refusal → Bool
has k fs = any (λ r. eqb (number_of r) k) fs

has-append : (k : ℕ) (xs ys : List Refusal) → has k (xs ++ ys) ≡ (has k xs || has k ys)
has-append k xs ys = any_append (λ r. eqb (number_of r) k) xs ys

-- the faults of a step: p, its label is too long; q, it is over the path's limit

abbrev step_list : Bool → Bool → List Refusal
step_list p q = cond p (NameTooLong ∷ []) [] ++ cond q (PathTooLong ∷ []) []

step-has : (k : ℕ) (p q : Bool) → has k (step_list p q) ≡ (p && eqb (number_of NameTooLong) k || q && eqb (number_of PathTooLong) k)
unfolding any
step-has k true true = ap (λ b. eqb (number_of NameTooLong) k || b) (or-false (eqb (number_of PathTooLong) k))
step-has k true false = refl
step-has k false true = or-false (eqb (number_of PathTooLong) k)
step-has k false false = refl

step-has-4 : (p q : Bool) → has (number_of OutOfOrder) (step_list p q) ≡ false
step-has-4 p q = step-has (number_of OutOfOrder) p q ∙ rw (and-false p, and-false q)

step-has-5 : (p q : Bool) → has (number_of NameTooLong) (step_list p q) ≡ p
step-has-5 p q = step-has (number_of NameTooLong) p q ∙ rw (and-true p, and-false q) (or-false p)

step-has-6 : (p q : Bool) → has (number_of PathTooLong) (step_list p q) ≡ q
step-has-6 p q = step-has (number_of PathTooLong) p q ∙ rw (and-false p, and-true q)

turn-has : (k : ℕ) (c : Bool) → has k (cond c (OutOfOrder ∷ []) []) ≡ (c && eqb (number_of OutOfOrder) k)
unfolding any
turn-has k true = or-false (eqb (number_of OutOfOrder) k)
turn-has k false = refl

-- 4: nothing in the paths, and the numbers

path-has-4 : (p : Path) (k : ℕ) → has (number_of OutOfOrder) (path_faults k p) ≡ false
unfolding path_faults any
path-has-4 [] k = refl
path-has-4 (s ∷ p) k =
    has-append (number_of OutOfOrder) (step_faults k s) (path_faults (suc k) p) ∙
    ap₂ (λ a b. a || b) (step-has-4 (long_test (test_of s)) (leb max_steps k)) (path-has-4 p (suc k))

paths-has-4 : (ps : List Path) → has (number_of OutOfOrder) (paths_faults ps) ≡ false
unfolding paths_faults any
paths-has-4 [] = refl
paths-has-4 (p ∷ ps) = has-append (number_of OutOfOrder) (path_faults 0 p) (paths_faults ps) ∙ ap₂ (λ a b. a || b) (path-has-4 p 0) (paths-has-4 ps)

-- 5: the labels

test-labels : (u : Test) → long_test u ≡ any too_long (label_of u)
unfolding any
test-labels (label n) = sym (or-false (too_long n))
test-labels star = refl

path-has-5 : (p : Path) (k : ℕ) → has (number_of NameTooLong) (path_faults k p) ≡ any too_long (labels_of p)
unfolding path_faults labels_of any
path-has-5 [] k = refl
path-has-5 (s ∷ p) k =
    has-append (number_of NameTooLong) (step_faults k s) (path_faults (suc k) p) ∙
    (ap₂ (λ a b. a || b)
    (step-has-5 (long_test (test_of s)) (leb max_steps k) ∙ test-labels (test_of s))
    (path-has-5 p (suc k)) ∙
    sym (any_append too_long (label_of (test_of s)) (labels_of p)))

paths-has-5 : (ps : List Path) → has (number_of NameTooLong) (paths_faults ps) ≡ any too_long (labels_of (steps_of ps))
unfolding paths_faults labels_of steps_of any
paths-has-5 [] = refl
paths-has-5 (p ∷ ps) =
    has-append (number_of NameTooLong) (path_faults 0 p) (paths_faults ps) ∙
    (ap₂ (λ a b. a || b) (path-has-5 p 0) (paths-has-5 ps) ∙
    sym (ap (λ l. any too_long l) (labels_append p (steps_of ps)) ∙ any_append too_long (labels_of p) (labels_of (steps_of ps))))

-- 6: the paths

path-has-6 : (p : Path) (k : ℕ) → k ≤ max_steps → has (number_of PathTooLong) (path_faults k p) ≡ ltb max_steps (k + length p)
unfolding path_faults any
path-has-6 [] k h = sym (le-ltb max_steps (k + 0) (omega arith))
path-has-6 (s ∷ p) k h =
    has-append (number_of PathTooLong) (step_faults k s) (path_faults (suc k) p) ∙
    (ap (λ a. a || has (number_of PathTooLong) (path_faults (suc k) p)) (step-has-6 (long_test (test_of s)) (leb max_steps k)) ∙
    cases (leb max_steps k)
    (λ e. rw e (sym (lt-ltb max_steps (k + suc (length p)) (omega (arith, leb-true max_steps k e)))))
    (λ e.
    let same : suc k + length p ≡ k + suc (length p) = omega arith in
    rw e (path-has-6 p (suc k) (leb-false max_steps k e) ∙ ap (λ n. ltb max_steps n) same)))

paths-has-6 : (ps : List Path) → has (number_of PathTooLong) (paths_faults ps) ≡ any path_long ps
unfolding paths_faults any
paths-has-6 [] = refl
paths-has-6 (p ∷ ps) =
    let same : 0 + length p ≡ length p = omega arith in
    has-append (number_of PathTooLong) (path_faults 0 p) (paths_faults ps) ∙
    ap₂ (λ a b. a || b) (path-has-6 p 0 (omega arith) ∙ ap (λ n. ltb max_steps n) same) (paths-has-6 ps)

-- a set's faults of one number: those of the first line's number and paths, and of the other lines
line-has : (k last n : ℕ) (ps : List Path) (fs : FolderSet)
    → has k (faults_after last (folder n ps ∷ fs)) ≡ (leb n last && eqb (number_of OutOfOrder) k || (has k (paths_faults ps) || has k (faults_after n fs)))
unfolding faults_after
line-has k last n ps fs =
    has-append k (cond (leb n last) (OutOfOrder ∷ []) []) (paths_faults ps ++ faults_after n fs) ∙
    ap₂ (λ a b. a || b) (turn-has k (leb n last)) (has-append k (paths_faults ps) (faults_after n fs))

pub has-4 : (s : FolderSet) (last : ℕ) → has (number_of OutOfOrder) (faults_after last s) ≡ numbers_fall_after last s
unfolding numbers_fall_after faults_after any
has-4 [] last = refl
has-4 (folder n ps ∷ fs) last =
    line-has 4 last n ps fs ∙
    (ap₂ (λ a b. leb n last && true || (a || b)) (paths-has-4 ps) (has-4 fs n) ∙
    ap (λ a. a || numbers_fall_after n fs) (and-true (leb n last)))

pub has-5 : (s : FolderSet) (last : ℕ) → has (number_of NameTooLong) (faults_after last s) ≡ any too_long (labels_of (steps_of (paths_of s)))
unfolding faults_after any labels_of steps_of paths_of
has-5 [] last = refl
has-5 (folder n ps ∷ fs) last =
    line-has 5 last n ps fs ∙
    (ap₂ (λ a b. leb n last && false || (a || b)) (paths-has-5 ps) (has-5 fs n) ∙
    (ap (λ a. a || (any too_long (labels_of (steps_of ps)) || any too_long (labels_of (steps_of (paths_of fs))))) (and-false (leb n last)) ∙
    sym
    (ap (λ ss. any too_long (labels_of ss)) (steps-append ps (paths_of fs)) ∙
    (ap (λ l. any too_long l) (labels_append (steps_of ps) (steps_of (paths_of fs))) ∙
    any_append too_long (labels_of (steps_of ps)) (labels_of (steps_of (paths_of fs)))))))

pub has-6 : (s : FolderSet) (last : ℕ) → has (number_of PathTooLong) (faults_after last s) ≡ any path_long (paths_of s)
unfolding faults_after any paths_of
has-6 [] last = refl
has-6 (folder n ps ∷ fs) last =
    line-has 6 last n ps fs ∙
    (ap₂ (λ a b. leb n last && false || (a || b)) (paths-has-6 ps) (has-6 fs n) ∙
    (ap (λ a. a || (any path_long ps || any path_long (paths_of fs))) (and-false (leb n last)) ∙ sym (any_append path_long ps (paths_of fs))))

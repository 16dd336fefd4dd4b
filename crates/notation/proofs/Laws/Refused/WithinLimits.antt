-- A well-formed set that meets no refusal fits its tables: a folder has a path, and no path is over its limit of steps.
use Prim.Native.Nat.{ℕ, zero, suc, ◌+◌, ◌*◌, ◌≤◌, ◌<◌, zero-le}
use mathlib.Core.Path.{◌≡◌, refl, ap}
use mathlib.Core.Bool.{Bool, true, false, ◌&&◌, cond}
use mathlib.Core.List.{List, [], ◌∷◌, ◌++◌}
use native.Mathlib.Nat.{not-suc-le-zero, le_of_suc-le-suc}
use native.Mathlib.Omega.{arith}
use borrow.Author.Tests.{ltb-false, leb-true, leb-false}
use lib.Dec.{leb, ltb}
use lib.ListN.{length, get_or, length-append}
use Rattle.notation.specs.Limits.{max_set_bytes, max_number, max_paths, max_steps, max_labels}
use Rattle.notation.specs.Sets.{Path, folder, FolderSet, test_of, folder_number}
use Rattle.text.specs.declared.refusals.Refusal.{Refusal}
use Rattle.text.specs.declared.refusals.Refusal.TheVariants.{OutOfOrder, NameTooLong, PathTooLong}
use Rattle.text.specs.Lists.{every, non_empty}
use Rattle.notation.specs.Form.{formed_path, formed_folder, formed, paths_of, steps_of, labels_of, over_bytes, over_limits, long_test, step_faults, path_faults, paths_faults, faults_after, faults}
use Rattle.notation.specs.Print.{print}
use Rattle.text.proofs.Laws.Tests.{and_left, and_right, or_left, or_right}
use Rattle.notation.proofs.Laws.Stored.FolderTable.{no_folder}
use Rattle.notation.proofs.Laws.Parts.{steps-append}
use Rattle.notation.proofs.Laws.Refused.Fitting.{Fitting}

-- the parts of an empty list are empty
pub none_left : {A : Type 0} (l r : List A) → l ++ r ≡ [] → l ≡ []
none_left [] r e = refl
none_left (x ∷ l) r e = cc

pub none_right : {A : Type 0} (l r : List A) → l ++ r ≡ [] → r ≡ []
none_right [] r e = e
none_right (x ∷ l) r e = cc

-- no fault, so the test fails
pub unfaulted : (r : Refusal) (b : Bool) → cond b (r ∷ []) [] ≡ [] → b ≡ false
unfaulted r true e = cc
unfaulted r false e = refl

path-short : (k : ℕ) (p : Path) → k ≤ max_steps → path_faults k p ≡ [] → k + length p ≤ max_steps
unfolding path_faults
path-short k [] h e = omega arith
path-short k (s ∷ p) h e =
    let l : step_faults k s ≡ [] = none_left (step_faults k s) (path_faults (suc k) p) e in
    let b : leb max_steps k ≡ false =
    unfaulted PathTooLong (leb max_steps k) (none_right (cond (long_test (test_of s)) (NameTooLong ∷ []) []) (cond (leb max_steps k) (PathTooLong ∷ []) []) l) in
    let m : k < max_steps = leb-false max_steps k b in
    omega (arith, path-short (suc k) p m (none_right (step_faults k s) (path_faults (suc k) p) e))

paths-short : (ps : List Path) → paths_faults ps ≡ [] → length (steps_of ps) ≤ length ps * max_steps
unfolding paths_faults steps_of max_steps
paths-short [] e = omega arith
paths-short (p ∷ ps) e =
    omega (
      arith,
      length-append p (steps_of ps),
      path-short 0 p zero-le (none_left (path_faults 0 p) (paths_faults ps) e),
      paths-short ps (none_right (path_faults 0 p) (paths_faults ps) e),
    )

steps-short : (last : ℕ) (s : FolderSet) → faults_after last s ≡ [] → length (steps_of (paths_of s)) ≤ length (paths_of s) * max_steps
unfolding faults_after paths_of steps_of max_steps
steps-short last [] e = omega arith
steps-short last (folder n ps ∷ fs) e =
    let r : paths_faults ps ++ faults_after n fs ≡ [] = none_right (cond (leb n last) (OutOfOrder ∷ []) []) (paths_faults ps ++ faults_after n fs) e in
    omega (
      arith,
      ap length (steps-append ps (paths_of fs)),
      length-append (steps_of ps) (steps_of (paths_of fs)),
      length-append ps (paths_of fs),
      paths-short ps (none_left (paths_faults ps) (faults_after n fs) r),
      steps-short n fs (none_right (paths_faults ps) (faults_after n fs) r),
    )

some-path : (ps : List Path) → non_empty ps ≡ true → 1 ≤ length ps
some-path [] e = let z : ◌≡◌ {A = ℕ} 0 1 = cc in omega arith
some-path (p ∷ ps) e = omega arith

folders-few : (s : FolderSet) → formed s ≡ true → length s ≤ length (paths_of s)
unfolding formed every formed_folder paths_of
folders-few [] e = omega arith
folders-few (folder n ps ∷ fs) e =
    let l : formed_folder (folder n ps) ≡ true = and_left (formed_folder (folder n ps)) (formed fs) e in
    let m : (non_empty ps && every formed_path ps) ≡ true = and_right (leb 1 n && leb n max_number) (non_empty ps && every formed_path ps) l in
    omega (
      arith,
      length-append ps (paths_of fs),
      some-path ps (and_left (non_empty ps) (every formed_path ps) m),
      folders-few fs (and_right (formed_folder (folder n ps)) (formed fs) e),
    )

numbers-low : (s : FolderSet) → formed s ≡ true → (i : ℕ) → i < length s → folder_number (get_or s i no_folder) ≤ max_number
unfolding formed every formed_folder
numbers-low [] e i h = absurd (not-suc-le-zero h)
numbers-low (folder n ps ∷ fs) e zero h =
    let l : formed_folder (folder n ps) ≡ true = and_left (formed_folder (folder n ps)) (formed fs) e in
    let w : (leb 1 n && leb n max_number) ≡ true = and_left (leb 1 n && leb n max_number) (non_empty ps && every formed_path ps) l in
    leb-true n max_number (and_right (leb 1 n) (leb n max_number) w)
numbers-low (folder n ps ∷ fs) e (suc i) h = numbers-low fs (and_right (formed_folder (folder n ps)) (formed fs) e) i (le_of_suc-le-suc h)

-- no refusal of a set: it fits
pub fitting : (s : FolderSet) → formed s ≡ true → over_bytes (print s) ≡ false → faults s ≡ [] → over_limits s ≡ false → Fitting s
unfolding over_limits max_paths max_steps
fitting s well bytes faultless over_capacity =
    let paths : length (paths_of s) ≤ max_paths =
    ltb-false max_paths (length (paths_of s)) (or_left (ltb max_paths (length (paths_of s))) (ltb max_labels (length (labels_of (steps_of (paths_of s))))) over_capacity) in
    record {
      bytes = ltb-false max_set_bytes (length (print s)) bytes;
      folders = omega (arith, folders-few s well);
      paths = paths;
      steps = omega (arith, steps-short 0 s faultless);
      labels =
          ltb-false max_labels (length (labels_of (steps_of (paths_of s))))
          (or_right (ltb max_paths (length (paths_of s))) (ltb max_labels (length (labels_of (steps_of (paths_of s))))) over_capacity);
      numbers = numbers-low s well;
    }

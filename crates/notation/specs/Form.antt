-- When a set is well formed, when a text is of the form, and the further conditions on which an accepted form is refused.
use Rattle.std.specs.Prelude.{ℕ, suc, ◌≡◌, Bool, true, false, ◌&&◌, ◌||◌, cond, List, [], ◌∷◌, ◌++◌, leb, ltb, length}
use Rattle.notation.specs.Limits.{max_number, max_steps, max_paths, max_labels, max_set_bytes}
use Rattle.text.specs.Names.{name_form, too_long, within}
use Rattle.notation.specs.Sets.{Test, label, star, Step, Path, Folder, folder, FolderSet, test_of, folder_paths}
use Rattle.notation.specs.Print.{print}
use Rattle.text.specs.Lists.{every, any, non_empty}
use Rattle.text.specs.declared.refusals.Refusal.{Refusal}
use Rattle.text.specs.declared.refusals.Refusal.TheVariants.{OutOfOrder, NameTooLong, PathTooLong}

-- labels have name form, of any length
abbrev pub formed_test : Test → Bool
formed_test (label n) = name_form n
formed_test star = true

abbrev pub formed_step : Step → Bool
formed_step s = formed_test (test_of s)

unfoldable pub formed_path : Path → Bool
formed_path p = non_empty p && every formed_step p

-- numbers are 1 to 9999; no folder and no path is empty
unfoldable pub formed_folder : Folder → Bool
formed_folder (folder n ps) = within 1 max_number n && (non_empty ps && every formed_path ps)

unfoldable pub formed : FolderSet → Bool
formed s = every formed_folder s

-- the text is of the form: some well-formed set prints to it. Without such a set, refusal 3
pub record OfForm (text : List ℕ) : Type 0 where
  pub set : FolderSet
  pub well : formed set ≡ true
  pub prints : print set ≡ text

-- all paths of a set, in set order: a path's place is its index here
unfoldable pub paths_of : FolderSet → List Path
paths_of [] = []
paths_of (f ∷ fs) = folder_paths f ++ paths_of fs

-- all steps of some paths, in order
unfoldable pub steps_of : List Path → List Step
steps_of [] = []
steps_of (p ∷ ps) = p ++ steps_of ps

abbrev pub label_of : Test → List (List ℕ)
label_of (label n) = n ∷ []
label_of star = []

-- the labels of some steps, in order, repeats counted
unfoldable pub labels_of : List Step → List (List ℕ)
labels_of [] = []
labels_of (s ∷ ss) = label_of (test_of s) ++ labels_of ss

-- over the byte limit of a set (refusal 2)
abbrev pub over_bytes : List ℕ → Bool
over_bytes text = ltb max_set_bytes (length text)

-- over 128 paths or 1,024 labels (refusal 7)
unfoldable pub over_limits : FolderSet → Bool
over_limits s = ltb max_paths (length (paths_of s)) || ltb max_labels (length (labels_of (steps_of (paths_of s))))

abbrev pub long_test : Test → Bool
long_test (label n) = too_long n
long_test star = false

-- what is wrong with a set, in the order of its text: a number that is not above the one before (4); at each step a label over the
-- length of a name (5) and then a step over a path's limit (6). `k` counts the steps of the path before this one
abbrev pub step_faults : ℕ → Step → List Refusal
step_faults k s = cond (long_test (test_of s)) (NameTooLong ∷ []) [] ++ cond (leb max_steps k) (PathTooLong ∷ []) []

unfoldable pub path_faults : ℕ → Path → List Refusal
path_faults k [] = []
path_faults k (s ∷ p) = step_faults k s ++ path_faults (suc k) p

unfoldable pub paths_faults : List Path → List Refusal
paths_faults [] = []
paths_faults (p ∷ ps) = path_faults 0 p ++ paths_faults ps

-- `last` is the number of the folder before, 0 where there is none
unfoldable pub faults_after : ℕ → FolderSet → List Refusal
faults_after last [] = []
faults_after last (folder n ps ∷ fs) = cond (leb n last) (OutOfOrder ∷ []) [] ++ (paths_faults ps ++ faults_after n fs)

abbrev pub faults : FolderSet → List Refusal
faults s = faults_after 0 s

-- the conditions of 4, 5 and 6 by themselves, whatever stands before in the text

-- some number is not above the one before it; `last` stands before the first
unfoldable pub numbers_fall_after : ℕ → FolderSet → Bool
numbers_fall_after last [] = false
numbers_fall_after last (folder n ps ∷ fs) = leb n last || numbers_fall_after n fs

-- some number is not above the one before it, or the first is 0
abbrev pub numbers_fall : FolderSet → Bool
numbers_fall s = numbers_fall_after 0 s

-- some label is over the length of a name
unfoldable pub names_long : FolderSet → Bool
names_long s = any too_long (labels_of (steps_of (paths_of s)))

abbrev pub path_long : Path → Bool
path_long p = ltb max_steps (length p)

-- some path is over the limit of its steps
unfoldable pub paths_long : FolderSet → Bool
paths_long s = any path_long (paths_of s)

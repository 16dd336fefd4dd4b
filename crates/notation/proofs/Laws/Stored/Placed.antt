-- Where the paths and the lines of a set stand in its text.
use Prim.Native.Nat.{ℕ, ◌+◌}
use mathlib.Core.Path.{refl, sym, ap}
use mathlib.Core.List.{List, [], ◌∷◌, ◌++◌, append-nil}
use native.Mathlib.Omega.{arith}
use lib.ListN.{length}
use Rattle.notation.specs.Sets.{Step, Path, Folder, folder, FolderSet}
use Rattle.text.specs.Decimal.{decimal}
use Rattle.notation.specs.Print.{folder_word, header, footer, print_step, print_path, print_paths, print_folder, print_folders, print}
use Rattle.notation.specs.Layout.{after_number}
use Rattle.notation.proofs.Laws.Stored.Stands.{Stands, left, right}

module _ {text : List ℕ} (at : ℕ) where
  -- the first step of a path, and the others
  pub step_in : (s : Step) (p : Path) → Stands at (print_path (s ∷ p)) text → Stands at (print_step s) text
  unfolding print_path
  step_in s p h = left (print_step s) (print_path p) h

  pub steps-past : (s : Step) (p : Path) → Stands at (print_path (s ∷ p)) text → Stands (at + length (print_step s)) (print_path p) text
  unfolding print_path
  steps-past s p h = right (print_step s) (print_path p) at (at + length (print_step s)) refl h

  -- the first path of a line, and the others
  from-path : (p : Path) (ps : List Path) → Stands at (print_paths (p ∷ ps)) text → Stands (at + 2) (print_path p ++ 41 ∷ print_paths ps) text
  unfolding print_paths
  from-path p ps h = right (32 ∷ 40 ∷ []) (print_path p ++ 41 ∷ print_paths ps) at (at + 2) refl h

  pub path-in : (p : Path) (ps : List Path) → Stands at (print_paths (p ∷ ps)) text → Stands (at + 2) (print_path p) text
  path-in p ps h = left (print_path p) (41 ∷ print_paths ps) (from-path p ps h)

  pub paths-past : (p : Path) (ps : List Path) → Stands at (print_paths (p ∷ ps)) text → Stands (at + (length (print_path p) + 3)) (print_paths ps) text
  paths-past p ps h =
      right (41 ∷ []) (print_paths ps) (at + 2 + length (print_path p)) (at + (length (print_path p) + 3)) (omega arith)
      (right (print_path p) (41 ∷ print_paths ps) (at + 2) (at + 2 + length (print_path p)) refl (from-path p ps h))

  -- the paths of the first line, and the other lines
  pub line-paths : (n : ℕ) (ps : List Path) (fs : FolderSet) → Stands at (print_folders (folder n ps ∷ fs)) text → Stands (after_number at n) (print_paths ps) text
  unfolding print_folders print_folder folder_word
  line-paths n ps fs h =
      left (print_paths ps) footer
      (right (decimal n) (print_paths ps ++ footer) (at + 8) (after_number at n) (omega arith)
      (right folder_word (decimal n ++ (print_paths ps ++ footer)) at (at + 8) refl (left (print_folder (folder n ps)) (print_folders fs) h)))

  pub lines-past : (f : Folder) (fs : FolderSet) → Stands at (print_folders (f ∷ fs)) text → Stands (at + length (print_folder f)) (print_folders fs) text
  unfolding print_folders
  lines-past f fs h = right (print_folder f) (print_folders fs) at (at + length (print_folder f)) refl h

pub lines-in : (s : FolderSet) → Stands 9 (print_folders s) (print s)
unfolding print header
lines-in s = record {
  before = header;
  after = [];
  split = sym (ap (λ (l : List ℕ). header ++ l) (append-nil (print_folders s)));
  size = refl;
}

-- Of an accepted set no path is empty.
use Prim.Native.Nat.{ℕ}
use mathlib.Core.Path.{◌≡◌, refl}
use mathlib.Core.Bool.{true, ◌&&◌}
use mathlib.Core.List.{List, [], ◌∷◌}
use Rattle.text.specs.Names.{within}
use Rattle.notation.specs.Limits.{max_number}
use Rattle.notation.specs.Sets.{Path, folder, FolderSet}
use Rattle.text.specs.Lists.{every, non_empty}
use Rattle.notation.specs.Form.{formed_step, formed_path, formed_folder, formed, paths_of}
use Rattle.notation.specs.Accepted.{Accepted}
use Rattle.text.proofs.Laws.Lists.{every_append}
use Rattle.text.proofs.Laws.Tests.{and_left, and_right, both_true}

formed-some : (ps : List Path) → every formed_path ps ≡ true → every non_empty ps ≡ true
unfolding every formed_path
formed-some [] h = refl
formed-some (p ∷ ps) h =
    both_true (and_left (non_empty p) (every formed_step p) (and_left (formed_path p) (every formed_path ps) h)) (formed-some ps (and_right (formed_path p) (every formed_path ps) h))

pub paths-full : (s : FolderSet) → formed s ≡ true → every non_empty (paths_of s) ≡ true
unfolding formed every paths_of formed_folder
paths-full [] h = refl
paths-full (folder n ps ∷ fs) h =
    let b : (within 1 max_number n && (non_empty ps && every formed_path ps)) ≡ true = and_left (formed_folder (folder n ps)) (every formed_folder fs) h in
    every_append non_empty ps (paths_of fs)
    (formed-some ps (and_right (non_empty ps) (every formed_path ps) (and_right (within 1 max_number n) (non_empty ps && every formed_path ps) b)))
    (paths-full fs (and_right (formed_folder (folder n ps)) (every formed_folder fs) h))

module _ (text : List ℕ) (s : FolderSet) (a : Accepted text s) where
  pub accepted-full : every non_empty (paths_of s) ≡ true
  accepted-full = paths-full s a.well

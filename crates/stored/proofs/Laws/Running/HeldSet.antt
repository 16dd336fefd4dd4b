-- The automaton of a set holds its folders, in order, and the texts of its paths.
use Rattle.std.proofs.Common.{Some}
use Prim.Native.Nat.{ℕ, ◌<◌}
use mathlib.Core.Path.{◌≡◌}
use mathlib.Core.List.{List, []}
use lib.ListN.{length, get_or}
use Rattle.notation.specs.Sets.{FolderSet, folder_number, folder_paths}
use Rattle.notation.specs.Form.{paths_of}
use Rattle.notation.specs.Print.{print_path}
use Rattle.notation.specs.declared.PathPlace.{PathPlace}
use Rattle.notation.proofs.Laws.Stored.FolderTable.{no_folder, paths_before}
use Rattle.notation.proofs.Laws.Stored.Reads.{folders-read}
use Rattle.notation.proofs.Laws.Stored.ReadFolders.{folder-read}
use Rattle.notation.proofs.Laws.Stored.ReadPaths.{path-read}
use Rattle.stored.specs.HeldSet.{folders_held, folder_held, path_held}
use Rattle.stored.proofs.Laws.Running.Means.{Means}

module _ (s : FolderSet) (a : List ℕ) (m : Means s a) where
  pub folders-held : folders_held a ≡ length s
  unfolding folders_held
  folders-held = rw m.stored (folders-read s m.fit m.more)

  pub folder-held : (i : ℕ) → i < length s
      → folder_held a i ≡ Some (record { number = record { 0 = folder_number (get_or s i no_folder) }; first = record { 0 = paths_before s i }; paths = length (folder_paths (get_or s i no_folder)) })
  unfolding folder_held
  folder-held i h = rw m.stored (folder-read s m.fit m.more i h)

  pub path-held : (place : PathPlace) → place.0 < length (paths_of s) → path_held a place ≡ print_path (get_or (paths_of s) place.0 [])
  unfolding path_held
  path-held place h = rw m.stored (path-read s m.fit m.more place.0 h).bytes

-- A set that fits the limits of the notation, as far as a read set's tables need it.
use Prim.Native.Nat.{ℕ, ◌*◌, ◌≤◌, ◌<◌}
use mathlib.Core.Path.{◌≡◌, refl}
use lib.ListN.{length, get_or, length-map}
use Rattle.notation.specs.Limits.{max_set_bytes, max_number, max_paths, max_steps, max_labels}
use Rattle.notation.specs.Sets.{Step, step, FolderSet, folder_number}
use Rattle.notation.specs.Form.{paths_of, steps_of, labels_of}
use Rattle.notation.specs.Print.{print}
use Rattle.notation.specs.Layout.{step_entry, tables_of}
use Rattle.notation.proofs.Laws.Stored.Entries.{map-width}
use Rattle.notation.proofs.Laws.Stored.Sections.{Roomy}
use Rattle.notation.proofs.Laws.Stored.FolderTable.{no_folder, folder-width, folder-count}
use Rattle.notation.proofs.Laws.Stored.PathTable.{path-rows, rows-width, rows-count}
use Rattle.notation.proofs.Laws.Stored.LabelTable.{label-rows, label-width, label-count}

pub record Fitting (s : FolderSet) : Type 0 where
  pub bytes : length (print s) ≤ max_set_bytes
  pub folders : length s ≤ max_paths
  pub paths : length (paths_of s) ≤ max_paths
  pub steps : length (steps_of (paths_of s)) ≤ max_paths * max_steps
  pub labels : length (labels_of (steps_of (paths_of s))) ≤ max_labels
  pub numbers : (i : ℕ) → i < length s → folder_number (get_or s i no_folder) ≤ max_number

pub one_byte : (x : Step) → length (step_entry x) ≡ 1
one_byte (step a t) = refl

-- its tables fit their room
pub roomy : (s : FolderSet) → Fitting s → Roomy (print s) (tables_of s)
unfolding tables_of
roomy s f = record {
  bytes = f.bytes;
  folders = rw (folder-count 0 s) f.folders;
  paths = rw (rows-count (path-rows s)) f.paths;
  steps = rw (length-map (steps_of (paths_of s)) step_entry) f.steps;
  labels = rw (label-count (label-rows s)) f.labels;
  folder_width = folder-width 0 s;
  path_width = rows-width (path-rows s);
  step_width = map-width step_entry 1 one_byte (steps_of (paths_of s));
  label_width = label-width (label-rows s);
}

-- Folder sets: a path is a list of steps, a folder a number with paths, a set a list of folders.
use Rattle.std.specs.Prelude.{ℕ, List}
use Rattle.text.specs.Names.{Name}

-- `/` and `//`
pub data Axis : Type 0 where
  child descendant : Axis

-- a label, or `*`
pub data Test : Type 0 where
  label : Name → Test
  star : Test

pub data Step : Type 0 where
  step : Axis → Test → Step

abbrev pub Path : Type 0
Path = List Step

pub data Folder : Type 0 where
  folder : ℕ → List Path → Folder

abbrev pub FolderSet : Type 0
FolderSet = List Folder

abbrev pub axis_of : Step → Axis
axis_of (step a t) = a

abbrev pub test_of : Step → Test
test_of (step a t) = t

-- the folder's number, and its paths
abbrev pub folder_number : Folder → ℕ
folder_number (folder n ps) = n

abbrev pub folder_paths : Folder → List Path
folder_paths (folder n ps) = ps

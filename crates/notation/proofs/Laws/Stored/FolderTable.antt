-- The folder table of a set: entry i is folder i's number and the count of paths of the folders before it.
use Prim.Native.Nat.{ℕ, zero, suc, ◌+◌, ◌≤◌, zero-le, ◌<◌}
use mathlib.Core.Path.{◌≡◌, refl, ap}
use mathlib.Core.List.{[], ◌∷◌, append-nil}
use native.Mathlib.Nat.{zero-add, add-zero, add_assoc, not-suc-le-zero, le_of_suc-le-suc}
use native.Mathlib.Omega.{arith}
use lib.ListN.{length, get_or, take, length-append}
use lib.Seq.{take_all}
use Rattle.notation.specs.Sets.{Folder, folder, FolderSet, folder_number, folder_paths}
use Rattle.notation.specs.Form.{paths_of}
use Rattle.notation.specs.Layout.{folder_size, folder_entry, folder_table}
use Rattle.notation.proofs.Laws.Stored.Entries.{OfWidth, none, more}

-- what `get_or` gives past the end
abbrev pub no_folder : Folder
no_folder = folder 0 []

-- the count of paths before folder i
abbrev pub paths_before : FolderSet → ℕ → ℕ
paths_before s i = length (paths_of (take i s))

pub folder-width : (k : ℕ) (fs : FolderSet) → OfWidth folder_size (folder_table k fs)
unfolding folder_table folder_size
folder-width k [] = none
folder-width k (folder n ps ∷ fs) = more refl (folder-width (k + length ps) fs)

pub folder-count : (k : ℕ) (fs : FolderSet) → length (folder_table k fs) ≡ length fs
unfolding folder_table
folder-count k [] = refl
folder-count k (folder n ps ∷ fs) = ap suc (folder-count (k + length ps) fs)

pub folder-row : (k : ℕ) (fs : FolderSet) (i : ℕ) → i < length fs
    → get_or (folder_table k fs) i [] ≡ folder_entry (folder_number (get_or fs i no_folder)) (k + paths_before fs i)
unfolding folder_table paths_of
folder-row k [] i h = absurd (not-suc-le-zero h)
folder-row k (folder n ps ∷ fs) zero h = rw add-zero
folder-row k (folder n ps ∷ fs) (suc i) h =
    rw (length-append ps (paths_of (take i fs)), ← add_assoc k (length ps) (paths_before fs i)) (folder-row (k + length ps) fs i (le_of_suc-le-suc h))

-- folder i's paths are those from the count before it to the count before the next folder
pub paths-between : (s : FolderSet) (i : ℕ) → i < length s
    → paths_before s i + length (folder_paths (get_or s i no_folder)) ≡ paths_before s (suc i)
unfolding paths_of
paths-between [] i h = absurd (not-suc-le-zero h)
paths-between (f ∷ fs) zero h = rw append-nil (zero-add (length (folder_paths f)))
paths-between (f ∷ fs) (suc i) h =
    omega (
      arith,
      paths-between fs i (le_of_suc-le-suc h),
      length-append (folder_paths f) (paths_of (take i fs)),
      length-append (folder_paths f) (paths_of (take (suc i) fs)),
    )

pub paths-before-all : (s : FolderSet) (i : ℕ) → length s ≤ i → paths_before s i ≡ length (paths_of s)
paths-before-all s i h = rw (take_all i s h)

pub paths-before-most : (s : FolderSet) (i : ℕ) → paths_before s i ≤ length (paths_of s)
unfolding paths_of
paths-before-most [] zero = zero-le
paths-before-most [] (suc i) = zero-le
paths-before-most (f ∷ fs) zero = zero-le
paths-before-most (f ∷ fs) (suc i) =
    omega (arith, paths-before-most fs i, length-append (folder_paths f) (paths_of (take i fs)), length-append (folder_paths f) (paths_of fs))

-- Folders: the places of a folder's paths, and when a folder is matched (paper 01: marked).
use Rattle.std.specs.Prelude.{ℕ, zero, suc, ◌+◌, ◌≡◌, Bool, true, cond, eqb, length}
use mathlib.Core.List.{List, [], ◌∷◌, ◌++◌, Memᴰ}
use Rattle.notation.specs.Sets.{Folder, folder, FolderSet}
use Rattle.text.specs.Lists.{any}
use Rattle.model.specs.Calls.{State}

-- as many numbers as `count`, from `first` on
unfoldable pub count_from : ℕ → ℕ → List ℕ
count_from first zero = []
count_from first (suc count) = first ∷ count_from (suc first) count

-- the places of the paths of the folder of this number; `first` is the place of the first path
unfoldable pub places_from : ℕ → FolderSet → ℕ → List ℕ
places_from first [] number = []
places_from first (folder n ps ∷ fs) number = cond (eqb n number) (count_from first (length ps)) [] ++ places_from (first + length ps) fs number

abbrev pub places_of : FolderSet → ℕ → List ℕ
places_of set number = places_from 0 set number

-- a folder is matched when one of its paths is
pub record FolderMatched (set : FolderSet) (s : State) (number : ℕ) : Type 0 where
  pub place : ℕ
  pub of_folder : Memᴰ place (places_of set number)
  pub is_matched : s.matched place ≡ true

-- the same, computed
abbrev pub folder_matched : FolderSet → State → ℕ → Bool
folder_matched set s number = any s.matched (places_of set number)

-- the larger set has all folders of the smaller
abbrev pub HasFolders : FolderSet → FolderSet → Type 0
HasFolders larger smaller = (f : Folder) → Memᴰ f smaller → Memᴰ f larger

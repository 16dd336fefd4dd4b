-- No path of a well-formed set is empty.
use Prim.Native.Nat.{ℕ, ◌≤◌, ◌<◌}
use mathlib.Core.Path.{◌≡◌, refl}
use mathlib.Core.Bool.{Bool, true, ◌&&◌}
use mathlib.Core.List.Memᴰ
use mathlib.Core.List.{List, [], ◌∷◌, Memᴰ}
use mathlib.Core.Logic.{◌⊎◌, inl, inr}
use native.Mathlib.Omega.{arith}
use lib.ListN.{length, get_or}
use Rattle.notation.specs.Limits.{max_number}
use Rattle.text.specs.Names.{within}
use Rattle.notation.specs.Sets.{Path, Folder, folder, FolderSet, folder_paths}
use Rattle.text.specs.Lists.{every, non_empty}
use Rattle.notation.specs.Form.{formed_step, formed_path, formed_folder, formed, paths_of}
use Rattle.text.proofs.Laws.Tests.{both, clash}
use Rattle.stored.proofs.Laws.Tables.States.{at-among}

every-at : {A : Type 0} (f : A → Bool) (l : List A) (a : A) → every f l ≡ true → Memᴰ a l → f a ≡ true
unfolding every
every-at f [] a h m = absurd (Memᴰ.not-nil m)
every-at f (b ∷ l) a h m = elim (Memᴰ.cases_cons m) [ inl e ↦ rw e (both (f b) (every f l) h).0 | inr r ↦ every-at f l a (both (f b) (every f l) h).1 r ]

pub folder-paths : (f : Folder) → formed_folder f ≡ true → every formed_path (folder_paths f) ≡ true
unfolding formed_folder
folder-paths (folder n ps) h = (both (non_empty ps) (every formed_path ps) (both (within 1 max_number n) (non_empty ps && every formed_path ps) h).1).1

paths-formed : (s : FolderSet) → formed s ≡ true → (p : Path) → Memᴰ p (paths_of s) → formed_path p ≡ true
unfolding formed paths_of every
paths-formed [] h p m = absurd (Memᴰ.not-nil m)
paths-formed (f ∷ fs) h p m = go (both (formed_folder f) (every formed_folder fs) h) (λ b. paths-formed fs b p) (Memᴰ.append_cases (folder_paths f) m)
  where
    go : (formed_folder f ≡ true) × (every formed_folder fs ≡ true) → (every formed_folder fs ≡ true → Memᴰ p (paths_of fs) → formed_path p ≡ true) → Memᴰ p (folder_paths f) ⊎ Memᴰ p (paths_of fs) → formed_path p ≡ true
    go b ih (inl x) = every-at formed_path (folder_paths f) p (folder-paths f b.0) x
    go b ih (inr x) = ih b.1 x

some-step : (p : Path) → non_empty p ≡ true → 1 ≤ length p
some-step [] h = clash h refl
some-step (x ∷ p) h = omega arith

pub full-paths : (s : FolderSet) → formed s ≡ true → (i : ℕ) → i < length (paths_of s) → 1 ≤ length (get_or (paths_of s) i [])
unfolding formed_path
full-paths s h i k =
    let p = get_or (paths_of s) i [] in
    some-step p (both (non_empty p) (every formed_step p) (paths-formed s h p (at-among (paths_of s) [] i k))).0

-- On the bytes of a set, a folder is read as its number, the count of paths before it, and its own count of paths.
use Rattle.std.proofs.Common.{Some, None}
use Prim.Native.Nat.{ℕ, suc, ◌+◌, ◌-◌, ◌≤◌, ◌<◌, suc-le-suc, min}
use mathlib.Core.Path.{◌≡◌, refl, sym}
use mathlib.Core.List.{List, [], ◌∷◌, ◌++◌}
use native.Mathlib.Nat.{zero-add, suc-add, add-suc, add-zero}
use native.Mathlib.Numerals.{add-one}
use native.Mathlib.Omega.{arith}
use borrow.Author.Tests.{le-leb, ltb-true, ltb-false}
use lib.Dec.{ltb}
use lib.ListN.{length, get_or}
use Rattle.notation.specs.Limits.{max_number, max_paths}
use Rattle.notation.specs.Sets.{folder, FolderSet, folder_number, folder_paths}
use Rattle.notation.specs.Print.{print}
use Rattle.notation.specs.Layout.{set_size, folder_entry, folder_table, tables_of, set_part}
use Rattle.text.specs.Bytes.{joined}
use Rattle.notation.specs.Reads.{folder_entry_at, stored_number, stored_first, paths_end, folder_at, search_folder, folder_index, folder_of}
use Rattle.notation.specs.declared.FolderNumber.{FolderNumber}
use Rattle.notation.proofs.Laws.Stored.Stands.{Stands}
use Rattle.notation.proofs.Laws.Stored.Entries.{entry}
use Rattle.notation.proofs.Laws.Stored.Sections.{folders-stand}
use Rattle.notation.proofs.Laws.Stored.FolderTable.{no_folder, paths_before, folder-count, folder-row, paths-between, paths-before-all, paths-before-most}
use Rattle.text.proofs.Laws.Tests.{cases}
use Rattle.notation.proofs.Laws.Refused.Fitting.{Fitting, roomy}
use Rattle.notation.proofs.Laws.Stored.Words.{words-read, words-head}
use Rattle.notation.proofs.Laws.Stored.Reads.{folders-read, paths-read, whole, there, gone}

-- the search among stored numbers is the search among the folders that have them
search_is : (part : List ℕ) (number k : ℕ) (fs : FolderSet) → ((i : ℕ) → i < length fs → stored_number part (k + i) ≡ folder_number (get_or fs i no_folder))
    → search_folder part number k (length fs) ≡ folder_index number k fs
unfolding search_folder folder_index
search_is part number k [] same = refl
search_is part number k (folder n ps ∷ fs) same =
    let here : stored_number part k ≡ n = rw add-zero at (same 0 (omega arith)) in
    rw (here, search_is part number (suc k) fs (λ i h. rw (suc-add, ← add-suc) (same (suc i) (suc-le-suc h))))

module _ (s : FolderSet) (f : Fitting s) (rest : List ℕ) where
  -- a folder's number, the count of paths before it, and its count of paths
  folder-stands : (i : ℕ) → i < length s → Stands (folder_entry_at i) (folder_entry (folder_number (get_or s i no_folder)) (paths_before s i)) (set_part s ++ rest)
  unfolding set_part tables_of
  folder-stands i h =
      let k : i < length (folder_table 0 s) = rw (folder-count 0 s) h in
      let e : folder_entry (folder_number (get_or s i no_folder)) (paths_before s i) ≡ get_or (folder_table 0 s) i [] =
      rw (folder-row 0 s i h, zero-add) in
      rw e (entry i (roomy s f).folder_width k (folders-stand (print s) (tables_of s) (roomy s f) rest))

  number_read : (i : ℕ) → i < length s → stored_number (set_part s ++ rest) i ≡ folder_number (get_or s i no_folder)
  unfolding max_number joined
  number_read i h =
      words-head (folder_entry_at i) (folder_number (get_or s i no_folder)) (paths_before s i ∷ []) (omega (arith, f.numbers i h)) (folder-stands i h)

  first_read : (i : ℕ) → i < length s → stored_first (set_part s ++ rest) i ≡ paths_before s i
  unfolding max_paths joined
  first_read i h =
      words-read (folder_entry_at i) (folder_number (get_or s i no_folder) ∷ paths_before s i ∷ []) 1 (omega arith)
      (omega (arith, paths-before-most s i, f.paths)) (folder-stands i h)

  end_read : (i : ℕ) → i < length s → paths_end (set_part s ++ rest) i ≡ paths_before s (suc i)
  unfolding paths_end
  end_read i h = rw ((folders-read s f rest), add-one) (cases (ltb (suc i) (length s))
      (λ e. let k : suc i < length s = ltb-true (suc i) (length s) e in
      let c : suc i < max_paths = omega (arith, f.folders) in
      rw (there s f rest (length s) max_paths (suc i) k c) (first_read (suc i) k))
      (λ e. let k : length s ≤ suc i = ltb-false (suc i) (length s) e in
      rw (gone s f rest (length s) max_paths (suc i) k, (paths-read s f rest)) (sym (paths-before-all s (suc i) k))))

  pub folder-read : (i : ℕ) → i < length s
      → folder_at (set_part s ++ rest) i ≡ Some (record { number = record { 0 = folder_number (get_or s i no_folder) }; first = record { 0 = paths_before s i }; paths = length (folder_paths (get_or s i no_folder)) })
  unfolding folder_at
  folder-read i h =
      let k : i < max_paths = omega (arith, f.folders) in
      let n : paths_before s (suc i) - paths_before s i ≡ length (folder_paths (get_or s i no_folder)) = omega (arith, paths-between s i h) in
      rw ((folders-read s f rest), there s f rest (length s) max_paths i h k, number_read i h, first_read i h, end_read i h, n)

  -- the folder of a number
  pub folder-of-read : (number : FolderNumber) → folder_of (set_part s ++ rest) number ≡ folder_index number.0 0 s
  unfolding folder_of
  folder-of-read number =
      let m : min (length s) max_paths ≡ length s = omega (arith, f.folders) in
      rw (le-leb set_size (length (set_part s ++ rest)) (whole s f rest), folders-read s f rest, m)
      (search_is (set_part s ++ rest) number.0 0 s (λ i h. rw zero-add (number_read i h)))

  pub folder-missing : (i : ℕ) → length s ≤ i → folder_at (set_part s ++ rest) i ≡ None
  unfolding folder_at
  folder-missing i h = rw (folders-read s f rest, gone s f rest (length s) max_paths i h)

-- The numbers of a set without a fault rise, so the folder of a folder's number is that folder.
use Rattle.std.proofs.Common.{Some}
use Prim.Native.Nat.{ℕ, zero, suc, ◌+◌, ◌<◌}
use mathlib.Core.Path.{◌≡◌, refl}
use mathlib.Core.Bool.{cond}
use mathlib.Core.List.{List, [], ◌∷◌, ◌++◌}
use native.Mathlib.Nat.{suc-add, add-suc, add-zero, not-suc-le-zero, le_of_suc-le-suc}
use native.Mathlib.Omega.{arith}
use borrow.Author.Tests.{leb-false, eq-eqb, ne_eqb}
use lib.Dec.{leb}
use lib.ListN.{length, get_or}
use Rattle.notation.specs.Sets.{Path, folder, FolderSet, folder_number}
use Rattle.text.specs.declared.refusals.Refusal.TheVariants.{OutOfOrder}
use Rattle.notation.specs.Form.{paths_faults, faults_after}
use Rattle.notation.specs.Reads.{folder_index}
use Rattle.notation.proofs.Laws.Stored.FolderTable.{no_folder}
use Rattle.notation.proofs.Laws.Refused.WithinLimits.{unfaulted, none_left, none_right}

module _ (last n : ℕ) (ps : List Path) (fs : FolderSet) (clean : faults_after last (folder n ps ∷ fs) ≡ []) where
  first_above : last < n
  unfolding faults_after
  first_above =
      leb-false n last
      (unfaulted OutOfOrder (leb n last) (none_left (cond (leb n last) (OutOfOrder ∷ []) []) (paths_faults ps ++ faults_after n fs) clean))

  others-clean : faults_after n fs ≡ []
  unfolding faults_after
  others-clean =
      none_right (paths_faults ps) (faults_after n fs)
      (none_right (cond (leb n last) (OutOfOrder ∷ []) []) (paths_faults ps ++ faults_after n fs) clean)

-- every number is above the last one before the set
pub above : (last : ℕ) (fs : FolderSet) → faults_after last fs ≡ [] → (i : ℕ) → i < length fs → last < folder_number (get_or fs i no_folder)
above last [] e i h = absurd (not-suc-le-zero h)
above last (folder n ps ∷ fs) e zero h = first_above last n ps fs e
above last (folder n ps ∷ fs) e (suc i) h =
    omega (arith, first_above last n ps fs e, above n fs (others-clean last n ps fs e) i (le_of_suc-le-suc h))

pub rising-index : (last k : ℕ) (fs : FolderSet) → faults_after last fs ≡ [] → (i : ℕ) → i < length fs
    → folder_index (folder_number (get_or fs i no_folder)) k fs ≡ Some (k + i)
unfolding folder_index
rising-index last k [] e i h = absurd (not-suc-le-zero h)
rising-index last k (folder n ps ∷ fs) e zero h = rw (eq-eqb n n refl, add-zero)
rising-index last k (folder n ps ∷ fs) e (suc i) h =
    let j : i < length fs = le_of_suc-le-suc h in
    let m : n < folder_number (get_or fs i no_folder) = above n fs (others-clean last n ps fs e) i j in
    rw (ne_eqb n (folder_number (get_or fs i no_folder)) (λ q. omega arith), add-suc, ← suc-add)
    (rising-index n (suc k) fs (others-clean last n ps fs e) i j)

-- Where numbers rise, the places of a folder's paths are those of the one folder that has its number, and none where no folder has it.
use Rattle.std.proofs.Common.{Some, None}
use Prim.Native.Nat.{ℕ, suc, ◌+◌, ◌≤◌, ◌<◌}
use mathlib.Core.Path.{◌≡◌, refl}
use mathlib.Core.Bool.{Bool, true, false}
use mathlib.Core.List.{[], ◌∷◌, ◌++◌, append-nil}
use native.Mathlib.Omega.{arith}
use native.Mathlib.Nat.{add-zero}
use borrow.Author.Tests.{leb-false, eqb-true, ne_eqb}
use lib.Dec.{leb, eqb}
use lib.ListN.{length, get_or, take, length-append}
use Rattle.notation.specs.Sets.{folder, FolderSet, folder_number, folder_paths}
use Rattle.notation.specs.Form.{paths_of, numbers_fall_after}
use Rattle.text.specs.Lists.{any}
use Rattle.notation.specs.Reads.{folder_index}
use Rattle.notation.proofs.Laws.Stored.FolderTable.{no_folder, paths_before}
use Rattle.model.specs.Folders.{count_from, places_from}
use Rattle.text.proofs.Laws.Tests.{cases, neither}

-- some folder of the set has this number
abbrev pub has_number : FolderSet → ℕ → Bool
has_number s number = any (λ f. eqb (folder_number f) number) s

pub data Placed (first k number : ℕ) (fs : FolderSet) : Type 0 where
  missing : has_number fs number ≡ false → folder_index number k fs ≡ None → places_from first fs number ≡ [] → Placed first k number fs
  at : (i : ℕ) → has_number fs number ≡ true → i < length fs → folder_index number k fs ≡ Some (k + i)
      → places_from first fs number ≡ count_from (first + paths_before fs i) (length (folder_paths (get_or fs i no_folder))) → Placed first k number fs

-- numbers above the last are not it
none_above : (last first number : ℕ) (fs : FolderSet) → numbers_fall_after last fs ≡ false → number ≤ last → places_from first fs number ≡ []
unfolding numbers_fall_after places_from
none_above last first number [] h le = refl
none_above last first number (folder n ps ∷ fs) h le =
    let b = neither (leb n last) (numbers_fall_after n fs) h in
    let up : last < n = leb-false n last b.0 in
    rw (ne_eqb n number (λ e. omega arith)) (none_above n (first + length ps) number fs b.1 (omega arith))

pub placed : (last first k number : ℕ) (fs : FolderSet) → numbers_fall_after last fs ≡ false → Placed first k number fs
unfolding numbers_fall_after folder_index places_from any paths_of
placed last first k number [] h = missing refl refl refl
placed last first k number (folder n ps ∷ fs) h =
    let b = neither (leb n last) (numbers_fall_after n fs) h in
    cases (eqb n number) (λ t. here t b.1) (λ t. later t (placed n (first + length ps) (suc k) number fs b.1))
  where
    here : eqb n number ≡ true → numbers_fall_after n fs ≡ false → Placed first k number (folder n ps ∷ fs)
    here t up =
        at 0 (rw t) (omega arith) (rw (t, add-zero))
        (rw (t, none_above n (first + length ps) number fs up (omega (arith, eqb-true n number t)), append-nil (count_from first (length ps)), add-zero))

    later : eqb n number ≡ false → Placed (first + length ps) (suc k) number fs → Placed first k number (folder n ps ∷ fs)
    later t (missing e x y) = missing (rw (t, e)) (rw (t, x)) (rw (t, y))
    later t (at i e l x y) =
        let u : suc k + i ≡ k + suc i = omega arith in
        let v : first + length ps + paths_before fs i ≡ first + length (ps ++ paths_of (take i fs)) = omega (arith, length-append ps (paths_of (take i fs))) in
        at (suc i) (rw (t, e)) (omega arith) (rw (t, x, u)) (rw (t, y, v))

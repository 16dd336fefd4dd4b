-- Within the automaton of a set and the run of a machine's state, the listing by what is stored is the listing of the set and the state.
use Rattle.std.proofs.Common.{Some}
use Prim.Native.Nat.{ℕ, zero, suc, ◌+◌, ◌<◌, suc-le-suc}
use native.Mathlib.Omega.{arith}
use native.Mathlib.Nat.{zero-add, add-zero, add-suc, suc-add, not-suc-le-zero, le_of_suc-le-suc}
use mathlib.Core.Path.{◌≡◌, refl, ap₂}
use mathlib.Core.Bool.{Bool, cond}
use mathlib.Core.List.{List, [], ◌∷◌, ◌++◌, append_assoc}
use lib.ListN.{length, get_or, take, length-append, get_or-append}
use lib.Seq.{get_or-append-add}
use Rattle.notation.specs.Sets.{Path, folder, FolderSet, folder_number, folder_paths}
use Rattle.text.specs.Bytes.{joined}
use Rattle.text.specs.Lists.{non_empty, any}
use Rattle.notation.specs.Form.{paths_of}
use Rattle.notation.specs.Print.{print_path, print_paths, print_folder}
use Rattle.notation.proofs.Laws.Stored.FolderTable.{no_folder, paths_before, paths-between, paths-before-most}
use Rattle.model.specs.Folders.{count_from}
use Rattle.model.specs.Calls.{State}
use Rattle.stored.specs.Run.{run_of}
use Rattle.stored.specs.HeldSet.{folders_held, folder_held, path_held}
use Rattle.stored.specs.Asking.{place_matched, any_matched}
use Rattle.stored.specs.declared.counters.Counters.{Counters}
use Rattle.text.proofs.Laws.Tests.{cases}
use Rattle.model.proofs.Laws.Machine.Moves.{Few}
use Rattle.stored.proofs.Laws.Running.Means.{Means}
use Rattle.stored.proofs.Laws.Running.HeldSet.{folders-held, folder-held, path-held}
use Rattle.stored.proofs.Laws.Running.Asking.{place-matched}
use Rattle.filing.specs.Listing.{matched_paths, line_of, lines_from, listing}
use Rattle.filing.specs.Listed.{path_listed, paths_listed, line_listed, folder_listed, folders_listed, listing_in}

-- a place is stored as it is: its path's text and whether it is matched
pub record PlaceSame (a run : List ℕ) (matched : ℕ → Bool) (place : ℕ) (p : Path) : Type 0 where
  pub bit : place_matched a run (record { 0 = place }) ≡ matched place
  pub bytes : path_held a (record { 0 = place }) ≡ print_path p

abbrev PlacesSame : List ℕ → List ℕ → (ℕ → Bool) → ℕ → List Path → Type 0
PlacesSame a run matched first ps = (j : ℕ) → j < length ps → PlaceSame a run matched (first + j) (get_or ps j [])

module _ (a run : List ℕ) (matched : ℕ → Bool) where
  here : (first : ℕ) (p : Path) (ps : List Path) → PlacesSame a run matched first (p ∷ ps) → PlaceSame a run matched first p
  here first p ps h = rw add-zero at (h 0 (omega arith))

  later : (first : ℕ) (p : Path) (ps : List Path) → PlacesSame a run matched first (p ∷ ps) → PlacesSame a run matched (suc first) ps
  later first p ps h j k = rw (suc-add, ← add-suc) (h (suc j) (suc-le-suc k))

  piece : (place : ℕ) (p : Path) (more : List ℕ) → path_held a (record { 0 = place }) ≡ print_path p → path_listed a place ++ more ≡ 32 ∷ 40 ∷ (print_path p ++ 41 ∷ more)
  unfolding path_listed
  piece place p more e = rw (e, append_assoc (print_path p) (41 ∷ []) more)

  paths-same : (first : ℕ) (ps : List Path) → PlacesSame a run matched first ps
      → paths_listed a run (count_from first (length ps)) ≡ print_paths (matched_paths matched first ps)
  unfolding joined count_from matched_paths print_paths
  paths-same first [] h = refl
  paths-same first (p ∷ ps) h =
      let x = here first p ps h in
      rw (x.bit, paths-same (suc first) ps (later first p ps h))
      (cases (matched first) (λ t. rw t (piece first p (print_paths (matched_paths matched (suc first) ps)) x.bytes)) (λ f. rw f))

  some_same : (first : ℕ) (ps : List Path) → PlacesSame a run matched first ps
      → any_matched a run (count_from first (length ps)) ≡ non_empty (matched_paths matched first ps)
  unfolding any count_from matched_paths
  some_same first [] h = refl
  some_same first (p ∷ ps) h =
      rw ((here first p ps h).bit, some_same (suc first) ps (later first p ps h)) (cases (matched first) (λ t. rw t) (λ f. rw f))

  line-is : (n : ℕ) (qs : List Path) → cond (non_empty qs) (print_folder (folder n qs)) [] ≡ line_of n qs
  unfolding line_of
  line-is n [] = refl
  line-is n (q ∷ qs) = refl

  folder-same : (i n first : ℕ) (ps : List Path) → folder_held a i ≡ Some (record { number = record { 0 = n }; first = record { 0 = first }; paths = length ps }) → PlacesSame a run matched first ps
      → folder_listed a run i ≡ line_of n (matched_paths matched first ps)
  unfolding folder_listed line_listed print_folder
  folder-same i n first ps e h = rw (e, some_same first ps h, paths-same first ps h) (line-is n (matched_paths matched first ps))

  folders-same : (i first : ℕ) (fs : FolderSet)
      → ((j : ℕ) → j < length fs → folder_listed a run (i + j) ≡ line_of (folder_number (get_or fs j no_folder)) (matched_paths matched (first + paths_before fs j) (folder_paths (get_or fs j no_folder))))
      → folders_listed a run (count_from i (length fs)) ≡ lines_from matched first fs
  unfolding joined count_from lines_from paths_of
  folders-same i first [] h = refl
  folders-same i first (folder n ps ∷ fs) h =
      let x : folder_listed a run i ≡ line_of n (matched_paths matched first ps) = rw (add-zero i, add-zero first) at (h 0 (omega arith)) in
      ap₂ ◌++◌ x (folders-same (suc i) (first + length ps) fs (λ j k.
      let e : suc i + j ≡ i + suc j = omega arith in
      let d : first + length ps + paths_before fs j ≡ first + length (ps ++ paths_of (take j fs)) = omega (arith, length-append ps (paths_of (take j fs))) in
      rw (e, d) (h (suc j) (suc-le-suc k))))

-- the path of a place, by its folder
pub path-of : (s : FolderSet) (i j : ℕ) → i < length s → j < length (folder_paths (get_or s i no_folder))
    → get_or (paths_of s) (paths_before s i + j) [] ≡ get_or (folder_paths (get_or s i no_folder)) j []
unfolding paths_of
path-of [] i j h k = absurd (not-suc-le-zero h)
path-of (f ∷ fs) zero j h k = rw zero-add (get_or-append (folder_paths f) (paths_of fs) [] j k)
path-of (f ∷ fs) (suc i) j h k =
    let e : length (folder_paths f ++ paths_of (take i fs)) + j ≡ length (folder_paths f) + (paths_before fs i + j) = omega (arith, length-append (folder_paths f) (paths_of (take i fs))) in
    rw (e, get_or-append-add (folder_paths f) (paths_of fs) (paths_before fs i + j) []) (path-of fs i j (le_of_suc-le-suc h) k)

module _ (s : FolderSet) (a : List ℕ) (m : Means s a) (st : State) (few : Few s st []) (rest : List ℕ) where
  abbrev run : List ℕ
  run = run_of s st ++ rest

  pub place_same : (i j : ℕ) → i < length s → j < length (folder_paths (get_or s i no_folder)) → PlaceSame a run st.matched (paths_before s i + j) (get_or (folder_paths (get_or s i no_folder)) j [])
  place_same i j h k =
      let l : paths_before s i + j < length (paths_of s) = omega (arith, paths-between s i h, paths-before-most s (suc i)) in
      record {
        bit = place-matched s a m st few rest (paths_before s i + j) l;
        bytes = rw (← path-of s i j h k) (path-held s a m (record { 0 = paths_before s i + j }) l);
      }

  lines_same : folders_listed a run (count_from 0 (folders_held a)) ≡ lines_from st.matched 0 s
  lines_same = rw (folders-held s a m) (folders-same a run st.matched 0 0 s (λ j h. rw (zero-add j, zero-add (paths_before s j))
      (folder-same a run st.matched j (folder_number (get_or s j no_folder)) (paths_before s j) (folder_paths (get_or s j no_folder)) (folder-held s a m j h) (λ k l. place_same j k h l))))

  pub listing-same : (c : Counters) → c.opens ≡ st.opens → c.moves ≡ st.moves → listing_in a run c ≡ listing s st
  unfolding listing_in listing
  listing-same c o f = rw (o, f, lines_same)

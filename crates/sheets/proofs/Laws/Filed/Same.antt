-- On the automaton of a set and the run of a machine's state the rows by what is stored are those of the set and the state.
use Prim.Native.Nat.{ℕ, zero, suc, ◌+◌, ◌-◌, ◌≤◌, ◌<◌, suc-le-suc}
use native.Mathlib.Omega.{arith}
use native.Mathlib.Nat.{zero-add, add-zero, add-suc, suc-add, not-suc-le-zero}
use mathlib.Core.Path.{◌≡◌, refl, sym, ◌∙◌, ap, ap₂}
use mathlib.Core.Bool.{Bool, false}
use mathlib.Core.List.{List, [], ◌∷◌, ◌++◌, map, map-append, append-nil}
use lib.Dec.{leb, ltb}
use lib.ListN.{length, get_or, take, length-append}
use borrow.Author.Tests.{le-leb, lt-leb, leb-true, leb-false, ltb-true, ltb-false}
use Rattle.text.specs.Bytes.{joined}
use Rattle.text.proofs.Laws.Tests.{cases}
use Rattle.notation.specs.Limits.{max_paths}
use Rattle.notation.specs.Sets.{Path, folder, FolderSet, folder_number, folder_paths}
use Rattle.notation.specs.Form.{paths_of}
use Rattle.notation.proofs.Laws.Stored.FolderTable.{no_folder, paths_before, paths-between}
use Rattle.model.specs.Folders.{count_from}
use Rattle.model.specs.Calls.{State}
use Rattle.model.proofs.Laws.Machine.Moves.{Few}
use Rattle.stored.specs.Run.{run_of}
use Rattle.stored.specs.Asking.{place_matched}
use Rattle.stored.specs.HeldSet.{folders_held}
use Rattle.stored.proofs.Laws.Running.Means.{Means}
use Rattle.stored.proofs.Laws.Running.HeldSet.{folders-held, folder-held}
use Rattle.stored.proofs.Laws.Running.Asking.{place-missing}
use Rattle.filing.specs.Listing.{matched_paths}
use Rattle.filing.proofs.Laws.Listing.Same.{place_same}
use Rattle.sheets.specs.Sheet.{Row, row, sheet}
use Rattle.sheets.specs.SheetIn.{if_place_matched, matched_from, number_among, place_row, rows_in, sheet_in}
use Rattle.sheets.specs.SheetOf.{path_row}
use Rattle.sheets.proofs.Laws.Page.Counted.{joined-parts}

-- the rows of each folder's matched paths; `first` is the place of the first path
unfoldable pub rows_from : (ℕ → Bool) → ℕ → FolderSet → List Row
rows_from matched first [] = []
rows_from matched first (folder n ps ∷ fs) = map (path_row n) (matched_paths matched first ps) ++ rows_from matched (first + length ps) fs

module _ (a run : List ℕ) (matched : ℕ → Bool) where
  -- a place is stored as it is: whether it is matched, and its row
  record RowSame (place n : ℕ) (p : Path) : Type 0 where
    bit : place_matched a run (record { 0 = place }) ≡ matched place
    is_row : place_row a place ≡ path_row n p

  paths-same : (first n : ℕ) (ps : List Path) → ((j : ℕ) → j < length ps → RowSame (first + j) n (get_or ps j []))
      → map (place_row a) (matched_from a run first (length ps)) ≡ map (path_row n) (matched_paths matched first ps)
  unfolding joined count_from matched_paths
  paths-same first n [] h = refl
  paths-same first n (p ∷ ps) h =
      let here : RowSame first n p = rw add-zero at (h 0 (omega arith)) in
      let later = paths-same (suc first) n ps (λ j k. rw (suc-add, ← add-suc) (h (suc j) (suc-le-suc k))) in
      cases (matched first) (λ t. rw (here.bit, t, here.is_row, later)) (λ f. rw (here.bit, f, later))

  folders-same : (first : ℕ) (fs : FolderSet)
      → ((i j : ℕ) → i < length fs → j < length (folder_paths (get_or fs i no_folder)) → RowSame (first + paths_before fs i + j) (folder_number (get_or fs i no_folder)) (get_or (folder_paths (get_or fs i no_folder)) j []))
      → map (place_row a) (matched_from a run first (length (paths_of fs))) ≡ rows_from matched first fs
  unfolding joined count_from rows_from paths_of
  folders-same first [] h = refl
  folders-same first (folder n ps ∷ fs) h =
      let own = paths-same first n ps (λ j k. rw add-zero at (h 0 j (omega arith) k)) in
      let later = folders-same (first + length ps) fs (λ i j k l.
      let e : first + length ps + paths_before fs i + j ≡ first + length (ps ++ paths_of (take i fs)) + j = omega (arith, length-append ps (paths_of (take i fs))) in
      rw e (h (suc i) j (suc-le-suc k) l)) in
      rw (length-append ps (paths_of fs), joined-parts (if_place_matched a run) first (length ps) (length (paths_of fs)))
      (map-append (place_row a) (matched_from a run first (length ps)) (matched_from a run (first + length ps) (length (paths_of fs))) ∙ ap₂ ◌++◌ own later)

  pub none_from : (first n : ℕ) → ((i : ℕ) → first ≤ i → place_matched a run (record { 0 = i }) ≡ false) → matched_from a run first n ≡ []
  unfolding joined count_from
  none_from first zero h = refl
  none_from first (suc n) h = rw (h first (omega arith), none_from (suc first) n (λ i k. h i (omega arith)))

-- the paths before a folder are no fewer than those before an earlier one
before-later : (s : FolderSet) (i j : ℕ) → i ≤ j → j ≤ length s → paths_before s i ≤ paths_before s j
before-later s i zero h k = let e : i ≡ 0 = omega arith in rw e (omega arith)
before-later s i (suc j) h k =
    cases (leb i j)
    (λ t. omega (arith, before-later s i j (leb-true i j t) (omega arith), paths-between s j (omega arith)))
    (λ f. let e : i ≡ suc j = omega (arith, leb-false i j f) in rw e (omega arith))

module _ (s : FolderSet) (a : List ℕ) (m : Means s a) where
  -- the place of a path of folder i has that folder's number
  module _ (i j : ℕ) (h : i < length s) (k : j < length (folder_paths (get_or s i no_folder))) where
    abbrev place : ℕ
    place = paths_before s i + j

    number-among : (n : ℕ) → i < n → n ≤ length s → number_among a place n ≡ folder_number (get_or s i no_folder)
    unfolding number_among
    number-among zero l u = absurd (not-suc-le-zero l)
    number-among (suc n) l u =
        rw (folder-held s a m n (omega arith))
        (cases (ltb i n)
        (λ t.
        let later : i < n = ltb-true i n t in
        let behind : place < paths_before s n = omega (arith, paths-between s i h, before-later s (suc i) n later (omega arith)) in
        rw (lt-leb (paths_before s n) place behind) (number-among n later (omega arith)))
        (λ f.
        let e : n ≡ i = omega (arith, ltb-false i n f) in
        rw (e, le-leb (paths_before s i) place (omega arith))))

    number_is : number_among a place (folders_held a) ≡ folder_number (get_or s i no_folder)
    number_is = rw (folders-held s a m) (number-among (length s) h (omega arith))

  module _ (st : State) (few : Few s st []) (rest : List ℕ) where
    abbrev run : List ℕ
    run = run_of s st ++ rest

    row_same : (i j : ℕ) → i < length s → j < length (folder_paths (get_or s i no_folder))
        → RowSame a run st.matched (0 + paths_before s i + j) (folder_number (get_or s i no_folder)) (get_or (folder_paths (get_or s i no_folder)) j [])
    row_same i j h k =
        let p = place_same s a m st few rest i j h k in
        rw zero-add (record { bit = p.bit; is_row = ap₂ row (number_is i j h k) p.bytes })

    rows_same : rows_in a run ≡ rows_from st.matched 0 s
    unfolding rows_in max_paths
    rows_same =
        let n = length (paths_of s) in
        let all : n + (128 - n) ≡ 128 = omega (arith, m.fit.paths) in
        let parts = joined-parts (if_place_matched a run) 0 n (128 - n) in
        let none = none_from a run st.matched (0 + n) (128 - n) (λ i k. place-missing s a m st few rest i (omega arith)) in
        ap (map (place_row a)) (ap (matched_from a run 0) (sym all) ∙ parts ∙ ap (λ (l : List ℕ). matched_from a run 0 n ++ l) none ∙ append-nil (matched_from a run 0 n))
        ∙ folders-same a run st.matched 0 s row_same

    pub sheet-same : sheet_in a run ≡ sheet (rows_from st.matched 0 s)
    unfolding sheet_in
    sheet-same = ap sheet rows_same

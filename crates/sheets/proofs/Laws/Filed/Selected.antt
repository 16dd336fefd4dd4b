-- The rows of a filed report: one list only; those of the machine's matches; of each folder its own, whatever folders stand beside it.
use Prim.Native.Nat.{ℕ, ◌+◌, ◌≤◌, ◌<◌}
use native.Mathlib.Omega.{arith}
use native.Mathlib.Nat.{zero-add}
use mathlib.Core.Path.{◌≡◌, refl, sym, ◌∙◌, ap, ap₂}
use mathlib.Core.Bool.{Bool, false, cond}
use mathlib.Core.Logic.{◌⊎◌, inl, inr}
use mathlib.Core.List.Memᴰ
use mathlib.Core.List.{List, [], ◌∷◌, ◌++◌, map, append-nil, append_assoc, Memᴰ}
use lib.Dec.{leb, eqb}
use lib.ListN.{length, length-append, get_or-append}
use lib.Seq.{get_or-append-add}
use borrow.Author.Tests.{leb-false, eq-eqb, ne_eqb}
use Rattle.text.proofs.Laws.Tests.{neither, zero_one}
use Rattle.notation.specs.Sets.{Path, Folder, folder, FolderSet, folder_number, folder_paths}
use Rattle.notation.specs.Form.{paths_of, numbers_fall_after, numbers_fall}
use Rattle.model.specs.Calls.{State}
use Rattle.model.specs.Folders.{HasFolders}
use Rattle.documents.specs.Tree.{Document}
use Rattle.documents.specs.Document.{document_in}
use Rattle.documents.proofs.Laws.Trees.OneDocument.{one-document}
use Rattle.filing.specs.Filing.{FiledWith}
use Rattle.filing.specs.Demand2.{SelectsElement, OfDocument}
use Rattle.filing.specs.Printed.{Selecting, no_paths, chosen, left}
use Rattle.filing.proofs.Laws.Filing.Demand2.{of-document}
use Rattle.filing.proofs.Laws.Listing.Shown.{Total}
use Rattle.filing.proofs.Laws.Listing.PrintedOnce.{selecting-once}
use Rattle.filing.proofs.Laws.Listing.PrintedXPath.{Matches, paths-selecting}
use Rattle.sheets.specs.Sheet.{Row, row, sheet}
use Rattle.sheets.specs.SheetOf.{path_row, RowsFor, no_folders, of_folder, SheetFor, rows_of_folder}
use Rattle.sheets.proofs.Laws.Filed.Same.{rows_from}

rows-once : {d : Document} {fs : FolderSet} {x y : List Row} → RowsFor d fs x → RowsFor d fs y → x ≡ y
rows-once no_folders no_folders = refl
rows-once (of_folder {n = n} a l) (of_folder b r) = ap₂ (λ (qs : List Path) (later : List Row). map (path_row n) qs ++ later) (selecting-once a b) (rows-once l r)

-- two sheets of one report are of one document
module _ (s : FolderSet) (report x y : List ℕ) (p : SheetFor s report x) (q : SheetFor s report y) where
  rows_alike : p.rows ≡ q.rows
  rows_alike =
      let same : document_in q.has ≡ document_in p.has = one-document report q.has p.has in
      rows-once p.selecting (rw same at q.selecting)

  pub sheet-once : x ≡ y
  sheet-once = p.printed ∙ ap sheet rows_alike ∙ sym q.printed

-- what is matched is what selects an element
rows-for : (d : Document) (matched : ℕ → Bool) (first : ℕ) (fs : FolderSet) → Matches d matched first (paths_of fs) → RowsFor d fs (rows_from matched first fs)
unfolding rows_from paths_of
rows-for d matched first [] h = no_folders
rows-for d matched first (folder n ps ∷ fs) h =
    of_folder
    (paths-selecting d matched first ps (λ j k.
    let l : j < length (ps ++ paths_of fs) = omega (arith, length-append ps (paths_of fs)) in
    rw (← get_or-append ps (paths_of fs) [] j k) (h j l)))
    (rows-for d matched (first + length ps) fs (λ j k.
    let l : length ps + j < length (ps ++ paths_of fs) = omega (arith, length-append ps (paths_of fs)) in
    let e : first + length ps + j ≡ first + (length ps + j) = omega arith in
    rw (e, ← get_or-append-add ps (paths_of fs) j []) (h (length ps + j) l)))

pub sheet-shown : (s : FolderSet) (report : List ℕ) (m : State) → FiledWith s report m → SheetFor s report (sheet (rows_from m.matched 0 s))
sheet-shown s report m f =
    let d : OfDocument s report m = of-document s report m f in
    record {
      has = d.report;
      rows = rows_from m.matched 0 s;
      selecting = rows-for (document_in d.report) m.matched 0 s (λ j k. rw zero-add (d.paths j));
      printed = refl;
    }

pub sheet-total : Total SheetFor
sheet-total s report m f = (sheet (rows_from m.matched 0 s), sheet-shown s report m f)

-- where no path selects an element there are no rows
none-chosen : {d : Document} {ps qs : List Path} → Selecting d ps qs → ((p : Path) → Memᴰ p ps → SelectsElement d p → ⊥) → qs ≡ []
none-chosen no_paths h = refl
none-chosen (chosen {p = p} x l) h = absurd (h p (Memᴰ.head refl) x)
none-chosen (left never l) h = none-chosen l (λ p m. h p (Memᴰ.tail m))

pub no_rows : {d : Document} {fs : FolderSet} {rows : List Row} → RowsFor d fs rows → ((p : Path) → Memᴰ p (paths_of fs) → SelectsElement d p → ⊥) → rows ≡ []
unfolding paths_of
no_rows no_folders h = refl
no_rows (of_folder {n = n} {ps} {fs = fs} a l) h =
    ap₂ (λ (qs : List Path) (later : List Row). map (path_row n) qs ++ later) (none-chosen a (λ p m. h p (Memᴰ.append_left (paths_of fs) m))) (no_rows l (λ p m. h p (Memᴰ.append_right ps m)))

-- and where there are no rows none does
not_chosen : {d : Document} {ps : List Path} → Selecting d ps [] → (p : Path) → Memᴰ p ps → SelectsElement d p → ⊥
not_chosen no_paths p m x = Memᴰ.not-nil m
not_chosen (left never l) p m x = elim (Memᴰ.cases_cons m) [ inl e ↦ never (rw e at x) | inr t ↦ not_chosen l p t x ]

pub none-selects : {d : Document} {fs : FolderSet} {rows : List Row} → RowsFor d fs rows → rows ≡ [] → (p : Path) → Memᴰ p (paths_of fs) → SelectsElement d p → ⊥
unfolding paths_of
none-selects no_folders e p m x = Memᴰ.not-nil m
none-selects {d} (of_folder {n = n} {ps} {qs} {fs} {later} a l) e p m x = elim (Memᴰ.append_cases ps m) [ inl t ↦ own qs a e t | inr t ↦ none-selects l (rest qs e) p t x ]
  where
    own : (qs : List Path) → Selecting d ps qs → map (path_row n) qs ++ later ≡ [] → Memᴰ p ps → ⊥
    own [] a e t = not_chosen a p t x
    own (q ∷ qs) a e t = zero_one (cc)

    rest : (qs : List Path) → map (path_row n) qs ++ later ≡ [] → later ≡ []
    rest [] e = e
    rest (q ∷ qs) e = zero_one (cc)

-- the rows that show a number
rows-of-joined : (number : ℕ) (xs ys : List Row) → rows_of_folder number (xs ++ ys) ≡ rows_of_folder number xs ++ rows_of_folder number ys
unfolding rows_of_folder
rows-of-joined number [] ys = refl
rows-of-joined number (row n p ∷ xs) ys = rw (rows-of-joined number xs ys, append_assoc (cond (eqb n number) (row n p ∷ []) []) (rows_of_folder number xs) (rows_of_folder number ys))

rows-of-own : (number : ℕ) (qs : List Path) → rows_of_folder number (map (path_row number) qs) ≡ map (path_row number) qs
unfolding rows_of_folder
rows-of-own number [] = refl
rows-of-own number (q ∷ qs) = rw (eq-eqb number number refl, rows-of-own number qs)

rows-of-other : (number n : ℕ) → (n ≡ number → ⊥) → (qs : List Path) → rows_of_folder number (map (path_row n) qs) ≡ []
unfolding rows_of_folder
rows-of-other number n h [] = refl
rows-of-other number n h (q ∷ qs) = rw (ne_eqb n number h, rows-of-other number n h qs)

-- numbers that rise are above the last
rows_above : {d : Document} {fs : FolderSet} {rows : List Row} (last number : ℕ) → numbers_fall_after last fs ≡ false → number ≤ last → RowsFor d fs rows → rows_of_folder number rows ≡ []
unfolding numbers_fall_after rows_of_folder
rows_above last number up le no_folders = refl
rows_above last number up le (of_folder {n = n} {qs = qs} {fs} {later} a l) =
    let b = neither (leb n last) (numbers_fall_after n fs) up in
    let above : last < n = leb-false n last b.0 in
    rows-of-joined number (map (path_row n) qs) later
    ∙ ap₂ ◌++◌ (rows-of-other number n (λ e. omega arith) qs) (rows_above n number b.1 (omega arith) l)

-- a folder's rows are those of its selecting paths
record OwnRows (d : Document) (f : Folder) (rows : List Row) : Type 0 where
  paths : List Path
  selecting : Selecting d (folder_paths f) paths
  are : rows_of_folder (folder_number f) rows ≡ map (path_row (folder_number f)) paths

own-rows : {d : Document} {fs : FolderSet} {rows : List Row} (last : ℕ) → numbers_fall_after last fs ≡ false → RowsFor d fs rows → (f : Folder) → Memᴰ f fs → (last < folder_number f) × OwnRows d f rows
unfolding numbers_fall_after
own-rows last up no_folders f m = absurd (Memᴰ.not-nil m)
own-rows {d} last up (of_folder {n = n} {ps} {qs} {fs} {later} a l) f m =
    let b = neither (leb n last) (numbers_fall_after n fs) up in
    go b.1 (leb-false n last b.0) (λ t. own-rows n b.1 l f t) (Memᴰ.cases_cons m)
  where
    go : numbers_fall_after n fs ≡ false → last < n → (Memᴰ f fs → (n < folder_number f) × OwnRows d f later) → (f ≡ folder n ps) ⊎ Memᴰ f fs
        → (last < folder_number f) × OwnRows d f (map (path_row n) qs ++ later)
    go rise above ih (inl e) =
        rw e (
          above,
          record {
            paths = qs;
            selecting = a;
            are = rows-of-joined n (map (path_row n) qs) later ∙ ap₂ ◌++◌ (rows-of-own n qs) (rows_above n n rise (omega arith) l) ∙ append-nil (map (path_row n) qs);
          },
        )
    go rise above ih (inr t) =
        let (further, own) = ih t in (
          omega arith,
          record {
            paths = own.paths;
            selecting = own.selecting;
            are = rows-of-joined (folder_number f) (map (path_row n) qs) later ∙ ap₂ ◌++◌ (rows-of-other (folder_number f) n (λ e. omega arith) qs) own.are;
          },
        )

pub rows-added : (s larger : FolderSet) → numbers_fall s ≡ false → numbers_fall larger ≡ false → HasFolders larger s → (report bytes more : List ℕ)
    (x : SheetFor s report bytes) (y : SheetFor larger report more) (f : Folder) → Memᴰ f s → rows_of_folder (folder_number f) y.rows ≡ rows_of_folder (folder_number f) x.rows
rows-added s larger up more-up has report bytes more x y f m =
    let same : document_in y.has ≡ document_in x.has = one-document report y.has x.has in
    let (_, p) = own-rows 0 up x.selecting f m in
    let (_, q) = own-rows 0 more-up (rw same at y.selecting) f (has f m) in
    q.are ∙ ap (map (path_row (folder_number f))) (selecting-once q.selecting p.selecting) ∙ sym p.are

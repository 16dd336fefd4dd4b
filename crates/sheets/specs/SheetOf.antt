-- The class sheet of a filed report, by printing and XPath 1.0 alone: no run, no matches.
use Rattle.std.specs.Prelude.{ℕ, ◌≡◌, cond, List, [], ◌∷◌, ◌++◌, map, eqb}
use Rattle.notation.specs.Sets.{Path, folder, FolderSet}
use Rattle.notation.specs.Print.{print_path}
use Rattle.documents.specs.Tree.{Document}
use Rattle.documents.specs.Document.{Report, document_in}
use Rattle.filing.specs.Printed.{Selecting}
use Rattle.sheets.specs.Sheet.{Row, row, sheet}

-- the row of a folder's path
abbrev pub path_row : ℕ → Path → Row
path_row number path = row number (print_path path)

-- the rows of the folders in set order: of each folder those of its paths with which XPath 1.0 selects an element, in order, with its number
pub data RowsFor (d : Document) : FolderSet → List Row → Type 0 where
  no_folders : RowsFor d [] []
  of_folder : {n : ℕ} {ps qs : List Path} {fs : FolderSet} {later : List Row} → Selecting d ps qs → RowsFor d fs later
      → RowsFor d (folder n ps ∷ fs) (map (path_row n) qs ++ later)

-- the sheet of a report that has a document is that of the document's rows
pub record SheetFor (s : FolderSet) (report bytes : List ℕ) : Type 0 where
  pub has : Report report
  pub rows : List Row
  pub selecting : RowsFor (document_in has) s rows
  pub printed : bytes ≡ sheet rows

-- the rows that show a folder's number
unfoldable pub rows_of_folder : ℕ → List Row → List Row
rows_of_folder number [] = []
rows_of_folder number (row n path ∷ rows) = cond (eqb n number) (row n path ∷ []) [] ++ rows_of_folder number rows

-- What the filing program prints of a set's text and a report. Whether a report is filed or refused is the
-- machine's word (Filing); what a filed one prints is by printing and XPath 1.0 alone: no run, no matches and no counters.
use Rattle.std.specs.Prelude.{ℕ, ◌+◌, ◌≤◌, ◌≡◌, List, [], ◌∷◌, ◌++◌}
use Rattle.text.specs.Names.{Name}
use Rattle.notation.specs.Sets.{Path, folder, FolderSet}
use Rattle.notation.specs.Print.{footer, print_folder}
use Rattle.model.specs.Moves.{OpenMoves}
use Rattle.documents.specs.Tree.{element, text, comment, Nodes, none, ◌then◌, Document}
use Rattle.documents.specs.Document.{Report, document_in}
use Rattle.filing.specs.Demand2.{count_in, childless_in, SelectsElement}
use Rattle.filing.specs.Listing.{filed_header, moves_line}
use Rattle.filing.specs.Shown.{ShownOf, ShownText}

-- of these paths, in order, exactly those with which XPath 1.0 selects an element of the document
pub data Selecting (d : Document) : List Path → List Path → Type 0 where
  no_paths : Selecting d [] []
  chosen : {p : Path} {ps qs : List Path} → SelectsElement d p → Selecting d ps qs → Selecting d (p ∷ ps) (p ∷ qs)
  left : {p : Path} {ps qs : List Path} → (SelectsElement d p → ⊥) → Selecting d ps qs → Selecting d (p ∷ ps) qs

-- the lines of the folders in set order: a folder with its selecting paths, no line where it has none
pub data LinesFor (d : Document) : FolderSet → List ℕ → Type 0 where
  no_folders : LinesFor d [] []
  line : {n : ℕ} {ps qs : List Path} {q : Path} {fs : FolderSet} {later : List ℕ} → Selecting d ps (q ∷ qs) → LinesFor d fs later
      → LinesFor d (folder n ps ∷ fs) (print_folder (folder n (q ∷ qs)) ++ later)
  no_line : {n : ℕ} {ps : List Path} {fs : FolderSet} {later : List ℕ} → Selecting d ps [] → LinesFor d fs later → LinesFor d (folder n ps ∷ fs) later

-- the failure moves of siblings' elements and of all below them: each element's own are those of an open with the names `above` it open
pub data MovesIn (s : FolderSet) : List Name → Nodes → ℕ → Type 0 where
  no_nodes : {above : List Name} → MovesIn s above none 0
  of_element : {above : List Name} {n : Name} {kids xs : Nodes} {own inner later : ℕ} → OpenMoves s above n own
      → MovesIn s (above ++ (n ∷ [])) kids inner → MovesIn s above xs later → MovesIn s above (element n kids then xs) (own + (inner + later))
  of_text : {above : List Name} {b : List ℕ} {xs : Nodes} {later : ℕ} → MovesIn s above xs later → MovesIn s above (text b then xs) later
  of_comment : {above : List Name} {b : List ℕ} {xs : Nodes} {later : ℕ} → MovesIn s above xs later → MovesIn s above (comment b then xs) later

-- of a filed report: the lines of its document's folders, then how many elements the document has and its failure moves
pub record PrintedFor (s : FolderSet) (report bytes : List ℕ) : Type 0 where
  pub has : Report report
  pub lines : List ℕ
  pub folders : LinesFor (document_in has) s lines
  pub moves : ℕ
  pub counted : MovesIn s [] (document_in has) moves
  pub most : moves ≤ childless_in 0 (document_in has)
  pub printed : bytes ≡ filed_header ++ (lines ++ (moves_line (count_in (document_in has)) moves ++ footer))

-- of any report: what is filed, or the refusal's number alone
abbrev pub PrintedOf : FolderSet → List ℕ → List ℕ → Type 0
PrintedOf = ShownOf PrintedFor

-- of any text: the number of the set's refusal, or what filing the report with the set prints. There is exactly one such
abbrev pub PrintedText : List ℕ → List ℕ → List ℕ → Type 0
PrintedText = ShownText PrintedFor

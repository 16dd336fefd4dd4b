-- What filing a report says of its document, by XPath 1.0.
use Rattle.std.specs.Prelude.{ℕ, suc, ◌+◌, ◌≤◌, ◌≡◌, true, cond, ◌↔◌, eqb}
use mathlib.Core.List.{List, Memᴰ}
use Rattle.notation.specs.Sets.{Path, Folder, FolderSet, folder_number}
use Rattle.notation.specs.Accepted.{Accepted}
use Rattle.model.specs.Calls.{State, path_of_place, fresh, run}
use Rattle.model.specs.Folders.{places_of, folder_matched, HasFolders}
use Rattle.documents.specs.Tree.{Node, element, text, comment, Nodes, none, ◌then◌, Document, Place, kind_at}
use Rattle.documents.specs.XPath.{IsElement, selected}
use Rattle.documents.specs.Tokens.{RunOfTokens}
use Rattle.documents.specs.Repeats.{Repeats}
use Rattle.documents.specs.Document.{events_of, elements_among, Report, document_in}
use Rattle.filing.specs.Filing.{Outcome, calls_in, all_accepted, FilingGives, FiledWith}

-- how many elements there are in a document
unfoldable mutual
  pub count_at : Node → ℕ
  count_at (element n kids) = suc (count_in kids)
  count_at (text b) = 0
  count_at (comment b) = 0

  pub count_in : Nodes → ℕ
  count_in none = 0
  count_in (x then xs) = count_at x + count_in xs

-- the depths of all childless elements added up; `above` elements are around them
unfoldable mutual
  pub childless_at : ℕ → Node → ℕ
  childless_at above (element n kids) = cond (eqb (elements_among kids) 0) (suc above) 0 + childless_in (suc above) kids
  childless_at above (text b) = 0
  childless_at above (comment b) = 0

  pub childless_in : ℕ → Nodes → ℕ
  childless_in above none = 0
  childless_in above (x then xs) = childless_at above x + childless_in above xs

-- XPath 1.0 selects an element of the document with the path
abbrev pub SelectsElement : Document → Path → Type 0
SelectsElement d p = (x : Place) × IsElement (kind_at d x) × selected d p x

-- and with one of the paths of the folder of this number
abbrev pub FolderSelects : FolderSet → Document → ℕ → Type 0
FolderSelects set d number = (place : ℕ) × Memᴰ place (places_of set number) × SelectsElement d (path_of_place set place)

-- of a report that is filed, with the machine at the end
pub record OfDocument (set : FolderSet) (bytes : List ℕ) (m : State) : Type 0 where
  -- the report has a document, and one only
  pub report : Report bytes
  pub only : (other : Report bytes) → document_in other ≡ document_in report
  -- however its bytes are a run of tokens, no tag of it repeats an attribute's name
  pub no_repeats : (run : RunOfTokens bytes) → Repeats run.tokens → ⊥
  -- its opens and closes, in order, are all accepted, and the machine is the one after them
  pub all_taken : all_accepted set (fresh set) (calls_in (events_of report.run.tokens)) ≡ true
  pub machine : run set (calls_in (events_of report.run.tokens)) ≡ m
  -- a path is matched exactly when it selects an element, a folder exactly when one of its paths does
  pub paths : (place : ℕ) → (m.matched place ≡ true) ↔ SelectsElement (document_in report) (path_of_place set place)
  pub folders : (number : ℕ) → (folder_matched set m number ≡ true) ↔ FolderSelects set (document_in report) number
  -- opens and closes are as many as the document's elements, failure moves at most its childless depths
  pub opens : m.opens ≡ count_in (document_in report)
  pub closes : m.closes ≡ count_in (document_in report)
  pub moves : m.moves ≤ childless_in 0 (document_in report)

-- a larger set files the report too, and matches the same of the smaller's folders
pub record Added (smaller larger : FolderSet) (bytes : List ℕ) (m : State) : Type 0 where
  pub machine : State
  pub is_filed : FiledWith larger bytes machine
  pub same : (f : Folder) → Memᴰ f smaller → folder_matched smaller m (folder_number f) ≡ folder_matched larger machine (folder_number f)

-- all of it, of a set and any bytes
pub record Demand2 (set : FolderSet) (bytes : List ℕ) : Type 0 where
  -- refused with one number, or filed with one machine
  pub gives : (o : Outcome State) × FilingGives set bytes o
  pub only : (o p : Outcome State) → FilingGives set bytes o → FilingGives set bytes p → o ≡ p
  pub document : (m : State) → FiledWith set bytes m → OfDocument set bytes m
  -- adding folders changes no other folder's matches while the larger set is accepted
  pub adding : (set_text : List ℕ) (larger : FolderSet) → Accepted set_text larger → HasFolders larger set
      → (m : State) → FiledWith set bytes m → Added set larger bytes m

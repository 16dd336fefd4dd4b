-- The class sheet as one statement. Of each call the contract alone is used.
use Rattle.std.specs.Prelude.{Result}
use Rattle.text.specs.declared.refusals.Refusal.{Refusal}
use Rattle.std.specs.Prelude.{ℕ, suc, ◌-◌, ◌*◌, ◌≤◌, ◌<◌, ◌≡◌, true, false, ◌↔◌, List, ◌∷◌, ◌++◌, map, length, get_or, take, drop, replicate, Some}
use mathlib.Core.List.{Memᴰ}
use Rattle.text.specs.Bytes.{joined}
use Rattle.notation.specs.Limits.{max_paths}
use Rattle.notation.specs.Sets.{Path, Folder, FolderSet, folder_number}
use Rattle.notation.specs.Form.{paths_of}
use Rattle.notation.specs.Accepted.{Accepted}
use Rattle.notation.specs.declared.PathPlace.{PathPlace}
use Rattle.model.specs.Folders.{count_from, HasFolders}
use Rattle.stored.specs.Build.{Built}
use Rattle.stored.specs.Run.{run_size}
use Rattle.stored.specs.Shape.{automaton_shaped}
use Rattle.stored.specs.HeldSet.{folders_held, folder_held}
use Rattle.stored.specs.Asking.{place_matched}
use Rattle.stored.specs.declared.counters.Counters.{Counters}
use Rattle.documents.specs.Document.{document_in}
use Rattle.filing.specs.Demand1.{WrittenBy}
use Rattle.filing.specs.Demand2.{SelectsElement}
use Rattle.filing.specs.ReportRefusals.{Files}
use Rattle.filing.specs.Shown.{ShownText, PrintsText, RefusesShort}
use Rattle.sheets.specs.Limits.{line_width, body_lines, page_size, sheet_size}
use Rattle.sheets.specs.Sheet.{Row, spaces, head_line, body_line, ended, Pages, sheet}
use Rattle.sheets.specs.Lines.{InLines, PlainLines}
use Rattle.sheets.specs.SheetIn.{matched_places, number_among, rows_in, sheet_in, sheet_conditions, SheetWritten}
use Rattle.sheets.specs.SheetOf.{SheetFor, rows_of_folder}
use Rattle.sheets.specs.Printer.{PrintsSheet}

-- a folder that is held has this number, and its first path is not after the place
pub record BeginsBy (a : List ℕ) (place i number : ℕ) : Type 0 where
  pub first : PathPlace
  pub count : ℕ
  pub held : folder_held a i ≡ Some (record { number = record { 0 = number }; first = first; paths = count })
  pub before : first.0 ≤ place

-- a place has the number of the last such folder, and 0 where there is none
pub data NumberOf (a : List ℕ) (place : ℕ) : ℕ → Type 0 where
  of_last : {number : ℕ} (i : ℕ) → i < folders_held a → BeginsBy a place i number
      → ((j n : ℕ) → i < j → j < folders_held a → BeginsBy a place j n → ⊥) → NumberOf a place number
  of_none : ((j n : ℕ) → j < folders_held a → BeginsBy a place j n → ⊥) → NumberOf a place 0

-- one page, all its body lines blank
abbrev pub blank_sheet : List ℕ
blank_sheet = ended (head_line 1) ++ joined (replicate body_lines (ended (spaces line_width)))

-- the sheet of any rows: the body lines of its pages, one after the other, are the rows' in order and then blank ones, and every page is a head
-- line and 40 of them; pages are as few as can be
pub record OfRows (rows : List Row) : Type 0 where
  pub pages : ℕ
  pub fewest : Pages (length rows) pages
  pub body : List (List ℕ)
  pub body_is : body ≡ map body_line rows ++ replicate (body_lines * pages - length rows) (spaces line_width)
  pub are : sheet rows ≡ joined (map (λ k. joined (map ended (head_line (suc k) ∷ take body_lines (drop (body_lines * k) body)))) (count_from 0 pages))

-- the rows of any run, by what is stored
pub record OfStored (a run : List ℕ) : Type 0 where
  -- a place has a row exactly if its path is matched; in rising order, so each once, and at most 128
  pub places : (p : ℕ) → Memᴰ p (matched_places a run) ↔ (place_matched a run (record { 0 = p }) ≡ true)
  pub rising : (i j : ℕ) → i < j → j < length (matched_places a run) → get_or (matched_places a run) i 0 < get_or (matched_places a run) j 0
  pub few : length (rows_in a run) ≤ max_paths
  pub numbers : (p : ℕ) → NumberOf a p (number_among a p (folders_held a))
  -- nothing matched: one page of blank body lines
  pub none : ((p : ℕ) → place_matched a run (record { 0 = p }) ≡ false) → sheet_in a run ≡ blank_sheet

-- and on an automaton of the right shape: 72 bytes and byte 10 on every line, and so 2,993 bytes for each of the pages, which are as few as can be
pub record OfShaped (a run : List ℕ) : Type 0 where
  pub pages : ℕ
  pub fewest : Pages (length (rows_in a run)) pages
  pub in_lines : InLines (pages * suc body_lines) (sheet_in a run)
  pub size : length (sheet_in a run) ≡ pages * page_size
  pub most : length (sheet_in a run) ≤ sheet_size

pub record ClassSheet : Type 0 where
  -- a line's bytes, a page's and a sheet's
  pub measures : (line_width ≡ 72) × ((page_size ≡ 2993) × (sheet_size ≡ 11972))
  -- 1 and 14 each exactly where it is the first that holds, a length exactly where none does; a refusal changes nothing
  pub writes : (a run before : List ℕ) (answer : Result ℕ Refusal) (after : List ℕ) → SheetWritten a run before answer after
      → WrittenBy (sheet_conditions a run before) before answer after
  pub prints : (text report a run out : List ℕ) (answer : Result ℕ Refusal) (a' run' out' : List ℕ) → PrintsSheet text report a run out answer a' run' out'
      → RefusesShort sheet_size a run out answer a' run' out'
  pub rows : (l : List Row) → OfRows l
  pub stored : (a run : List ℕ) → OfStored a run
  pub shaped : (a run : List ℕ) → automaton_shaped a ≡ true → OfShaped a run
  -- of a report filed with the automaton that a build left, in a sheet buffer of its size or more: the sheet of the report's document
  pub filed : (text before a : List ℕ) (s : FolderSet) → Accepted text s → Built text before 0 a
      → (report run : List ℕ) → run_size ≤ length run → (c : Counters) (run' : List ℕ) (c' : Counters) → Files a run c report 0 run' c'
      → (out : List ℕ) → sheet_size ≤ length out → (answer : Result ℕ Refusal) (out' : List ℕ) → SheetWritten a run' out answer out'
      → (bytes : List ℕ) × SheetFor s report bytes × PrintsText sheet_size bytes out answer out'
  -- which is one only; and of every text and report one text is printed
  pub once : (s : FolderSet) (report x y : List ℕ) → SheetFor s report x → SheetFor s report y → x ≡ y
  pub printed : (text report : List ℕ) → (bytes : List ℕ) × ShownText SheetFor text report bytes × ((x : List ℕ) → ShownText SheetFor text report x → x ≡ bytes)
  -- it has as few pages as can be, and its lines have no byte 10 in them
  pub plain : (text : List ℕ) (s : FolderSet) → Accepted text s → (report bytes : List ℕ) (x : SheetFor s report bytes)
      → (pages : ℕ) × Pages (length x.rows) pages × PlainLines (pages * suc body_lines) bytes
  -- it is one page of blank body lines exactly where no path selects an element
  pub blank : (text : List ℕ) (s : FolderSet) → Accepted text s → (report bytes : List ℕ) (x : SheetFor s report bytes)
      → (bytes ≡ blank_sheet) ↔ ((p : Path) → Memᴰ p (paths_of s) → SelectsElement (document_in x.has) p → ⊥)
  -- adding folders changes no other folder's rows while the larger set is accepted
  pub adding : (text larger-text : List ℕ) (s larger : FolderSet) → Accepted text s → Accepted larger-text larger → HasFolders larger s
      → (report bytes more : List ℕ) (x : SheetFor s report bytes) (y : SheetFor larger report more)
      → (f : Folder) → Memᴰ f s → rows_of_folder (folder_number f) y.rows ≡ rows_of_folder (folder_number f) x.rows

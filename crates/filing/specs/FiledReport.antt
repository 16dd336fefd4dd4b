-- Filing by XPath 1.0, of the call itself: what filing a report's bytes with the automaton of an accepted set answers and leaves, and what the asking
-- calls then answer, says of the report's document.
use Rattle.std.specs.Prelude.{ℕ, ◌≤◌, ◌<◌, ◌≡◌, true, ◌↔◌, length, drop}
use mathlib.Core.List.{List, [], ◌∷◌, ◌++◌, map, Memᴰ}
use Rattle.notation.specs.Sets.{Folder, FolderSet, folder_number}
use Rattle.notation.specs.Form.{paths_of}
use Rattle.text.specs.Lists.{every}
use Rattle.text.specs.declared.refusals.Refusal.{Refusal}
use Rattle.text.specs.declared.refusals.Refusal.TheVariants.{TooLarge, NameTooLong, InvalidByte, SyntaxError, NotOneRoot, TooDeep, MismatchedClose, RepeatedAttribute}
use Rattle.text.specs.Refusals.{number_of}
use Rattle.notation.specs.Accepted.{Accepted}
use Rattle.notation.specs.declared.PathPlace.{PathPlace}
use Rattle.notation.specs.declared.FolderNumber.{FolderNumber}
use Rattle.model.specs.Calls.{State, path_of_place}
use Rattle.model.specs.Folders.{HasFolders}
use Rattle.stored.specs.Build.{Built}
use Rattle.stored.specs.Run.{run_size, run_of}
use Rattle.stored.specs.RunCalls.{start_run, no_counters}
use Rattle.stored.specs.Asking.{ask_path, ask_folder}
use Rattle.stored.specs.Demand3.{Answers, HasFolder}
use Rattle.stored.specs.declared.counters.Counters.{Counters}
use Rattle.documents.specs.Limits.{max_report_bytes}
use Rattle.documents.specs.Tokens.{listed, RunOfTokens}
use Rattle.documents.specs.Repeats.{Repeats}
use Rattle.documents.specs.Document.{document_in}
use Rattle.filing.specs.Filing.{Refused, FiledWith}
use Rattle.filing.specs.Demand2.{count_in, childless_in, SelectsElement, FolderSelects, OfDocument}
use Rattle.filing.specs.ReportRefusals.{Files}

-- of a report that is filed, with run and counters as left
pub record FiledReport (s : FolderSet) (a report run run' : List ℕ) (c' : Counters) : Type 0 where
  -- the machine at the end; the report has one document only, and what the machine matched is what XPath 1.0 selects in it
  pub machine : State
  pub is_filed : FiledWith s report machine
  pub of_document : OfDocument s report machine
  -- the run left is the machine's, and the bytes behind it stay
  pub run_left : run' ≡ run_of s machine ++ drop run_size run
  -- a path is answered to be matched exactly if it selects an element of the document, a folder exactly if one of its paths does
  pub paths : (place : PathPlace)
      → Answers (place.0 < length (paths_of s)) (SelectsElement (document_in of_document.report) (path_of_place s place.0)) (ask_path a run' place)
  pub folders : (number : FolderNumber)
      → Answers (HasFolder s number.0) (FolderSelects s (document_in of_document.report) number.0) (ask_folder a run' number)
  -- opens and closes are as many as the document's elements; the failure moves are the machine's, and at most the childless depths
  pub opens : c'.opens ≡ count_in (document_in of_document.report)
  pub closes : c'.closes ≡ count_in (document_in of_document.report)
  pub moves : c'.moves ≡ machine.moves
  pub moves_most : c'.moves ≤ childless_in 0 (document_in of_document.report)

-- the same report filed with two sets: the same answer, and each folder of the one is matched as it is in the other
pub record SameFolders (s : FolderSet) (answer : ℕ) (a run' : List ℕ) (other : ℕ) (b run₂ : List ℕ) : Type 0 where
  pub answers : other ≡ answer
  pub folders : (f : Folder) → Memᴰ f s → ask_folder b run₂ (record { 0 = folder_number f }) ≡ ask_folder a run' (record { 0 = folder_number f })

-- 0, and the numbers with which a report itself is refused: not 1 and 14, which are of what is lent, and not 7, since a report is too short for
-- so many elements
abbrev pub report_numbers : List ℕ
report_numbers = 0 ∷ map number_of (TooLarge ∷ NameTooLong ∷ InvalidByte ∷ SyntaxError ∷ NotOneRoot ∷ TooDeep ∷ MismatchedClose ∷ RepeatedAttribute ∷ [])

-- some tag of the report repeats an attribute's name, and it is neither too large nor has a byte that is not listed
abbrev pub RepeatsAttribute : List ℕ → Type 0
RepeatsAttribute report = (length report ≤ max_report_bytes) × (every listed report ≡ true) × ((run : RunOfTokens report) × Repeats run.tokens)

-- all of it, of a set, its automaton, the bytes lent, and what the call answers and leaves
pub record Demand2Bytes (s : FolderSet) (a report run : List ℕ) (answer : ℕ) (run' : List ℕ) (c' : Counters) : Type 0 where
  -- refused with a number exactly when its condition holds and no earlier one does, filed exactly when none does
  pub refusals : (r : Refusal) → (answer ≡ number_of r) ↔ Refused s report r
  -- 15 of these on its own condition: no token is refused so
  pub repeats : (answer ≡ number_of RepeatedAttribute) ↔ RepeatsAttribute report
  pub filings : (answer ≡ 0) ↔ ((m : State) × FiledWith s report m)
  pub numbers : Memᴰ answer report_numbers
  -- a refused report leaves a fresh run, a filed one what its document says
  pub refused_leaves : (answer ≡ 0 → ⊥) → (run' ≡ start_run a run) × (c' ≡ no_counters)
  pub filed_leaves : answer ≡ 0 → FiledReport s a report run run' c'
  -- adding folders changes no other folder's matches while the larger set is accepted
  pub adding : (text before b : List ℕ) (larger : FolderSet) → Accepted text larger → HasFolders larger s → Built text before 0 b
      → (lent : List ℕ) → run_size ≤ length lent → (c : Counters) (other : ℕ) (run₂ : List ℕ) (c₂ : Counters)
      → Files b lent c report other run₂ c₂ → SameFolders s answer a run' other b run₂

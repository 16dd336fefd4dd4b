-- What the asking calls say, of any automaton and run, by what is stored: the refusal's number, or the answer. They change nothing.
use Rattle.std.specs.Prelude.{ℕ, ◌+◌, ◌-◌, ◌≡◌, Bool, true, false, not, ◌&&◌, cond, List, [], ◌∷◌, eqb, Option, Some, None, is_some}
use Rattle.std.specs.Borrow.{Bor}
use Rattle.text.specs.Names.{Name, within}
use Rattle.text.specs.Part.{PartOf}
use Rattle.notation.specs.Reads.{path_at, folder_of}
use Rattle.text.specs.Answers.{Answer, said}
use Rattle.text.specs.declared.refusals.Refusal.TheVariants.{ShortBuffer, BadShape, NotFound}
use Rattle.notation.specs.declared.PathPlace.{PathPlace}
use Rattle.notation.specs.declared.FolderNumber.{FolderNumber}
use Rattle.notation.specs.declared.reads.StoredPath.{StoredPath}
use Rattle.notation.specs.declared.reads.StoredFolder.{StoredFolder}
use Rattle.text.specs.Lists.{any}
use Rattle.model.specs.Folders.{count_from}
use Rattle.text.specs.Order.{Condition, gives, given}
use Rattle.stored.specs.Tables.{size_of}
use Rattle.stored.specs.Shape.{automaton_shaped}
use Rattle.stored.specs.HeldSet.{folder_held}
use Rattle.stored.specs.Run.{name_in, row_at}
use Rattle.stored.specs.RunCalls.{depth_of, name_length, stored_name, state_at, active_at, matched_at, run_shaped, too_short}

-- 1, 14 (automaton and run), then 13 where what is asked of is not there
abbrev pub ask_conditions : List ℕ → List ℕ → Bool → List Condition
ask_conditions a run there =
    gives (too_short a run) ShortBuffer
    ∷ gives (not (automaton_shaped a && run_shaped a run)) BadShape
    ∷ gives (not there) NotFound
    ∷ []

unfoldable pub ask_refusal : List ℕ → List ℕ → Bool → ℕ
ask_refusal a run there = given (ask_conditions a run there)

abbrev pub has_path : Option StoredPath → Bool
has_path p = is_some p

-- a path is matched when its last step's match bit is set
abbrev pub last_matched : List ℕ → Option StoredPath → Bool
last_matched run (Some p) = matched_at run (p.first + p.steps - 1)
last_matched run None = false

unfoldable pub place_matched : List ℕ → List ℕ → PathPlace → Bool
place_matched a run place = last_matched run (path_at a place)

-- the path of one of these places is matched
abbrev pub any_matched : List ℕ → List ℕ → List ℕ → Bool
any_matched a run places = any (λ p. place_matched a run (record { 0 = p })) places

unfoldable pub ask_path : List ℕ → List ℕ → PathPlace → Answer Bool
ask_path a run place = said (ask_refusal a run (has_path (path_at a place))) (place_matched a run place)

-- a folder is matched when one of its paths is
abbrev pub has_folder : Option ℕ → Bool
has_folder i = is_some i

abbrev pub paths_of_folder : Option StoredFolder → List ℕ
paths_of_folder (Some f) = count_from f.first.0 f.paths
paths_of_folder None = []

abbrev pub index_paths : List ℕ → Option ℕ → List ℕ
index_paths a (Some i) = paths_of_folder (folder_held a i)
index_paths a None = []

unfoldable pub ask_folder : List ℕ → List ℕ → FolderNumber → Answer Bool
ask_folder a run number =
    said (ask_refusal a run (has_folder (folder_of a number))) (any_matched a run (index_paths a (folder_of a number)))

-- step s (from 1) of a path is active on the innermost element
abbrev pub has_step : Option StoredPath → ℕ → Bool
has_step (Some p) s = within 1 p.steps s
has_step None s = false

abbrev pub step_active : List ℕ → Option StoredPath → ℕ → Bool
step_active run (Some p) s = active_at run (depth_of run) (p.first + s - 1)
step_active run None s = false

unfoldable pub ask_step : List ℕ → List ℕ → PathPlace → ℕ → Answer Bool
ask_step a run place s = said (ask_refusal a run (has_step (path_at a place) s)) (step_active run (path_at a place) s)

-- the length of the current prefix
unfoldable pub ask_prefix : List ℕ → List ℕ → Answer ℕ
ask_prefix a run = said (ask_refusal a run true) (size_of a (state_at run (depth_of run)))

-- the open name at a depth (from 1), empty where it is refused, and the refusal
abbrev pub has_depth : List ℕ → ℕ → Bool
has_depth run d = within 1 (depth_of run) d

unfoldable pub name_refusal : List ℕ → List ℕ → ℕ → ℕ
name_refusal a run d = ask_refusal a run (has_depth run d)

unfoldable pub ask_name : List ℕ → List ℕ → ℕ → Name
ask_name a run d = cond (eqb (name_refusal a run d) 0) (stored_name run d) []

-- r is the name in the row of a depth, where it stands in the run
abbrev pub RowName : Bor (List ℕ) → ℕ → Bor (List ℕ) → Type 0
RowName run d r = PartOf run (row_at d + name_in) (row_at d + name_in + name_length run.now d) r

-- what hands back the open name at a depth: its part of the run, where it stands, or an empty part if refused
pub record OpenName (a : List ℕ) (run : Bor (List ℕ)) (d : ℕ) (r : Bor (List ℕ)) : Type 0 where
  pub shown : name_refusal a run.now d ≡ 0 → RowName run d r
  pub empty : (name_refusal a run.now d ≡ 0 → ⊥) → PartOf run 0 0 r

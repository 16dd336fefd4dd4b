-- As one statement: what holds after any list of open and close calls on a fresh run of any accepted set. The
-- program's side is the calls' contracts alone; the machine's side is fed the calls alone.
use Rattle.std.specs.Prelude.{ℕ, ◌+◌, ◌≤◌, ◌<◌, ◌≡◌, Bool, true, false, Result, ◌↔◌, length}
use Rattle.std.proofs.Math.Option.{none, some}
use mathlib.Core.List.{List, [], ◌∷◌, ◌++◌, map, Memᴰ}
use Rattle.text.specs.Names.{Name}
use Rattle.notation.specs.Sets.{Folder, FolderSet, folder_number}
use Rattle.notation.specs.Form.{paths_of}
use Rattle.notation.specs.Accepted.{Accepted}
use Rattle.text.specs.Answers.{Answer, refused, value, says, refusal_in}
use Rattle.notation.specs.Fit.{name_at, Active}
use Rattle.text.specs.declared.refusals.Refusal.{Refusal}
use Rattle.text.specs.declared.refusals.Refusal.TheVariants.{NotFound}
use Rattle.text.specs.Refusals.{number_of}
use Rattle.notation.specs.declared.PathPlace.{PathPlace}
use Rattle.notation.specs.declared.FolderNumber.{FolderNumber}
use Rattle.model.specs.Words.{Word}
use Rattle.model.specs.Prefix.{CurrentPrefix}
use Rattle.text.specs.Order.{number_in}
use Rattle.model.specs.Calls.{Lent, as_left, otherwise, Call, open_call, close_call, path_of_place, refusal, run}
use Rattle.model.specs.History.{accepted_calls, opens_in, closes_in, still_open, FittedAfterOpen, opens_of}
use Rattle.model.specs.Moves.{OpenMoves, MovesCounted}
use Rattle.model.specs.Elements.{elements_of, childless_depths}
use Rattle.model.specs.Folders.{places_of}
use Rattle.stored.specs.Build.{Built}
use Rattle.stored.specs.Run.{run_size}
use Rattle.stored.specs.RunCalls.{start_run, no_counters, shaped}
use Rattle.stored.specs.RunContracts.{Starts, Opens, Closes}
use Rattle.stored.specs.Asking.{ask_path, ask_folder, ask_step, ask_prefix, name_refusal, ask_name}
use Rattle.stored.specs.declared.counters.Counters.{Counters}

-- run and counters as last left
pub record Left : Type 0 where
  pub bytes : List ℕ
  pub counters : Counters

-- a fresh run in a buffer, as a start and a refused report leave it
abbrev pub started : List ℕ → List ℕ → Left
started a buffer = record { bytes = start_run a buffer; counters = no_counters }

-- a call that was made: what it was lent, its name and its answer
pub data Made : Type 0 where
  made_open : Lent → Name → Result ℕ Refusal → Made
  made_close : Lent → Name → ℕ → Made

-- what the machine is fed of it
abbrev pub call_of : Made → Call
call_of (made_open l e answer) = open_call l e
call_of (made_close l e answer) = close_call l e

abbrev pub calls_of : List Made → List Call
calls_of made = map call_of made

-- the calls were made with this automaton in this order, each as its contract says: from run and counters as left to those as left by the
-- last. One lent anything else is in the list only if it was refused
pub data Calls (a : List ℕ) : Left → List Made → Left → Type 0 where
  no_calls : {t : Left} → Calls a t [] t
  an_open : {t u v : Left} {e : Name} {answer : Result ℕ Refusal} {later : List Made}
      → Opens a t.bytes t.counters e answer u.bytes u.counters
      → Calls a u later v → Calls a t (made_open as_left e answer ∷ later) v
  a_close : {t u v : Left} {e : Name} {answer : ℕ} {later : List Made}
      → Closes a t.bytes t.counters e answer u.bytes u.counters
      → Calls a u later v → Calls a t (made_close as_left e answer ∷ later) v
  other_open : {b run run' : List ℕ} {c c' : Counters} {t v : Left} {e : Name} {answer : Result ℕ Refusal} {later : List Made}
      → Opens b run c e answer run' c' → (refusal_in answer ≡ 0 → ⊥)
      → Calls a t later v → Calls a t (made_open otherwise e answer ∷ later) v
  other_close : {b run run' : List ℕ} {c c' : Counters} {t v : Left} {e : Name} {answer : ℕ} {later : List Made}
      → Closes b run c e answer run' c' → (answer ≡ 0 → ⊥)
      → Calls a t later v → Calls a t (made_close otherwise e answer ∷ later) v

-- what an open lent all as last left answers after these calls: the machine's refusal by its number, else its own failure moves
pub data OpenAnswered (s : FolderSet) (before : List Call) (e : Name) : Answer ℕ → Type 0 where
  is_refused : {r : Refusal} → refusal (run s before) (open_call as_left e) ≡ some r → OpenAnswered s before e (refused (number_of r))
  is_accepted : {moves : ℕ} → refusal (run s before) (open_call as_left e) ≡ none → OpenMoves s (still_open s before) e moves → OpenAnswered s before e (value moves)

-- an answer to an asking call: yes exactly if it holds, no if it does not, and no such place exactly if what is asked of is not there
pub record Answers (there holds : Type 0) (answer : Answer Bool) : Type 0 where
  pub yes : (answer ≡ value true) ↔ holds
  pub no : (answer ≡ value false) ↔ (there × (holds → ⊥))
  pub gone : (answer ≡ refused (number_of NotFound)) ↔ (there → ⊥)

-- a folder of this number is in the set
pub record HasFolder (s : FolderSet) (number : ℕ) : Type 0 where
  pub folder : Folder
  pub of_set : Memᴰ folder s
  pub has : folder_number folder ≡ number

-- the folder of this number has a path that is answered to be matched
pub record HasMatchedPath (s : FolderSet) (a bytes : List ℕ) (number : ℕ) : Type 0 where
  pub place : ℕ
  pub of_folder : Memᴰ place (places_of s number)
  pub is_matched : ask_path a bytes (record { 0 = place }) ≡ value true

-- the step of a path is there
abbrev pub StepThere : FolderSet → ℕ → ℕ → Type 0
StepThere s place k = (place < length (paths_of s)) × (1 ≤ k) × (k ≤ length (path_of_place s place))

-- the answered length is that of the current prefix of the names
pub record PrefixAnswered (s : FolderSet) (names : List Name) (answer : Answer ℕ) : Type 0 where
  pub word : Word
  pub is_prefix : CurrentPrefix s names word
  pub answered : answer ≡ value (length word)

-- two runs on one automaton that are answered the same of open names, active steps and current prefix
pub record SameAsked (a one other : List ℕ) : Type 0 where
  pub names : (d : ℕ) → ask_name a one d ≡ ask_name a other d
  pub refusals : (d : ℕ) → name_refusal a one d ≡ name_refusal a other d
  pub steps : (place : PathPlace) (k : ℕ) → ask_step a one place k ≡ ask_step a other place k
  pub prefix : ask_prefix a one ≡ ask_prefix a other

-- what holds of a set, its automaton and the calls made on a fresh run; `calls` is what the machine is fed, `still` the names opened and not
-- yet closed, and `t` run and counters as last left
pub record Holds (s : FolderSet) (a : List ℕ) (made : List Made) (calls : List Call) (still : List Name) (t : Left) : Type 0 where
  -- a call lent all as last left is refused as the machine refuses it, with the same number, and is else accepted; an accepted open
  -- answers its own failure moves: those of its walk from the current prefix of the names then open
  pub open_answers : (before later : List Made) (e : Name) (answer : Result ℕ Refusal) → before ++ (made_open as_left e answer ∷ later) ≡ made
      → OpenAnswered s (calls_of before) e (says answer)
  pub close_answers : (before later : List Made) (e : Name) (answer : ℕ) → before ++ (made_close as_left e answer ∷ later) ≡ made
      → answer ≡ number_in (refusal (run s (calls_of before)) (close_call as_left e))
  -- a path is matched exactly if it fitted right after some accepted open
  pub paths : (place : PathPlace) → Answers (place.0 < length (paths_of s)) (FittedAfterOpen s calls place.0) (ask_path a t.bytes place)
  -- a folder is matched exactly if one of its paths is
  pub folders : (number : FolderNumber) → Answers (HasFolder s number.0) (HasMatchedPath s a t.bytes number.0) (ask_folder a t.bytes number)
  -- open names, active steps and current prefix are those defined for the names opened and not yet closed
  pub names : (d : ℕ) → 1 ≤ d → d ≤ length still → (ask_name a t.bytes d ≡ name_at still d) × (name_refusal a t.bytes d ≡ 0)
  pub no_names : (d : ℕ) → ((1 ≤ d) × (d ≤ length still) → ⊥) → (ask_name a t.bytes d ≡ []) × (name_refusal a t.bytes d ≡ number_of NotFound)
  pub steps : (place : PathPlace) (k : ℕ) → Answers (StepThere s place.0 k) (Active (path_of_place s place.0) k still) (ask_step a t.bytes place k)
  pub prefix : PrefixAnswered s still (ask_prefix a t.bytes)
  -- a fresh run on the same set, given only the opens of those names in order, answers the same
  pub replayed : (other : List ℕ) (again : List Made) (u : Left) → calls_of again ≡ opens_of still → Calls a (started a other) again u
      → SameAsked a t.bytes u.bytes
  -- opens are closes and open elements; both counters are the machine's, and how many such calls the list has
  pub balance : t.counters.opens ≡ t.counters.closes + length still
  pub opens : t.counters.opens ≡ (run s calls).opens
  pub closes : t.counters.closes ≡ (run s calls).closes
  pub opens_counted : t.counters.opens ≡ opens_in (accepted_calls s calls)
  pub closes_counted : t.counters.closes ≡ closes_in (accepted_calls s calls)
  -- the failure moves counted are the machine's, those of the walks of the accepted opens added up, and at most the depths of all childless
  -- elements together
  pub moves : t.counters.moves ≡ (run s calls).moves
  pub moves_counted : MovesCounted s (accepted_calls s calls) t.counters.moves
  pub moves_most : t.counters.moves ≤ childless_depths (elements_of (accepted_calls s calls))
  -- run and counters pass the shape test
  pub passes : shaped a t.bytes t.counters ≡ true

-- of a set, its automaton and a buffer for the run
pub record Demand3 (s : FolderSet) (a buffer : List ℕ) : Type 0 where
  -- a start is accepted and leaves a fresh run
  pub starts : (c : Counters) (answer : ℕ) (t : Left) → Starts a buffer c answer t.bytes t.counters → (answer ≡ 0) × (t ≡ started a buffer)
  -- any list of calls from a fresh run, whichever call made it
  pub calls : (made : List Made) (t : Left) → Calls a (started a buffer) made t → Holds s a made (calls_of made) (still_open s (calls_of made)) t

-- the whole: of every accepted set, the automaton that a build of its text left in any buffer, and any buffer of a run's size or more
abbrev pub Demand3Whole : Type 0
Demand3Whole = (text before a : List ℕ) (s : FolderSet) → Accepted text s → Built text before 0 a → (buffer : List ℕ) → run_size ≤ length buffer → Demand3 s a buffer

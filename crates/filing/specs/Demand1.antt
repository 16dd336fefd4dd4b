-- Every public call, as one statement: whatever it is lent, it brings its answer or one of fifteen numbered refusals, each
-- exactly where its condition holds and no earlier one of the call's order does; and what a refused call leaves. Of each call the contract
-- alone is used.
use Rattle.std.specs.Prelude.{ℕ, ◌≤◌, ◌<◌, ◌≡◌, Bool, true, Result, ◌↔◌, ◌⊎◌, List, [], length}
use Rattle.std.specs.Borrow.{Bor}
use Rattle.text.specs.Names.{Name}
use Rattle.notation.specs.Sets.{FolderSet}
use Rattle.text.specs.declared.refusals.Refusal.{Refusal}
use Rattle.text.specs.declared.refusals.Refusal.TheVariants.{ShortBuffer, BadShape, RepeatedAttribute}
use Rattle.text.specs.Refusals.{number_of}
use Rattle.text.specs.Answers.{number_said, says}
use Rattle.notation.specs.Judged.{RefusedText}
use Rattle.notation.specs.Accepted.{Accepted}
use Rattle.notation.specs.Layout.{set_size}
use Rattle.notation.specs.Reads.{path_at, folder_of}
use Rattle.notation.specs.ReadSet.{ReadSet}
use Rattle.notation.specs.WriteText.{text_conditions, WriteText}
use Rattle.notation.specs.declared.PathPlace.{PathPlace}
use Rattle.notation.specs.declared.FolderNumber.{FolderNumber}
use Rattle.text.specs.Order.{Condition, Unmet, GivenBy, AnswersBy}
use Rattle.stored.specs.Automaton.{automaton_size}
use Rattle.stored.specs.Build.{Built, SetWritten, write_conditions}
use Rattle.stored.specs.RunCalls.{start_conditions, open_conditions, close_conditions, start_run, no_counters}
use Rattle.stored.specs.RunContracts.{Starts, Opens, Closes}
use Rattle.stored.specs.Asking.{ask_conditions, has_path, has_folder, has_step, has_depth, ask_path, ask_folder, ask_step, ask_prefix, name_refusal, OpenName}
use Rattle.stored.specs.Demand3.{Left}
use Rattle.stored.specs.declared.counters.Counters.{Counters}
use Rattle.filing.specs.Filing.{refused, filed}
use Rattle.filing.specs.ReportRefusals.{ReportGives, Files}
use Rattle.filing.specs.FiledReport.{RepeatsAttribute}
use Rattle.filing.specs.Listed.{listing_conditions, refused_conditions, ListingWritten, RefusedWritten}
use Rattle.filing.specs.Limits.{listing_size}
use Rattle.filing.specs.Shown.{IfRefused, RefusesShort}
use Rattle.filing.specs.Filer.{Prints}

-- what a call that writes a text answers by its order, and that a refusal changes nothing
abbrev pub WrittenBy : List Condition → List ℕ → Result ℕ Refusal → List ℕ → Type 0
WrittenBy order before answer after = AnswersBy order (says answer) × IfRefused (number_said (says answer)) (after ≡ before)

-- a set's text is refused: 1 for a buffer below this size, then for the text's own fault
pub data SetRefused (size : ℕ) (text before : List ℕ) (r : Refusal) : Type 0 where
  short_first : r ≡ ShortBuffer → length before < size → SetRefused size text before r
  of_text : size ≤ length before → RefusedText text r → SetRefused size text before r

-- what a call that judges a set's text answers, and that a refusal changes nothing
pub record SetJudged (size : ℕ) (text before : List ℕ) (answer : ℕ) (after : List ℕ) : Type 0 where
  pub refusals : (r : Refusal) → (answer ≡ number_of r) ↔ SetRefused size text before r
  pub accepted : (answer ≡ 0) ↔ ((size ≤ length before) × ((s : FolderSet) × Accepted text s))
  pub either : (answer ≡ 0) ⊎ ((r : Refusal) × (answer ≡ number_of r))
  pub untouched : IfRefused answer (after ≡ before)

-- what filing a report answers, and what a refused one leaves: all as it was where 1 or 14 is given, else a fresh run and zero counters
pub record ReportJudged (a run : List ℕ) (c : Counters) (report : List ℕ) (answer : ℕ) (run' : List ℕ) (c' : Counters) : Type 0 where
  pub refusals : (r : Refusal) → (answer ≡ number_of r) ↔ ReportGives a run report (refused r)
  -- 15 of these on its own condition: neither 1 nor 14, and no token is refused so
  pub repeats : (answer ≡ number_of RepeatedAttribute) ↔ (Unmet (start_conditions a run) × RepeatsAttribute report)
  pub accepted : (answer ≡ 0) ↔ ((t : Left) × ReportGives a run report (filed t))
  pub either : (answer ≡ 0) ⊎ ((r : Refusal) × (answer ≡ number_of r))
  pub untouched : (answer ≡ number_of ShortBuffer) ⊎ (answer ≡ number_of BadShape) → (run' ≡ run) × (c' ≡ c)
  pub fresh : (answer ≡ number_of ShortBuffer → ⊥) → (answer ≡ number_of BadShape → ⊥) → IfRefused answer ((run' ≡ start_run a run) × (c' ≡ no_counters))

pub record Demand1 : Type 0 where
  -- the numbers are those from 1 to 15, and no two refusals have the same
  pub fifteen : (n : ℕ) → ((r : Refusal) × (number_of r ≡ n)) ↔ ((1 ≤ n) × (n ≤ 15))
  pub different : (q r : Refusal) → number_of q ≡ number_of r → q ≡ r
  -- a set is read, built, and written back
  pub reads : (text before : List ℕ) (answer : ℕ) (after : List ℕ) → ReadSet text before answer after → SetJudged set_size text before answer after
  pub builds : (text before : List ℕ) (answer : ℕ) (after : List ℕ) → Built text before answer after → SetJudged automaton_size text before answer after
  pub writes_text : (part before : List ℕ) (answer : Result ℕ Refusal) (after : List ℕ) → WriteText part before answer after
      → WrittenBy (text_conditions part before) before answer after
  pub writes_set : (a before : List ℕ) (answer : Result ℕ Refusal) (after : List ℕ) → SetWritten a before answer after
      → WrittenBy (write_conditions a before) before answer after
  -- a run is started; elements are opened and closed
  pub starts : (a run : List ℕ) (c : Counters) (answer : ℕ) (run' : List ℕ) (c' : Counters) → Starts a run c answer run' c'
      → GivenBy (start_conditions a run) answer × IfRefused answer ((run' ≡ run) × (c' ≡ c))
  pub opens : (a run : List ℕ) (c : Counters) (e : Name) (answer : Result ℕ Refusal) (run' : List ℕ) (c' : Counters) → Opens a run c e answer run' c'
      → AnswersBy (open_conditions a run c e) (says answer) × IfRefused (number_said (says answer)) ((run' ≡ run) × (c' ≡ c))
  pub closes : (a run : List ℕ) (c : Counters) (e : Name) (answer : ℕ) (run' : List ℕ) (c' : Counters) → Closes a run c e answer run' c'
      → GivenBy (close_conditions a run c e) answer × IfRefused answer ((run' ≡ run) × (c' ≡ c))
  -- a run is asked; nothing is lent to be changed
  pub paths : (a run : List ℕ) (place : PathPlace) (answer : Result Bool Refusal) → says answer ≡ ask_path a run place
      → AnswersBy (ask_conditions a run (has_path (path_at a place))) (says answer)
  pub folders : (a run : List ℕ) (number : FolderNumber) (answer : Result Bool Refusal) → says answer ≡ ask_folder a run number
      → AnswersBy (ask_conditions a run (has_folder (folder_of a number))) (says answer)
  pub steps : (a run : List ℕ) (place : PathPlace) (s : ℕ) (answer : Result Bool Refusal) → says answer ≡ ask_step a run place s
      → AnswersBy (ask_conditions a run (has_step (path_at a place) s)) (says answer)
  pub prefixes : (a run : List ℕ) (answer : Result ℕ Refusal) → says answer ≡ ask_prefix a run → AnswersBy (ask_conditions a run true) (says answer)
  pub names : (a : List ℕ) (run : Bor (List ℕ)) (d number : ℕ) (shown : Bor (List ℕ)) → number ≡ name_refusal a run.now d → OpenName a run d shown
      → GivenBy (ask_conditions a run.now (has_depth run.now d)) number × IfRefused number (shown.now ≡ [])
  -- a report is filed, listed, and both as one call
  pub files : (a run : List ℕ) (c : Counters) (report : List ℕ) (answer : ℕ) (run' : List ℕ) (c' : Counters) → Files a run c report answer run' c'
      → ReportJudged a run c report answer run' c'
  pub lists : (a run : List ℕ) (c : Counters) (before : List ℕ) (answer : Result ℕ Refusal) (after : List ℕ) → ListingWritten a run c before answer after
      → WrittenBy (listing_conditions a run c before) before answer after
  pub lists_refusal : (n : ℕ) (before : List ℕ) (answer : Result ℕ Refusal) (after : List ℕ) → RefusedWritten n before answer after
      → WrittenBy (refused_conditions before) before answer after
  pub prints : (text report a run out : List ℕ) (answer : Result ℕ Refusal) (a' run' out' : List ℕ) → Prints text report a run out answer a' run' out'
      → RefusesShort listing_size a run out answer a' run' out'

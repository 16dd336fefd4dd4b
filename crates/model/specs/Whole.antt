-- All that demand 3 says of the machine after a list of calls from a fresh one, in one place.
use Rattle.std.specs.Prelude.{ℕ, ◌+◌, ◌≤◌, ◌≡◌, true, ◌↔◌, List, length}
use Rattle.notation.specs.Sets.{FolderSet}
use Rattle.notation.specs.Fit.{Active}
use Rattle.model.specs.Prefix.{CurrentPrefix}
use Rattle.model.specs.Calls.{Call, State, open_names, path_of_place, active_step, run}
use Rattle.model.specs.History.{accepted_calls, opens_in, closes_in, still_open, FittedAfterOpen, opens_of, SameAnswers}
use Rattle.model.specs.Moves.{MovesCounted}
use Rattle.model.specs.Elements.{elements_of, childless_depths}
use Rattle.model.specs.Folders.{FolderMatched, folder_matched}

pub record Whole (set : FolderSet) (calls : List Call) (s : State) : Type 0 where
  -- the matched paths are exactly those that fitted right after some accepted open
  pub paths : (place : ℕ) → (s.matched place ≡ true) ↔ FittedAfterOpen set calls place
  -- the matched folders exactly those with a matched path
  pub folders : (number : ℕ) → (folder_matched set s number ≡ true) ↔ FolderMatched set s number
  -- open names, active steps and current prefix are those of the names opened and not yet closed
  pub names : open_names s ≡ still_open set calls
  pub steps : (place k : ℕ) → (active_step set s place k ≡ true) ↔ Active (path_of_place set place) k (still_open set calls)
  pub prefix : CurrentPrefix set (still_open set calls) s.current
  -- the same answers as a fresh machine on the same set that was given only the opens of those names, in order
  pub replayed : SameAnswers set s (run set (opens_of (still_open set calls)))
  -- accepted opens = accepted closes + elements open; both are how many such calls the list has
  pub balance : s.opens ≡ s.closes + length (open_names s)
  pub opens : s.opens ≡ opens_in (accepted_calls set calls)
  pub closes : s.closes ≡ closes_in (accepted_calls set calls)
  -- the failure moves counted are those of the walks of the accepted opens added up
  pub moves_counted : MovesCounted set (accepted_calls set calls) s.moves
  -- and at most the depths of all childless elements added up
  pub moves : s.moves ≤ childless_depths (elements_of (accepted_calls set calls))

-- What a list of calls says by itself: its accepted calls, how many they are, and which names they opened and did not close.
use Rattle.std.specs.Prelude.{ℕ, zero, suc, ◌≡◌, true, cond, List, [], ◌∷◌, ◌++◌, map, reverse}
use Rattle.text.specs.Names.{Name}
use Rattle.notation.specs.Sets.{FolderSet}
use Rattle.notation.specs.Fit.{Fits}
use Rattle.model.specs.Calls.{as_left, Call, open_call, close_call, State, fresh, accepted, step, run, open_names, path_of_place, active_step}

-- the accepted calls, the last first; `earlier` are those before the list
unfoldable pub accepted_after : FolderSet → State → List Call → List Call → List Call
accepted_after set s earlier [] = earlier
accepted_after set s earlier (call ∷ calls) = accepted_after set (step set s call) (cond (accepted s call) (call ∷ earlier) earlier) calls

abbrev pub accepted_calls : FolderSet → List Call → List Call
accepted_calls set calls = accepted_after set (fresh set) [] calls

-- how many opens and how many closes
unfoldable pub opens_in : List Call → ℕ
opens_in [] = 0
opens_in (open_call l e ∷ calls) = suc (opens_in calls)
opens_in (close_call l e ∷ calls) = opens_in calls

unfoldable pub closes_in : List Call → ℕ
closes_in [] = 0
closes_in (open_call l e ∷ calls) = closes_in calls
closes_in (close_call l e ∷ calls) = suc (closes_in calls)

-- the names opened and not yet closed, innermost first, read from the last accepted call back: each close takes away the nearest open
-- before it that no later close takes. `taken` is how many closes were met whose open is still to come
unfoldable pub unclosed : ℕ → List Call → List Name
unclosed taken [] = []
unclosed taken (close_call l e ∷ earlier) = unclosed (suc taken) earlier
unclosed zero (open_call l e ∷ earlier) = e ∷ unclosed zero earlier
unclosed (suc taken) (open_call l e ∷ earlier) = unclosed taken earlier

-- the same in order, outermost first
abbrev pub names_left : List Call → List Name
names_left earlier = reverse (unclosed 0 earlier)

-- the names that a list of calls opened and did not yet close, in order
abbrev pub still_open : FolderSet → List Call → List Name
still_open set calls = names_left (accepted_calls set calls)

-- the path of this place fitted right after some accepted open of the list
pub record FittedAfterOpen (set : FolderSet) (calls : List Call) (place : ℕ) : Type 0 where
  pub before : List Call
  pub name : Name
  pub later : List Call
  pub joined : before ++ (open_call as_left name ∷ later) ≡ calls
  pub is_accepted : accepted (run set before) (open_call as_left name) ≡ true
  pub fitted : Fits (path_of_place set place) (open_names (run set (before ++ (open_call as_left name ∷ []))))

-- the opens of some names, in order
abbrev pub opens_of : List Name → List Call
opens_of names = map (open_call as_left) names

-- two states of one set that answer the same of open names, current prefix and active steps
pub record SameAnswers (set : FolderSet) (s t : State) : Type 0 where
  pub names : open_names s ≡ open_names t
  pub prefix : s.current ≡ t.current
  pub steps : (place k : ℕ) → active_step set s place k ≡ active_step set t place k

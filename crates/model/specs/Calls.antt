-- The machine over open and close calls (paper 01: The shared machine). All that it holds comes from the names called.
use Rattle.std.specs.Prelude.{ℕ, suc, ◌+◌, Bool, true, false, not, ◌&&◌, ◌||◌, cond, List, [], ◌∷◌, map, reverse, leb, length, get_or}
use Rattle.std.proofs.Math.Option.{Option}
use Rattle.text.specs.Names.{Name, name_form, too_long, same_name}
use Rattle.notation.specs.Sets.{Path, FolderSet}
use Rattle.notation.specs.Form.{paths_of}
use Rattle.text.specs.Lists.{non_empty}
use Rattle.text.specs.declared.refusals.Refusal.{Refusal}
use Rattle.text.specs.declared.refusals.Refusal.TheVariants.{SyntaxError, NameTooLong, NotOneRoot, TooDeep, OverCapacity, MismatchedClose}
use Rattle.notation.specs.Activity.{active, fits}
use Rattle.model.specs.Limits.{max_depth, max_opens}
use Rattle.model.specs.Words.{document, Word, begins}
use Rattle.text.specs.Order.{Condition, gives, first, is_none}
use Rattle.model.specs.Walk.{moves_of, arrived_at, walk}

-- what a call was lent: automaton, run and counters as last left, or anything else. One lent anything else is in a list of calls only
-- if it was refused
pub data Lent : Type 0 where
  as_left otherwise : Lent

pub data Call : Type 0 where
  open_call close_call : Lent → Name → Call

-- an open element: its name, and the current prefix from before it opened
pub data Level : Type 0 where
  level : Name → Word → Level

abbrev pub name_of : Level → Name
name_of (level n w) = n

pub record State : Type 0 where
  -- the open elements, innermost first
  pub levels : List Level
  -- the current prefix (paper 01: the held word)
  pub current : Word
  pub root_closed : Bool
  -- whether the path of a place is matched (paper 01: marked)
  pub matched : ℕ → Bool
  -- accepted opens, accepted closes, failure moves (paper 01: fall-backs)
  pub opens : ℕ
  pub closes : ℕ
  pub moves : ℕ

-- the open names, outermost first
abbrev pub names_of : List Level → List Name
names_of levels = reverse (map name_of levels)

abbrev pub open_names : State → List Name
open_names s = names_of s.levels

abbrev pub depth : State → ℕ
depth s = length s.levels

-- the path of a place; past the last it is empty, and fits nothing
abbrev pub path_of_place : FolderSet → ℕ → Path
path_of_place set place = get_or (paths_of set) place []

-- step k (from 1) of the path of a place is active on the innermost element (paper 01: it stands)
abbrev pub active_step : FolderSet → State → ℕ → ℕ → Bool
active_step set s place k = active (path_of_place set place) k (open_names s)

-- a fresh run holds `#` if a keyword begins so, else nothing
unfoldable pub fresh : FolderSet → State
fresh set = record {
  levels = [];
  current = cond (begins set (document ∷ [])) (document ∷ []) [];
  root_closed = false;
  matched = λ place. false;
  opens = 0;
  closes = 0;
  moves = 0;
}

-- an accepted open: walk, put e on the open names, match every path that fits
unfoldable pub opened : FolderSet → State → Name → State
opened set s e =
    let levels : List Level = level e s.current ∷ s.levels in
    record {
      levels = levels;
      current = arrived_at (walk set s.current e);
      root_closed = s.root_closed;
      matched = λ place. s.matched place || fits (path_of_place set place) (names_of levels);
      opens = suc s.opens;
      closes = s.closes;
      moves = s.moves + moves_of (walk set s.current e);
    }

-- an accepted close: remove the innermost name and bring back the prefix from before it opened; with nothing then open the root is closed
unfoldable pub closed_from : List Level → State → State
closed_from [] s = s
closed_from (level n w ∷ outer) s = record {
  levels = outer;
  current = w;
  root_closed = not (non_empty outer);
  matched = s.matched;
  opens = s.opens;
  closes = suc s.closes;
  moves = s.moves;
}

abbrev pub closed : State → State
closed s = closed_from s.levels s

-- the conditions of an open's and a close's refusals, of the name and of the open names, root and accepted opens
abbrev pub nothing_open : State → Bool
nothing_open s = not (non_empty s.levels)

abbrev pub is_innermost : List Level → Name → Bool
is_innermost [] e = false
is_innermost (level n w ∷ outer) e = same_name n e

-- the order of an open: 9, 5, 10, 11, 7; of a close: 9, 5, 10, 12
abbrev pub open_order : State → Name → List Condition
open_order s e =
    gives (not (name_form e)) SyntaxError
    ∷ gives (too_long e) NameTooLong
    ∷ gives s.root_closed NotOneRoot
    ∷ gives (leb max_depth (depth s)) TooDeep
    ∷ gives (leb max_opens s.opens) OverCapacity
    ∷ []

abbrev pub close_order : State → Name → List Condition
close_order s e =
    gives (not (name_form e)) SyntaxError
    ∷ gives (too_long e) NameTooLong
    ∷ gives (nothing_open s) NotOneRoot
    ∷ gives (not (is_innermost s.levels e)) MismatchedClose
    ∷ []

abbrev pub order_of : State → Call → List Condition
order_of s (open_call l e) = open_order s e
order_of s (close_call l e) = close_order s e

-- the refusal of a call lent all as last left, if it is refused
unfoldable pub refusal : State → Call → Option Refusal
refusal s call = first (order_of s call)

abbrev pub lent_as_left : Lent → Bool
lent_as_left as_left = true
lent_as_left otherwise = false

abbrev pub lent_of : Call → Lent
lent_of (open_call l e) = l
lent_of (close_call l e) = l

-- a call is accepted where it is lent all as last left and not refused
unfoldable pub accepted : State → Call → Bool
accepted s call = lent_as_left (lent_of call) && is_none (refusal s call)

abbrev pub done : FolderSet → State → Call → State
done set s (open_call l e) = opened set s e
done set s (close_call l e) = closed s

-- a refused call leaves the machine as it is
unfoldable pub step : FolderSet → State → Call → State
step set s call = cond (accepted s call) (done set s call) s

unfoldable pub after : FolderSet → State → List Call → State
after set s [] = s
after set s (call ∷ calls) = after set (step set s call) calls

-- the machine after a list of calls from a fresh run
abbrev pub run : FolderSet → List Call → State
run set calls = after set (fresh set) calls

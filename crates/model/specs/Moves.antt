-- The failure moves of a list of calls (paper 01: fall-backs), by the walks of its accepted opens alone.
use Rattle.std.specs.Prelude.{ℕ, ◌+◌, List, [], ◌∷◌}
use Rattle.text.specs.Names.{Name}
use Rattle.notation.specs.Sets.{FolderSet}
use Rattle.model.specs.Words.{Word}
use Rattle.model.specs.Prefix.{CurrentPrefix}
use Rattle.model.specs.Walk.{Walks}
use Rattle.model.specs.Calls.{Lent, Call, open_call, close_call}
use Rattle.model.specs.History.{names_left}

-- an open of name e with these names open makes so many: its walk from their current prefix counts them
pub record OpenMoves (set : FolderSet) (names : List Name) (e : Name) (moves : ℕ) : Type 0 where
  pub from : Word
  pub is_prefix : CurrentPrefix set names from
  pub to : Word
  pub walks : Walks set e from moves to

-- those of accepted calls, the last first, added up: each open's, with the names open before it; closes take none back
pub data MovesCounted (set : FolderSet) : List Call → ℕ → Type 0 where
  none : MovesCounted set [] 0
  an_open : {l : Lent} {e : Name} {earlier : List Call} {moves more : ℕ} → MovesCounted set earlier moves → OpenMoves set (names_left earlier) e more → MovesCounted set (open_call l e ∷ earlier) (moves + more)
  a_close : {l : Lent} {e : Name} {earlier : List Call} {moves : ℕ} → MovesCounted set earlier moves → MovesCounted set (close_call l e ∷ earlier) moves

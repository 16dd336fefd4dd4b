-- The walk of an accepted open of name e from the current prefix (paper 01: the held word), with its count of failure moves (fall-backs).
use Rattle.std.specs.Prelude.{ℕ, zero, suc, Bool, false, not, cond, [], ◌∷◌, ◌++◌, length}
use Rattle.text.specs.Names.{Name}
use Rattle.notation.specs.Sets.{FolderSet}
use Rattle.model.specs.Words.{Symbol, name, Word, Begins, begins}
use Rattle.model.specs.Prefix.{LongestProperEnd, failure}

-- the word followed by e
abbrev pub followed_by : Word → Name → Word
followed_by w e = w ++ (name e ∷ [])

-- `Walks set e w moves v`: from w, by so many failure moves, to v. While the word is not empty and no keyword begins with it followed by
-- e, fall back to its longest proper end that begins a keyword, counting one; then the word with e if some keyword begins so, else nothing
pub data Walks (set : FolderSet) (e : Name) : Word → ℕ → Word → Type 0 where
  follows : {w : Word} → Begins set (followed_by w e) → Walks set e w zero (followed_by w e)
  stops : (Begins set (followed_by [] e) → ⊥) → Walks set e [] zero []
  falls : {s : Symbol} {w u v : Word} {moves : ℕ} → (Begins set (followed_by (s ∷ w) e) → ⊥) → LongestProperEnd set (s ∷ w) u → Walks set e u moves v → Walks set e (s ∷ w) (suc moves) v

-- the same, computed
pub data Walked : Type 0 where
  walked : ℕ → Word → Walked

abbrev pub moves_of : Walked → ℕ
moves_of (walked moves w) = moves

abbrev pub arrived_at : Walked → Word
arrived_at (walked moves w) = w

abbrev pub counted : Walked → Walked
counted (walked moves w) = walked (suc moves) w

-- the word is not empty and no keyword begins with it followed by e
abbrev pub stuck : FolderSet → Word → Name → Bool
stuck set [] e = false
stuck set (s ∷ w) e = not (begins set (followed_by (s ∷ w) e))

abbrev pub arrive : FolderSet → Word → Name → Walked
arrive set w e = walked zero (cond (begins set (followed_by w e)) (followed_by w e) [])

-- `steps` bounds how often the word can become shorter
unfoldable pub walk_in : ℕ → FolderSet → Word → Name → Walked
walk_in zero set w e = arrive set w e
walk_in (suc steps) set w e = cond (stuck set w e) (counted (walk_in steps set (failure set w) e)) (arrive set w e)

unfoldable pub walk : FolderSet → Word → Name → Walked
walk set w e = walk_in (length w) set w e

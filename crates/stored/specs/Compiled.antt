-- What an automaton's tables mean: the laws of the bytes that were built from a set. The calls on a run use nothing else of the
-- build.
use Rattle.std.specs.Prelude.{ℕ, suc, ◌*◌, ◌≤◌, ◌<◌, ◌≡◌, true, false, List, [], length}
use Rattle.text.specs.Names.{Name}
use Rattle.notation.specs.Sets.{FolderSet}
use Rattle.notation.specs.Form.{paths_of}
use Rattle.notation.specs.Reads.{path_count, step_count, label_count}
use Rattle.model.specs.Words.{Word, begins}
use Rattle.model.specs.Prefix.{IsPrefix, failure}
use Rattle.model.specs.Walk.{followed_by, Walked, moves_of, arrived_at, walk}
use Rattle.model.specs.Calls.{fresh}
use Rattle.stored.specs.Automaton.{mask_size, mask_count, mask_at, all_steps, all_labels, state_of, roles, role_at, marks, takes, start_state, mask_test}
use Rattle.stored.specs.Tables.{start_of, size_of, fail_of, goto, walk_over}
use Rattle.stored.specs.Bits.{bit_in}
use Rattle.stored.specs.Marked.{marked}
use Rattle.stored.specs.declared.walk.Walk.{Walk}

-- a walk as the tables give it
abbrev pub stored_walk : FolderSet → Walked → Walk
stored_walk s x = record { moves = moves_of x; state = state_of s (arrived_at x) }

pub record Compiled (s : FolderSet) (a : List ℕ) : Type 0 where
  pub paths : path_count a ≡ length (paths_of s)
  pub steps : step_count a ≡ length (all_steps s)
  pub labels : label_count a ≡ length (all_labels s)
  -- goto finds the word with one symbol more exactly when it begins a keyword
  pub goes : (w : Word) → IsPrefix s w → (e : Name) → begins s (followed_by w e) ≡ true → goto a (state_of s w) e ≡ state_of s (followed_by w e)
  pub stops : (w : Word) → IsPrefix s w → (e : Name) → begins s (followed_by w e) ≡ false → goto a (state_of s w) e ≡ 0
  -- no two words that can be a current prefix have one state; the empty word has 0
  pub one : (v w : Word) → IsPrefix s v → IsPrefix s w → state_of s v ≡ state_of s w → v ≡ w
  pub none : state_of s [] ≡ 0
  pub within : (w : Word) → IsPrefix s w → state_of s w ≤ suc (label_count a)
  -- the longest proper end, and the length
  pub fail : (w : Word) → IsPrefix s w → fail_of a (state_of s w) ≡ state_of s (failure s w)
  pub size : (w : Word) → IsPrefix s w → size_of a (state_of s w) ≡ length w
  -- so the walk is the machine's
  pub walks : (w : Word) → IsPrefix s w → (e : Name) → walk_over a (state_of s w) e ≡ stored_walk s (walk s w e)
  -- a name marks exactly the steps that have its label
  pub marked : (e : Name) (i : ℕ) → marked a e i ≡ takes e (marks s) i
  -- bit i of mask m is the mask's test of step i
  pub masks : (m : ℕ) → m < mask_count → (i : ℕ) → i < 8 * mask_size → bit_in a (mask_at m) i ≡ role_at (mask_test m) (roles s) i
  -- a fresh run's state
  pub start : start_of a ≡ start_state s
  pub begin : start_state s ≡ state_of s (fresh s).current

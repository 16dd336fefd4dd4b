-- What inner functions may take for granted of an automaton and a run. A caller knows `Ready` or `Usable`, by the shape test; the rest follow
-- from it by law, each the part that one function needs.
use Rattle.std.specs.Prelude.{ℕ, suc, ◌≤◌, ◌<◌, ◌*◌, ◌≡◌, List, true, length}
use Rattle.notation.specs.Limits.{max_steps, max_labels, max_paths}
use Rattle.notation.specs.Reads.{label_count, step_count}
use Rattle.stored.specs.Automaton.{hashes, automaton_size}
use Rattle.stored.specs.Tables.{head_at, next_at, fail_at, size_at, other_at, first_at, far_at, size_of}
use Rattle.stored.specs.Shape.{automaton_shaped}
use Rattle.stored.specs.Run.{run_size}
use Rattle.stored.specs.RunCalls.{run_shaped, counters_shaped}
use Rattle.stored.specs.declared.counters.Counters.{Counters}

-- automaton and run have their size and pass the shape test
pub record Ready (a run : List ℕ) : Type 0 where
  pub size : automaton_size ≤ length a
  pub shaped : automaton_shaped a ≡ true
  pub run_length : run_size ≤ length run
  pub run_is_shaped : run_shaped a run ≡ true

-- what a report's calls keep from token to token: automaton, run and counters of their size that pass the shape test
pub record Usable (a run : List ℕ) (c : Counters) : Type 0 where
  pub ready : Ready a run
  pub counts : counters_shaped run c ≡ true

-- a place after label l, which is 1 more than its label: that of a later label, or none
pub record After (a : List ℕ) (l k : ℕ) : Type 0 where
  pub within : k ≤ label_count a
  pub later : (m : ℕ) → k ≡ suc m → l < m

-- the chains of the hashes are of labels, and go on to a later one or end
pub record Lookable (a : List ℕ) : Type 0 where
  pub few : label_count a ≤ max_labels
  pub head : (h : ℕ) → h < hashes → head_at a h ≤ label_count a
  pub other : (l : ℕ) → l < label_count a → After a l (other_at a l)

-- and those of the names
pub record Searchable (a : List ℕ) : Type 0 where
  pub lookable : Lookable a
  pub first : (l : ℕ) → l < label_count a → first_at a l ≤ label_count a
  pub next : (l : ℕ) → l < label_count a → After a l (next_at a l)

-- each failure link leads to a label's state, 0 or 1, and to a shorter word
pub record Falling (a : List ℕ) : Type 0 where
  pub fail : (l : ℕ) → l < label_count a → fail_at a l ≤ suc (label_count a)
  pub size : (l : ℕ) → l < label_count a → size_at a l ≤ suc max_steps
  pub shorter : (l : ℕ) → l < label_count a → size_of a (fail_at a l) < size_at a l

pub record Walkable (a : List ℕ) : Type 0 where
  pub searchable : Searchable a
  pub falling : Falling a

-- what an open uses of an automaton's shape
pub record Openable (a : List ℕ) : Type 0 where
  pub walkable : Walkable a
  pub far : (l : ℕ) → l < label_count a → After a l (far_at a l)
  pub steps : step_count a ≤ max_paths * max_steps
  pub size : automaton_size ≤ length a

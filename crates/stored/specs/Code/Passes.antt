-- The passes of a build, one after the other. They follow the code; a law says that they make the automaton of the read set.
use Rattle.std.specs.Prelude.{ℕ, suc, ◌-◌, ◌≤◌, min, ◌≡◌, List, ◌++◌, length, take, drop, replicate}
use Rattle.notation.specs.Limits.{max_labels, max_steps}
use Rattle.notation.specs.Sets.{FolderSet}
use Rattle.notation.specs.Accepted.{Accepted}
use Rattle.notation.specs.Layout.{set_size, set_part}
use Rattle.notation.specs.Reads.{step_count, label_count}
use Rattle.stored.specs.Automaton.{automaton_size}
use Rattle.stored.specs.Code.Chains.{chained}
use Rattle.stored.specs.Code.Groups.{grouped_below}
use Rattle.stored.specs.Code.Parents.{parented, before_paths}
use Rattle.stored.specs.Code.Fails.{failed_to}
use Rattle.stored.specs.Code.Masks.{with_masks, with_start}

-- zeros behind the set
unfoldable pub cleared : List ℕ → List ℕ
cleared a = take set_size a ++ (replicate (automaton_size - set_size) 0 ++ drop automaton_size a)

abbrev pub with_chains : List ℕ → List ℕ
with_chains a = chained (min (label_count a) max_labels) a

abbrev pub with_groups : List ℕ → List ℕ
with_groups a = grouped_below (min (label_count a) max_labels) a

abbrev pub with_parents : List ℕ → List ℕ
with_parents a = parented (step_count a) 0 before_paths a

abbrev pub with_fails : List ℕ → List ℕ
with_fails a = failed_to (label_count a) (suc max_steps) a

unfoldable pub made : List ℕ → List ℕ
made a = with_start (with_masks (with_fails (with_parents (with_groups (with_chains (cleared a))))))

-- an accepted set has been read into the bytes, and there is room for its automaton
pub record ReadIn (a : List ℕ) : Type 0 where
  pub text : List ℕ
  pub set : FolderSet
  pub accepted : Accepted text set
  pub rest : List ℕ
  pub bytes : a ≡ set_part set ++ rest
  pub room : automaton_size ≤ length a

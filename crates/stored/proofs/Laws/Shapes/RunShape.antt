-- The shape test of a run, by its parts.
use Prim.Native.Nat.{ℕ, suc, ◌≤◌}
use mathlib.Core.Path.{◌≡◌}
use mathlib.Core.Bool.{true}
use mathlib.Core.List.{List}
use native.Mathlib.Omega.{arith}
use borrow.Author.Tests.{leb-true}
use lib.Dec.{leb}
use Rattle.text.specs.Names.{max_name}
use Rattle.notation.specs.Reads.{label_count}
use Rattle.model.specs.Limits.{max_depth}
use Rattle.stored.specs.Shape.{all_below}
use Rattle.stored.specs.RunCalls.{depth_of, name_length, state_at, row_shaped, run_shaped}
use Rattle.text.proofs.Laws.Tests.{both}
use Rattle.stored.proofs.Laws.Bytes.AllBelow.{all-at}

-- what a shaped run has
pub record RunShape (a run : List ℕ) : Type 0 where
  pub deepest : depth_of run ≤ max_depth
  pub name : (d : ℕ) → d ≤ depth_of run → name_length run d ≤ max_name
  pub state : (d : ℕ) → d ≤ depth_of run → state_at run d ≤ suc (label_count a)

pub run-shape : (a run : List ℕ) → run_shaped a run ≡ true → RunShape a run
unfolding run_shaped
run-shape a run h =
    let b = both (leb (depth_of run) max_depth) (all_below (suc (depth_of run)) (row_shaped a run)) h in
    record {
      deepest = leb-true _ _ b.0;
      name = λ d k. leb-true _ _ (both (leb (name_length run d) max_name) (leb (state_at run d) (suc (label_count a))) (all-at (suc (depth_of run)) (row_shaped a run) b.1 d (omega arith))).0;
      state = λ d k. leb-true _ _ (both (leb (name_length run d) max_name) (leb (state_at run d) (suc (label_count a))) (all-at (suc (depth_of run)) (row_shaped a run) b.1 d (omega arith))).1;
    }

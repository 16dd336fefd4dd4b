-- A start after other calls leaves what it would have left before them: calls write within the run, and a start keeps only what is behind it.
use Prim.Native.Nat.{ℕ, ◌+◌}
use mathlib.Core.Path.{◌≡◌, ◌∙◌, ap}
use mathlib.Core.List.{List, ◌++◌}
use lib.ListN.{drop, replicate, length-replicate}
use lib.Seq.{sets, length-sets, drop_at}
use Rattle.text.specs.Names.{Name}
use Rattle.text.specs.Bytes.{le16}
use Rattle.stored.specs.Tables.{start_of}
use Rattle.stored.specs.Run.{state_in, row_at, run_size}
use Rattle.stored.specs.RunCalls.{open_refusal, close_refusal, start_run, open_run, close_run}
use Rattle.stored.specs.declared.counters.Counters.{Counters}
use Rattle.stored.proofs.Laws.Shapes.Given.{may-open, may-close}
use Rattle.stored.proofs.Laws.Shapes.Kept.{open-behind, close-behind}

same_start : (a x y : List ℕ) → drop run_size x ≡ drop run_size y → start_run a x ≡ start_run a y
unfolding start_run
same_start a x y e = ap (λ (l : List ℕ). sets (replicate run_size 0) (row_at 0 + state_in) (le16 (start_of a)) ++ l) e

start-behind : (a run : List ℕ) → drop run_size (start_run a run) ≡ drop run_size run
unfolding start_run
start-behind a run =
    drop_at (sets (replicate run_size 0) (row_at 0 + state_in) (le16 (start_of a))) (drop run_size run) run_size
    (length-sets (replicate run_size 0) (row_at 0 + state_in) (le16 (start_of a)) ∙ length-replicate {A = ℕ} run_size 0)

pub start-restart : (a run : List ℕ) → start_run a (start_run a run) ≡ start_run a run
start-restart a run = same_start a (start_run a run) run (start-behind a run)

pub open-restart : (a run : List ℕ) (c : Counters) (e : Name) → open_refusal a run c e ≡ 0 → start_run a (open_run a run e) ≡ start_run a run
open-restart a run c e z =
    let m = may-open a run c e z in
    same_start a (open_run a run e) run (open-behind a run e m.ready m.depth m.name)

pub close-restart : (a run : List ℕ) (c : Counters) (e : Name) → close_refusal a run c e ≡ 0 → start_run a (close_run run) ≡ start_run a run
close-restart a run c e z =
    same_start a (close_run run) run (close-behind a run (may-close a run c e z).ready)

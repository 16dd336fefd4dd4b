-- `asking::prefix_length`: the state of a run that may be asked is a state of the automaton.
use Prim.Native.Nat.{suc, ◌≤◌}
use mathlib.Core.Path.{sym}
use mathlib.Core.Bool.{true}
use native.Mathlib.Omega.{arith}
use Rattle.notation.specs.Reads.{label_count}
use Rattle.stored.specs.RunCalls.{depth_of}
use Rattle.stored.proofs.Laws.Shapes.Shaped.{shaped-walkable}
use Rattle.stored.proofs.Laws.Shapes.Given.{may-ask}
use Rattle.stored.proofs.Laws.Shapes.RunShape.{run-shape}
use Rattle.machine.proofs.run.asking.prefix_length.Goals as goal

pub size_of-requires : goal.size_of-requires
size_of-requires c =
    let a = c.args.a.now in
    let run = c.args.run.now in
    let ready = (may-ask a run true (sym c.in_ok-pair_refusal.ensures)).0 in
    let few = (shaped-walkable a ready.shaped).searchable.lookable.few in
    let state : c.state.result ≤ suc (label_count a) = rw (c.state.ensures.value, c.depth.ensures) ((run-shape a run ready.run_is_shaped).state (depth_of run) (omega arith)) in
    omega arith

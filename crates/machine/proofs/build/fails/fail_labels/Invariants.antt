use mathlib.Core.Path.{◌≡◌}
use Rattle.stored.specs.Code.Fails.{failed_below}
use Rattle.machine.proofs.build.fails.fail_labels.Given as goal

abbrev pub invariant-loop-l : goal.invariant-loop-l
invariant-loop-l l = l.a ≡ failed_below l.n l.l l.initial.a

use Prim.Native.Nat.{◌-◌}
use mathlib.Core.Path.{◌≡◌}
use Rattle.stored.specs.Code.Fails.{failed_to}
use Rattle.notation.specs.Reads.{label_count}
use Rattle.machine.proofs.build.fails.fails.Given as goal

abbrev pub invariant-loop-n : goal.invariant-loop-n
invariant-loop-n l = l.a ≡ failed_to (label_count l.initial.a) (l.n - 1) l.initial.a

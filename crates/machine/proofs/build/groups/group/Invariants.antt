use Prim.Native.Nat.{min}
use mathlib.Core.Path.{◌≡◌}
use Rattle.notation.specs.Limits.{max_labels}
use Rattle.notation.specs.Reads.{label_count}
use Rattle.stored.specs.Code.Groups.{grouped_below}
use Rattle.machine.proofs.build.groups.group.Given as goal

abbrev pub invariant-loop-l : goal.invariant-loop-l
invariant-loop-l l = grouped_below l.l l.part ≡ grouped_below (min (label_count l.initial.part) max_labels) l.initial.part

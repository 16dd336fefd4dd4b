use Prim.Native.Nat.{◌-◌}
use mathlib.Core.Path.{◌≡◌}
use Rattle.notation.specs.Reads.{step_count}
use Rattle.stored.specs.Code.Parents.{parented, before_paths, Sound}
use Rattle.machine.proofs.build.parents.parents.Given as goal

abbrev pub invariant-loop-i : goal.invariant-loop-i
invariant-loop-i l = record {
  sound : Sound l.i l.at l.part;
  rest : parented (step_count l.initial.part - l.i) l.i l.at l.part ≡ parented (step_count l.initial.part) 0 before_paths l.initial.part;
}

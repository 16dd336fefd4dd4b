use Prim.Native.Nat.{◌+◌, ◌-◌}
use mathlib.Core.Path.{◌≡◌}
use mathlib.Core.Bool.{true}
use lib.Dec.{eqb}
use Rattle.stored.specs.Code.Masks.{flag_steps}
use Rattle.machine.proofs.build.masks.flag_steps.Given as goal

abbrev pub invariant-loop-k : goal.invariant-loop-k
invariant-loop-k l = flag_steps (l.steps - l.k) (l.from + l.k) (eqb l.k 0) l.part ≡ flag_steps l.steps l.from true l.initial.part

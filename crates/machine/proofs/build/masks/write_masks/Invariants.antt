use Prim.Native.Nat.{◌-◌}
use mathlib.Core.Path.{◌≡◌}
use Rattle.notation.specs.Reads.{path_count}
use Rattle.stored.specs.Code.Masks.{flag_paths, with_masks}
use Rattle.machine.proofs.build.masks.write_masks.Given as goal

abbrev pub invariant-loop-place : goal.invariant-loop-place
invariant-loop-place l = flag_paths (path_count l.initial.part - l.place) l.place l.part ≡ with_masks l.initial.part

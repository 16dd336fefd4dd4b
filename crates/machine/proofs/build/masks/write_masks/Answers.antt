use Prim.Native.Nat.{◌<◌, ◌≤◌}
use mathlib.Core.Path.{sym, ◌∙◌}
use native.Mathlib.Omega.{arith}
use Rattle.notation.specs.Reads.{path_count}
use Rattle.stored.proofs.Laws.Building.Flagging.{paths-start, paths-turn, paths-end}
use Rattle.stored.specs.Code.Masks.{with_masks}
use Rattle.machine.proofs.build.masks.write_masks.Goals as goal

pub loop-place-init : goal.loop-place-init
unfolding with_masks
loop-place-init c = paths-start (path_count c.args.part.now) c.args.part.now

pub loop-place-preserved : goal.loop-place-preserved
loop-place-preserved c =
    let n = path_count c.args.part.now in
    let below : c.loop-place.place < n = omega (arith, c.paths-place-end.ensures.0) in
    rw c.flag_path.ensures (sym (paths-turn n c.loop-place.place c.loop-place.part below) ∙ c.loop-place.invariant)

pub returns : goal.returns
returns c =
    let n = path_count c.args.part.now in
    let past : n ≤ c.loop-place.place = omega (arith, c.paths-place-end.ensures.0) in
    sym (paths-end n c.loop-place.place c.loop-place.part past) ∙ c.loop-place.invariant

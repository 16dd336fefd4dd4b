-- `order::merge` meets its contract. The loop's invariant: whatever the rest merges to, the whole merges to it behind what is out already.
use Prim.Native.Nat.{◌<◌}
use native.Mathlib.Omega.{arith}
use lib.ListN.{length}
use Rattle.std.proofs.lemmas.List.{set-get_or}
use Rattle.reports.proofs.Laws.Ordered.Merging.{next-is, from-left, from-right, met, ended}
use Rattle.reports.proofs.order.merge.Goals as goal
use Rattle.reports.proofs.order.merge.Goals.{in-Less, in-Greater}

pub returns-in-Equal : goal.returns-in-Equal
returns-in-Equal c =
    let loop = c.loop-place in
    rw set-get_or (met _ _ _ _ _ _ _ loop.invariant (next-is _ _ _ _ _ _ _ loop.invariant c.next_part.ensures c.in-Equal.is))

-- a turn of the loop puts out the next offset of the part that gives it
pub loop-place-preserved : goal.loop-place-preserved
loop-place-preserved c =
    let loop = c.loop-place in
    let room : loop.place-index < length loop.out = omega (arith, c.loop-place-test.true, loop.auto.out) in
    elim c.match-next_part.branch [
      | in-Less w ↦ rw (w.out-is, w.i-is, w.j-is) (from-left _ _ _ _ _ _ _ loop.invariant room (next-is _ _ _ _ _ _ _ loop.invariant c.next_part.ensures w.in-Less.is))
      | in-Greater w ↦ rw (w.out-is, w.i-is, w.j-is) (from-right _ _ _ _ _ _ _ loop.invariant room (next-is _ _ _ _ _ _ _ loop.invariant c.next_part.ensures w.in-Greater.is))
    ]

pub returns : goal.returns
returns c = ended _ _ _ _ _ _ _ c.loop-place.invariant (omega (arith, c.loop-place-test.false, c.loop-place.auto.out))

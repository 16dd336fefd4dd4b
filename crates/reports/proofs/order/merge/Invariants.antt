use Rattle.reports.proofs.Laws.Ordered.Merging.{Merging}
use Rattle.reports.proofs.order.merge.Given as goal

abbrev pub invariant-loop-place : goal.invariant-loop-place
invariant-loop-place l = Merging l.s l.left l.right l.i l.j l.place-index l.out

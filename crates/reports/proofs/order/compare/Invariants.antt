use Prim.Native.Nat.{◌-◌}
use mathlib.Core.Path.{◌≡◌}
use lib.ListN.{length}
use Rattle.reports.specs.Code.Ordered.{name_at, order_of}
use Rattle.reports.proofs.order.compare.Given as goal

abbrev pub invariant-loop-a : goal.invariant-loop-a
invariant-loop-a l = order_of (name_at l.s l.p) (name_at l.s l.q) ≡ order_of (name_at l.s l.i) (name_at l.s l.j)

abbrev pub decreases-loop-a : goal.decreases-loop-a
decreases-loop-a l = length l.s - l.i

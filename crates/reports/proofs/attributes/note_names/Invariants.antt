use Rattle.std.proofs.Common.{◌-◌, ◌≤◌, length}
use Rattle.reports.proofs.Laws.Read.Attributes.{Passed}
use Rattle.reports.proofs.attributes.note_names.Given as goal

abbrev pub invariant-loop-end : goal.invariant-loop-end
invariant-loop-end l = (l.count ≤ l.i) × Passed l.s l.at l.i l.count l.places

abbrev pub decreases-loop-end : goal.decreases-loop-end
decreases-loop-end l = length l.s - l.i

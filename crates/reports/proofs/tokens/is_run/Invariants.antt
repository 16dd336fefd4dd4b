use Rattle.std.proofs.Common.{◌≡◌, ◌-◌, length}
use Rattle.reports.proofs.Laws.Read.RunAt.{run_from}
use Rattle.reports.proofs.tokens.is_run.Given as goal

abbrev pub invariant-loop-i : goal.invariant-loop-i
invariant-loop-i l = run_from l.s 0 ≡ run_from l.s l.i

abbrev pub decreases-loop-i : goal.decreases-loop-i
decreases-loop-i l = length l.s - l.i

use Rattle.std.proofs.Common.{◌≡◌}
use Rattle.reports.specs.Code.Reaches.{blanks_to}
use Rattle.reports.proofs.scan.blanks_end.Given as goal

abbrev pub invariant-loop-i : goal.invariant-loop-i
invariant-loop-i l = blanks_to l.s l.at ≡ blanks_to l.s l.i

use Rattle.std.proofs.Common.{◌≡◌, ◌-◌, length}
use Rattle.reports.specs.Code.Reaches.{reach, read_quoted}
use Rattle.reports.proofs.tags.quoted_end.Given as goal

abbrev pub invariant-loop-i : goal.invariant-loop-i
invariant-loop-i l = reach (read_quoted l.quote) l.s l.at ≡ reach (read_quoted l.quote) l.s l.i

abbrev pub decreases-loop-i : goal.decreases-loop-i
decreases-loop-i l = length l.s - l.i

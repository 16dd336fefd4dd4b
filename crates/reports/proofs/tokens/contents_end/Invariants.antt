use Rattle.std.proofs.Common.{◌≡◌}
use Rattle.documents.specs.Reading.{read_contents}
use Rattle.reports.specs.Code.Reaches.{reach}
use Rattle.reports.proofs.tokens.contents_end.Given as goal

abbrev pub invariant-loop-i : goal.invariant-loop-i
invariant-loop-i l = reach read_contents l.s l.at ≡ reach read_contents l.s l.i

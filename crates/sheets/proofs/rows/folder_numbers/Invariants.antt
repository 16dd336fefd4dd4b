use Rattle.sheets.specs.Code.Rows.{Numbered}
use Rattle.sheets.proofs.rows.folder_numbers.Given as goal

abbrev pub invariant-loop-i : goal.invariant-loop-i
invariant-loop-i l = Numbered l.a l.i l.numbers

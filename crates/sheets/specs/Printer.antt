-- What the one call of the program that prints the class sheet promises, from the bytes of a set and a report to the bytes that are printed:
-- the number of a refusal, or the sheet of the filed report.
use Rattle.std.specs.Prelude.{Result}
use Rattle.text.specs.declared.refusals.Refusal.{Refusal}
use Rattle.std.specs.Prelude.{ℕ, List}
use Rattle.filing.specs.Shown.{PrintsBy}
use Rattle.sheets.specs.Limits.{sheet_size}
use Rattle.sheets.specs.SheetOf.{SheetFor}

abbrev pub PrintsSheet : List ℕ → List ℕ → List ℕ → List ℕ → List ℕ → Result ℕ Refusal → List ℕ → List ℕ → List ℕ → Type 0
PrintsSheet = PrintsBy sheet_size SheetFor

-- The sheet of what filing left is that of the report's document.
use Prim.Native.Nat.{ℕ, ◌≤◌}
use mathlib.Core.Path.{sym}
use mathlib.Core.List.{List}
use lib.ListN.{length, drop}
use Rattle.std.specs.Prelude.{Result}
use Rattle.text.specs.declared.refusals.Refusal.{Refusal}
use Rattle.notation.specs.Sets.{FolderSet}
use Rattle.notation.specs.Accepted.{Accepted}
use Rattle.stored.specs.Run.{run_size}
use Rattle.stored.specs.Build.{Built}
use Rattle.stored.specs.declared.counters.Counters.{Counters}
use Rattle.stored.proofs.Laws.Building.BuiltSet.{built-means}
use Rattle.filing.specs.Filing.{filed}
use Rattle.filing.specs.ReportRefusals.{Files}
use Rattle.filing.specs.Code.Filing.{file_with}
use Rattle.filing.specs.Shown.{Faithful, PrintsText}
use Rattle.filing.proofs.Laws.Filing.FilingParts.{given-filed}
use Rattle.filing.proofs.Laws.Filing.FilingOrder.{filing-is}
use Rattle.filing.proofs.Laws.Filing.FromBytes.{answer-is, left-filed}
use Rattle.sheets.specs.Limits.{sheet_size, line-within}
use Rattle.sheets.specs.Sheet.{sheet}
use Rattle.sheets.specs.SheetIn.{SheetWritten}
use Rattle.sheets.specs.SheetOf.{SheetFor}
use Rattle.sheets.proofs.Laws.Filed.Selected.{sheet-once, sheet-shown}
use Rattle.sheets.proofs.Laws.Filed.Same.{rows_from}
use Rattle.sheets.proofs.Laws.Filed.Shown.{sheet-printed}

-- of a filed report
pub of-filed : (text before a : List ℕ) (s : FolderSet) → Accepted text s → Built text before 0 a
    → (report run : List ℕ) → run_size ≤ length run → (c : Counters) (run' : List ℕ) (c' : Counters) → Files a run c report 0 run' c'
    → (out : List ℕ) → sheet_size ≤ length out → (answer : Result ℕ Refusal) (out' : List ℕ) → SheetWritten a run' out answer out'
    → (bytes : List ℕ) × SheetFor s report bytes × PrintsText sheet_size bytes out answer out'
of-filed text before a s acc built report run long c run' c' files out room answer out' w =
    let means = built-means text s acc before a built in
    let (m, e) = given-filed (file_with s report) (sym (answer-is s a means run long c report 0 run' c' files)) in
    let (few, r, k) = left-filed s a means run long c report 0 run' c' files m e in
    let printed = sheet-printed s a means m few (drop run_size run) out room answer out' (rw r at w) in
    (sheet (rows_from m.matched 0 s), sheet-shown s report m ((filing-is s report (filed m)).1 e), printed)

pub sheet_faithful : Faithful sheet_size SheetFor (λ a run _ before answer after. SheetWritten a run before answer after)
sheet_faithful = record { line = line-within; once = sheet-once; filed = of-filed }

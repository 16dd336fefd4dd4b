-- `sheet::write_sheet`: the refusal, or the sheet, which has room.
use native.Mathlib.Omega.{arith}
use Prim.Native.Nat.{◌≤◌}
use mathlib.Core.Path.{sym}
use lib.ListN.{length}
use Rattle.text.proofs.Laws.Output.{same-buffer, written_as}
use Rattle.sheets.specs.SheetIn.{sheet_in, sheet_conditions}
use Rattle.sheets.proofs.Laws.Stored.Refused.{shaped-then, room-then}
use Rattle.sheets.proofs.Laws.Stored.Shaped.{sheet-fits}
use Rattle.sheets.proofs.sheet.write_sheet.Goals as goal

pub returns : goal.returns
returns c = let a = c.args in
    let conditions = sheet_conditions a.a.now a.run.now a.out.now in
    let text = sheet_in a.a.now a.run.now in
    let z = sym c.in_ok-check.ensures in
    let l : length text ≤ length a.out.now = omega (arith, sheet-fits a.a.now a.run.now (shaped-then a.a.now a.run.now a.out.now z), room-then a.a.now a.run.now a.out.now z) in
    let x = rw c.new-front.ensures at c.put_sheet.ensures in
    let same = same-buffer conditions text _ z l x in
    written_as conditions text _ z l x _ _ _ c.written.ensures (grind (arith, same))

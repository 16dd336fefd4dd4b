-- `sheet::Rows::put_page`: the head line and the body lines.
use native.Mathlib.Omega.{arith}
use native.Mathlib.Numerals.{add-one}
use Prim.Native.Nat.{◌+◌, ◌*◌}
use Rattle.text.proofs.Laws.Output.{and_then}
use Rattle.sheets.specs.Limits.{body_lines}
use Rattle.sheets.specs.Sheet.{page, ended, body_at}
use Rattle.filing.proofs.Laws.Listing.Steps.{turn, turned}
use Rattle.sheets.proofs.sheet.Rows.put_page.Goals as goal

pub loop-j-preserved : goal.loop-j-preserved
loop-j-preserved g c u x =
    c.loop-j.invariant u (turn (λ j. ended (body_at c.args.self.now j)) c.loop-j.j (40 * c.args.k + 40) (omega arith) c.put_line.ensures x)

pub returns : goal.returns
unfolding page body_lines
returns g c =
    let body = c.loop-j.invariant _ (turned (λ j. ended (body_at c.args.self.now j)) c.loop-j.j (40 * c.args.k + 40) (omega arith)) in
    and_then (rw add-one at c.put_head.ensures) body

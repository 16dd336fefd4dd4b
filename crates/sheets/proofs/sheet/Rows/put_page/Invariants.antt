use Prim.Native.Nat.{◌+◌, ◌-◌}
use Rattle.text.specs.Output.{Adds}
use Rattle.sheets.specs.Sheet.{body_from}
use Rattle.sheets.proofs.sheet.Rows.put_page.Given as goal

-- what the lines from here on make of the sink, all body lines of the page make of it as it was
abbrev pub invariant-loop-j : goal.invariant-loop-j
invariant-loop-j g l =
    (u : g.row.S.Denot) → Adds g.S.Sink.puts l.to (body_from l.self l.j (l.first + 40 - l.j)) u → Adds g.S.Sink.puts l.initial.to (body_from l.self l.first 40) u

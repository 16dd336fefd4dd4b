use Prim.Native.Nat.{◌-◌}
use lib.ListN.{length}
use Rattle.text.specs.Output.{Adds}
use Rattle.sheets.specs.Sheet.{pages_for, pages_from}
use Rattle.sheets.proofs.sheet.Rows.put_pages.Given as goal

-- what the pages from here on make of the sink, all pages make of it as it was
abbrev pub invariant-loop-k : goal.invariant-loop-k
invariant-loop-k g l =
    (u : g.row.S.Denot) → Adds g.S.Sink.puts l.to (pages_from l.self l.k (pages_for (length l.self) - l.k)) u
    → Adds g.S.Sink.puts l.initial.to (pages_from l.self 0 (pages_for (length l.self))) u

use Prim.Native.Nat.{◌-◌}
use Rattle.model.specs.Folders.{count_from}
use Rattle.stored.specs.HeldSet.{folders_held}
use Rattle.text.specs.Output.{Adds}
use Rattle.filing.specs.Listed.{folders_listed}
use Rattle.filing.proofs.listing.put_folders.Given as goal

-- what the folders from here on make of the sink, all make of it as it was
abbrev pub invariant-loop-i : goal.invariant-loop-i
invariant-loop-i g l =
    (u : g.row.S.Denot) → Adds g.S.Sink.puts l.to (folders_listed l.a l.run (count_from l.i (folders_held l.a - l.i))) u
    → Adds g.S.Sink.puts l.initial.to (folders_listed l.a l.run (count_from 0 (folders_held l.a))) u

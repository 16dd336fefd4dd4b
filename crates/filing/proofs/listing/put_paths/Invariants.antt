use Prim.Native.Nat.{◌-◌}
use Rattle.model.specs.Folders.{count_from}
use Rattle.text.specs.Output.{Adds}
use Rattle.filing.specs.Listed.{paths_listed}
use Rattle.filing.proofs.listing.put_paths.Given as goal

-- what the places from here on make of the sink, all make of it as it was
abbrev pub invariant-loop-place : goal.invariant-loop-place
invariant-loop-place g l =
    (u : g.row.S.Denot) → Adds g.S.Sink.puts l.to (paths_listed l.a l.run (count_from l.place-iterator.start (l.place-iterator.end - l.place-iterator.start))) u
    → Adds g.S.Sink.puts l.initial.to (paths_listed l.a l.run (count_from l.fn.places.start (l.fn.places.end - l.fn.places.start))) u

use Rattle.stored.proofs.Laws.Tables.Along.{left}
use Rattle.machine.specs.Places.{place_of}
use Rattle.stored.specs.Tables.{look_from, look_up}
use Rattle.notation.specs.Reads.{label_count}
use Rattle.notation.specs.Limits.{max_labels}
use mathlib.Core.Path.{◌≡◌}
use Prim.Native.Nat.{◌≤◌}
use Rattle.machine.proofs.automaton.Automaton.look_up.Given as goal

abbrev pub invariant-loop-next : goal.invariant-loop-next
invariant-loop-next l = record {
  within : place_of l.next ≤ label_count l.self;
  rest : look_up l.self l.e ≡ look_from max_labels l.self l.e (place_of l.next);
}

abbrev pub decreases-loop-next : goal.decreases-loop-next
decreases-loop-next l = left (label_count l.self) (place_of l.next)

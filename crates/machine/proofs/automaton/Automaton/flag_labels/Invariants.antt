use mathlib.Core.Path.{◌≡◌}
use mathlib.Core.Bool.{◌||◌}
use Prim.Native.Nat.{ℕ, ◌≤◌}
use Rattle.notation.specs.Limits.{max_labels}
use Rattle.notation.specs.Reads.{label_count}
use Rattle.stored.specs.Bits.{bit_at}
use Rattle.stored.specs.Marked.{marked_from}
use Rattle.machine.specs.Places.{place_of}
use Rattle.stored.proofs.Laws.Tables.Along.{left}
use Rattle.machine.proofs.automaton.Automaton.flag_labels.Given as goal

abbrev pub invariant-loop-next : goal.invariant-loop-next
invariant-loop-next l = record {
  within : place_of l.next ≤ label_count l.self;
  rest : (j : ℕ) → (bit_at l.out j || marked_from max_labels l.self (place_of l.next) j) ≡ (bit_at l.initial.out j || marked_from max_labels l.self (place_of l.fn.first) j);
}

abbrev pub decreases-loop-next : goal.decreases-loop-next
decreases-loop-next l = left (label_count l.self) (place_of l.next)

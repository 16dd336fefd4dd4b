use Rattle.std.proofs.Common.{◌≡◌, ◌*◌}
use Rattle.stored.specs.Code.OpenSteps.{taken_active, taken_seen, taken_matched, stored_bits}
use Rattle.machine.proofs.automaton.Automaton.store_bits.Given as goal

abbrev pub invariant-loop-i : goal.invariant-loop-i
invariant-loop-i l = let was = l.initial.run.bytes in l.run.bytes ≡ record was { now = stored_bits was.now l.d (taken_active l.self was.now l.taken l.d) (taken_seen l.self was.now l.taken l.d) (taken_matched l.self was.now l.taken l.d) (16 * l.i) }

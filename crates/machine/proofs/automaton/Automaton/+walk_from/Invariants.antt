use Rattle.stored.specs.Tables.{size_of}
use Rattle.machine.proofs.automaton.Automaton.+walk_from.Given as goal

abbrev pub decreases-walk_from : goal.decreases-walk_from
decreases-walk_from l = size_of l.self.now l.q

use Rattle.stored.proofs.Laws.Bytes.Vectors.{block-or}
use Rattle.machine.proofs.automaton.Automaton.first.Goals as goal

pub returns-then-d-eq0 : goal.returns-then-d-eq0
returns-then-d-eq0 c = rw c.if-d-eq0.true (block-or c.mask-anywhere.ensures c.mask.ensures)

use Rattle.stored.proofs.Laws.Bytes.Vectors.{Before, before-first, before-later, block-on}
use Rattle.machine.proofs.run.steps.one_on.Goals as goal
use Rattle.machine.proofs.run.steps.one_on.Goals.{then-from-eq0, else-from-eq0}

pub returns : goal.returns
returns c =
    let b = c.args in
    let before : Before b.bytes.now b.base b.from c.if-from-eq0.before =
    elim c.if-from-eq0.branch [
      | then-from-eq0 w ↦ rw w.before-is (before-first b.bytes.now b.base b.from c.requires.0 c.requires.1 c.type_inv.bytes w.if-from-eq0.true)
      | else-from-eq0 w ↦ rw w.before-is (before-later b.bytes.now b.base b.from c.requires.0 c.requires.1 c.type_inv.bytes w.if-from-eq0.false)
    ] in
    block-on c.bits.ensures before

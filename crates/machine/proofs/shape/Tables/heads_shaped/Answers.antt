-- `Tables::heads_shaped`: the largest head so far is within its range exactly if each so far is.
use mathlib.Core.Path.{refl, ap, ◌∙◌}
use native.Mathlib.Omega.{arith}
use borrow.Author.Tests.{le-leb}
use Rattle.notation.specs.Reads.{label_count}
use Rattle.stored.specs.Automaton.{heads_at}
use Rattle.stored.specs.Tables.{head_at}
use Rattle.stored.specs.Shape.{head_shaped}
use Rattle.stored.proofs.Laws.Bytes.AllBelow.{all_none, all-next}
use Rattle.stored.proofs.Laws.Shapes.Tested.{leb-by, max-within}
use Rattle.machine.proofs.shape.Tables.heads_shaped.Goals as goal

pub loop-h-init : goal.loop-h-init
loop-h-init c =
    let a = c.args.self.now in
    le-leb 0 (label_count a) (omega arith) ∙ all_none (head_shaped a)

pub loop-h-preserved : goal.loop-h-preserved
unfolding heads_at
loop-h-preserved c =
    let a = c.args.self.now in
    let turn = c.loop-h in
    all-next turn.h (head_shaped a) (leb-by c.max-most.ensures refl ∙ max-within turn.most c.word.result (label_count a)) turn.invariant (leb-by (c.word.ensures.value ∙ ap (λ b. head_at b turn.h) c.self.view_is) refl)

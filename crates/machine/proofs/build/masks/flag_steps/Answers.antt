use mathlib.Core.Path.{sym, ◌∙◌}
use lib.Dec.{eqb}
use Rattle.stored.proofs.Laws.Building.Flagging.{steps-start, steps-turn, steps-end}
use Rattle.machine.proofs.build.masks.flag_steps.Goals as goal

pub loop-k-init : goal.loop-k-init
loop-k-init c = steps-start c.args.steps c.args.from c.args.part.now

pub loop-k-preserved : goal.loop-k-preserved
loop-k-preserved c =
    rw c.flag_step.ensures (sym (steps-turn c.args.steps c.args.from c.loop-k.k c.loop-k.part c.loop-k-test.true) ∙ c.loop-k.invariant)

pub returns : goal.returns
returns c =
    sym (steps-end c.args.steps c.args.from c.loop-k.k c.loop-k.part (eqb c.loop-k.k 0) c.loop-k-test.false)
    ∙ c.loop-k.invariant

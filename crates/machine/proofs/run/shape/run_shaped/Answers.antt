use Rattle.std.proofs.Common.{rules, tests, add-one}
use borrow.Author.Tests.{le-leb}
use Rattle.model.specs.Limits.{max_depth}
use Rattle.stored.specs.RunCalls.{row_shaped, run_shaped}
use Rattle.machine.proofs.Ranges.{all_below-from_range}
use Rattle.machine.proofs.run.shape.run_shaped.Goals as goal

pub returns-then-deepest-le-MAX_DEPTH : goal.returns-then-deepest-le-MAX_DEPTH
unfolding run_shaped max_depth
returns-then-deepest-le-MAX_DEPTH c =
    let d = c.depth-deepest.result in
    rw (← c.depth-deepest.ensures.0, le-leb d 64 c.if-deepest-le-MAX_DEPTH.true)
    (all_below-from_range (row_shaped c.args.a.now c.args.run.now) (add-one d) _ _ _ c.all.ensures.ran (λ x b q k. search (rules, tests)))

use Rattle.std.proofs.Common.{sym, ◌∙◌, arith}
use borrow.Author.Tests.{eqb-false}
use Rattle.stored.specs.RunCalls.{depth_of}
use Rattle.stored.proofs.Laws.Shapes.Given.{may-close, close-others}
use Rattle.stored.proofs.Laws.Shapes.RunShape.{run-shape}
use Rattle.stored.proofs.Laws.Shapes.Kept.{close-usable}
use Rattle.stored.proofs.Laws.Shapes.CounterShape.{closes-fit}
use Rattle.stored.proofs.Laws.Running.CallAnswers.{close-not-next, close-accepted}
use Rattle.machine.proofs.Written.{usable_same}
use Rattle.machine.proofs.run.session.Session.close.Goals as goal

pub returns-in_err-close_others-clause-closes : goal.returns-in_err-close_others-clause-closes
returns-in_err-close_others-clause-closes c = close-not-next _ _ _ _ c.from_residual.result c.in_err-close_others.field-0.0 c.from_residual.ensures.1 c.in_err-close_others.ensures c.args.self.now.usable

pub invariant_of-close_on : goal.invariant_of-close_on
invariant_of-close_on c = record { sized = c.args.self.now.usable.ready.run_length }

pub close_on-requires : goal.close_on-requires
close_on-requires c =
    let s = c.args.self.now in
    let e = c.args.e.now in
    let z = close-others s.a.now s.run.now s.counters.now e s.usable ∙ sym c.in_ok-close_others.ensures in
    (omega (arith, eqb-false (depth_of s.run.now) 0 (may-close s.a.now s.run.now s.counters.now e z).depth), (run-shape s.a.now s.run.now s.usable.ready.run_is_shaped).deepest)

pub count_close-requires : goal.count_close-requires
count_close-requires c = let s = c.args.self.now in closes-fit s.run.now s.counters.now s.usable.counts

pub invariant_of-self-2 : goal.invariant_of-self-2
invariant_of-self-2 c =
    let s = c.args.self.now in
    let e = c.args.e.now in
    let z = close-others s.a.now s.run.now s.counters.now e s.usable ∙ sym c.in_ok-close_others.ensures in
    let run = c.close_on.ensures in
    record { usable = usable_same (close-usable s.a.now s.run.now s.counters.now e s.usable z) (grind (arith, run)) c.count_close.ensures }

pub returns-clause-closes : goal.returns-clause-closes
returns-clause-closes c =
    let s = c.args.self.now in
    let e = c.args.e.now in
    let run = c.close_on.ensures in
    close-accepted s.a.now s.run.now s.counters.now e _ _ (close-others s.a.now s.run.now s.counters.now e s.usable ∙ sym c.in_ok-close_others.ensures) (grind (arith, run)) c.count_close.ensures

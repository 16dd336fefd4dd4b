use Rattle.std.proofs.Common.{sym, ap, ◌∙◌, arith}
use Rattle.notation.specs.Limits.{max_steps}
use Rattle.model.specs.Limits.{max_depth}
use Rattle.stored.specs.declared.walk.Walk.{Walk}
use Rattle.stored.specs.RunCalls.{open_counters, after_open}
use Rattle.stored.proofs.Laws.Shapes.Given.{MayOpen, may-open, open-others}
use Rattle.stored.proofs.Laws.Shapes.Kept.{open-usable}
use Rattle.stored.proofs.Laws.Shapes.CounterShape.{moves-fit}
use Rattle.stored.proofs.Laws.Running.CallAnswers.{open-not-next, open-accepted}
use Rattle.machine.proofs.run.session.Session.open.Goals as goal
use Rattle.machine.proofs.run.session.Session.open.Goals.{In_ok-open_others}

pub returns-in_err-open_others-clause-opens : goal.returns-in_err-open_others-clause-opens
returns-in_err-open_others-clause-opens c = open-not-next _ _ _ _ c.from_residual.result c.in_err-open_others.field-0.0 c.from_residual.ensures.1 c.in_err-open_others.ensures c.args.self.now.usable

may : (c : In_ok-open_others) → MayOpen c.args.self.now.a.now c.args.self.now.run.now c.args.self.now.counters.now c.args.e.now
may c = let s = c.args.self.now in may-open s.a.now s.run.now s.counters.now c.args.e.now (open-others s.a.now s.run.now s.counters.now c.args.e.now s.usable ∙ sym c.in_ok-open_others.ensures)

pub open_on-walked-requires : goal.open_on-walked-requires
open_on-walked-requires c = let m = may (goal.at.open_on-walked-requires c).In_ok-open_others in (m.ready, (m.depth, m.name))

pub count_open-requires : goal.count_open-requires
unfolding max_steps max_depth
count_open-requires c =
    let s = c.args.self.now in
    let m = may (goal.at.count_open-requires c).In_ok-open_others in
    (omega (arith, m.opens), (moves-fit s.run.now s.counters.now s.usable.counts, omega (arith, c.open_on-walked.ensures.1.0)))

pub invariant_of-self-2 : goal.invariant_of-self-2
unfolding open_counters
invariant_of-self-2 c =
    let s = c.args.self.now in
    let e = c.args.e.now in
    let w = c.open_on-walked in
    let z = open-others s.a.now s.run.now s.counters.now e s.usable ∙ sym c.in_ok-open_others.ensures in
    let counted = c.count_open.ensures ∙ ap (λ (x : Walk). after_open s.counters.now x.moves) w.ensures.0 in
    record { usable = rw (w.ensures.1.1, counted) (open-usable s.a.now s.run.now s.counters.now e s.usable z) }

pub returns-clause-opens : goal.returns-clause-opens
returns-clause-opens c =
    let s = c.args.self.now in
    let e = c.args.e.now in
    let w = c.open_on-walked in
    open-accepted s.a.now s.run.now s.counters.now e w.result _ _ (open-others s.a.now s.run.now s.counters.now e s.usable ∙ sym c.in_ok-open_others.ensures) w.ensures.0 w.ensures.1.1 c.count_open.ensures

-- `build::fails::fail_to`: no parent, or the walk from the parent's failure state.
use mathlib.Core.Path.{◌≡◌, sym, ◌∙◌, ap}
use borrow.Author.Tests.{eq-eqb, ne_eqb}
use Rattle.notation.specs.Reads.{label_name}
use Rattle.stored.proofs.Laws.Tables.Fuel.{fail-state}
use Rattle.stored.specs.Code.Fails.{fail_to}
use Rattle.machine.specs.Places.{place_of}
use Rattle.stored.specs.Tables.{parent_at, fail_of, first_of}
use Rattle.machine.proofs.build.fails.fail_to.Goals as goal

pub returns-then-parent-eq0 : goal.returns-then-parent-eq0
unfolding fail_to
returns-then-parent-eq0 c =
    rw (eq-eqb (parent_at c.args.a.now c.args.l) 0 (sym c.link-parent.ensures.value ∙ c.if-parent-eq0.true))

pub walk_from-requires-clause-state : goal.walk_from-requires-clause-state
walk_from-requires-clause-state c =
    let a = c.args.a.now in
    let g = c.requires.0 in
    rw (c.fail_of.ensures, c.link-parent.ensures.value) (fail-state a g.walkable.falling (parent_at a c.args.l) (g.parent c.args.l c.requires.1))

pub returns : goal.returns
unfolding fail_to
returns c =
    let a = c.args.a.now in
    let l = c.args.l in
    let p = c.link-parent.ensures.value in
    let f : c.fail_of.result ≡ fail_of a (parent_at a l) = c.fail_of.ensures ∙ ap (fail_of a) p in
    let first : place_of c.first_label-first.result ≡ first_of a (label_name a l) = c.first_label-first.ensures.found ∙ ap (first_of a) c.label_name.ensures in
    rw (ne_eqb (parent_at a l) 0 (λ e. c.if-parent-eq0.false (p ∙ e)), ← f, ← first) (ap (λ w. w.state) c.walk_from.ensures.walked)

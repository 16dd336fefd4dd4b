-- `build::fails::fail_label`: the link is stored where the length is the one that is asked for.
use mathlib.Core.Path.{sym, ◌∙◌}
use borrow.Author.Tests.{eq-eqb, ne_eqb}
use Rattle.stored.specs.Code.Fails.{failed_if}
use Rattle.stored.specs.Tables.{size_at}
use Rattle.machine.proofs.build.fails.fail_label.Goals as goal

pub returns-then-link-n : goal.returns-then-link-n
unfolding failed_if
returns-then-link-n c =
    rw (eq-eqb (size_at c.args.a.now c.args.l) c.args.n (sym c.link.ensures.value ∙ c.if-link-n.true), ← c.fail_to-q.ensures) c.put_link.ensures

pub returns-else-link-n : goal.returns-else-link-n
unfolding failed_if
returns-else-link-n c =
    rw (ne_eqb (size_at c.args.a.now c.args.l) c.args.n (λ e. c.if-link-n.false (c.link.ensures.value ∙ e)))

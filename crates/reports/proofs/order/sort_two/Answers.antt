-- `order::sort_two` meets its contract.
use mathlib.Core.Path.{sym, ◌∙◌}
use Rattle.reports.proofs.Laws.Ordered.Sorted.{two-before, two-same, two-after}
use Rattle.reports.proofs.order.sort_two.Goals as goal

pub returns-in-Less : goal.returns-in-Less
returns-in-Less c =
    two-before c.args.s.now c.args.places.now c.requires (rw (c.from.ensures, c.from-2.ensures) at (sym c.compare.ensures ∙ c.in-Less.is))

pub returns-in-Equal : goal.returns-in-Equal
returns-in-Equal c = two-same c.args.s.now c.args.places.now c.requires (rw (c.from.ensures, c.from-2.ensures) at (sym c.compare.ensures ∙ c.in-Equal.is))

pub returns-in-Greater : goal.returns-in-Greater
returns-in-Greater c =
    rw c.swap.ensures.after (two-after c.args.s.now c.args.places.now c.requires (rw (c.from.ensures, c.from-2.ensures) at (sym c.compare.ensures ∙ c.in-Greater.is)))

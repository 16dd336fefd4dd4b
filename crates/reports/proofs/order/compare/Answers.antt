-- `order::compare` meets its contract. The loop's invariant: the names from here on stand to each other as those from the start.
use mathlib.Core.Path.{◌∙◌}
use Rattle.reports.proofs.Laws.Ordered.NameAt.{both-on}
use Rattle.reports.proofs.order.compare.Goals as goal

pub loop-a-preserved : goal.loop-a-preserved
loop-a-preserved c =
    let on = both-on c.args.s.now c.loop-a.i c.loop-a.j c.name_byte-a.ensures c.name_byte-b.ensures c.if-a-b.false c.if-a-eq0.false in
    c.loop-a.invariant ∙ on.2

use mathlib.Core.Path.{◌≡◌, ap, ◌∙◌}
use borrow.Author.Rules.{rules}
use borrow.Author.Tests.{tests}
use Rattle.notation.specs.Reads.{label_count}
use Rattle.stored.specs.Shape.{all_below, link_shaped, automaton_shaped}
use Rattle.machine.proofs.Ranges.{all_below-from_range}
use Rattle.machine.proofs.shape.automaton_shaped.Goals as goal

pub returns-then-heads_shaped : goal.returns-then-heads_shaped
unfolding automaton_shaped
returns-then-heads_shaped c =
    let a = c.in-Some.tables in
    let links : c.all.result ≡ all_below (label_count a) (link_shaped a) = all_below-from_range (link_shaped a) (c.tables.invariant.4 ∙ ap label_count c.tables.view_is) _ _ c.all.result c.all.ensures.ran (λ x b q k. search (rules, tests)) in
    search (links, rules)

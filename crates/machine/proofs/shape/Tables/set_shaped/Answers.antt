-- `Tables::set_shaped`: table by table, up to the first that fails.
use mathlib.Core.Path.{◌≡◌, ap, ◌∙◌}
use mathlib.Core.Bool.{◌&&◌}
use borrow.Author.Rules.{rules}
use borrow.Author.Tests.{tests}
use Rattle.notation.specs.Reads.{folder_count, path_count, step_count, label_count}
use Rattle.stored.specs.Shape.{all_below, folder_shaped, path_shaped, step_shaped, label_shaped}
use Rattle.machine.proofs.Ranges.{all_below-from_range, and-then, and-else, and-four}
use Rattle.machine.proofs.shape.Tables.set_shaped.Goals as goal
use Rattle.machine.proofs.shape.Tables.set_shaped.Goals.{then-all, else-all, then-all-2, else-all-2}

pub returns-then-steps_shaped : goal.returns-then-steps_shaped
returns-then-steps_shaped c =
    let a = c.args.self.now in
    let f = all_below (folder_count a) (folder_shaped a) in
    let p = all_below (path_count a) (path_shaped a) in
    let s = all_below (step_count a) (step_shaped a) in
    let l = all_below (label_count a) (label_shaped a) in
    let folders : c.all.result ≡ f = all_below-from_range (folder_shaped a) (c.self.invariant.1 ∙ ap folder_count c.self.view_is) _ _ c.all.result c.all.ensures.ran (λ x b q k. search (rules, tests)) in
    let two : c.if-all.value ≡ (f && p) = elim c.if-all.branch [
      | then-all w ↦ w.value-is ∙ and-then folders w.if-all.true (all_below-from_range (path_shaped a) (c.self.invariant.2 ∙ ap path_count c.self.view_is) _ _ w.all-then-all.result w.all-then-all.ensures.ran (λ x b q k. search (rules, tests)))
      | else-all w ↦ w.value-is ∙ and-else p folders w.if-all.false
    ] in
    let three : c.if-all-2.value ≡ ((f && p) && s) = elim c.if-all-2.branch [
      | then-all-2 w ↦ w.value-is ∙ and-then two w.if-all-2.true w.steps_shaped.ensures
      | else-all-2 w ↦ w.value-is ∙ and-else s two w.if-all-2.false
    ] in
    and-then three c.if-steps_shaped.true (all_below-from_range (label_shaped a) (c.self.invariant.4 ∙ ap label_count c.self.view_is) _ _ c.all-then-steps_shaped.result c.all-then-steps_shaped.ensures.ran (λ x b q k. search (rules, tests)))
    ∙ and-four f p s l

pub returns-else-steps_shaped : goal.returns-else-steps_shaped
returns-else-steps_shaped c =
    let a = c.args.self.now in
    let f = all_below (folder_count a) (folder_shaped a) in
    let p = all_below (path_count a) (path_shaped a) in
    let s = all_below (step_count a) (step_shaped a) in
    let l = all_below (label_count a) (label_shaped a) in
    let folders : c.all.result ≡ f = all_below-from_range (folder_shaped a) (c.self.invariant.1 ∙ ap folder_count c.self.view_is) _ _ c.all.result c.all.ensures.ran (λ x b q k. search (rules, tests)) in
    let two : c.if-all.value ≡ (f && p) = elim c.if-all.branch [
      | then-all w ↦ w.value-is ∙ and-then folders w.if-all.true (all_below-from_range (path_shaped a) (c.self.invariant.2 ∙ ap path_count c.self.view_is) _ _ w.all-then-all.result w.all-then-all.ensures.ran (λ x b q k. search (rules, tests)))
      | else-all w ↦ w.value-is ∙ and-else p folders w.if-all.false
    ] in
    let three : c.if-all-2.value ≡ ((f && p) && s) = elim c.if-all-2.branch [
      | then-all-2 w ↦ w.value-is ∙ and-then two w.if-all-2.true w.steps_shaped.ensures
      | else-all-2 w ↦ w.value-is ∙ and-else s two w.if-all-2.false
    ] in
    and-else l three c.if-steps_shaped.false ∙ and-four f p s l

-- `build::masks::flag_role`: a bit that is not set stays.
use Prim.Native.Nat.{ℕ}
use mathlib.Core.Path.{◌≡◌, refl, ◌∙◌}
use mathlib.Core.Bool.{true, false}
use mathlib.Core.List.{List}
use Rattle.stored.specs.Automaton.{star_mask, last_mask}
use Rattle.stored.specs.Code.Masks.{flagged, axis_mask, flag_role}
use Rattle.machine.proofs.build.masks.flag_role.Goals as goal
use Rattle.machine.proofs.build.masks.flag_role.Goals.{then-step, else-step}

stays : (m i : ℕ) (part : List ℕ) → part ≡ flagged false m i part
unfolding flagged
stays m i part = refl

pub returns-then-last : goal.returns-then-last
unfolding flag_role
returns-then-last c =
    let i = c.args.i in
    let star : c.if-step.part ≡ flagged c.args.step.star star_mask i c.args.part.now =
    elim c.if-step.branch [
      | then-step w ↦ w.part-is ∙ rw w.if-step.true w.flag.ensures
      | else-step w ↦ w.part-is ∙ rw w.if-step.false (stays star_mask i c.args.part.now)
    ] in
    rw c.if-last.true (c.flag-then-last.ensures ∙ rw (c.flag-2.ensures, c.axis_mask.ensures, star))

pub returns-else-last : goal.returns-else-last
unfolding flag_role
returns-else-last c =
    let i = c.args.i in
    let star : c.if-step.part ≡ flagged c.args.step.star star_mask i c.args.part.now =
    elim c.if-step.branch [
      | then-step w ↦ w.part-is ∙ rw w.if-step.true w.flag.ensures
      | else-step w ↦ w.part-is ∙ rw w.if-step.false (stays star_mask i c.args.part.now)
    ] in
    let axis : c.flag-2.new.part ≡ flagged true (axis_mask c.args.first c.args.step.descendant) i (flagged c.args.step.star star_mask i c.args.part.now) = c.flag-2.ensures ∙ rw (c.axis_mask.ensures, star) in
    rw c.if-last.false (axis ∙ stays last_mask i (flagged true (axis_mask c.args.first c.args.step.descendant) i (flagged c.args.step.star star_mask i c.args.part.now)))

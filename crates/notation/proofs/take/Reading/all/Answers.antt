use mathlib.Core.Path.{refl, sym, ◌∙◌}
use Rattle.notation.specs.Code.Readings.{ended, stopped, went_on}
use Rattle.notation.proofs.Laws.Taking.Readings.{kept-both}
use Rattle.notation.proofs.take.Reading.all.Goals as goal

pub loop-item-preserved : goal.loop-item-preserved
loop-item-preserved g c =
    let moved = c.requires.moves _ _ _ c.in_ok-item.ensures in
    let y = sym c.begins.ensures ∙ c.loop-item-test.true in
    (kept-both c.loop-item.invariant.0 moved.kept, λ x v ran. c.loop-item.invariant.1 x v (went_on y (_, _, c.in_ok-item.ensures, refl, refl) ran))

pub returns-in_err-item : goal.returns-in_err-item
returns-in_err-item g c =
    let y = sym c.begins.ensures ∙ c.loop-item-test.true in
    rw c.from_residual.ensures (c.loop-item.invariant.1 _ _ (stopped y (_, _, c.in_err-item.ensures, refl, refl)))

pub returns : goal.returns
returns g c = c.loop-item.invariant.1 _ _ (ended (sym c.begins.ensures ∙ c.loop-item-test.false))

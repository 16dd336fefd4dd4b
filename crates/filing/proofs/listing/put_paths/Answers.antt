-- `listing::put_paths`: what the path at a place and those behind it make of the sink.
use native.Mathlib.Omega.{arith}
use mathlib.Core.Path.{sym, ◌∙◌}
use Rattle.text.specs.Output.{no_pieces}
use Rattle.text.proofs.Laws.Output.{same_bytes}
use Rattle.filing.specs.Listed.{if_matched}
use Rattle.filing.proofs.Laws.Listing.Steps.{turn, turned, path-yes, path-no}
use Rattle.filing.proofs.listing.put_paths.Goals as goal

pub loop-place-preserved-then-place_matched : goal.loop-place-preserved-then-place_matched
loop-place-preserved-then-place_matched g c u x =
    let a = c.args in
    let here = c.loop-place.place-iterator in
    let step = c.in-Some.ensures.steps in
    let one = same_bytes c.put_path.ensures (path-yes _ _ _ (sym c.place_matched.ensures ∙ c.if-place_matched.true)) in
    c.loop-place.invariant u (turn (if_matched a.a.now a.run.now) here.start here.end (omega (arith, step.1.0)) (rw step.1.1 at one) (rw (step.0, step.1.2) at x))

pub loop-place-preserved : goal.loop-place-preserved
loop-place-preserved g c u x =
    let a = c.args in
    let here = c.loop-place.place-iterator in
    let step = c.in-Some.ensures.steps in
    let none = path-no _ _ _ (sym c.place_matched.ensures ∙ c.if-place_matched.false) in
    c.loop-place.invariant u (turn (if_matched a.a.now a.run.now) here.start here.end (omega (arith, step.1.0)) (same_bytes no_pieces (rw step.1.1 at none)) (rw (step.0, step.1.2) at x))

pub returns : goal.returns
returns g c =
    let a = c.args in
    let here = c.loop-place.place-iterator in
    c.loop-place.invariant _ (turned (if_matched a.a.now a.run.now) here.start here.end (omega (arith, c.in-None.ensures.steps.1.0)))

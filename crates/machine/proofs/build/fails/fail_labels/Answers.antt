-- `build::fails::fail_labels`: the labels so far have been gone through.
use Prim.Native.Nat.{ℕ, ◌<◌}
use mathlib.Core.Path.{◌≡◌, refl, ◌∙◌, ap}
use native.Mathlib.Numerals.{add-one}
use native.Mathlib.Omega.{arith}
use Rattle.notation.specs.Reads.{label_count}
use Rattle.stored.proofs.Laws.Building.Growing.{grows-below}
use Rattle.stored.specs.Code.Fails.{failed_if, failed_below}
use Rattle.machine.proofs.build.fails.fail_labels.Goals as goal

pub loop-l-init : goal.loop-l-init
unfolding failed_below
loop-l-init c = refl

pub fail_label-requires : goal.fail_label-requires
fail_label-requires c =
    let l = c.loop-l.l in
    let there : l < label_count c.args.a.now = omega (arith, c.labels-l-end.ensures.0) in
    let r = grows-below c.args.n l c.args.a.now c.requires (omega arith) in
    rw c.loop-l.invariant (r.0, rw r.1 there)

pub loop-l-preserved : goal.loop-l-preserved
unfolding failed_below
loop-l-preserved c =
    c.fail_label.ensures ∙ (ap (failed_if c.args.n c.loop-l.l) c.loop-l.invariant ∙ rw add-one)

pub returns : goal.returns
returns c =
    let args = c.args in
    let e : c.loop-l.l ≡ label_count args.a.now = omega (arith, c.labels-l-end.ensures.0) in
    c.loop-l.invariant ∙ ap (λ (k : ℕ). failed_below args.n k args.a.now) e

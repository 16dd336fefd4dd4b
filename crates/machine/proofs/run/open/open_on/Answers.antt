use native.Mathlib.Omega.{arith}
use mathlib.Core.Path.{◌≡◌, ◌∙◌, ap, ap₂}
use Prim.Native.Nat.{ℕ, suc, ◌≤◌}
use Rattle.notation.specs.Reads.{label_count}
use Rattle.stored.specs.RunCalls.{depth_of, state_at, open_walk}
use Rattle.stored.specs.Tables.{walk_by}
use Rattle.stored.specs.declared.walk.Walk.{Walk}
use Rattle.stored.proofs.Laws.Shapes.RunShape.{run-shape}
use Rattle.stored.proofs.Laws.Tables.MarkTurns.{openable}
use Rattle.stored.proofs.Laws.Tables.Fuel.{size-within}
use Rattle.machine.proofs.run.open.open_on.Goals as goal

pub first_label-first-requires : goal.first_label-first-requires
first_label-first-requires c =
    (openable c.args.a.now c.requires.0.shaped c.requires.0.size).walkable.searchable

pub walk_from-walked-requires : goal.walk_from-walked-requires
walk_from-walked-requires c =
    let d = c.depth-d in
    let s = run-shape c.args.a.now c.args.run.now c.requires.0.run_is_shaped in
    let q : c.state.result ≤ suc (label_count c.args.a.now) = rw c.state.ensures.value (s.state d.result (omega (arith, d.ensures))) in
    record { walkable = (openable c.args.a.now c.requires.0.shaped c.requires.0.size).walkable; state = q; within = c.first_label-first.ensures.within }

pub write-requires : goal.write-requires
write-requires c =
    let A = c.args.a.now in
    let R = c.args.run.now in
    let E = c.args.e.now in
    let d = c.depth-d in
    let q = c.state in
    let f = c.first_label-first in
    let at : q.result ≡ state_at R (depth_of R) = q.ensures.value ∙ ap (λ (n : ℕ). state_at R n) d.ensures in
    let w : c.walk_from-walked.result ≡ open_walk A R E = c.walk_from-walked.ensures.walked ∙ ap₂ (walk_by A) at f.ensures.found in record {
      openable = (openable A c.requires.0.shaped c.requires.0.size, (omega (arith, d.ensures, c.requires.1.0), c.requires.1.1));
      first_value = (f.ensures.found, (d.ensures, ap (λ (x : Walk). x.state) w));
    }

pub returns : goal.returns
returns c =
    let A = c.args.a.now in
    let R = c.args.run.now in
    let E = c.args.e.now in
    let d = c.depth-d in
    let q = c.state in
    let w = c.walk_from-walked in
    let f = c.first_label-first in
    let written = c.write.ensures in
    let at : q.result ≡ state_at R (depth_of R) = q.ensures.value ∙ ap (λ (n : ℕ). state_at R n) d.ensures in
    let l : q.result ≤ suc (label_count A) = rw at ((run-shape A R c.requires.0.run_is_shaped).state (depth_of R) (omega arith)) in (
      w.ensures.walked ∙ ap₂ (walk_by A) at f.ensures.found,
      (omega (arith, w.ensures.moves, size-within A (openable A c.requires.0.shaped c.requires.0.size).walkable.falling q.result l), grind (arith, written)),
    )

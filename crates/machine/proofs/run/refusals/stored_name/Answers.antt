use native.Mathlib.Omega.{arith}
use native.Mathlib.Nat.{add_comm}
use mathlib.Core.Path.{◌≡◌, ◌∙◌, ap, ap₂}
use Prim.Native.Nat.{ℕ, ◌+◌, ◌-◌}
use lib.ListN.{take, drop}
use Rattle.text.specs.Names.{max_name}
use Rattle.stored.specs.Run.{row_at, row_size, run_size, name_in}
use Rattle.stored.proofs.Laws.Shapes.RunShape.{run-shape}
use Rattle.machine.proofs.run.refusals.stored_name.Goals as goal

pub row_at-from-requires : goal.row_at-from-requires
row_at-from-requires c =
    omega (arith, (run-shape c.args.a.now c.args.run.now c.requires.0.run_is_shaped).deepest)

pub name_length-requires : goal.name_length-requires
name_length-requires c =
    omega (arith, (run-shape c.args.a.now c.args.run.now c.requires.0.run_is_shaped).deepest)

pub slice_bounds-result-end : goal.slice_bounds-result-end
unfolding row_size run_size max_name
slice_bounds-result-end c =
    omega (arith, (run-shape c.args.a.now c.args.run.now c.requires.0.run_is_shaped).name c.args.d c.requires.1, c.requires.0.run_length)

pub returns : goal.returns
unfolding name_in
returns c = let b = c.args in
    let r = c.row_at-from in
    let from : r.result + 1 ≡ row_at b.d + name_in = ap (λ (k : ℕ). k + name_in) r.ensures.0 in
    record {
      begins = ap (λ (o : ℕ). (b.run.ref_ptr.0, o)) (add_comm _ _ ∙ ap (λ (o : ℕ). b.run.ref_ptr.1 + o) from);
      shows = ap₂ (λ (o n : ℕ). take (o + n - o) (drop o b.run.now)) from c.name_length.ensures.0;
    }

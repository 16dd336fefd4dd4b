-- `rows::folder_numbers`: after so many turns the numbers are those among so many folders.
use native.Mathlib.Omega.{arith}
use Prim.Native.Nat.{◌-◌}
use mathlib.Core.Path.{refl, sym, ◌∙◌}
use lib.ListN.{drop, length-take, length-drop}
use Rattle.notation.specs.Limits.{max_paths}
use Rattle.sheets.proofs.Laws.Stored.Tables.{numbered-none, numbered_some, numbered_same}
use Rattle.sheets.proofs.rows.folder_numbers.Goals as goal
use Rattle.sheets.proofs.rows.folder_numbers.Goals.{in-Some, in_default}

pub loop-i-init : goal.loop-i-init
unfolding max_paths
loop-i-init c = numbered-none c.args.a.now

pub loop-i-preserved : goal.loop-i-preserved
unfolding max_paths
loop-i-preserved c =
    let a = c.args.a.now in
    let l = c.loop-i in
    elim c.match-folder_at.branch [
      | in-Some w ↦ rw w.numbers-is (numbered_some a l.i l.numbers l.invariant w.in-Some.folder (sym c.folder_at.ensures.0 ∙ w.in-Some.is) w.min-from.result _ _ _ w.min-from.ensures refl
          (w.fill.ensures.after (λ y e. e)) (omega (arith, length-take (128 - w.min-from.result) (drop w.min-from.result l.numbers), length-drop w.min-from.result l.numbers)))
      | in_default w ↦ rw w.numbers-is (numbered_same a l.i l.numbers l.invariant (sym c.folder_at.ensures.0 ∙ w.in_default.is))
    ]

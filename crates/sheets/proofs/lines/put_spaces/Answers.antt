-- `lines::put_spaces`: a front of a line of spaces.
use Prim.Native.Nat.{ℕ}
use native.Mathlib.Omega.{arith}
use Rattle.sheets.specs.Limits.{number_width, path_width, line_width}
use Rattle.sheets.specs.Sheet.{spaces}
use Rattle.std.proofs.lemmas.List.{take-replicate}
use Rattle.sheets.proofs.lines.put_spaces.Goals as goal

pub returns : goal.returns
unfolding line_width number_width path_width spaces
returns g c = rw (take-replicate {X = ℕ} c.args.n 72 32 (omega arith)) at c.put.ensures

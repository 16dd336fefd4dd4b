use mathlib.Core.Path.{◌≡◌}
use mathlib.Core.Bool.{false}
use native.Mathlib.Omega.{arith}
use Rattle.reports.proofs.Laws.Read.RunAt.{run_from, runs, run-said}
use Rattle.reports.proofs.tokens.is_run.Goals as goal

pub returns-in_default : goal.returns-in_default
returns-in_default c = let e : false ≡ run_from c.args.s.now 0 = grind (arith, runs) in run-said c.args.s.now false e

pub returns-then-eq : goal.returns-then-eq
returns-then-eq c = let e : false ≡ run_from c.args.s.now 0 = grind (arith, runs) in run-said c.args.s.now false e

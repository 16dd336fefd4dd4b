-- `lines::indent`: what a number's digits leave of four places.
use native.Mathlib.Omega.{arith}
use mathlib.Core.Path.{sym, ap}
use lib.ListN.{length}
use Rattle.text.proofs.Laws.Decimal.{tens, decimal-one}
use Rattle.sheets.specs.Limits.{number_width}
use Rattle.sheets.proofs.Laws.Page.Aligned.{decimal-length, decimal-wide}
use Rattle.sheets.proofs.lines.indent.Goals as goal

pub returns-in-0-to-9 : goal.returns-in-0-to-9
unfolding number_width
returns-in-0-to-9 c = omega (arith, ap length (decimal-one c.args.n (omega arith)))

pub returns-in-10-to-99 : goal.returns-in-10-to-99
unfolding number_width tens
returns-in-10-to-99 c = omega (arith, decimal-length 0 c.args.n (omega arith) (omega arith))

pub returns-in-100-to-999 : goal.returns-in-100-to-999
unfolding number_width tens
returns-in-100-to-999 c = omega (arith, decimal-length 1 c.args.n (omega arith) (omega arith))

pub returns-in_default : goal.returns-in_default
returns-in_default c = sym (decimal-wide c.args.n (omega arith))

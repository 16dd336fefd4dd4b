-- `output::put_number`: the digits of a tenth of the number, then its last digit.
use native.Mathlib.Omega.{arith}
use Prim.Native.Nat.{◌%◌}
use mathlib.Core.Path.{◌≡◌}
use Rattle.text.proofs.Laws.Output.{one, and_then, same_bytes}
use Rattle.text.proofs.Laws.Decimal.{decimal-small, decimal_step}
use Rattle.text.proofs.output.+put_number.Goals as goal
use Rattle.text.proofs.output.+put_number.Goals.{then-n-ge10, else-n-ge10}

pub returns : goal.returns
returns g t c = elim c.if-n-ge10.branch [
  | then-n-ge10 w ↦ same_bytes (and_then (rw (← w.to-is) at w.put_number.ensures) (one c.put_digit.ensures)) (decimal_step _ w.if-n-ge10.true)
  | else-n-ge10 w ↦ let last : c.args.n % 10 ≡ c.args.n = omega arith in rw (← w.to-is) (same_bytes (one (rw last at c.put_digit.ensures)) (decimal-small _ w.if-n-ge10.false))
]

-- `text::numbers::number_at` meets its contract. The loop's invariant: the digits so far make the value, which is at most `most`.
use native.Mathlib.Omega.{arith}
use Rattle.std.proofs.Common.{sym, ◌∙◌}
use Rattle.text.specs.Names.{digit}
use Rattle.text.proofs.Laws.NumberScan.{onwards}
use Rattle.text.proofs.numbers.number_at.Goals as goal

pub loop-i-preserved : goal.loop-i-preserved
unfolding digit
loop-i-preserved c =
    rw c.from-d.ensures
    (onwards _ _ _ _ _ c.loop-i.invariant c.loop-i-test.true (sym c.is_ascii_digit.ensures.value ∙ c.if-not-is_ascii_digit.false) (omega arith))

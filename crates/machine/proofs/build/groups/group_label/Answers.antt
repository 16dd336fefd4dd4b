use mathlib.Core.Path.{◌≡◌, ◌∙◌}
use Prim.Native.Nat.{◌*◌, ◌^◌, ◌%◌}
use native.Mathlib.Nat.{add-zero}
use native.Mathlib.Omega.{arith}
use Rattle.stored.proofs.Laws.Bytes.ByteBits.{power_small}
use Rattle.stored.specs.Bits.{with_bit}
use Rattle.stored.specs.Code.Groups.{grouped}
use Rattle.machine.proofs.build.groups.group_label.Goals as goal

pub returns : goal.returns
unfolding grouped with_bit
returns c =
    let k = c.step_of-step.result % 8 in
    let one : 1 * 2 ^ k % 256 ≡ 2 ^ k = omega (arith, power_small k (omega arith)) in
    c.put_link-2.ensures
    ∙ rw (
      c.put_link.ensures,
      c.from.ensures,
      one,
      c.taken_over-taken.ensures.far,
      c.taken_over-taken.ensures.bits,
      c.linked.ensures.place,
      add-zero,
      c.step_of-step.ensures.0,
    )

use mathlib.Core.Path.{◌≡◌, refl}
use Prim.Native.Nat.{◌*◌, ◌^◌, ◌%◌, ◌+◌}
use native.Mathlib.Omega.{arith}
use denote.Enum.Declared.{tag_of}
use Rattle.machine.specs.contracts.layout.Mask.{the_type}
use Rattle.machine.specs.declared.layout.Mask.{Mask}
use Rattle.machine.specs.declared.layout.Mask.TheVariants.{Star, Child, Descendant, Anywhere, Root, Last}
use Rattle.machine.specs.Masks.{mask_number}
use Rattle.stored.proofs.Laws.Bytes.ByteBits.{power_small}
use Rattle.stored.specs.Automaton.{mask_size, masks_at}
use Rattle.stored.specs.Bits.{with_bit}
use Rattle.stored.specs.Code.Masks.{flagged}
use Rattle.machine.proofs.build.masks.flag.Goals as goal

-- what `as` makes of a mask
number : (m : Mask) → tag_of the_type m ≡ mask_number m
number Star = refl
number Child = refl
number Descendant = refl
number Anywhere = refl
number Root = refl
number Last = refl

pub returns : goal.returns
unfolding flagged with_bit mask_size masks_at
returns c =
    let k = (2048 * mask_number c.args.mask + c.args.i) % 8 in
    let e : 1 * 2 ^ k % 256 ≡ 2 ^ k = omega (arith, power_small k (omega arith)) in
    rw (number c.args.mask, e)

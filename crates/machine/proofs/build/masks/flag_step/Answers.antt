use Rattle.stored.specs.Code.Masks.{flag_step}
use Rattle.stored.specs.Automaton.{mask_size}
use borrow.Author.Tests.{le-ltb, lt-ltb}
use native.Mathlib.Omega.{arith}
use mathlib.Core.Path.{sym, ◌∙◌}
use Prim.Native.Nat.{◌*◌}
use Rattle.machine.proofs.build.masks.flag_step.Goals as goal

pub returns-then-i-ge-STEP_BITS : goal.returns-then-i-ge-STEP_BITS
unfolding flag_step mask_size
returns-then-i-ge-STEP_BITS c = rw (le-ltb c.args.i (8 * mask_size) c.if-i-ge-STEP_BITS.true)

pub flag_role-requires : goal.flag_role-requires
unfolding mask_size
flag_role-requires c = omega arith

pub returns-in-Some : goal.returns-in-Some
unfolding flag_step mask_size
returns-in-Some c = rw (lt-ltb c.args.i (8 * mask_size) c.if-i-ge-STEP_BITS.false, sym c.step_at.ensures ∙ c.in-Some.is) c.flag_role.ensures

pub returns-in_default : goal.returns-in_default
unfolding flag_step mask_size
returns-in_default c = rw (lt-ltb c.args.i (8 * mask_size) c.if-i-ge-STEP_BITS.false, sym c.step_at.ensures ∙ c.in_default.is)

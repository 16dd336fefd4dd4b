-- `build::groups::group`: what the labels still to do make of the bytes is what all labels make of those at entry.
use Prim.Native.Nat.{ℕ, suc, ◌-◌, ◌<◌}
use mathlib.Core.Path.{◌≡◌, sym, ◌∙◌, ap}
use mathlib.Core.List.{List}
use native.Mathlib.Omega.{arith}
use Rattle.stored.specs.Code.Groups.{grouped, grouped_below}
use Rattle.machine.proofs.build.groups.group.Goals as goal

-- one label less, and none
next : (l : ℕ) (a : List ℕ) {b : List ℕ} → 0 < l → b ≡ grouped (l - 1) a → grouped_below (l - 1) b ≡ grouped_below l a
unfolding grouped_below
next l a h e = let s : l ≡ suc (l - 1) = omega arith in rw e (sym (ap (λ (n : ℕ). grouped_below n a) s))

none_left : (l : ℕ) (a : List ℕ) → l ≡ 0 → a ≡ grouped_below l a
unfolding grouped_below
none_left l a e = rw e

pub loop-l-preserved : goal.loop-l-preserved
loop-l-preserved c =
    next c.loop-l.l c.loop-l.part (omega arith) c.group_label.ensures ∙ c.loop-l.invariant

pub returns : goal.returns
returns c = none_left c.loop-l.l c.loop-l.part (omega arith) ∙ c.loop-l.invariant

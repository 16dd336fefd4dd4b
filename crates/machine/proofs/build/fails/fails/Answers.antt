-- `build::fails::fails`: the links of the words of the lengths before are stored.
use Prim.Native.Nat.{ℕ, suc, ◌+◌, ◌-◌, ◌≤◌}
use mathlib.Core.List.{List}
use mathlib.Core.Path.{◌≡◌, refl, ◌∙◌, ap}
use native.Mathlib.Omega.{arith}
use Rattle.notation.specs.Reads.{label_count}
use Rattle.notation.specs.Limits.{max_steps}
use Rattle.stored.proofs.Laws.Building.Growing.{grows-to}
use Rattle.stored.specs.Code.Fails.{failed_below, failed_to, Growing}
use Rattle.machine.proofs.build.fails.fails.Goals as goal

next : (n : ℕ) (a b : List ℕ) {d : List ℕ} → 1 ≤ n → Growing a → b ≡ failed_to (label_count a) (n - 1) a → d ≡ failed_below n (label_count b) b → d ≡ failed_to (label_count a) (n + 1 - 1) a
unfolding failed_to
next n a b h g e f =
    let s : n + 1 - 1 ≡ suc (n - 1) = omega arith in
    let t : n ≡ suc (n - 1) = omega arith in
    rw s (f ∙ rw (e, (grows-to (n - 1) a g).1) (ap (λ k. failed_below k (label_count a) (failed_to (label_count a) (n - 1) a)) t))

pub loop-n-init : goal.loop-n-init
unfolding failed_to
loop-n-init c = refl

pub fail_labels-requires : goal.fail_labels-requires
fail_labels-requires c = rw c.loop-n.invariant (grows-to (c.loop-n.n - 1) c.args.a.now c.requires).0

pub loop-n-preserved : goal.loop-n-preserved
loop-n-preserved c =
    next c.loop-n.n c.args.a.now c.loop-n.a c.loop-n.auto.n c.requires c.loop-n.invariant c.fail_labels.ensures

pub returns : goal.returns
unfolding max_steps
returns c =
    let args = c.args in
    let e : c.loop-n.n - 1 ≡ suc max_steps = omega arith in
    c.loop-n.invariant ∙ ap (λ (k : ℕ). failed_to (label_count args.a.now) k args.a.now) e

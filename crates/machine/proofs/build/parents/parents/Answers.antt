-- `build::parents::parents`: what the steps still to come make of the bytes is what all steps make of those at entry.
use Prim.Native.Nat.{ℕ, suc, ◌+◌, ◌-◌, ◌≤◌, ◌<◌}
use mathlib.Core.Path.{◌≡◌, sym, ap, ◌∙◌}
use mathlib.Core.List.{List}
use native.Mathlib.Nat.{sub-zero}
use native.Mathlib.Omega.{arith}
use Rattle.notation.specs.Reads.{step_count}
use Rattle.stored.specs.Code.Parents.{passed, parented, before_paths}
use Rattle.stored.specs.declared.place.Place.{Place}
use Rattle.machine.proofs.build.parents.parents.Goals as goal

-- one step less, and none
next : (n i : ℕ) (at to : Place) (a b : List ℕ) → i < n → b ≡ (passed i at a).bytes → to ≡ (passed i at a).place → parented (n - (i + 1)) (i + 1) to b ≡ parented (n - i) i at a
unfolding parented
next n i at to a b h e f = let s : n - i ≡ suc (n - (i + 1)) = omega arith in rw (e, f) (sym (ap (λ (m : ℕ). parented m i at a) s))

none_left : (n i : ℕ) (at : Place) (a : List ℕ) → n ≤ i → a ≡ parented (n - i) i at a
unfolding parented
none_left n i at a h = let z : n - i ≡ 0 = omega arith in rw z

zeros : (p : Place) → p.labels ≡ 0 → p.paths ≡ 0 → p.state ≡ 0 → p ≡ before_paths
zeros p e f g = let z : ◌≡◌ {A = Place} (record { labels = p.labels; paths = p.paths; state = p.state }) before_paths = rw (e, f, g) in z

pub loop-i-init : goal.loop-i-init
loop-i-init c =
    let d = c.default-at.ensures in
    record {
      sound = record { searchable = c.requires; paths = omega (arith, d.1.0); state = omega (arith, d.1.1) };
      rest = rw (zeros c.default-at.result d.0 d.1.0 d.1.1) (ap (λ (n : ℕ). parented n 0 before_paths c.args.part.now) (sub-zero (step_count c.args.part.now)));
    }

pub pass_step-at-requires : goal.pass_step-at-requires
pass_step-at-requires c =
    (c.loop-i.invariant.sound, omega (arith, c.steps-i-end.ensures.1))

pub loop-i-preserved : goal.loop-i-preserved
loop-i-preserved c =
    let l = c.loop-i in
    let e = c.pass_step-at.ensures in
    let below : l.i < step_count c.args.part.now = omega (arith, c.steps-i-end.ensures.0) in
    record { sound = e.sound; rest = next (step_count c.args.part.now) l.i l.at c.pass_step-at.result l.part c.pass_step-at.new.part below e.bytes e.place ∙ l.invariant.rest }

pub returns : goal.returns
returns c =
    let l = c.loop-i in
    let past : step_count c.args.part.now ≤ l.i = omega (arith, c.steps-i-end.ensures.0) in
    none_left (step_count c.args.part.now) l.i l.at l.part past ∙ l.invariant.rest

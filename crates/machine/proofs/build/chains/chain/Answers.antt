-- `build::chains::chain`: what the labels still to do make of the bytes is what all labels make of those at entry, and a name can be looked up
-- at each of them.
use Prim.Native.Nat.{ℕ, suc, ◌-◌, ◌<◌}
use mathlib.Core.Path.{◌≡◌, sym, ◌∙◌, ap}
use mathlib.Core.List.{List}
use native.Mathlib.Omega.{arith}
use Rattle.stored.specs.Usable.{Lookable}
use Rattle.stored.specs.Code.Chains.{linked, chained, Linkable}
use Rattle.machine.proofs.build.chains.chain.Goals as goal

-- one label less, and none
next : (l : ℕ) (a : List ℕ) {b : List ℕ} → 0 < l → b ≡ linked (l - 1) a → chained (l - 1) b ≡ chained l a
unfolding chained
next l a h e = let s : l ≡ suc (l - 1) = omega arith in rw e (sym (ap (λ (n : ℕ). chained n a) s))

ready : (l : ℕ) (a : List ℕ) → 0 < l → Linkable l a → Lookable a × Linkable (l - 1) (linked (l - 1) a)
unfolding Linkable
ready l a h k = let s : l ≡ suc (l - 1) = omega arith in rw s at k

none_left : (l : ℕ) (a : List ℕ) → l ≡ 0 → a ≡ chained l a
unfolding chained
none_left l a e = rw e

pub link_label-requires : goal.link_label-requires
link_label-requires c = let l = c.loop-l in (omega arith, (ready l.l l.part (omega arith) l.invariant.ready).0)

pub loop-l-preserved : goal.loop-l-preserved
loop-l-preserved c =
    let l = c.loop-l in
    let e = c.link_label.ensures in
    record {
      ready = rw e (ready l.l l.part (omega arith) l.invariant.ready).1;
      rest = next l.l l.part (omega arith) e ∙ l.invariant.rest;
    }

pub returns : goal.returns
returns c = none_left c.loop-l.l c.loop-l.part (omega arith) ∙ c.loop-l.invariant.rest

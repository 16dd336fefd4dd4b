-- Counters that pass the shape test are small.
use Prim.Native.Nat.{ℕ, ◌+◌, ◌*◌, ◌≤◌}
use mathlib.Core.Path.{◌≡◌}
use mathlib.Core.Bool.{true, ◌&&◌}
use mathlib.Core.List.{List}
use native.Mathlib.Omega.{arith}
use lib.Dec.{leb, eqb}
use borrow.Author.Tests.{leb-true, eqb-true}
use Rattle.model.specs.Limits.{max_depth, max_opens}
use Rattle.stored.specs.RunCalls.{depth_of, counters_shaped}
use Rattle.stored.specs.declared.counters.Counters.{Counters}
use Rattle.text.proofs.Laws.Tests.{both}

module _ (run : List ℕ) (c : Counters) (h : counters_shaped run c ≡ true) where
  pub closes-fit : c.closes ≤ max_opens
  unfolding counters_shaped
  closes-fit =
      let s = both (leb c.opens max_opens) (eqb c.opens (c.closes + depth_of run) && leb c.moves (max_depth * c.opens)) h in
      let t = both (eqb c.opens (c.closes + depth_of run)) (leb c.moves (max_depth * c.opens)) s.1 in
      omega (arith, leb-true c.opens max_opens s.0, eqb-true c.opens (c.closes + depth_of run) t.0)

  pub moves-fit : c.moves ≤ max_depth * max_opens
  unfolding counters_shaped max_opens max_depth
  moves-fit =
      let s = both (leb c.opens max_opens) (eqb c.opens (c.closes + depth_of run) && leb c.moves (max_depth * c.opens)) h in
      let t = both (eqb c.opens (c.closes + depth_of run)) (leb c.moves (max_depth * c.opens)) s.1 in
      omega (arith, leb-true c.opens max_opens s.0, leb-true c.moves (max_depth * c.opens) t.1)

use Prim.Native.Nat.{min}
use mathlib.Core.Path.{◌≡◌}
use Rattle.notation.specs.Limits.{max_labels}
use Rattle.notation.specs.Reads.{label_count}
use Rattle.stored.specs.Code.Chains.{chained, Linkable}
use Rattle.machine.proofs.build.chains.chain.Given as goal

abbrev pub invariant-loop-l : goal.invariant-loop-l
invariant-loop-l l = record {
  ready : Linkable l.l l.part;
  rest : chained l.l l.part ≡ chained (min (label_count l.initial.part) max_labels) l.initial.part;
}

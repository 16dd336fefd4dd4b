use mathlib.Core.Path.{◌≡◌}
use lib.Dec.{leb}
use Rattle.notation.specs.Reads.{label_count}
use Rattle.stored.specs.Shape.{all_below, head_shaped}
use Rattle.machine.proofs.shape.Tables.heads_shaped.Given as goal

abbrev pub invariant-loop-h : goal.invariant-loop-h
invariant-loop-h l = leb l.most (label_count l.self) ≡ all_below l.h (head_shaped l.self)
